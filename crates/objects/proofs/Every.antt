-- A test of things one behind the other: those passed are in order, so that those left decide.
use mathlib.Core.Bool.{Bool, true, false, ◌&&◌}
use mathlib.Core.List.{List, [], ◌∷◌, ◌++◌, append_assoc}
use mathlib.Core.Path.{◌≡◌, refl, sym, ap, ◌∙◌}
use native.Mathlib.Omega.{arith}
use Prim.Native.Nat.{ℕ, suc, ◌≤◌}
use lib.ListN.{length, drop}
use Rattle.std.specs.Prelude.{Some, None}
use Rattle.objects.proofs.Looked.{ends-took, not-none}
use Rattle.objects.proofs.TakeLaws.{Exact, Any, times-exact}
use Rattle.objects.specs.Places.{Ends}
use Rattle.objects.specs.Take.{Taker, took, times}
use Rattle.objects.specs.View.{all}
use Rattle.objects.specs.Whole.{every}

module _ {A : Type 0} {t : Taker A} {w : A → List ℕ} (exact : Exact t w Any) (words : List ℕ) (f : A → Bool) (as' : List A) (rest : List ℕ) where
  -- m of them are left, from the place q on
  pub record Passing (m q : ℕ) : Type 0 where
    pub left : List A
    pub taken : times m t (drop q words) ≡ took left rest
    pub alike : every f as' ≡ every f left

  -- the first of them, and those behind it
  pub record Heading (m q : ℕ) : Type 0 where
    pub first : A
    pub later : List A
    pub tail : List ℕ
    pub here : drop q words ≡ w first ++ tail
    pub alike : every f as' ≡ (f first && every f later)
    pub there : Ends t words q None → ⊥
    pub behind : (r : ℕ) → Ends t words q (Some r) → (r ≤ length words) × (times m t (drop r words) ≡ took later rest)

  pub passing-all : (m n q at : ℕ) → m ≡ n → q ≡ at → times n t (drop at words) ≡ took as' rest → Passing m q
  passing-all m n q at d g e = record { left = as'; taken = rw (d, g) e; alike = refl }

  pub all-passed : {m q : ℕ} → Passing m q → m ≡ 0 → true ≡ every f as'
  unfolding every
  all-passed {m} {q} x e = go x.left ((times-exact exact m).forth (drop q words) x.left rest x.taken).1 x.alike
    where
      go : (bs : List A) → length bs ≡ m → every f as' ≡ every f bs → true ≡ every f as'
      go [] l a = sym a
      go (b ∷ bs) l a = absurd (omega (arith, l, e))

  heads-on : {m q : ℕ} → Passing (suc m) q → Heading m q
  unfolding every all
  heads-on {m} {q} x =
      let y = (times-exact exact (suc m)).forth (drop q words) x.left rest x.taken in
      go x.left y.0 y.1 x.alike
    where
      go : (bs : List A) → drop q words ≡ all w bs ++ rest → length bs ≡ suc m → every f as' ≡ every f bs → Heading m q
      go [] e l a = absurd (omega (arith, l))
      go (b ∷ bs) e l a =
          let more = all w bs ++ rest in
          let here : drop q words ≡ w b ++ more = e ∙ append_assoc (w b) (all w bs) rest in
          record {
            first = b;
            later = bs;
            tail = more;
            here = here;
            alike = a;
            there = not-none b more (ap t here ∙ exact.back b tt more);
            behind = λ r y.
                let z = ends-took b more (ap t here ∙ exact.back b tt more) y in
                (z.1, ap (times m t) (sym z.0) ∙ (times-exact exact m).back bs (omega (arith, l)) rest);
          }

  pub heading : {m q : ℕ} (m₁ : ℕ) → Passing m q → m ≡ suc m₁ → Heading m₁ q
  heading m₁ x e = heads-on (rw e at x)

  pub first-fails : {m q : ℕ} (x : Heading m q) (b : Bool) → b ≡ f x.first → b ≡ false → false ≡ every f as'
  first-fails x b e t₁ = rw (x.alike, ← e, t₁)

  pub first_passes : {m q : ℕ} (x : Heading m q) (b : Bool) → b ≡ f x.first → b ≡ true → (r : ℕ) → Ends t words q (Some r) → Passing m r
  first_passes x b e t₁ r y = record { left = x.later; taken = (x.behind r y).1; alike = rw (x.alike, ← e, t₁) }
