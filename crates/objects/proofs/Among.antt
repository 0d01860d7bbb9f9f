-- A name sought among names one behind the other: those passed are others, so that those left decide.
use mathlib.Core.Bool.{Bool, true, false, ◌||◌}
use mathlib.Core.List.{List, [], ◌∷◌, ◌++◌, append_assoc}
use mathlib.Core.Path.{◌≡◌, refl, sym, ap, ◌∙◌}
use native.Mathlib.Omega.{arith}
use Prim.Native.Nat.{ℕ, suc, ◌≤◌}
use lib.ListN.{length, drop}
use Rattle.base.specs.Common.{same}
use Rattle.std.specs.Prelude.{Some, None}
use Rattle.names.specs.Understand.{is_one}
use Rattle.objects.proofs.Looked.{ends-took, not-none, name-at}
use Rattle.objects.proofs.TakeLaws.{times-exact}
use Rattle.objects.proofs.Views.{name-exact}
use Rattle.objects.specs.Places.{Ends, NameAt}
use Rattle.objects.specs.Take.{took, times}
use Rattle.objects.specs.View.{Name, name_words, all, a_name}
use Rattle.objects.specs.Whole.{texts_of}

module _ (words : List ℕ) (ns : List Name) (rest : List ℕ) (sought : Name) where
  -- m names are left, from the place q on
  pub record Seeking (m q : ℕ) : Type 0 where
    pub left : List Name
    pub taken : times m a_name (drop q words) ≡ took left rest
    pub alike : is_one sought.text (texts_of ns) ≡ is_one sought.text (texts_of left)

  -- the first of them, and those behind it
  pub record Leads (m q : ℕ) : Type 0 where
    pub first : Name
    pub later : List Name
    pub here : NameAt words q first
    pub alike : is_one sought.text (texts_of ns) ≡ (same sought.text first.text || is_one sought.text (texts_of later))
    pub there : Ends a_name words q None → ⊥
    pub behind : (r : ℕ) → Ends a_name words q (Some r) → (r ≤ length words) × (times m a_name (drop r words) ≡ took later rest)

  pub seeking : (m n q at : ℕ) → m ≡ n → q ≡ at → times n a_name (drop at words) ≡ took ns rest → Seeking m q
  seeking m n q at d f e = record { left = ns; taken = rw (d, f) e; alike = refl }

  pub none_left : {m q : ℕ} → Seeking m q → m ≡ 0 → false ≡ is_one sought.text (texts_of ns)
  unfolding is_one texts_of
  none_left {m} {q} x e = go x.left ((times-exact name-exact m).forth (drop q words) x.left rest x.taken).1 x.alike
    where
      go : (ms : List Name) → length ms ≡ m → is_one sought.text (texts_of ns) ≡ is_one sought.text (texts_of ms) → false ≡ is_one sought.text (texts_of ns)
      go [] l a = sym a
      go (n ∷ ms) l a = absurd (omega (arith, l, e))

  leads : {m q : ℕ} → Seeking (suc m) q → Leads m q
  unfolding is_one texts_of all
  leads {m} {q} x =
      let y = (times-exact name-exact (suc m)).forth (drop q words) x.left rest x.taken in
      go x.left y.0 y.1 x.alike
    where
      go : (ms : List Name) → drop q words ≡ all name_words ms ++ rest → length ms ≡ suc m → is_one sought.text (texts_of ns) ≡ is_one sought.text (texts_of ms) → Leads m q
      go [] e l a = absurd (omega (arith, l))
      go (n ∷ ms) e l a =
          let more = all name_words ms ++ rest in
          let here : drop q words ≡ name_words n ++ more = e ∙ append_assoc (name_words n) (all name_words ms) rest in
          record {
            first = n;
            later = ms;
            here = name-at words q n more here;
            alike = a;
            there = not-none n more (ap a_name here ∙ name-exact.back n tt more);
            behind = λ r y.
                let z = ends-took n more (ap a_name here ∙ name-exact.back n tt more) y in
                (z.1, ap (times m a_name) (sym z.0) ∙ (times-exact name-exact m).back ms (omega (arith, l)) rest);
          }

  pub leads-by : {m q : ℕ} (m₁ : ℕ) → Seeking m q → m ≡ suc m₁ → Leads m₁ q
  leads-by m₁ x e = leads (rw e at x)

  pub found_first : {m q : ℕ} (x : Leads m q) (b : Bool) → b ≡ same sought.text x.first.text → b ≡ true → b ≡ is_one sought.text (texts_of ns)
  found_first x b e t = rw (x.alike, ← e, t)

  pub not_first : {m q : ℕ} (x : Leads m q) (b : Bool) → b ≡ same sought.text x.first.text → b ≡ false → (r : ℕ) → Ends a_name words q (Some r) → Seeking m r
  not_first x b e f r y = record { left = x.later; taken = (x.behind r y).1; alike = rw (x.alike, ← e, f) }
