-- The test of finishing is exact.
use mathlib.Core.Path.{◌≡◌, refl, ap, ◌∙◌}
use mathlib.Core.Logic.{inl, inr}
use mathlib.Core.Bool.{Bool, true, false, ◌&&◌, ◌||◌, not}
use mathlib.Core.List.{List, []}
use native.Mathlib.Omega.{arith}
use native.Mathlib.Nat.{zero-add}
use Prim.Native.Nat.{ℕ, zero, suc, ◌+◌, ◌<◌, ◌≤◌}
use lib.ListN.{length, get_or}
use Rattle.base.specs.Bools.{never, or, and, or₁, or₂, both, same, not_both, not_intro}
use Rattle.program.specs.Program.{Rule, body_of}
use Rattle.finishing.specs.Finishing.{Comes, directly, through, Finishing}
use Rattle.finishing.specs.Test.{Known, calls, loops, known, reach, build, look, matrix, closure, some_below, arrow, finishing, Exact}
use Rattle.finishing.proofs.Paths.{meets_call, to-call, Sound, Closed, sounds, completes, loops-sound, loops-complete}
use Rattle.finishing.proofs.Rounds.{last, known-sound, known-closed}

-- what stands in a matrix
get_d-build : {A : Type 0} (n i r : ℕ) (g : ℕ → A) (d : A) → r < n → get_or (build n i g) r d ≡ g (i + r)
unfolding build
get_d-build zero i r g d l = absurd (omega arith)
get_d-build (suc n) i zero g d l = ap g (omega arith)
get_d-build (suc n) i (suc r) g d l = get_d-build n (suc i) r g d (omega arith) ∙ ap g (omega arith)

look-matrix : (g : ℕ → ℕ → Bool) (n r s : ℕ) → r < n → s < n → look (matrix n g) r s ≡ g r s
unfolding look matrix
look-matrix g n r s l h =
    ap (λ (x : List Bool). get_or x s false) (get_d-build n 0 r (λ r. build n 0 (λ s. g r s)) [] l ∙ ap (λ (r : ℕ). build n 0 (λ s. g r s)) (zero-add r))
    ∙ (get_d-build n 0 s (λ s. g r s) false h ∙ ap (λ (s : ℕ). g r s) (zero-add s))

-- places between that are below k may be gone through
module _ (f : ℕ → ℕ → Bool) where
  to_same : (k r : ℕ) → reach f (suc k) r k ≡ true → reach f k r k ≡ true
  unfolding reach
  to_same k r e = elim (or (reach f k r k) (reach f k r k && reach f k k k) e) [ inl x ↦ x | inr x ↦ (and (reach f k r k) (reach f k k k) x).0 ]

  from-same : (k s : ℕ) → reach f (suc k) k s ≡ true → reach f k k s ≡ true
  unfolding reach
  from-same k s e = elim (or (reach f k k s) (reach f k k k && reach f k k s) e) [ inl x ↦ x | inr x ↦ (and (reach f k k k) (reach f k k s) x).1 ]

  by_way : (k r s : ℕ) → reach f k r k ≡ true → reach f k k s ≡ true → reach f (suc k) r s ≡ true
  unfolding reach
  by_way k r s x y = or₂ (reach f k r s) (reach f k r k && reach f k k s) (both (reach f k r k) (reach f k k s) x y)

  pub reach-trans : (k r m s : ℕ) → m < k → reach f k r m ≡ true → reach f k m s ≡ true → reach f k r s ≡ true
  unfolding reach
  reach-trans zero r m s l x y = absurd (omega arith)
  reach-trans (suc k) r m s l x y = elim (last k m l) [
    | inl b ↦ elim (or (reach f k r m) (reach f k r k && reach f k k m) x) [
      | inl p ↦ elim (or (reach f k m s) (reach f k m k && reach f k k s) y) [
        | inl q ↦ or₁ (reach f k r s) (reach f k r k && reach f k k s) (reach-trans k r m s b p q)
        | inr q ↦ let z = and (reach f k m k) (reach f k k s) q in by_way k r s (reach-trans k r m k b p z.0) z.1
      ]
      | inr p ↦ let w = and (reach f k r k) (reach f k k m) p in elim (or (reach f k m s) (reach f k m k && reach f k k s) y) [
        | inl q ↦ by_way k r s w.0 (reach-trans k k m s b w.1 q)
        | inr q ↦ let z = and (reach f k m k) (reach f k k s) q in by_way k r s w.0 z.1
      ]
    ]
    | inr b ↦
        let p : reach f (suc k) r k ≡ true = rw b at x in
        let q : reach f (suc k) k s ≡ true = rw b at y in
        by_way k r s (to_same k r p) (from-same k s q)
  ]

  pub reach-more : (k r s : ℕ) → f r s ≡ true → reach f k r s ≡ true
  unfolding reach
  reach-more zero r s e = e
  reach-more (suc k) r s e = or₁ (reach f k r s) (reach f k r k && reach f k k s) (reach-more k r s e)

  pub closure-reach : (n k r s : ℕ) → k ≤ n → r < n → s < n → look (closure f n k) r s ≡ reach f k r s
  unfolding closure reach
  closure-reach n zero r s b l h = look-matrix f n r s l h
  closure-reach n (suc k) r s b l h =
      let e₁ = closure-reach n k r s (omega arith) l h in
      let e₂ = closure-reach n k r k (omega arith) l (omega arith) in
      let e₃ = closure-reach n k k s (omega arith) (omega arith) h in
      look-matrix (λ r s. look (closure f n k) r s || (look (closure f n k) r k && look (closure f n k) k s)) n r s l h ∙ rw (e₁, e₂, e₃)

pub below_true : (n : ℕ) (f : ℕ → Bool) (r : ℕ) → r < n → f r ≡ true → some_below n f ≡ true
unfolding some_below
below_true zero f r l e = absurd (omega arith)
below_true (suc n) f r l e = elim (last n r l) [
  | inl x ↦ or₂ (f n) (some_below n f) (below_true n f r x e)
  | inr x ↦ or₁ (f n) (some_below n f) (rw x at e)
]

pub true_below : (n : ℕ) (f : ℕ → Bool) → some_below n f ≡ true → (r : ℕ) × (r < n) × (f r ≡ true)
unfolding some_below
true_below zero f e = never e
true_below (suc n) f e = elim (or (f n) (some_below n f) e) [
  | inl x ↦ (n, omega arith, x)
  | inr x ↦ let y = true_below n f x in (y.0, omega (arith, y.1), y.2)
]

-- what is known tells of finishing
unfoldable pub tells : List Rule → Known → Bool
tells prog kn = not (some_below (length prog) (λ r. loops kn (body_of prog r))) && not (some_below (length prog) (λ r. reach (arrow prog kn) (length prog) r r))

-- anything known that is sound and closed tells exactly
module _ (prog : List Rule) (kn : Known) (so : Sound prog kn) (cl : Closed prog kn) where
  reach-comes : (k r s : ℕ) → r < length prog → k ≤ length prog → reach (arrow prog kn) k r s ≡ true → Comes prog r s
  unfolding reach arrow
  reach-comes zero r s l b e = directly l (to-call _ s (sounds prog kn so (body_of prog r) (calls s) e))
  reach-comes (suc k) r s l b e = elim (or (reach (arrow prog kn) k r s) (reach (arrow prog kn) k r k && reach (arrow prog kn) k k s) e) [
    | inl x ↦ reach-comes k r s l (omega arith) x
    | inr x ↦ let y = and (reach (arrow prog kn) k r k) (reach (arrow prog kn) k k s) x in
        through (reach-comes k r k l (omega arith) y.0) (reach-comes k k s (omega arith) (omega arith) y.1)
  ]

  comes-from : {r s : ℕ} → Comes prog r s → r < length prog
  comes-from (directly l p) = l
  comes-from (through x y) = comes-from x

  comes-reach : {r s : ℕ} → Comes prog r s → reach (arrow prog kn) (length prog) r s ≡ true
  unfolding arrow
  comes-reach (directly {r = r} {s = s} l p) = reach-more (arrow prog kn) (length prog) r s (completes prog kn cl p meets_call)
  comes-reach (through {r = r} {s = m} {t = s} x y) = reach-trans (arrow prog kn) (length prog) r m s (comes-from y) (comes-reach x) (comes-reach y)

  pub tells-sound : tells prog kn ≡ true → Finishing prog
  unfolding tells
  tells-sound e =
      let n = length prog in
      let x = and (not (some_below n (λ r. loops kn (body_of prog r)))) (not (some_below n (λ r. reach (arrow prog kn) n r r))) e in
      record {
        cycles = λ r l d. not_both (some_below n (λ r. loops kn (body_of prog r))) x.0 (below_true n (λ r. loops kn (body_of prog r)) r l (loops-complete prog kn cl d));
        rules = λ r d. not_both (some_below n (λ r. reach (arrow prog kn) n r r)) x.1 (below_true n (λ r. reach (arrow prog kn) n r r) r (comes-from d) (comes-reach d));
      }

  pub tells-complete : Finishing prog → tells prog kn ≡ true
  unfolding tells
  tells-complete fin =
      let n = length prog in
      both (not (some_below n (λ r. loops kn (body_of prog r)))) (not (some_below n (λ r. reach (arrow prog kn) n r r)))
      (not_intro (some_below n (λ r. loops kn (body_of prog r))) (λ e. let y = true_below n (λ r. loops kn (body_of prog r)) e in fin.cycles y.0 y.1 (loops-sound prog kn so (body_of prog y.0) y.2)))
      (not_intro (some_below n (λ r. reach (arrow prog kn) n r r)) (λ e. let y = true_below n (λ r. reach (arrow prog kn) n r r) e in fin.rules y.0 (reach-comes n y.0 y.0 y.1 (omega arith) y.2)))

pub below-same : (n : ℕ) (f g : ℕ → Bool) → ((r : ℕ) → r < n → f r ≡ g r) → some_below n f ≡ some_below n g
unfolding some_below
below-same zero f g h = refl
below-same (suc n) f g h = rw (h n (omega arith), below-same n f g (λ r l. h r (omega arith)))

finishing-tells : (prog : List Rule) → finishing prog ≡ tells prog (known prog)
unfolding finishing tells
finishing-tells prog =
    let n = length prog in
    let f = arrow prog (known prog) in
    ap (λ (b : Bool). not (some_below n (λ r. loops (known prog) (body_of prog r))) && not b)
    (below-same n (λ r. look (closure f n n) r r) (λ r. reach f n r r) (λ r l. closure-reach f n n r r (omega arith) l l))

-- The test is exact.
pub finishing-sound : (prog : List Rule) → finishing prog ≡ true → Finishing prog
finishing-sound prog e = tells-sound prog (known prog) (known-sound prog) (known-closed prog) (rw finishing-tells at e)

pub finishing-complete : (prog : List Rule) → Finishing prog → finishing prog ≡ true
finishing-complete prog fin = rw finishing-tells (tells-complete prog (known prog) (known-sound prog) (known-closed prog) fin)

pub verdict-exact : (prog : List Rule) → Exact prog
verdict-exact prog = record { sound = finishing-sound prog; complete = finishing-complete prog }

-- whatever answers exactly when the program is finishing answers as the test does
pub exact : (prog : List Rule) (b : Bool) → (b ≡ true → Finishing prog) → (Finishing prog → b ≡ true) → b ≡ finishing prog
exact prog b f g = same b (finishing prog) (λ e. finishing-complete prog (f e)) (λ e. g (finishing-sound prog e))
