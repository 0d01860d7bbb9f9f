use Prim.Native.Nat.{ℕ}
use mathlib.Core.Bool.{true}
use mathlib.Core.Logic.{inl, inr}
use mathlib.Core.Path.{◌≡◌, sym, ◌∙◌}
use native.Mathlib.Decide.{dec_lt}
use native.Mathlib.Omega.{arith}
use lib.Dec.{leb}
use borrow.Author.Tests.{lt-ltb, le-ltb, eq-eqb, ne_eqb}
use Rattle.std.proofs.lemmas.Bool.{lt-leb}
use Rattle.base.specs.Bools.{never}
use Rattle.emitter.specs.Heads.{chooses}
use Rattle.emitter.proofs.chooses.Goals as goal
use Rattle.emitter.proofs.chooses.Goals.{then-k-eq-BY_TOKEN, else-k-eq-BY_TOKEN}

by_operation : (k : ℕ) → (k ≡ 7 → ⊥) → (k ≡ 11 → ⊥) → (leb 768 k ≡ true → chooses k ≡ 1) × (chooses k ≡ 1 → leb 768 k ≡ true)
unfolding chooses
by_operation k n m = elim (dec_lt k 768) [
  | yes x ↦
      let e : chooses k ≡ 0 = simp (ne_eqb k 7 n, ne_eqb k 11 m, lt-ltb k 768 x) in
      (λ h. never (sym (lt-leb 768 k x) ∙ h), λ h. absurd (omega (arith, e, h)))
  | no x ↦ (λ h. simp (ne_eqb k 7 n, ne_eqb k 11 m, le-ltb k 768 (omega arith)), λ h. lt-ltb 767 k (omega arith))
]

pub returns-then-k-eq-BY_RULE : goal.returns-then-k-eq-BY_RULE
unfolding chooses
returns-then-k-eq-BY_RULE c = elim c.if-k-eq-BY_TOKEN.branch [
  | then-k-eq-BY_TOKEN w ↦ (λ h. simp (eq-eqb c.args.k 7 w.if-k-eq-BY_TOKEN.true), λ h. cc (eq-eqb c.args.k 7 w.if-k-eq-BY_TOKEN.true, w.t-3-is))
  | else-k-eq-BY_TOKEN w ↦ elim c.if-k-eq-BY_RULE.either [
    | inl e ↦ absurd (w.if-k-eq-BY_TOKEN.false e)
    | inr e ↦ (λ h. simp (ne_eqb c.args.k 7 w.if-k-eq-BY_TOKEN.false, eq-eqb c.args.k 11 e.1), λ h. cc (eq-eqb c.args.k 11 e.1, w.t-3-is))
  ]
]

pub returns-else-k-eq-BY_RULE : goal.returns-else-k-eq-BY_RULE
returns-else-k-eq-BY_RULE c = by_operation c.args.k c.if-k-eq-BY_RULE.false.0 c.if-k-eq-BY_RULE.false.1
