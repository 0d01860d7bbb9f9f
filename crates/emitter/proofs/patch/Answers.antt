use mathlib.Core.Path.{refl, ap, ◌∙◌}
use native.Mathlib.Omega.{arith}
use Prim.Native.Nat.{ℕ, ◌-◌}
use Rattle.emitter.specs.Words.{set_word, cut}
use Rattle.emitter.specs.Heads.{operand_number}
use Rattle.emitter.proofs.Patches.{patch-none, patch-more, patch-end}
use Rattle.emitter.proofs.patch.Goals as goal

-- src/lib.rt:152:5
pub loop-j-init : goal.loop-j-init
loop-j-init c = (refl, omega arith, patch-none c.args.out.now c.args.newest c.args.to (operand_number c.args.operand))

-- src/lib.rt:152:5
pub loop-j-smaller : goal.loop-j-smaller
loop-j-smaller c = let h = c.older_at-older.ensures.2 c.loop-j-test.true in omega arith

-- src/lib.rt:152:5
pub loop-j-preserved : goal.loop-j-preserved
loop-j-preserved c = let h = c.older_at-older.ensures.2 c.loop-j-test.true in
    (c.put_word.auto.out ∙ c.loop-j.invariant.0, omega arith, patch-more c.args.out.now c.args.newest c.args.to (operand_number c.args.operand) c.loop-j.out c.loop-j.j c.older_at-older.result _ c.loop-j-test.true c.older_at-older.ensures.0 (c.put_word.ensures ∙ ap (λ (i : ℕ). set_word c.loop-j.out c.loop-j.j i) (c.span.ensures ∙ ap (λ (i : ℕ). cut (c.args.to - i)) c.anchor.ensures)) c.loop-j.invariant.2)

-- src/lib.rt:148:1
pub shape_of-out : goal.shape_of-out
shape_of-out c = c.loop-j.invariant.0

-- src/lib.rt:148:1
pub returns : goal.returns
returns c = patch-end c.args.out.now c.args.newest c.args.to (operand_number c.args.operand) c.loop-j.out c.loop-j.j (omega (arith, c.loop-j-test.false)) c.loop-j.invariant.2
