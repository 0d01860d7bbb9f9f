use mathlib.Core.Path.{sym, ◌∙◌}
use native.Mathlib.Omega.{arith}
use Rattle.emitter.proofs.Patches.{link-is, link-none}
use Rattle.emitter.proofs.older_at.Goals as goal

-- src/lib.rt:129:1
pub returns-then-w-i : goal.returns-then-w-i
returns-then-w-i c = (sym (link-is c.args.out.now c.args.i c.from-w.result (sym (c.from-w.ensures ∙ c.word.ensures)) c.if-w-i.true), omega (arith, c.if-w-i.true), λ h. c.if-w-i.true)

-- src/lib.rt:129:1
pub returns-else-w-i : goal.returns-else-w-i
returns-else-w-i c = (sym (link-none c.args.out.now c.args.i c.from-w.result (sym (c.from-w.ensures ∙ c.word.ensures)) c.if-w-i.false), omega arith, λ h. h)
