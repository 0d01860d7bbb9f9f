use borrow.Author.Tests.{eq-eqb, ne_eqb}
use Rattle.emitter.specs.Heads.{ins_of}
use Rattle.emitter.proofs.ins_of.Goals as goal

-- src/lib.rt:319:1
pub returns-then-k-eq-BY_TOKEN : goal.returns-then-k-eq-BY_TOKEN
unfolding ins_of
returns-then-k-eq-BY_TOKEN c = simp (eq-eqb _ _ c.if-k-eq-BY_TOKEN.true)

-- src/lib.rt:319:1
pub returns-else-k-eq-BY_TOKEN : goal.returns-else-k-eq-BY_TOKEN
unfolding ins_of
returns-else-k-eq-BY_TOKEN c = simp (ne_eqb _ _ c.if-k-eq-BY_TOKEN.false)
