-- `linker::is_call` meets its contract.
use borrow.Author.Tests.{eq-eqb, ne_eqb}
use Rattle.linker.specs.Close.{is_call}
use Rattle.linker.proofs.is_call.Goals as goal

pub returns-then-first-eq-CALL : goal.returns-then-first-eq-CALL
unfolding is_call
returns-then-first-eq-CALL c = simp (eq-eqb _ _ c.if-first-eq-CALL.true)

pub returns-else-first-eq-CALL : goal.returns-else-first-eq-CALL
unfolding is_call
returns-else-first-eq-CALL c = simp (ne_eqb _ _ c.if-first-eq-CALL.false)
