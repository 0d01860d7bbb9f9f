-- `admission::admits` meets its contract.
use mathlib.Core.Path.{sym, ◌∙◌}
use Rattle.machine.proofs.Bytes.{length-table_of}
use Rattle.admission.proofs.Laws.{not_taken, all-granted, one-denied}
use borrow.Author.Rules.{rules}
use Rattle.admission.proofs.admits.Goals as goal

pub returns-then-not-reach : goal.returns-then-not-reach
returns-then-not-reach c = not_taken _ _ (sym c.if-not-reach.true ∙ c.reach.ensures.answer)

pub lowest_denied-requires : goal.lowest_denied-requires
lowest_denied-requires c = record { size_is = search rules; row = search rules; small = length-table_of _; flags = c.reach.ensures.flags c.if-not-reach.false }

pub returns-in-Some : goal.returns-in-Some
returns-in-Some c = one-denied _ _ (sym c.if-not-reach.false ∙ c.reach.ensures.answer) _ c.in-Some.ensures

pub returns-in-None : goal.returns-in-None
returns-in-None c = all-granted _ _ (sym c.if-not-reach.false ∙ c.reach.ensures.answer) c.in-None.ensures tt
