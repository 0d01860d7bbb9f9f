-- `firmware::handed` meets its contract: 0 is none.
use borrow.Author.Tests.{eq-eqb, ne_eqb}
use Rattle.firmware.specs.Entries.{handing}
use Rattle.firmware.proofs.handed.Goals as goal

pub returns-then-given-ne0 : goal.returns-then-given-ne0
unfolding handing
returns-then-given-ne0 c = rw (ne_eqb c.args.given 0 c.if-given-ne0.true)

pub returns-else-given-ne0 : goal.returns-else-given-ne0
unfolding handing
returns-else-given-ne0 c = rw (eq-eqb c.args.given 0 c.if-given-ne0.false)
