-- `partnames::leads` meets its contract.
use mathlib.Core.Path.{refl}
use borrow.Author.Tests.{eq-eqb, ne_eqb}
use Rattle.partnames.specs.Mentioning.{leads}
use Rattle.partnames.proofs.leads.Goals as goal

pub returns-then-kind-eq-AT : goal.returns-then-kind-eq-AT
unfolding leads
returns-then-kind-eq-AT c = rw (eq-eqb _ 64 c.if-kind-eq-AT.true) refl

pub returns-else-kind-eq-AT : goal.returns-else-kind-eq-AT
unfolding leads
returns-else-kind-eq-AT c = rw (ne_eqb _ 64 c.if-kind-eq-AT.false) refl
