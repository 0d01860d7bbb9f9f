-- `partnames::stops` meets its contract.
use mathlib.Core.Path.{refl}
use borrow.Author.Tests.{le-leb, lt-leb}
use native.Mathlib.Omega.{arith}
use Rattle.partnames.specs.Mentioning.{stops}
use Rattle.partnames.proofs.stops.Goals as goal

pub returns-then-kind-le-LAST : goal.returns-then-kind-le-LAST
unfolding stops
returns-then-kind-le-LAST c = rw (le-leb _ 1 c.if-kind-le-LAST.true) refl

pub returns-else-kind-le-LAST : goal.returns-else-kind-le-LAST
unfolding stops
returns-else-kind-le-LAST c = rw (lt-leb c.args.kind 1 (omega (arith, c.if-kind-le-LAST.false))) refl
