-- `counting::location` meets its contract.
use mathlib.Core.Path.{refl}
use borrow.Author.Tests.{lt-ltb, le-ltb}
use Rattle.figures.specs.Spans.{location_at}
use Rattle.counting.proofs.location.Goals as goal

pub returns-then-i-n : goal.returns-then-i-n
unfolding location_at
returns-then-i-n c = let a = c.args in rw (lt-ltb a.i a.n c.if-i-n.true) c.number_at.ensures

pub returns-else-i-n : goal.returns-else-i-n
returns-else-i-n c = let a = c.args in rw (le-ltb a.i a.n c.if-i-n.false) refl
