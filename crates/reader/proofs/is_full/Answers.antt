-- `reader::is_full` meets its contract.
use mathlib.Core.Path.{refl}
use Rattle.reader.specs.Counting.{full_in}
use Rattle.reader.proofs.is_full.Goals as goal

pub returns-then-kind : goal.returns-then-kind
unfolding full_in
returns-then-kind c = rw (c.if-kind.true, ← c.count_of.ensures) refl

pub returns-else-kind : goal.returns-else-kind
unfolding full_in
returns-else-kind c = rw c.if-kind.false refl
