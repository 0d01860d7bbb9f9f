-- `declarer::side_slot` meets its contract.
use mathlib.Core.Path.{ap}
use Prim.Native.Nat.{ℕ, ◌+◌, ◌*◌, ◌%◌}
use Rattle.declarer.proofs.MarkLaws.{slot-side}
use Rattle.declarer.proofs.side_slot.Goals as goal

pub returns-clause-same : goal.returns-clause-same
returns-clause-same c = slot-side c.args.level c.args.right (ap (λ (k : ℕ). 512 + 2 * (c.args.level % 16) + k) c.from.ensures)
