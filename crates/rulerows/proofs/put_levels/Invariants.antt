-- `rulerows::put_levels` meets its contract.
use lib.ListN.{length}
use mathlib.Core.Path.{◌≡◌}
use Prim.Native.Nat.{◌-◌, ◌<◌, ◌≤◌}
use Rattle.levels.proofs.Making.{RestIs}
use Rattle.maker.specs.Ranks.{rank_or, RankBound}
use Rattle.rulerows.proofs.Levels.{Going}
use Rattle.rulerows.proofs.put_levels.Given as goal

abbrev pub invariant-loop-level : goal.invariant-loop-level
invariant-loop-level l = RankBound 0 l.level × (l.i ≤ l.rules) × (length l.sheet ≡ 770) × RestIs l.text l.pair.at (rank_or l.level) × Going l.text l.pair l.places l.k l.initial.sheet l.i (rank_or l.level) l.sheet

abbrev pub decreases-loop-level : goal.decreases-loop-level
decreases-loop-level l = 16 - (rank_or l.level).level
