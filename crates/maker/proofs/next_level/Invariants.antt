-- `maker::next_level` meets its contract.
use Prim.Native.Nat.{◌-◌, ◌≤◌}
use lib.ListN.{length}
use Rattle.maker.specs.Ranks.{no_rank, rank_or, RankBound, RankDone}
use Rattle.maker.specs.declared.Rank.{Rank}
use Rattle.maker.proofs.next_level.Given as goal

abbrev pub invariant-loop-i : goal.invariant-loop-i
invariant-loop-i l = (l.i ≤ length l.text) × ((rank_or l.best).count ≤ l.i) × RankBound l.above l.best × ((r : Rank) → RankDone l.text l.i l.above (rank_or l.best) r → RankDone l.text l.at l.above no_rank r)

abbrev pub decreases-loop-i : goal.decreases-loop-i
decreases-loop-i l = length l.text - l.i
