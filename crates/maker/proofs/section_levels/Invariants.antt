-- `maker::section_levels` meets its contract.
use Prim.Native.Nat.{◌-◌, ◌<◌}
use Rattle.maker.specs.Ranks.{rank_or, RankBound}
use Rattle.maker.proofs.Ranking.{CountedAt}
use Rattle.maker.proofs.section_levels.Given as goal

abbrev pub invariant-loop-next : goal.invariant-loop-next
invariant-loop-next l = (l.levels.count < (rank_or l.next).level) × RankBound 0 l.next × CountedAt l.text l.at (rank_or l.next) l.levels.count l.levels.crowded

abbrev pub decreases-loop-next : goal.decreases-loop-next
decreases-loop-next l = 16 - (rank_or l.next).level
