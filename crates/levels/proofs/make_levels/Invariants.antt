-- `levels::make_levels` meets its contract.
use mathlib.Core.Path.{◌≡◌}
use Prim.Native.Nat.{◌+◌, ◌-◌, ◌<◌, ◌≤◌}
use lib.ListN.{length}
use Rattle.levels.proofs.Making.{RestIs, Going}
use Rattle.maker.specs.Ranks.{rank_or, RankBound}
use Rattle.levels.proofs.make_levels.Given as goal

abbrev pub invariant-loop-level : goal.invariant-loop-level
invariant-loop-level l = RankBound 0 l.level × (l.rules < 65536) × (l.count ≤ length l.cells + 1) × (length l.cells ≡ length l.initial.cells) × (length l.starts ≡ 128) × (length l.sorts ≡ 128) × RestIs l.text l.q.at (rank_or l.level) × Going l.text l.rows l.n l.q l.initial.cells l.q.count l.initial.starts l.initial.sorts l.rules (rank_or l.level) l.cells l.count l.starts l.sorts

abbrev pub decreases-loop-level : goal.decreases-loop-level
decreases-loop-level l = 16 - (rank_or l.level).level
