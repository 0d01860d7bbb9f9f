-- `maker::section_levels` meets its contract.
use native.Mathlib.Omega.{arith}
use mathlib.Core.Bool.{◌||◌}
use mathlib.Core.Path.{◌≡◌, refl, ap}
use lib.Dec.{ltb}
use Rattle.std.specs.Prelude.{Option}
use Rattle.maker.specs.Ranks.{rank_or}
use Rattle.maker.specs.declared.Rank.{Rank}
use Rattle.maker.proofs.Ranking.{levels-first, levels-more, levels-end, rank-above, rank-none, bound-zero}
use Rattle.maker.proofs.section_levels.Goals.{then-levels, else-levels}
use Rattle.maker.proofs.section_levels.Goals as goal

pub loop-next-init : goal.loop-next-init
loop-next-init c = ((rank-above 0 _ (omega arith) c.next_level-next.ensures.bound).0, c.next_level-next.ensures.bound, levels-first c.next_level-next.ensures.done)

pub loop-next-smaller : goal.loop-next-smaller
loop-next-smaller c =
    let here = ap (λ (o : Option Rank). (rank_or o).level) c.in-Some.is in
    let low = (rw c.in-Some.is at c.loop-next.invariant.1).1 in
    let r = rank-above _ _ low c.next_level-next-in-Some.ensures.bound in
    omega (arith, here, r.0, r.1)

pub loop-next-preserved : goal.loop-next-preserved
loop-next-preserved c =
    let here = ap (λ (o : Option Rank). (rank_or o).level) c.in-Some.is in
    let low = (rw c.in-Some.is at c.loop-next.invariant.1).1 in
    let r = rank-above _ _ low c.next_level-next-in-Some.ensures.bound in
    let crowd : c.if-levels.levels ≡ (c.loop-next.levels.crowded || ltb 64 c.in-Some.rank.count) = elim c.if-levels.branch [ then-levels w ↦ rw (w.levels-is, w.if-levels.true) refl | else-levels w ↦ rw (w.levels-is, w.if-levels.false) refl ] in (
      omega (arith, here, r.0, c.loop-next.invariant.0),
      bound-zero _ _ c.next_level-next-in-Some.ensures.bound,
      levels-more (rw c.in-Some.is at c.loop-next.invariant.2) (omega (arith, low)) c.next_level-next-in-Some.ensures.done crowd,
    )

pub returns : goal.returns
returns c =
    let none = rank-none _ c.in_default.is in
    levels-end c.loop-next.invariant.2 none (omega (arith, c.loop-next.invariant.0, none))
