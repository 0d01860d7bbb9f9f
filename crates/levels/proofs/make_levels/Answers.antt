-- `levels::make_levels` meets its contract.
use native.Mathlib.Omega.{arith}
use mathlib.Core.Path.{refl, sym, ap, ◌∙◌}
use Rattle.std.specs.Prelude.{Option}
use Rattle.maker.specs.Ranks.{rank_or}
use Rattle.maker.specs.declared.Rank.{Rank}
use Rattle.maker.proofs.Ranking.{rank-above, rank-none, bound-zero}
use Rattle.levels.proofs.Making.{rest-is, going-first, going_more, higher-low, site-made, site-full}
use Rattle.levels.proofs.make_levels.Goals as goal

pub next_level-level-requires : goal.next_level-level-requires
next_level-level-requires c = (c.requires.0, c.requires.1, omega arith)

pub loop-level-init : goal.loop-level-init
loop-level-init c = (c.next_level-level.ensures.bound, c.requires.4, c.requires.6, refl, c.requires.7, c.requires.8, rest-is (omega arith) c.next_level-level.ensures.done, going-first c.next_level-level.ensures.done)

pub shape_of-cells-then-rules-ge-RULES : goal.shape_of-cells-then-rules-ge-RULES
shape_of-cells-then-rules-ge-RULES c = c.loop-level.invariant.3

pub shape_of-starts-then-rules-ge-RULES : goal.shape_of-starts-then-rules-ge-RULES
shape_of-starts-then-rules-ge-RULES c = c.loop-level.invariant.4 ∙ sym c.requires.7

pub shape_of-sorts-then-rules-ge-RULES : goal.shape_of-sorts-then-rules-ge-RULES
shape_of-sorts-then-rules-ge-RULES c = c.loop-level.invariant.5 ∙ sym c.requires.8

pub returns-then-rules-ge-RULES : goal.returns-then-rules-ge-RULES
returns-then-rules-ge-RULES c =
    let b = rw c.in-Some.is at c.loop-level.invariant.0 in
    site-full c.loop-level.invariant.3 c.loop-level.invariant.2 c.loop-level.invariant.1 (omega (arith, b.1)) c.if-rules-ge-RULES.true (rw c.in-Some.is at c.loop-level.invariant.6) (rw c.in-Some.is at c.loop-level.invariant.7)

pub next_level-next-requires : goal.next_level-next-requires
next_level-next-requires c = (c.requires.0, c.requires.1, (rw c.in-Some.is at c.loop-level.invariant.0).1)

pub put_level-count-requires : goal.put_level-count-requires
put_level-count-requires c = (c.requires.0, c.requires.2, c.loop-level.invariant.1, higher-low _ c.higher_of.ensures (omega (arith, c.if-rules-ge-RULES.false)) c.requires.3)

pub loop-level-smaller : goal.loop-level-smaller
loop-level-smaller c =
    let here = ap (λ (o : Option Rank). (rank_or o).level) c.in-Some.is in
    let low = (rw c.in-Some.is at c.loop-level.invariant.0).1 in
    let r = rank-above _ _ low c.next_level-next.ensures.bound in
    omega (arith, here, r.0, r.1)

pub loop-level-preserved : goal.loop-level-preserved
loop-level-preserved c =
    let low = (rw c.in-Some.is at c.loop-level.invariant.0).1 in (
      bound-zero _ _ c.next_level-next.ensures.bound,
      omega (arith, c.if-rules-ge-RULES.false),
      omega (arith, c.put_level-count.ensures.bound, c.put_level-count.ensures.same),
      c.put_level-count.ensures.same ∙ c.loop-level.invariant.3,
      c.store.auto.starts ∙ c.loop-level.invariant.4,
      c.store.auto.sorts ∙ c.loop-level.invariant.5,
      rest-is low c.next_level-next.ensures.done,
      going_more _ (omega (arith, c.requires.5, c.loop-level.invariant.3)) c.loop-level.invariant.4 c.loop-level.invariant.5 (omega (arith, c.if-rules-ge-RULES.false)) (omega (arith, low)) c.next_level-next.ensures.bound (rw c.in-Some.is at c.loop-level.invariant.6) c.next_level-next.ensures.done c.higher_of.ensures c.store.ensures.starts_after c.store.ensures.sorts_after c.put_level-count.ensures (rw c.in-Some.is at c.loop-level.invariant.7),
    )

pub shape_of-cells : goal.shape_of-cells
shape_of-cells c = c.loop-level.invariant.3

pub shape_of-starts : goal.shape_of-starts
shape_of-starts c = c.loop-level.invariant.4 ∙ sym c.requires.7

pub shape_of-sorts : goal.shape_of-sorts
shape_of-sorts c = c.loop-level.invariant.5 ∙ sym c.requires.8

pub returns : goal.returns
returns c = site-made c.loop-level.invariant.3 c.loop-level.invariant.2 c.loop-level.invariant.1 (rank-none _ c.in_default.is) c.loop-level.invariant.7
