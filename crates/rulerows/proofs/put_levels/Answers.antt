-- `rulerows::put_levels` meets its contract.
use borrow.Author.Rules.{rules}
use mathlib.Core.Path.{refl, sym, ap, ◌∙◌}
use native.Mathlib.Omega.{arith}
use Rattle.std.specs.Prelude.{Option}
use Rattle.maker.specs.Ranks.{rank_or}
use Rattle.maker.specs.declared.Rank.{Rank}
use Rattle.maker.proofs.Ranking.{rank-above, rank-none, bound-zero}
use Rattle.levels.proofs.Making.{rest-is}
use Rattle.rulerows.proofs.Laws.{row_put}
use Rattle.rulerows.proofs.Levels.{going-first, going_more, levels-put, levels-full}
use Rattle.rulerows.proofs.put_levels.Goals as goal

pub next_level-level-requires : goal.next_level-level-requires
next_level-level-requires c = (c.requires.0, c.requires.1, omega arith)

pub loop-level-init : goal.loop-level-init
loop-level-init c = (c.next_level-level.ensures.bound, c.requires.2, c.requires.5, rest-is (omega arith) c.next_level-level.ensures.done, going-first c.next_level-level.ensures.done)

pub shape_of-sheet-then-rules-i : goal.shape_of-sheet-then-rules-i
shape_of-sheet-then-rules-i c = c.loop-level.invariant.2 ∙ sym c.requires.5

pub returns-then-rules-i : goal.returns-then-rules-i
returns-then-rules-i c =
    let b = rw c.in-Some.is at c.loop-level.invariant.0 in
    levels-full c.loop-level.invariant.1 c.if-rules-i.true (omega (arith, b.1)) (rw c.in-Some.is at c.loop-level.invariant.3) (rw c.in-Some.is at c.loop-level.invariant.4)

pub bounds-places-i : goal.bounds-places-i
bounds-places-i c = omega (arith, c.requires.4, c.if-rules-i.false)

pub overflow_cast-row : goal.overflow_cast-row
overflow_cast-row c = let b = rw c.in-Some.is at c.loop-level.invariant.0 in omega (arith, b.1)

pub put_row-requires : goal.put_row-requires
put_row-requires c = omega (arith, c.requires.3, c.if-rules-i.false, c.loop-level.invariant.2)

pub overflow_add-i : goal.overflow_add-i
overflow_add-i c = omega (arith, c.requires.3, c.if-rules-i.false)

pub next_level-level-requires-in-Some : goal.next_level-level-requires-in-Some
next_level-level-requires-in-Some c = (c.requires.0, c.requires.1, (rw c.in-Some.is at c.loop-level.invariant.0).1)

pub loop-level-smaller : goal.loop-level-smaller
loop-level-smaller c =
    let here = ap (λ (o : Option Rank). (rank_or o).level) c.in-Some.is in
    let low = (rw c.in-Some.is at c.loop-level.invariant.0).1 in
    let r = rank-above _ _ low c.next_level-level-in-Some.ensures.bound in
    omega (arith, here, r.0, r.1)

pub loop-level-preserved : goal.loop-level-preserved
loop-level-preserved c =
    let b = rw c.in-Some.is at c.loop-level.invariant.0 in (
      bound-zero _ _ c.next_level-level-in-Some.ensures.bound,
      omega (arith, c.if-rules-i.false),
      search rules ∙ c.loop-level.invariant.2,
      rest-is b.1 c.next_level-level-in-Some.ensures.done,
      going_more b.0 (omega (arith, b.1)) (rw c.in-Some.is at c.loop-level.invariant.3) c.next_level-level-in-Some.ensures.done (row_put (omega (arith, c.requires.3, c.if-rules-i.false, c.loop-level.invariant.2)) c.put_row.ensures) refl refl (rw c.in-Some.is at c.loop-level.invariant.4),
    )

pub shape_of-sheet : goal.shape_of-sheet
shape_of-sheet c = c.loop-level.invariant.2 ∙ sym c.requires.5

pub returns : goal.returns
returns c = levels-put c.loop-level.invariant.1 (rank-none _ c.in_default.is) c.loop-level.invariant.4
