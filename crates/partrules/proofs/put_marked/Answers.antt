-- `partrules::put_marked` meets its contract.
use mathlib.Core.Path.{refl, ◌∙◌}
use Rattle.partwriter.proofs.Putting.{puts-bound, puts_then, puts-next, puts-nothing}
use Rattle.partrules.specs.Marks.{mark_by, turn_cells}
use Rattle.partrules.proofs.Marking.{goes_on, no_more}
use Rattle.partrules.proofs.put_marked.Goals as goal

pub loop-cell-init : goal.loop-cell-init
unfolding turn_cells
loop-cell-init c = (puts-bound c.counted-m.ensures, refl, λ o e h. puts_then c.counted-m.ensures h)

pub loop-cell-preserved : goal.loop-cell-preserved
loop-cell-preserved c =
    let v = c.loop-cell.invariant in
    let u = c.put-m.ensures in
    let g = goes_on (mark_by c.args.first) c.args.cells.now c.loop-cell.cell-index c.loop-cell.spot c.turn-spot.result _ c.loop-cell-test.true refl c.turn-spot.ensures in
    (puts-bound u, u.leaves.size ∙ v.1, λ o e h. v.2 o e (puts-next g u h))

pub shape_of-object : goal.shape_of-object
shape_of-object c = c.loop-cell.invariant.1

pub returns : goal.returns
returns c = c.loop-cell.invariant.2 _ _ (puts-nothing (no_more (mark_by c.args.first) c.args.cells.now c.loop-cell.cell-index c.loop-cell.spot c.loop-cell-test.false) c.loop-cell.invariant.0)
