-- `partrules::turn` meets its contract.
use mathlib.Core.Path.{◌∙◌}
use Rattle.partrules.proofs.Marking.{turned-first, turned-call, turned-copy}
use Rattle.partrules.proofs.turn.Goals as goal
use Rattle.partrules.proofs.turn.Goals.{then-is_call, else-is_call}

pub returns-then-spot-eq0 : goal.returns-then-spot-eq0
returns-then-spot-eq0 c = turned-first _ _ _ _ c.if-spot-eq0.true c.count_behind.ensures

pub returns : goal.returns
returns c =
    elim c.if-is_call.branch [
      | then-is_call w ↦ turned-call _ _ _ _ _ c.if-spot-eq0.false c.is_call.ensures w.if-is_call.true (w.cell-is ∙ w.mark_of-cell.ensures)
      | else-is_call w ↦ rw w.cell-is (turned-copy _ _ _ _ c.if-spot-eq0.false c.is_call.ensures w.if-is_call.false)
    ]
