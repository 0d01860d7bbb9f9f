-- `lister::list` meets its contract, by its two ends.
use native.Mathlib.Omega.{arith}
use Rattle.machine.specs.Bytes.{count}
use Rattle.lister.proofs.Steps.{list-refused, list-accepted, counted, line-most}
use Rattle.lister.proofs.list.Goals as goal

pub returns-then-answer-eq0 : goal.returns-then-answer-eq0
unfolding count
returns-then-answer-eq0 c =
    let l = c.list_table-len.ensures in record { prints = list-accepted (omega arith) c.process-answer.ensures c.requires.1 c.if-answer-eq0.true l; prefix_len = counted l (omega arith) }

pub overflow_add-line : goal.overflow_add-line
overflow_add-line c = omega (arith, line-most _ _ c.lines_before.ensures)

pub returns : goal.returns
unfolding count
returns c =
    let l = c.list_refusal-len.ensures in record { prints = list-refused (omega arith) c.process-answer.ensures c.requires.1 c.if-answer-eq0.false c.lines_before.ensures l; prefix_len = counted l (omega arith) }
