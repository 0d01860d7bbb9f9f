-- `maker::read_use` meets its contract.
use Rattle.maker.proofs.Holding.{no-section, no-operand, use-read}
use Rattle.maker.proofs.read_use.Goals as goal

pub returns-in_err-section : goal.returns-in_err-section
returns-in_err-section c = rw c.from_residual.ensures (no-section _ _ _ _ c.next_word-s.ensures c.next_word-c.ensures c.next_word-o.ensures c.in_err-section.ensures.same)

pub returns-in_err-operand : goal.returns-in_err-operand
returns-in_err-operand c = rw c.from_residual-in_err-operand.ensures (no-operand _ _ _ _ c.next_word-s.ensures c.next_word-c.ensures c.next_word-o.ensures c.in_err-operand.ensures.same)

pub returns : goal.returns
returns c = use-read _ _ _ _ c.next_word-s.ensures c.next_word-c.ensures c.next_word-o.ensures c.in_ok-section.ensures.same c.in_ok-section.ensures.below c.in_ok-operand.ensures.same c.in_ok-operand.ensures.below
