-- `writer::is_allowed` meets its contract.
use native.Mathlib.Omega.{arith}
use Rattle.writer.proofs.Answers.{none_allowed, past-allowed, is-allowed}
use Rattle.writer.proofs.is_allowed.Goals as goal

pub returns-in-1-to-4096 : goal.returns-in-1-to-4096
returns-in-1-to-4096 c = is-allowed c.args.n c.args.verdict (λ e. omega arith) (omega arith)

pub returns-in_default : goal.returns-in_default
returns-in_default c = none_allowed c.args.n c.args.verdict (omega arith)

pub returns-in_default-2 : goal.returns-in_default-2
returns-in_default-2 c = past-allowed c.args.n c.args.verdict (omega arith)
