-- `verdict::ahead` meets its contract: n cells on are within the row, or the end stands for them.
use native.Mathlib.Omega.{arith}
use Prim.Native.Nat.{◌+◌}
use mathlib.Core.Path.{sym, ◌∙◌}
use lib.ListN.{drop_of_length-le}
use lib.Seq.{drop-drop, drop-length}
use Rattle.verdict.proofs.ahead.Goals as goal

-- `verdict::ahead` meets its contract: n cells on are within the row, or the end stands for them.
pub overflow_sub-cells : goal.overflow_sub-cells
overflow_sub-cells c = omega arith

pub overflow_add-result : goal.overflow_add-result
overflow_add-result c = omega arith

pub returns-then-n-cells : goal.returns-then-n-cells
returns-then-n-cells c = record { within = (omega arith, omega arith); moved = (λ h l. omega arith); there = sym (drop-drop c.args.n c.args.at c.args.cells.now) }

pub returns : goal.returns
returns c =
    let l = c.args.cells.now in record { within = (omega arith, omega arith); moved = (λ h l. l); there = drop-length l ∙ sym (drop-drop c.args.n c.args.at l ∙ drop_of_length-le l {i = c.args.at + c.args.n} (omega arith)) }
