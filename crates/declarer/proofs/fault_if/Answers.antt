-- `declarer::fault_if` meets its contract.
use mathlib.Core.Path.{refl}
use native.Mathlib.Omega.{arith}
use Rattle.symbols.specs.Rows.{decl_at}
use Rattle.declarer.proofs.FaultLaws.{again, once, part-at-name}
use Rattle.declarer.proofs.fault_if.Goals as goal

pub returns-then-again : goal.returns-then-again
unfolding decl_at
returns-then-again c = again 4 c.number-at.result c.part_len.result c.args.again 4 (decl_at c.args.text.now c.args.rows.now c.args.i).name c.if-again.true refl (λ z. omega arith) c.number-at.ensures.0 (part-at-name c.args.text.now _ _ _ _ c.number-at.ensures.0 c.number.ensures.0 c.part_len.ensures)

pub returns : goal.returns
returns c = once 0 0 0 c.args.again 4 (decl_at c.args.text.now c.args.rows.now c.args.i).name c.if-again.false refl
