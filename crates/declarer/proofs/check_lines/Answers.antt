-- `declarer::check_lines` meets its contract.
use mathlib.Core.Path.{refl, ◌∙◌}
use native.Mathlib.Omega.{arith}
use Rattle.symbols.specs.Rows.{held}
use Rattle.std.proofs.lemmas.Result.{err_from_is_err_and}
use Rattle.symbols.proofs.Numbered.{fault-some}
use Rattle.declarer.proofs.FaultLaws.{moved, lines-go, lines-stop, lines_end}
use Rattle.declarer.proofs.check_lines.Goals as goal

pub returns-in_err-line_fault : goal.returns-in_err-line_fault
returns-in_err-line_fault c = let p = err_from_is_err_and c.from_residual.result c.from_residual.ensures.1 in rw (p.1, p.2) (moved c.loop-i.invariant (lines-stop c.args.text.now c.args.rows.now (held c.args.text.now c.args.rows.now c.args.n) c.args.to c.loop-i.i c.loop-i-test.true c.in_err-line_fault.ensures (fault-some _)))

pub loop-i-preserved : goal.loop-i-preserved
loop-i-preserved c = c.loop-i.invariant ∙ lines-go c.args.text.now c.args.rows.now (held c.args.text.now c.args.rows.now c.args.n) c.args.to c.loop-i.i c.loop-i-test.true c.in_ok-line_fault.ensures refl

pub returns : goal.returns
returns c = moved c.loop-i.invariant (lines_end c.args.text.now c.args.rows.now (held c.args.text.now c.args.rows.now c.args.n) c.args.to c.loop-i.i (omega (arith, c.loop-i-test.false)))
