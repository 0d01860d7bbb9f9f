-- `declarer::check_declarations` meets its contract.
use mathlib.Core.Path.{refl, ◌∙◌}
use native.Mathlib.Omega.{arith}
use Rattle.std.proofs.lemmas.Result.{err_from_is_err_and}
use Rattle.symbols.proofs.Numbered.{fault-some}
use Rattle.declarer.proofs.FaultLaws.{moved, rows_start, rows-go, rows-stop, rows_end}
use Rattle.declarer.proofs.check_declarations.Goals as goal

pub loop-i-init : goal.loop-i-init
loop-i-init c = λ en a. rows_start c.args.text.now c.args.rows.now c.args.n en a

pub returns-in_err-decl_fault : goal.returns-in_err-decl_fault
returns-in_err-decl_fault c = λ en a. let p = err_from_is_err_and c.from_residual.result c.from_residual.ensures.1 in rw (p.1, p.2) (moved (c.loop-i.invariant en a) (rows-stop c.args.text.now c.args.rows.now c.args.n en a c.loop-i.i c.loop-i-test.true c.in_err-decl_fault.ensures (fault-some _)))

pub loop-i-preserved : goal.loop-i-preserved
loop-i-preserved c = λ en a. c.loop-i.invariant en a ∙ rows-go c.args.text.now c.args.rows.now c.args.n en a c.loop-i.i c.loop-i-test.true c.in_ok-decl_fault.ensures refl

pub returns : goal.returns
returns c = λ en a. moved (c.loop-i.invariant en a) (rows_end c.args.text.now c.args.rows.now c.args.n en a c.loop-i.i (omega (arith, c.loop-i-test.false)))
