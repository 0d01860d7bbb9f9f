-- `declarer::operators_fault` meets its contract.
use mathlib.Core.Path.{refl}
use Rattle.std.proofs.lemmas.Result.{err_from_is_err_and}
use Rattle.symbols.proofs.Numbered.{fault-some}
use Rattle.symbols.specs.Rows.{held, decl_at}
use Rattle.declarer.proofs.FaultLaws.{value_at}
use Rattle.declarer.proofs.OperatorLaws.{operators-stop, operators-go}
use Rattle.declarer.proofs.operators_fault.Goals as goal

-- `declarer::operators_fault` meets its contract.
pub returns-in_err-fault_if : goal.returns-in_err-fault_if
returns-in_err-fault_if c es ws' d = let p = err_from_is_err_and c.from_residual.result c.from_residual.ensures.1 in rw (p.1, p.2) (operators-stop (held c.args.text.now c.args.rows.now c.args.n) (held c.args.text.now c.args.rows.now c.args.i) (decl_at c.args.text.now c.args.rows.now c.args.i) es (rw c.name_taken.ensures at c.in_err-fault_if.ensures) (fault-some _))

pub returns : goal.returns
returns c es ws' d =
    operators-go (held c.args.text.now c.args.rows.now c.args.n) (held c.args.text.now c.args.rows.now c.args.i) (decl_at c.args.text.now c.args.rows.now c.args.i) es (rw c.name_taken.ensures at c.in_ok-fault_if.ensures) refl
    (c.entries_fault.ensures es ws' (c.entries_at.ensures.entries es ws' (rw (value_at c.args.text.now c.args.rows.now c.args.i) at d)))
