-- `declarer::decl_fault` meets its contract.
use mathlib.Core.Path.{sym, ◌∙◌}
use native.Mathlib.Omega.{arith}
use Rattle.symbols.specs.Rows.{held, decl_at}
use Rattle.symbols.proofs.Searches.{class-at}
use Rattle.declarer.proofs.FaultLaws.{moved, of-type, of-operation, of-rule, of-operators, of_entry}
use Rattle.declarer.proofs.decl_fault.Goals as goal

pub returns-in-5 : goal.returns-in-5
returns-in-5 c es ws' d = moved (of-type (held c.args.text.now c.args.rows.now c.args.n) (held c.args.text.now c.args.rows.now c.args.i) (decl_at c.args.text.now c.args.rows.now c.args.i) es (class-at c.args.text.now c.args.rows.now c.args.i ∙ sym c.number.ensures.0 ∙ c.in-5.is)) (rw c.name_taken.ensures at c.fault_if.ensures)

pub returns-in-6 : goal.returns-in-6
returns-in-6 c es ws' d = moved (of-operation (held c.args.text.now c.args.rows.now c.args.n) (held c.args.text.now c.args.rows.now c.args.i) (decl_at c.args.text.now c.args.rows.now c.args.i) es (class-at c.args.text.now c.args.rows.now c.args.i ∙ sym c.number.ensures.0 ∙ c.in-6.is)) c.operation_fault.ensures

pub returns-in-7 : goal.returns-in-7
returns-in-7 c es ws' d = moved (of-rule (held c.args.text.now c.args.rows.now c.args.n) (held c.args.text.now c.args.rows.now c.args.i) (decl_at c.args.text.now c.args.rows.now c.args.i) es (class-at c.args.text.now c.args.rows.now c.args.i ∙ sym c.number.ensures.0 ∙ c.in-7.is)) c.fault_if-in-7.ensures

pub returns-in-600 : goal.returns-in-600
returns-in-600 c es ws' d =
    let k = (class-at c.args.text.now c.args.rows.now c.args.i ∙ sym c.number.ensures.0 ∙ c.in-600.is) in
    moved (of-operators (held c.args.text.now c.args.rows.now c.args.n) (held c.args.text.now c.args.rows.now c.args.i) (decl_at c.args.text.now c.args.rows.now c.args.i) es k) (c.operators_fault.ensures es ws' (d k))

pub returns-in_default : goal.returns-in_default
returns-in_default c es ws' d =
    let k = class-at c.args.text.now c.args.rows.now c.args.i ∙ sym c.number.ensures.0 in
    moved
    (of_entry (held c.args.text.now c.args.rows.now c.args.n) (held c.args.text.now c.args.rows.now c.args.i) (decl_at c.args.text.now c.args.rows.now c.args.i) es (λ e. omega (arith, k, e)) (λ e. omega (arith, k, e)) (λ e. omega (arith, k, e)) (λ e. omega (arith, k, e)))
    (rw c.entry_again.ensures at c.fault_if-in_default.ensures)
