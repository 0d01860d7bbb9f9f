-- `declarer::optional_fault` meets its contract.
use mathlib.Core.Path.{refl}
use Rattle.base.specs.Faults.{fault_number}
use Rattle.symbols.proofs.Numbered.{numbered, fault-some}
use Rattle.symbols.specs.Rows.{held}
use Rattle.declarer.proofs.FaultLaws.{optional-none, optional-good, optional-wrong}
use Rattle.declarer.proofs.optional_fault.Goals as goal

-- `declarer::optional_fault` meets its contract.
pub returns-then-len-eq0 : goal.returns-then-len-eq0
returns-then-len-eq0 c = λ kind. optional-none c.args.text.now (held c.args.text.now c.args.rows.now c.args.n) (held c.args.text.now c.args.rows.now c.args.before) c.args.start c.args.len kind c.if-len-eq0.true

pub returns-in-Ok : goal.returns-in-Ok
returns-in-Ok c = λ kind. optional-good c.args.text.now (held c.args.text.now c.args.rows.now c.args.n) (held c.args.text.now c.args.rows.now c.args.before) c.args.start c.args.len kind 0 c.in-Ok.field-0 c.if-len-eq0.false (numbered (rw c.in-Ok.is at (c.type_of.ensures.looks kind)) (refl, refl)) refl

pub returns-in-Err : goal.returns-in-Err
returns-in-Err c = λ kind. optional-wrong c.args.text.now (held c.args.text.now c.args.rows.now c.args.n) (held c.args.text.now c.args.rows.now c.args.before) c.args.start c.args.len kind (fault_number c.in-Err.fault) 0 c.part_len.result c.if-len-eq0.false (numbered (rw c.in-Err.is at (c.type_of.ensures.looks kind)) (refl, refl)) (fault-some c.in-Err.fault) c.part_len.ensures
