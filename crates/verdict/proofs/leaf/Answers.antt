-- `verdict::leaf` meets its contract: a call, a value, or what the first cell says.
use mathlib.Core.Path.{sym, ◌∙◌}
use native.Mathlib.Omega.{arith}
use Rattle.verdict.proofs.Scan.{call-told, give-told, simple-told}
use Rattle.verdict.proofs.leaf.Goals as goal

-- `verdict::leaf` meets its contract: a call, a value, or what the first cell says.
pub number-tag-requires : goal.number-tag-requires
number-tag-requires c = tt

pub overflow_add-at : goal.overflow_add-at
overflow_add-at c = omega arith

pub number-r-requires : goal.number-r-requires
number-r-requires c = tt

pub has-requires : goal.has-requires
has-requires c = tt

pub ahead-requires : goal.ahead-requires
ahead-requires c = omega arith

pub simple-requires : goal.simple-requires
simple-requires c = tt

pub calling-requires : goal.calling-requires
calling-requires c = tt

pub returns-then-tag-eq-CALL : goal.returns-then-tag-eq-CALL
returns-then-tag-eq-CALL c = call-told c.args.wanted.now c.args.cells.now c.args.at c.args.ps c.simple.result c.calling.result c.number-r.result c.ahead.result (sym c.number-tag.ensures.0 ∙ c.if-tag-eq-CALL.true) c.number-r.ensures.0 (c.ahead.ensures.moved (omega arith) c.requires) c.ahead.ensures.within.1 c.ahead.ensures.there (rw c.has.ensures at c.simple.ensures) c.calling.ensures

pub overflow_add-at-then-tag-eq-GIVE : goal.overflow_add-at-then-tag-eq-GIVE
overflow_add-at-then-tag-eq-GIVE c = omega arith

pub cell-requires : goal.cell-requires
cell-requires c = tt

pub matches-requires : goal.matches-requires
matches-requires c = tt

pub ahead-requires-then-tag-eq-GIVE : goal.ahead-requires-then-tag-eq-GIVE
ahead-requires-then-tag-eq-GIVE c = omega arith

pub giving-requires : goal.giving-requires
giving-requires c = tt

pub returns-then-tag-eq-GIVE : goal.returns-then-tag-eq-GIVE
returns-then-tag-eq-GIVE c = give-told c.args.wanted.now c.args.cells.now c.args.at c.args.ps c.giving.result c.matches.result c.cell.result c.ahead-then-tag-eq-GIVE.result (sym c.number-tag.ensures.0 ∙ c.if-tag-eq-GIVE.true) c.cell.ensures (c.ahead-then-tag-eq-GIVE.ensures.moved (omega arith) c.requires) c.ahead-then-tag-eq-GIVE.ensures.within.1 c.ahead-then-tag-eq-GIVE.ensures.there c.giving.ensures c.matches.ensures

pub past-requires : goal.past-requires
past-requires c = tt

pub taken-requires : goal.taken-requires
taken-requires c = tt

pub ahead-requires-2 : goal.ahead-requires-2
ahead-requires-2 c = omega arith

pub simple-requires-2 : goal.simple-requires-2
simple-requires-2 c = tt

pub returns : goal.returns
returns c = simple-told c.args.wanted.now c.args.cells.now c.args.at c.args.ps c.simple-2.result c.ahead-2.result c.number-tag.result c.taken.result c.past.result c.number-tag.ensures.0 c.if-tag-eq-CALL.false c.if-tag-eq-GIVE.false c.past.ensures c.taken.ensures (λ h. c.ahead-2.ensures.moved h c.requires) c.ahead-2.ensures.within.1 c.ahead-2.ensures.there c.simple-2.ensures
