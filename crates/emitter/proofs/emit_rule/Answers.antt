use mathlib.Core.Path.{◌∙◌}
use Rattle.emitter.proofs.Laws.{puts-word}
use native.Mathlib.Omega.{arith}
use Rattle.emitter.proofs.Rules.{rule-return, rule-none}
use Rattle.emitter.proofs.emit_rule.Goals as goal

pub returns-then-sort-eq-PROCEDURE_RULE : goal.returns-then-sort-eq-PROCEDURE_RULE
returns-then-sort-eq-PROCEDURE_RULE c = let a = c.args in let L = c.emit_list-s in let m = L.ensures.moved.0 in record { rule_done = rule-return a.cells.now a.spot.p a.out.now _ _ _ a.spot.at a.slots.now _ L.result.p L.result.at L.result.exit a.sort L.ensures.list_done c.patch.ensures (c.put_word.ensures ∙ puts-word _ _ _) c.if-sort-eq-PROCEDURE_RULE.true; moved = record { on = m.on; inside = m.inside; few = omega (arith, m.few) } }

pub returns-else-sort-eq-PROCEDURE_RULE : goal.returns-else-sort-eq-PROCEDURE_RULE
returns-else-sort-eq-PROCEDURE_RULE c = let a = c.args in let L = c.emit_list-s in let m = L.ensures.moved.0 in record { rule_done = rule-none a.cells.now a.spot.p a.out.now _ _ a.spot.at a.slots.now _ L.result.p L.result.at L.result.exit a.sort L.ensures.list_done c.patch.ensures c.if-sort-eq-PROCEDURE_RULE.false; moved = record { on = m.on; inside = m.inside; few = omega (arith, m.few) } }
