-- `resolver::resolve_selector` meets its contract.
use mathlib.Core.Path.{refl}
use Rattle.resolver.proofs.Choosing.{selector-rule, selector-operation, selector-token}
use Rattle.resolver.proofs.Plains.{lies-here}
use Rattle.resolver.proofs.resolve_selector.Goals as goal

pub select_rule-requires : goal.select_rule-requires
select_rule-requires c = (c.next_word-w.ensures.high c.requires.0, c.requires.1)

pub returns-then-w-eq-AT : goal.returns-then-w-eq-AT
returns-then-w-eq-AT c = selector-rule _ c.next_word-w.ensures c.if-w-eq-AT.true c.select_rule.ensures

pub select_operation-requires : goal.select_operation-requires
select_operation-requires c = (lies-here c.next_word-w.ensures c.requires.0, c.requires.1)

pub returns-then-w-eq-NAME : goal.returns-then-w-eq-NAME
returns-then-w-eq-NAME c = selector-operation _ c.next_word-w.ensures c.if-w-eq-NAME.true c.select_operation.ensures

pub returns : goal.returns
returns c = selector-token _ c.next_word-w.ensures c.if-w-eq-AT.false c.if-w-eq-NAME.false c.requires.0 c.put-c.ensures (record { fault = refl; at = refl; count = refl; class = refl; absent = refl })
