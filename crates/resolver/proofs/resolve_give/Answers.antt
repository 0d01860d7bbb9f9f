-- `resolver::resolve_give` meets its contract.
use mathlib.Core.Logic.{inl, inr}
use Rattle.resolver.proofs.Rests.{give-with, give-missing, give-back}
use Rattle.resolver.proofs.resolve_give.Goals as goal

pub returns-then-v-eq-NAME : goal.returns-then-v-eq-NAME
returns-then-v-eq-NAME c = give-with _ _ _ c.requires.0 c.next_word-v.ensures (inl c.if-v-eq-NAME.true) c.give_value.ensures

pub returns-then-v-eq-STRING : goal.returns-then-v-eq-STRING
returns-then-v-eq-STRING c = give-with _ _ _ c.requires.0 c.next_word-v.ensures (inr c.if-v-eq-STRING.true) c.give_value-then-v-eq-STRING.ensures

pub returns-then-class-ne0 : goal.returns-then-class-ne0
returns-then-class-ne0 c = give-missing _ _ _ c.requires.0 c.next_word-v.ensures c.if-v-eq-NAME.false c.if-v-eq-STRING.false c.if-class-ne0.true c.refused.ensures

pub returns : goal.returns
returns c = give-back _ _ _ c.requires.0 c.next_word-v.ensures c.if-v-eq-NAME.false c.if-v-eq-STRING.false c.if-class-ne0.false c.put-c.ensures c.went.ensures
