-- `resolver::parameter_of` meets its contract.
use mathlib.Core.Path.{refl, sym, ◌∙◌}
use native.Mathlib.Omega.{arith}
use Rattle.resolver.proofs.Rests.{parameter-missing, parameter-none, parameter-extra, parameter-there, same_class}
use Rattle.resolver.proofs.parameter_of.Goals as goal

pub returns-then-len-ne0 : goal.returns-then-len-ne0
returns-then-len-ne0 c = parameter-missing _ _ _ c.requires.0 c.next_word-k.ensures c.if-k-ne-OPENING.true (λ e. c.if-len-ne0.true (c.number-len.ensures.0 ∙ e)) (record { fault = c.refused.ensures.fault; at = c.refused.ensures.at; len = c.refused.ensures.len; value = refl })

pub returns-then-k-ne-OPENING : goal.returns-then-k-ne-OPENING
returns-then-k-ne-OPENING c = parameter-none _ _ _ c.requires.0 c.next_word-k.ensures c.if-k-ne-OPENING.true (sym c.number-len.ensures.0 ∙ c.if-len-ne0.false) refl refl refl refl

pub returns-then-len-eq0 : goal.returns-then-len-eq0
returns-then-len-eq0 c = parameter-extra _ _ _ c.requires.0 c.next_word-k.ensures c.if-k-ne-OPENING.false (sym c.number-len.ensures.0 ∙ c.if-len-eq0.true) (record { fault = c.refused-then-len-eq0.ensures.fault; at = c.refused-then-len-eq0.ensures.at; len = c.refused-then-len-eq0.ensures.len; value = refl })

pub parameter_value-requires : goal.parameter_value-requires
parameter_value-requires c = (omega (arith, c.next_word-k.ensures.high c.requires.0.high), c.requires.1)

pub returns : goal.returns
returns c = parameter-there _ _ _ c.requires.0 c.next_word-k.ensures _ c.if-k-ne-OPENING.false (λ e. c.if-len-eq0.false (c.number-len.ensures.0 ∙ e)) (same_class _ _ _ c.class_named-class.ensures c.number-start.ensures.0 c.number-len.ensures.0) c.parameter_value.ensures
