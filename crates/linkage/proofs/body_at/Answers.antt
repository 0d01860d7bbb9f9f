-- `linkage::body_at` meets its contract.
use mathlib.Core.Path.{refl}
use Rattle.linkage.proofs.Bodies.{nobody, no-name, no-option, no-calls, no-names, no_cells, few-cells, a_body}
use Rattle.linkage.proofs.body_at.Goals as goal

pub returns-in_default : goal.returns-in_default
returns-in_default c = nobody c.no_body.ensures.0 c.no_body.ensures.1 c.no_body.ensures.2 c.no_body.ensures.3 c.no_body.ensures.4 (no-name c.in_default.ensures.ends)

pub returns-in_default-past_option : goal.returns-in_default-past_option
returns-in_default-past_option c = nobody c.no_body-in_default-past_option.ensures.0 c.no_body-in_default-past_option.ensures.1 c.no_body-in_default-past_option.ensures.2 c.no_body-in_default-past_option.ensures.3 c.no_body-in_default-past_option.ensures.4 (no-option c.in-Some.ensures.ends c.total-end.ensures.0 c.in_default-past_option.ensures.ends)

pub returns-then-calls-end : goal.returns-then-calls-end
returns-then-calls-end c = nobody c.no_body-then-calls-end.ensures.0 c.no_body-then-calls-end.ensures.1 c.no_body-then-calls-end.ensures.2 c.no_body-then-calls-end.ensures.3 c.no_body-then-calls-end.ensures.4 (no-calls c.in-Some.ensures.ends c.total-end.ensures.0 c.in-Some-past_option.ensures.ends refl c.if-calls-end.true)

pub returns-in_default-past_names : goal.returns-in_default-past_names
returns-in_default-past_names c = nobody c.no_body-in_default-past_names.ensures.0 c.no_body-in_default-past_names.ensures.1 c.no_body-in_default-past_names.ensures.2 c.no_body-in_default-past_names.ensures.3 c.no_body-in_default-past_names.ensures.4 (no-names c.in-Some.ensures.ends c.total-end.ensures.0 c.in-Some-past_option.ensures.ends c.number-left.ensures.0 c.in_default-past_names.ensures.ends)

pub returns-then-cells-end : goal.returns-then-cells-end
returns-then-cells-end c = nobody c.no_body-then-cells-end.ensures.0 c.no_body-then-cells-end.ensures.1 c.no_body-then-cells-end.ensures.2 c.no_body-then-cells-end.ensures.3 c.no_body-then-cells-end.ensures.4 (no_cells c.in-Some.ensures.ends c.total-end.ensures.0 c.in-Some-past_option.ensures.ends c.number-left.ensures.0 c.in-Some-past_names.ensures.ends refl c.if-cells-end.true)

pub returns-then-count-end : goal.returns-then-count-end
returns-then-count-end c = nobody c.no_body-then-count-end.ensures.0 c.no_body-then-count-end.ensures.1 c.no_body-then-count-end.ensures.2 c.no_body-then-count-end.ensures.3 c.no_body-then-count-end.ensures.4 (few-cells c.in-Some.ensures.ends c.total-end.ensures.0 c.in-Some-past_option.ensures.ends c.number-left.ensures.0 c.in-Some-past_names.ensures.ends c.number-count.ensures.0 c.if-count-end.true)

pub returns : goal.returns
returns c = a_body c.in-Some.ensures.ends c.total-end.ensures.0 c.in-Some-past_option.ensures.ends c.number-left.ensures.0 c.in-Some-past_names.ensures.ends c.number-count.ensures.0 c.if-calls-end.false c.if-cells-end.false c.if-count-end.false
