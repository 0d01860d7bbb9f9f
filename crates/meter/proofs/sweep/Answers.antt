-- `meter::sweep` meets its contract: after i turns the first i rules, in its order, are swept.
use mathlib.Core.Path.{refl}
use borrow.Author.Rules.{rules}
use Rattle.meter.proofs.Sweeps.{rules-first, rules-next, rules-all, rule-within}
use Rattle.meter.proofs.sweep.Goals as goal

pub loop-i-init : goal.loop-i-init
loop-i-init c = (rules-first c.requires.0, search rules)

pub sweep_rule-more-requires : goal.sweep_rule-more-requires
sweep_rule-more-requires c = (c.loop-i.invariant.0.steps.kept, rule-within c.args.direction c.rule-r.ensures c.loop-i-test.true, c.loop-i.invariant.1)

pub loop-i-preserved : goal.loop-i-preserved
loop-i-preserved c = (rules-next c.loop-i.invariant.0 c.loop-i-test.true c.rule-r.ensures c.sweep_rule-more.ensures refl, search rules)

pub returns : goal.returns
returns c = rules-all c.loop-i.invariant.0 (search rules)
