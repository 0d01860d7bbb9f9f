-- `verdict::rule` meets its contract: from the cell that starts says on.
use Rattle.verdict.proofs.Passing.{rule_told}
use Rattle.verdict.specs.Told.{known_in}
use Rattle.verdict.proofs.rule.Goals as goal

pub returns : goal.returns
returns c = rule_told c.args.cells.now c.args.starts.now c.args.r c.ahead.result c.number-at.result (known_in c.args.known.passed c.args.facts.now c.args.known.count) c.args.wanted.now c.acts.result c.number-at.ensures.0 c.ahead.ensures.there c.acts.ensures
