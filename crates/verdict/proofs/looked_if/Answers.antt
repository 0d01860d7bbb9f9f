-- `verdict::looked_if` meets its contract.
use Rattle.verdict.proofs.Looking.{look-swept, sweep-start}
use Rattle.verdict.proofs.looked_if.Goals as goal

pub returns-then-on : goal.returns-then-on
returns-then-on c = λ n l. look-swept c.args.cells.now c.args.starts.now n c.args.r c.args.k c.args.facts.now c.looked.result c.looked.new.facts l c.looked.ensures

pub returns : goal.returns
returns c = λ n l. sweep-start c.args.cells.now c.args.starts.now n c.args.k c.args.facts.now c.requires.0
