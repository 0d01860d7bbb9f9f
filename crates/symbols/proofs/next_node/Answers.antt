-- `symbols::next_node` meets its contract.
use Rattle.symbols.proofs.Along.{node-up, node-end}
use Rattle.symbols.proofs.next_node.Goals as goal

pub returns-then-k-p-clause-same : goal.returns-then-k-p-clause-same
returns-then-k-p-clause-same c = node-up c.args.rows.now c.args.k _ c.number-p.ensures.0 c.if-k-p.true

pub returns-else-k-p-clause-same : goal.returns-else-k-p-clause-same
returns-else-k-p-clause-same c = node-end c.args.rows.now c.args.k _ c.number-p.ensures.0 c.if-k-p.false
