-- `symbols::push_name` meets its contract.
use Rattle.symbols.proofs.Indexing.{name-pushed}
use Rattle.symbols.proofs.push_name.Goals as goal

pub returns : goal.returns
returns c = name-pushed _ c.args.text.now c.args.rows.now _ c.args.i _ _ _ _ c.number-3.ensures.0 c.number.ensures.0 c.number-2.ensures.0 (rw c.part-name.ensures at c.bucket-b.ensures.value) c.push_node.ensures
