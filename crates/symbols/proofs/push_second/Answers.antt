-- `symbols::push_second` meets its contract.
use Rattle.symbols.proofs.Indexing.{second_none, second-some}
use Rattle.symbols.proofs.push_second.Goals as goal

pub returns-then-len-eq0 : goal.returns-then-len-eq0
returns-then-len-eq0 c = second_none _ c.args.text.now c.args.rows.now c.args.i _ c.number-len.ensures.0 c.if-len-eq0.true

pub returns : goal.returns
returns c = second-some _ c.args.text.now c.args.rows.now _ c.args.i _ _ _ _ c.number-len.ensures.0 c.if-len-eq0.false c.number-class.ensures.0 c.number.ensures.0 (rw c.part-word.ensures at c.bucket-b.ensures.value) c.push_node.ensures
