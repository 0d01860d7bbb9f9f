-- `partrules::put_head` meets its contract.
use Rattle.partrules.proofs.Writing.{head-put}
use Rattle.partrules.proofs.put_head.Goals as goal

pub put_name-n-requires : goal.put_name-n-requires
put_name-n-requires c = let g = c.requires in let n = c.next_word-w.ensures in (c.next_word-w.ensures.inside g.0, g.1)

pub put_type-requires : goal.put_type-requires
put_type-requires c = let g = c.requires in let n = c.next_word-w.ensures in (c.next_word-w.ensures.high g.0, g.1)

pub returns : goal.returns
returns c = head-put c.next_word-w.ensures c.put_name-n.ensures c.put_type.ensures
