-- `put_three` meets its contract.
use borrow.Author.Rules.{rules}
use Rattle.machine.specs.Bytes.{count}
use Rattle.walker.proofs.put_three.Goals as goal

pub overflow_add-i : goal.overflow_add-i
unfolding count
overflow_add-i c = search rules

pub put_word-requires-2 : goal.put_word-requires-2
unfolding count
put_word-requires-2 c = search rules

pub overflow_add-i-2 : goal.overflow_add-i-2
unfolding count
overflow_add-i-2 c = search rules

pub put_word-requires-3 : goal.put_word-requires-3
unfolding count
put_word-requires-3 c = search rules

pub returns : goal.returns
returns c = cc
