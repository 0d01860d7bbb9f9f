-- `put_word` meets its contract.
use native.Mathlib.Omega.{arith}
use lib.ListN.{length-set}
use Rattle.machine.specs.Bytes.{count}
use Rattle.walker.specs.Shape.{set_word}
use borrow.Author.Rules.{rules}
use Rattle.walker.proofs.put_word.Goals as goal

pub overflow_mul-out : goal.overflow_mul-out
unfolding count
overflow_mul-out c = search rules

pub bounds-out-i : goal.bounds-out-i
unfolding count
bounds-out-i c = search rules

pub overflow_mul-out-2 : goal.overflow_mul-out-2
unfolding count
overflow_mul-out-2 c = search rules

pub overflow_add-out : goal.overflow_add-out
unfolding count
overflow_add-out c = search rules

pub bounds-out-i-2 : goal.bounds-out-i-2
unfolding count
bounds-out-i-2 c = simp length-set (omega arith)

pub returns : goal.returns
unfolding set_word
returns c = search rules
