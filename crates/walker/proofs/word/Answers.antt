-- `word` meets its contract.
use native.Mathlib.Omega.{arith}
use Rattle.machine.specs.Bytes.{count, word_at}
use Rattle.walker.proofs.word.Goals as goal

-- `word` meets its contract.
pub overflow_mul-i : goal.overflow_mul-i
unfolding count
overflow_mul-i c = omega arith

pub bounds-s-i : goal.bounds-s-i
unfolding count
bounds-s-i c = omega arith

pub overflow_mul-i-2 : goal.overflow_mul-i-2
unfolding count
overflow_mul-i-2 c = omega arith

pub overflow_add-i : goal.overflow_add-i
unfolding count
overflow_add-i c = omega arith

pub bounds-s-i-2 : goal.bounds-s-i-2
unfolding count
bounds-s-i-2 c = omega arith

pub returns : goal.returns
unfolding word_at count
returns c = omega (arith, c.from_be_bytes.ensures)
