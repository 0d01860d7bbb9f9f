-- `partwriter::put` meets its contract.
use native.Mathlib.Omega.{arith}
use Rattle.machine.specs.Bytes.{count}
use Rattle.partwriter.proofs.Putting.{puts_one, puts-past}
use Rattle.partwriter.proofs.put.Goals as goal

pub put_word-requires : goal.put_word-requires
unfolding count
put_word-requires c = omega (arith, c.room-n.ensures, c.if-c-n.true)

pub returns-then-c-n : goal.returns-then-c-n
returns-then-c-n c = puts_one _ (omega (arith, c.room-n.ensures.0, c.if-c-n.true)) c.put_word.ensures

pub returns-else-c-n : goal.returns-else-c-n
returns-else-c-n c = let e = c.room-n.ensures.0 in rw e (puts-past _ _ _ (omega (arith, e, c.if-c-n.false)))
