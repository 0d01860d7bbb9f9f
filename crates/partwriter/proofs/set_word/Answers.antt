-- `partwriter::set_word` meets its contract.
use native.Mathlib.Omega.{arith}
use Rattle.machine.specs.Bytes.{count}
use Rattle.partwriter.proofs.Putting.{leaves_word, leaves-out}
use Rattle.partwriter.proofs.set_word.Goals as goal

pub put_word-requires : goal.put_word-requires
unfolding count
put_word-requires c = omega (arith, c.room.ensures, c.if-i-room.true)

pub returns-then-i-room : goal.returns-then-i-room
returns-then-i-room c = leaves_word _ (omega (arith, c.room.ensures.0, c.if-i-room.true)) c.put_word.ensures

pub returns-else-i-room : goal.returns-else-i-room
returns-else-i-room c = leaves-out _ _ _ (omega (arith, c.room.ensures.0, c.if-i-room.false))
