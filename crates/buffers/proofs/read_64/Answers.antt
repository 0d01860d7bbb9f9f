-- `buffers::read_64` meets its contract: the four words make the number.
use native.Mathlib.Nat.{add-zero}
use native.Mathlib.Omega.{arith}
use lib.Seq.{get_or-drop}
use Rattle.machine.specs.Bytes.{words_of}
use Rattle.machine.specs.Form.{number64}
use Rattle.buffers.proofs.read_64.Goals as goal

pub returns : goal.returns
unfolding number64
returns c =
    let a = c.args in
    let ws = words_of a.s.now in
    rw (get_or-drop a.i ws 0 0, get_or-drop a.i ws 1 0, get_or-drop a.i ws 2 0, get_or-drop a.i ws 3 0, add-zero) (omega arith)
