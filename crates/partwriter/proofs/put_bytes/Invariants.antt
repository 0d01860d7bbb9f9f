-- `partwriter::put_bytes` meets its contract.
use lib.ListN.{take}
use Rattle.partwriter.specs.Put.{Puts}
use Rattle.partwriter.proofs.put_bytes.Given as goal

abbrev pub invariant-loop-byte : goal.invariant-loop-byte
invariant-loop-byte l = Puts l.initial.object l.c (take l.byte-index l.bytes) l.object l.n
