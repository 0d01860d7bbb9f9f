-- `partwriter::put_bytes` meets its contract.
use Rattle.std.proofs.lemmas.List.{take_more}
use Rattle.partwriter.proofs.Putting.{puts_then, puts_first}
use Rattle.partwriter.proofs.put_bytes.Goals as goal

pub loop-byte-preserved : goal.loop-byte-preserved
loop-byte-preserved c = rw (take_more c.args.bytes.now c.loop-byte.byte-index 0 c.loop-byte-test.true) (puts_then c.loop-byte.invariant (puts_first c.from.ensures c.put-n.ensures))
