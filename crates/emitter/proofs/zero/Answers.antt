use Rattle.emitter.proofs.Rules.{zeros}
use Rattle.emitter.specs.Emitted.{zeroed_bytes}
use Rattle.machine.specs.Bytes.{count}
use Rattle.emitter.proofs.zero.Goals as goal

-- src/lib.rt:656:1
pub returns : goal.returns
unfolding zeroed_bytes count
returns c = zeros _ _ c.zero_from.ensures
