use Rattle.emitter.specs.Emitted.{zeroed_bytes}
use Rattle.processor.specs.Process.{lent_bytes, lent_words}
use Rattle.translator.proofs.refuse.Goals as goal

-- src/lib.rt:55:1
pub returns : goal.returns
unfolding lent_bytes lent_words zeroed_bytes
returns c = record { answer = c.refusal.ensures; lent = c.zero.ensures }
