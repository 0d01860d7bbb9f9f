-- `firmware::named` meets its contract: part by part.
use Rattle.machine.specs.Bytes.{words_of}
use Rattle.machine.proofs.Words.{small-words}
use Rattle.firmware.proofs.Walks.{named-is}
use Rattle.firmware.proofs.named.Goals as goal

pub returns : goal.returns
returns c =
    let p = c.phase_of-phase in
    let at = c.registers_of-at in
    let rs = c.returns_of-returns in
    let first = c.word.ensures in
    let second = c.word-2.ensures in (
      named-is c.phase_of-phase.result c.registers_of-at.result c.returns_of-returns.result (words_of c.args.s.now) (rw (first, second) at c.phase_of-phase.ensures) c.registers_of-at.ensures.0 c.returns_of-returns.ensures
          (small-words _ (λ i. (c.shared_slice_known-1.given i).fits)),
      c.registers_of-at.ensures.1,
    )
