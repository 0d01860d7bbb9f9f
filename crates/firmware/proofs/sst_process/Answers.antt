-- `firmware::sst_process` meets its contract: the processor's, as numbers.
use Rattle.firmware.proofs.Processing.{numbers-told}
use Rattle.firmware.proofs.sst_process.Goals as goal

pub returns : goal.returns
returns c = record { check_after = numbers-told _ _ _ _ c.process-a.ensures.answer c.flag.ensures; lent = c.process-a.ensures.lent }
