-- `desk::sst_link` meets its contract: linking's, as numbers.
use Rattle.desk.proofs.Joining.{joins}
use Rattle.desk.proofs.sst_link.Goals as goal

-- src/lib.rt:120:1
pub returns : goal.returns
returns c = joins c.link-a.ensures c.flag.ensures
