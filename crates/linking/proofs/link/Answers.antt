-- `linking::link` meets its contract.
use Rattle.linking.proofs.Common.{is_read, not-read}
use Rattle.linking.proofs.link.Goals as goal

pub link_common-requires : goal.link_common-requires
link_common-requires c = is_read _ _ c.in-Ok.ensures

pub returns-in-Err : goal.returns-in-Err
returns-in-Err c = not-read _ _ (rw c.in_common.ensures at c.refuse.ensures) c.in-Err.ensures
