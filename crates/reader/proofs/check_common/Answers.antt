-- `reader::check_common` meets its contract.
use Rattle.reader.proofs.TextLaws.{long-text, short-text}
use Rattle.reader.proofs.check_common.Goals as goal

pub returns-then-text-gt-TEXT_BYTES : goal.returns-then-text-gt-TEXT_BYTES
returns-then-text-gt-TEXT_BYTES c = long-text _ c.args.text.now c.if-text-gt-TEXT_BYTES.true c.over_long.ensures.0 c.over_long.ensures.1 c.over_long.ensures.2

pub returns : goal.returns
returns c = short-text c.args.text.now c.if-text-gt-TEXT_BYTES.false c.read_common.ensures
