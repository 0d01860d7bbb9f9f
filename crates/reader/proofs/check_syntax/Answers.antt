-- `reader::check_syntax` meets its contract.
use Rattle.reader.proofs.SectionLaws.{not-long, too_long}
use Rattle.reader.proofs.check_syntax.Goals as goal

pub returns-then-text-gt-TEXT_BYTES : goal.returns-then-text-gt-TEXT_BYTES
returns-then-text-gt-TEXT_BYTES c = too_long c.args.text.now c.if-text-gt-TEXT_BYTES.true c.over_long.ensures.0 c.over_long.ensures.1 c.over_long.ensures.2

pub returns : goal.returns
returns c = not-long c.args.text.now c.if-text-gt-TEXT_BYTES.false c.read_program.ensures
