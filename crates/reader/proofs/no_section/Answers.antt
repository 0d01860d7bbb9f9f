-- `reader::no_section` meets its contract.
use Rattle.reader.proofs.SectionLaws.{start-kept}
use Rattle.reader.proofs.no_section.Goals as goal

pub returns : goal.returns
returns c = start-kept
