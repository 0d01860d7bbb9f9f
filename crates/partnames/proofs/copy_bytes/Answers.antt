-- `partnames::copy_bytes` meets its contract.
use Rattle.partnames.proofs.Copied.{copied_part}
use Rattle.partnames.proofs.copy_bytes.Goals as goal

pub returns : goal.returns
returns c = copied_part c.args.source.now c.args.buffer.now c.copy_from_slice.new.self c.args.from c.args.n c.args.at c.requires.0 c.requires.1 c.copy_from_slice.ensures.after
