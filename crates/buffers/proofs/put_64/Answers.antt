-- `buffers::put_64` meets its contract.
use mathlib.Core.Path.{◌∙◌}
use Rattle.buffers.proofs.Writes.{number-copied}
use Rattle.buffers.proofs.put_64.Goals as goal

pub returns : goal.returns
returns c = number-copied c.args.out.now c.copy_from_slice.new.self c.args.i c.args.n c.requires c.ranges.n.fits (c.copy_from_slice.ensures.after ∙ c.to_be_bytes.ensures)
