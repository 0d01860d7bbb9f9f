-- `buffers::put_word` meets its contract.
use mathlib.Core.Path.{◌∙◌}
use Rattle.buffers.proofs.Writes.{word-copied}
use Rattle.buffers.proofs.put_word.Goals as goal

pub returns : goal.returns
returns c = word-copied c.args.out.now c.copy_from_slice.new.self c.args.i c.args.x c.requires c.ranges.x.fits (c.copy_from_slice.ensures.after ∙ c.to_be_bytes.ensures)
