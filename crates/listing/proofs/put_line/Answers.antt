-- `listing::put_line` meets its contract: four runs of bytes, one behind the other.
use Rattle.listing.specs.Listing.{word_line}
use Rattle.listing.proofs.Laws.{puts_then}
use Rattle.listing.proofs.put_line.Goals as goal

pub returns : goal.returns
unfolding word_line
returns c = puts_then (puts_then (puts_then c.put_decimal-a.ensures.puts c.put_byte-b.ensures) c.put_decimal-d.ensures.puts) c.put_byte.ensures
