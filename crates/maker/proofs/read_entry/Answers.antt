-- `maker::read_entry` meets its contract.
use Rattle.maker.proofs.Entering.{entry_read}
use Rattle.maker.proofs.read_entry.Goals as goal

-- src/lib.rt:96:9
pub returns : goal.returns
returns c = entry_read _ _ _ _ c.requires c.next_word-token.ensures c.next_word-digits.ensures c.next_word-side.ensures c.next_word-emits.ensures c.number_of-level.ensures c.spelt-right.ensures
