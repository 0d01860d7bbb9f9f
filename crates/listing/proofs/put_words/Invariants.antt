-- `listing::put_words` meets its contract: the lines left to write give the whole.
use Prim.Native.Nat.{◌+◌, ◌*◌, ◌≤◌}
use lib.ListN.{take, drop}
use Rattle.machine.specs.Bytes.{words_of}
use Rattle.listing.specs.Listing.{word_lines}
use Rattle.listing.proofs.Laws.{Left}
use Rattle.listing.proofs.put_words.Given as goal

abbrev pub invariant-loop-i : goal.invariant-loop-i
invariant-loop-i l = (l.next ≤ l.at + 11 * l.i) × Left (word_lines 1 (take l.words (words_of l.table))) l.initial.out l.at (word_lines (l.i + 1) (drop l.i (take l.words (words_of l.table)))) l.out l.next
