-- `carrier::same_words` meets its contract.
use Rattle.machine.specs.Bytes.{words_of}
use Rattle.symbols.specs.Search.{part}
use Rattle.carrier.specs.Going.{meant}
use Rattle.carrier.specs.Held.{calls_held}
use Rattle.carrier.proofs.Loop.{Going}
use Rattle.carrier.proofs.same_words.Given as goal

abbrev pub invariant-loop-o : goal.invariant-loop-o
invariant-loop-o l =
    Going (calls_held l.old.text.now l.old.sheet.now l.new.text.now l.new.sheet.now) (part (words_of l.old.table.now) l.span.i l.span.n) (part (words_of l.new.table.now) l.span.j l.span.n) l.span.n l.o (meant l.next) l.flags
