-- `linker::place_of` meets its contract.
use mathlib.Core.Path.{◌≡◌}
use Prim.Native.Nat.{◌+◌}
use lib.ListN.{drop}
use Rattle.machine.specs.Bytes.{words_of}
use Rattle.linker.specs.Place.{text_at, texts_at, place_of}
use Rattle.linker.proofs.place_of.Given as goal

abbrev pub invariant-loop-i : goal.invariant-loop-i
invariant-loop-i l =
    place_of (text_at (words_of l.words) l.p) (texts_at (words_of l.words) l.names) ≡ l.i + place_of (text_at (words_of l.words) l.p) (texts_at (words_of l.words) (drop l.i l.names))
