-- `linker::same_words` meets its contract.
use mathlib.Core.Path.{◌≡◌}
use Rattle.base.specs.Common.{same}
use Rattle.machine.specs.Bytes.{words_of}
use Rattle.linker.specs.Place.{letters}
use Rattle.linker.proofs.Placing.{Left}
use Rattle.linker.proofs.same_words.Given as goal

abbrev pub invariant-loop-i : goal.invariant-loop-i
invariant-loop-i l = same (letters (words_of l.words) l.p l.n) (letters (words_of l.words) l.q l.n) ≡ Left (words_of l.words) l.p l.q l.n l.i
