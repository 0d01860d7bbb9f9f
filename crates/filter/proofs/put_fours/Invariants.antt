-- `filter::put_fours` meets its contract: the first 4 i tokens stand in the buffer.
use mathlib.Core.Path.{◌≡◌}
use Prim.Native.Nat.{◌*◌}
use Rattle.filter.specs.Working.{map_tokens, put_words}
use Rattle.filter.proofs.put_fours.Given as goal

abbrev pub invariant-loop-i : goal.invariant-loop-i
invariant-loop-i l = l.out ≡ put_words (map_tokens l.map l.text) (4 * l.i) 0 l.initial.out
