-- `filter::put_rest` meets its contract: the tokens up to i stand in the buffer.
use mathlib.Core.Path.{◌≡◌}
use Prim.Native.Nat.{◌-◌}
use Rattle.filter.specs.Working.{map_tokens, put_words}
use Rattle.filter.proofs.put_rest.Given as goal

abbrev pub invariant-loop-i : goal.invariant-loop-i
invariant-loop-i l = l.out ≡ put_words (map_tokens l.map l.text) (l.i - l.k) l.k l.initial.out
