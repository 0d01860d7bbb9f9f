use Prim.Native.Nat.{◌+◌}
use mathlib.Core.Path.{◌≡◌}
use lib.ListN.{length, drop}
use Rattle.emitter.specs.Words.{puts}
use Rattle.emitter.proofs.put_words.Given as goal

abbrev pub invariant-loop-i : goal.invariant-loop-i
invariant-loop-i l = (length l.out ≡ length l.initial.out) × (puts l.out (l.at + l.i) (drop l.i l.words) ≡ puts l.initial.out l.at l.words)
