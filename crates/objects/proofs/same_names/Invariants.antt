-- `objects::same_names` meets its contract: the lengths are equal, and each word passed.
use mathlib.Core.Path.{◌≡◌}
use Prim.Native.Nat.{ℕ, ◌+◌, ◌<◌}
use lib.ListN.{get_or}
use Rattle.machine.specs.Bytes.{words_of}
use Rattle.objects.proofs.same_names.Given as goal

abbrev pub invariant-loop-i : goal.invariant-loop-i
invariant-loop-i l = (k : ℕ) → k < l.i → get_or (words_of l.objects) (l.p + 2 + k) 0 ≡ get_or (words_of l.objects) (l.q + 2 + k) 0
