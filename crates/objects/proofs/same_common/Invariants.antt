-- `objects::same_common` meets its contract: the lengths are equal, and each byte passed.
use mathlib.Core.Path.{◌≡◌}
use Prim.Native.Nat.{ℕ, ◌+◌, ◌<◌}
use lib.ListN.{get_or}
use Rattle.machine.specs.Bytes.{words_of}
use Rattle.objects.proofs.same_common.Given as goal

abbrev pub invariant-loop-i : goal.invariant-loop-i
invariant-loop-i l = (k : ℕ) → k < l.i → get_or (words_of l.objects) (l.p + 2 + k) 0 ≡ get_or l.common (l.start + k) 0
