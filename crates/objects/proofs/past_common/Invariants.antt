-- `objects::past_common` meets its contract: the words passed are those of the common part.
use mathlib.Core.Path.{◌≡◌}
use Prim.Native.Nat.{ℕ, ◌+◌, ◌<◌}
use lib.ListN.{get_or}
use Rattle.machine.specs.Bytes.{words_of}
use Rattle.parts.specs.Form.{packed}
use Rattle.objects.proofs.past_common.Given as goal

abbrev pub invariant-loop-i : goal.invariant-loop-i
invariant-loop-i l = (k : ℕ) → k < l.i → get_or (words_of l.objects) (l.at + k) 0 ≡ get_or (packed l.common) k 0
