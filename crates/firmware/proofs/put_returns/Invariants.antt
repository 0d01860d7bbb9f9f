-- `firmware::put_returns` meets its contract: after i turns the first i words of the return locations are written, the held ones first.
use mathlib.Core.List.{List, reverse}
use mathlib.Core.Path.{◌≡◌}
use Prim.Native.Nat.{ℕ, ◌-◌}
use lib.ListN.{take}
use Rattle.machine.specs.Form as form
use Rattle.firmware.specs.Writes.{puts}
use Rattle.firmware.proofs.put_returns.Given as goal

-- `firmware::put_returns` meets its contract: after i turns the first i words of the return locations are written, the held ones first.
-- the words that are to be written
abbrev pub words : ℕ → List ℕ → List ℕ
words depth returns = form.return_words (reverse (take depth returns))

abbrev pub invariant-loop-i : goal.invariant-loop-i
invariant-loop-i l = l.out ≡ puts l.initial.out 15 (take l.i (words l.depth l.returns))

abbrev pub invariant-loop-i-2 : goal.invariant-loop-i-2
invariant-loop-i-2 l = (s : List ℕ) → l.initial.out ≡ puts s 15 (take l.held (words l.depth l.returns)) → l.out ≡ puts s 15 (take l.i (words l.depth l.returns))
