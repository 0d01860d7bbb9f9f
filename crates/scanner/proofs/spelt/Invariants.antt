-- `scanner::spelt` meets its contract.
use mathlib.Core.Path.{◌≡◌}
use Prim.Native.Nat.{◌-◌, ◌≤◌}
use lib.ListN.{take, drop}
use Rattle.base.specs.Common.{same}
use Rattle.scanner.proofs.spelt.Given as goal

abbrev pub invariant-loop-i : goal.invariant-loop-i
invariant-loop-i l = (l.i ≤ l.len) × (same (drop l.i (take l.len (drop l.start l.text))) (drop l.i l.word) ≡ same (take l.len (drop l.start l.text)) l.word)

abbrev pub decreases-loop-i : goal.decreases-loop-i
decreases-loop-i l = l.len - l.i
