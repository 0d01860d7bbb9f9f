-- `firmware::returns_of` meets its contract: after i turns the first i elements are the words from 15 on.
use mathlib.Core.Path.{◌≡◌}
use Prim.Native.Nat.{◌-◌, ◌≤◌}
use lib.ListN.{length, take, drop}
use Rattle.machine.specs.Bytes.{words_of}
use Rattle.firmware.proofs.returns_of.Given as goal

abbrev pub invariant-loop-i : goal.invariant-loop-i
invariant-loop-i l = (l.i ≤ 64) × ((length l.returns ≡ 64) × (take l.i l.returns ≡ take l.i (drop 15 (words_of l.s))))
