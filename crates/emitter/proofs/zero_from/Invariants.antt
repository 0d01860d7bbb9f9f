use Prim.Native.Nat.{◌-◌}
use mathlib.Core.Path.{◌≡◌}
use lib.ListN.{length, replicate}
use Rattle.emitter.specs.Words.{words, puts}
use Rattle.emitter.proofs.zero_from.Given as goal

abbrev pub invariant-loop-i : goal.invariant-loop-i
invariant-loop-i l = (length l.out ≡ length l.initial.out) × (puts l.out l.i (replicate (words l.initial.out - l.i) 0) ≡ puts l.initial.out l.at (replicate (words l.initial.out - l.at) 0))
