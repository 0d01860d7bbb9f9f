-- `builder::put_labels` meets its contract.
use mathlib.Core.Path.{◌≡◌}
use Prim.Native.Nat.{◌-◌}
use lib.ListN.{length, take, drop}
use Rattle.resolver.specs.Resolved.{Appends}
use Rattle.builder.proofs.put_labels.Given as goal

abbrev pub invariant-loop-i : goal.invariant-loop-i
invariant-loop-i l = (length l.cells ≡ length l.initial.cells) × Appends l.initial.cells l.initial.c (take (l.i - l.from) (drop l.from l.seen)) l.cells l.c
