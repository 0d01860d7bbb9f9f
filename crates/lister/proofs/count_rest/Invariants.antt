-- `lister::count_rest` ends: each turn adds 65,536 at most.
use mathlib.Core.Path.{◌≡◌}
use Prim.Native.Nat.{◌+◌, ◌*◌, ◌≤◌}
use lib.ListN.{length}
use Rattle.lister.specs.Prints.{most}
use Rattle.lister.proofs.count_rest.Given as goal

abbrev pub invariant-loop-read : goal.invariant-loop-read
invariant-loop-read g l = (65536 ≡ length l.buf) × (l.feeds ≤ 65536 * l.read)
