-- `linkage::close_all` meets its contract.
use mathlib.Core.List.{List}
use mathlib.Core.Path.{◌≡◌}
use Prim.Native.Nat.{suc, ◌-◌, ◌≤◌}
use lib.ListN.{length}
use Rattle.machine.specs.Bytes.{words_of}
use Rattle.parts.specs.Objects.{Object}
use Rattle.linkage.proofs.Groups.{Ground, GoingAll}
use Rattle.linkage.proofs.close_all.Given as goal

abbrev pub invariant-loop-at : goal.invariant-loop-at
invariant-loop-at l =
    (l.at ≤ length (words_of l.objects)) × (l.n ≤ suc (length l.cells)) × (length l.cells ≡ length l.initial.cells)
    × ((gr : Ground (words_of l.objects) l.names l.sites l.lowest l.collected) (os : List Object) → GoingAll gr os l.initial.cells l.initial.cells 0 0 → GoingAll gr os l.initial.cells l.cells l.at l.n)

abbrev pub decreases-loop-at : goal.decreases-loop-at
decreases-loop-at l = length (words_of l.objects) - l.at
