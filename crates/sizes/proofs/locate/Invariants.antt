use Prim.Native.Nat.{◌+◌, ◌*◌, ◌≤◌}
use mathlib.Core.Path.{◌≡◌}
use lib.ListN.{length}
use Rattle.sizes.proofs.Places.{PlacesGo}
use Rattle.sizes.proofs.locate.Given as goal

abbrev pub invariant-loop-r : goal.invariant-loop-r
invariant-loop-r l = (l.q ≤ length l.cells) × (l.w ≤ 400 * l.q + l.r) × (length l.starts ≡ length l.initial.starts) × PlacesGo l.cells l.sorts l.rules l.starts l.q l.w l.r
