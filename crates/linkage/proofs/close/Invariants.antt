-- `linkage::close` meets its contract. The loop's invariant: whatever is appended next, with what is left to close it is all that is to be appended.
use mathlib.Core.List.{List}
use mathlib.Core.Path.{◌≡◌}
use Prim.Native.Nat.{ℕ, suc, ◌-◌, ◌≤◌}
use lib.ListN.{length, take, drop}
use Rattle.linker.specs.Close.{close_cells}
use Rattle.linker.specs.Place.{texts_end}
use Rattle.machine.specs.Bytes.{words_of}
use Rattle.resolver.specs.Resolved.{Appends}
use Rattle.linkage.specs.Closing.{Lows, places_of}
use Rattle.linkage.proofs.Closing.{rest}
use Rattle.linkage.proofs.close.Given as goal

abbrev pub invariant-loop-p : goal.invariant-loop-p
invariant-loop-p l =
    (l.end ≤ length (words_of l.objects)) × (texts_end (words_of l.objects) l.spot.calls.at l.spot.calls.left ≡ texts_end (words_of l.objects) l.body.calls.at l.body.calls.left)
    × (l.n ≤ suc (length l.cells)) × (length l.cells ≡ length l.initial.cells)
    × ((low : ℕ → ℕ) → Lows (words_of l.objects) l.sites l.lowest l.body.uses low → (cs : List ℕ) (c : ℕ) → Appends l.cells l.n (rest low (words_of l.objects) l.names l.end l.p l.spot) cs c
    → Appends l.initial.cells l.from (close_cells low (places_of (words_of l.objects) l.names l.body.calls) (take (l.end - l.body.at) (drop l.body.at (words_of l.objects)))) cs c)
