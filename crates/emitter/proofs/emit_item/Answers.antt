use mathlib.Core.Path.{refl, ap, ◌∙◌}
use native.Mathlib.Omega.{arith}
use Prim.Native.Nat.{ℕ, ◌+◌}
use lib.ListN.{get_or}
use Rattle.emitter.specs.Heads.{called_by, called_at}
use Rattle.emitter.proofs.emit_item.Goals as goal

pub returns : goal.returns
unfolding called_at
returns c =
    let a = c.args in
    let P = c.requires.0 in
    let F = c.requires.2 in
    let L = c.min.ensures in
    record {
      item_done = record { next = λ i. omega (arith, i, L); after = refl; wrote = c.put_item.ensures; on = omega (arith, L, F.some-cells, c.requires.1); inside = omega (arith, L); few = F.small };
      slots_after = (c.call_at.ensures ∙ (ap (λ (i : ℕ). called_by i a.call a.slots.now c.from-r.result (a.spot.at + 1)) c.cell-2.ensures ∙ ap (λ (i : ℕ). called_by (get_or a.cells.now a.spot.p 0) a.call a.slots.now i (a.spot.at + 1)) (c.from-r.ensures ∙ c.cell.ensures)), refl);
    }
