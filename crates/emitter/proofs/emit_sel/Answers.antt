use mathlib.Core.Path.{◌≡◌, sym, subst}
use Prim.Native.Nat.{◌+◌}
use lib.ListN.{get_or}
use Rattle.emitter.specs.declared.Item.{Item}
use Rattle.emitter.specs.Heads.{sel_at, start_of, Few}
use Rattle.emitter.specs.Work.{ItemDone}
use Rattle.emitter.proofs.Laws.{few-sel}
use Rattle.emitter.proofs.emit_sel.Goals as goal

pub emit_item-requires : goal.emit_item-requires
unfolding sel_at
emit_item-requires c =
    let a = c.args in
    let h : c.sel_of-item.result ≡ sel_at a.cells.now a.slots.now a.spot.p = cc in
    (c.requires.0, c.requires.1, subst (λ (w : Item). Few w) (sym h) (few-sel (get_or a.cells.now a.spot.p 0) (get_or a.cells.now (a.spot.p + 1) 0) (start_of a.slots.now (get_or a.cells.now (a.spot.p + 1) 0))))

pub returns : goal.returns
unfolding sel_at
returns c =
    let a = c.args in
    let h : c.sel_of-item.result ≡ sel_at a.cells.now a.slots.now a.spot.p = cc in
    record { item_done = subst (λ (w : Item). ItemDone a.cells.now w a.spot.p a.spot.at a.out.now c.emit_item.new.out c.emit_item.result.p c.emit_item.result.at) h c.emit_item.ensures.item_done; slots_after = c.emit_item.ensures.slots_after }
