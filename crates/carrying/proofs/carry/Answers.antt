-- `carrying::carry` meets its contract: the old text's number, or what the new text gives.
use mathlib.Core.Path.{sym}
use Prim.Native.Nat.{ℕ}
use lib.ListN.{replicate, length-replicate}
use Rattle.carrying.proofs.Sheets.{first}
use Rattle.carrying.proofs.Texts.{refuses}
use Rattle.carrying.proofs.Told.{old-refused}
use Rattle.carrying.proofs.carry.Goals as goal

pub returns-then-p-ne0 : goal.returns-then-p-ne0
returns-then-p-ne0 c = old-refused c.args.old.now c.args.new.now c.args.walk (refuses c.prepare-p.ensures c.if-p-ne0.true) c.if-p-ne0.true

pub slice_bounds-carry_accepted-end-2 : goal.slice_bounds-carry_accepted-end-2
slice_bounds-carry_accepted-end-2 c = sym (first (replicate {A = ℕ} 1540 0) (length-replicate {A = ℕ} 1540 0) c.prepare-p.ensures c.if-p-ne0.false).long

pub carry_accepted-requires : goal.carry_accepted-requires
carry_accepted-requires c = let h = first (replicate {A = ℕ} 1540 0) (length-replicate {A = ℕ} 1540 0) c.prepare-p.ensures c.if-p-ne0.false in (h.long, h.accepted)
