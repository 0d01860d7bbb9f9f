-- `carrying::carry_accepted` meets its contract: the new text's number, or what becomes of the walk.
use Rattle.carrying.proofs.Sheets.{both}
use Rattle.carrying.proofs.Texts.{refuses-read}
use Rattle.carrying.proofs.Told.{new-refused}
use Rattle.carrying.proofs.carry_accepted.Goals as goal

pub returns-then-q-ne0 : goal.returns-then-q-ne0
returns-then-q-ne0 c = new-refused c.args.old.now c.args.new.now c.args.walk c.requires.1 (refuses-read c.read_new-q.ensures c.if-q-ne0.true) c.if-q-ne0.true

pub carry_read-requires : goal.carry_read-requires
carry_read-requires c = let h = both c.args.sheets.now c.requires.0 c.requires.1 c.read_new-q.ensures c.if-q-ne0.false in (h.long, h.accepted, h.read)
