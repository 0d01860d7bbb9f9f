-- `carrying::carry_read` meets its contract: the table is that of the new text.
use mathlib.Core.Path.{sym}
use native.Mathlib.Omega.{arith}
use lib.Seq.{length-take-le}
use Rattle.carrying.proofs.Sheets.{second-is-read}
use Rattle.carrying.proofs.Texts.{written}
use Rattle.carrying.proofs.Told.{both-accepted}
use Rattle.carrying.proofs.carry_read.Goals as goal

pub slice_bounds-before-end : goal.slice_bounds-before-end
slice_bounds-before-end c = sym (length-take-le 770 c.args.sheets.now (omega (arith, c.requires.0)))

pub carry_prepared-requires : goal.carry_prepared-requires
carry_prepared-requires c = (c.requires.1.as_ready, (written (second-is-read c.args.sheets.now c.requires.2) c.write_table.ensures).as_ready)

pub returns : goal.returns
returns c = both-accepted c.args.old.now c.args.new.now c.args.walk c.requires.1 (written (second-is-read c.args.sheets.now c.requires.2) c.write_table.ensures) c.carry_prepared.ensures
