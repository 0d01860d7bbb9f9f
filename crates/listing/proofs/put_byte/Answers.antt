-- `listing::put_byte` meets its contract, in the buffer and past its end.
use mathlib.Core.Path.{ap, ◌∙◌}
use lib.ListN.{length, length-set}
use Rattle.listing.proofs.Laws.{byte-in, byte-out}
use Rattle.listing.proofs.put_byte.Goals.{then-at-out, else-at-out}
use Rattle.listing.proofs.put_byte.Goals as goal

pub shape_of-out : goal.shape_of-out
shape_of-out c = elim c.if-at-out.branch [ then-at-out w ↦ ap length w.out-is ∙ simp length-set | else-at-out w ↦ ap length w.out-is ]

pub returns : goal.returns
returns c =
    let a = c.args in
    elim c.if-at-out.branch [ then-at-out w ↦ rw w.out-is (byte-in a.out.now a.at a.b) | else-at-out w ↦ rw w.out-is (byte-out a.out.now a.at a.b w.if-at-out.false) ]
