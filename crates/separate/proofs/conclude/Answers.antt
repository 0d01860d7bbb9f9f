-- `separate::conclude` meets its contract.
use mathlib.Core.Path.{refl}
use native.Mathlib.Omega.{arith}
use Rattle.separate.proofs.Writing.{concludes-fault, concludes-short, concludes-whole}
use Rattle.separate.proofs.conclude.Goals as goal

pub returns-then-w-ne0 : goal.returns-then-w-ne0
returns-then-w-ne0 c = concludes-fault c.if-w-ne0.true c.refuse.ensures

pub returns-then-room-w : goal.returns-then-room-w
returns-then-room-w c = concludes-short _ c.if-w-ne0.false c.room.ensures.0 c.if-room-w.true refl c.refuse-then-room-w.ensures

pub returns : goal.returns
returns c = concludes-whole c.if-w-ne0.false c.room.ensures.0 c.if-room-w.false (λ i. omega (arith, c.slice_known-2-1.given i)) c.zero_from.ensures refl
