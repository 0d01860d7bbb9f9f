-- `separate::put_uses` meets its contract.
use native.Mathlib.Omega.{arith}
use Prim.Native.Nat.{◌<◌}
use lib.ListN.{length-take}
use Rattle.std.proofs.lemmas.List.{get_or-take}
use mathlib.Core.Path.{refl, ◌∙◌}
use Rattle.separate.proofs.Writing.{rest-first, rest-next, rest-last}
use Rattle.separate.proofs.put_uses.Goals as goal

pub loop-sign-init : goal.loop-sign-init
loop-sign-init c = (refl, λ us e h. rest-first c.counted-n.ensures e h)

pub loop-sign-preserved : goal.loop-sign-preserved
loop-sign-preserved c =
    let below : c.loop-sign.sign-index < c.args.count = omega (arith, length-take c.args.count c.args.signs.now, c.loop-sign-test.true) in
    (c.put_use-n.ensures.size ∙ c.loop-sign.invariant.0, λ us e h. rest-next (c.loop-sign.invariant.1 us e h) below refl (c.from.ensures ∙ get_or-take c.args.count c.args.signs.now c.loop-sign.sign-index 0 below) c.put_use-n.ensures)

pub shape_of-object : goal.shape_of-object
shape_of-object c = c.loop-sign.invariant.0

pub returns : goal.returns
returns c = record { size = c.loop-sign.invariant.0; done = λ us e h. rest-last (c.loop-sign.invariant.1 us e h) (omega (arith, length-take c.args.count c.args.signs.now, c.loop-sign-test.false, c.requires.1)) }
