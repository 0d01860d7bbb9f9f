-- `carrier::carry_walk` meets its contract: the return locations before i are carried, the others as they were.
use mathlib.Core.Path.{◌≡◌, refl}
use native.Mathlib.Omega.{arith}
use lib.ListN.{length}
use borrow.Author.Rules.{rules}
use Rattle.carrier.proofs.Answered.{placed-none, placed-some}
use Rattle.carrier.proofs.Walks.{moving-next, location-gone, return-gone, all-carried}
use Rattle.carrier.proofs.carry_walk.Goals as goal

pub returns-in_err-at : goal.returns-in_err-at
returns-in_err-at c = rw c.from_residual.ensures (location-gone c.args.old.table.now c.args.new.table.now c.args.old.text.now c.args.old.sheet.now c.args.new.text.now c.args.new.sheet.now c.args.walk _ (placed-none c.carry_place.ensures c.in_err-at.was) refl)

pub loop-i-preserved : goal.loop-i-preserved
loop-i-preserved c =
    let n : length c.args.walk.returns ≡ 64 = search (rules, c.well_formed) in
    let b = placed-some c.carry_place-in-loop-i.ensures c.in_ok-l.was in
    moving-next _ _ c.loop-i.invariant (omega (arith, c.loop-i-test.true, c.min-i-end.ensures)) (omega (arith, n)) c.from.ensures b.0 (λ z. omega (arith, z, b.1))

pub returns-in_err-l : goal.returns-in_err-l
returns-in_err-l c =
    let n : length c.args.walk.returns ≡ 64 = search (rules, c.well_formed) in
    let a = placed-some c.carry_place.ensures c.in_ok-at.was in
    rw c.from_residual-in_err-l.ensures (return-gone c.args.old.table.now c.args.new.table.now c.args.old.text.now c.args.old.sheet.now c.args.new.text.now c.args.new.sheet.now c.args.walk _ _ _ _ n refl a.0 (λ z. omega (arith, z, a.1)) c.loop-i.invariant (omega (arith, c.loop-i-test.true, c.min-i-end.ensures)) c.from.ensures (placed-none c.carry_place-in-loop-i.ensures c.in_err-l.was) refl)

pub returns : goal.returns
returns c =
    let n : length c.args.walk.returns ≡ 64 = search (rules, c.well_formed) in
    let a = placed-some c.carry_place.ensures c.in_ok-at.was in
    all-carried c.args.old.table.now c.args.new.table.now c.args.old.text.now c.args.old.sheet.now c.args.new.text.now c.args.new.sheet.now c.args.walk _ _ n refl a.0 a.2 (λ z. omega (arith, z, a.1)) c.loop-i.invariant (omega (arith, c.loop-i-test.false, c.min-i-end.ensures))
