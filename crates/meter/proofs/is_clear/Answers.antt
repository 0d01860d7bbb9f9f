-- `meter::is_clear` meets its contract: one number more each time.
use mathlib.Core.Path.{◌≡◌}
use native.Mathlib.Omega.{arith}
use Rattle.base.specs.Bools.{never}
use Rattle.meter.proofs.Store.{clear_first, clear_next, clear-all}
use Rattle.meter.proofs.is_clear.Goals as goal

pub returns-then-i-ne0 : goal.returns-then-i-ne0
returns-then-i-ne0 c = λ e. never e

pub loop-j-init : goal.loop-j-init
loop-j-init c = λ e. clear_first c.args.rows.now c.args.i e

pub bounds-rows-i-in-loop-j : goal.bounds-rows-i-in-loop-j
bounds-rows-i-in-loop-j c = omega arith

pub loop-j-preserved : goal.loop-j-preserved
loop-j-preserved c = λ e. clear_next c.args.rows.now c.args.i c.loop-j.j c.loop-j.clear c.loop-j.invariant e

pub returns : goal.returns
returns c = λ e.
    let d : c.loop-j.j ≡ 32 = omega (arith, c.loop-j-test.false, c.loop-j.auto.j-end) in
    clear-all c.args.rows.now c.args.i c.requires.1 c.if-i-ne0.false (rw d at (c.loop-j.invariant e))
