-- `verdict::matches` meets its contract: none, or one value more each time.
use mathlib.Core.Path.{refl}
use native.Mathlib.Omega.{arith}
use lib.ListN.{get_or}
use Rattle.verdict.proofs.Sets.{matching-none, matching-start, matching-next}
use Rattle.verdict.proofs.matches.Goals as goal

pub asks-requires : goal.asks-requires
asks-requires c = tt

pub returns-then-not-asks : goal.returns-then-not-asks
returns-then-not-asks c = matching-none c.args.wanted.now c.args.v (c.asks.ensures c.if-not-asks.true)

pub loop-j-init : goal.loop-j-init
loop-j-init c = (omega arith, matching-start c.args.wanted.now c.args.v)

pub bounds-wanted-j : goal.bounds-wanted-j
bounds-wanted-j c = omega arith

pub marked-s-requires : goal.marked-s-requires
marked-s-requires c = tt

pub overflow_add-j : goal.overflow_add-j
overflow_add-j c = omega arith

pub loop-j-smaller : goal.loop-j-smaller
loop-j-smaller c = omega arith

pub loop-j-preserved : goal.loop-j-preserved
loop-j-preserved c = (omega arith, matching-next c.args.wanted.now c.args.v c.loop-j.j (get_or c.args.wanted.now c.loop-j.j 0) c.loop-j.s c.marked-s.result refl c.marked-s.ensures c.loop-j.invariant.1)

pub returns : goal.returns
returns c = λ j h b. c.loop-j.invariant.1.done j (omega arith) b
