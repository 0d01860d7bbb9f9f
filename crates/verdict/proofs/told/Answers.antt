-- `verdict::told` meets its contract: one fact more each time.
use Prim.Native.Nat.{◌*◌, ◌+◌}
use mathlib.Core.Path.{◌≡◌, refl}
use mathlib.Core.Bool.{◌&&◌}
use native.Mathlib.Omega.{arith}
use lib.Dec.{eqb}
use lib.ListN.{get_or}
use Rattle.finishing.specs.Test.{some_below}
use Rattle.verdict.specs.Told.{some_in}
use Rattle.verdict.proofs.Table.{below_next}
use Rattle.verdict.proofs.Listed.{packed-same}
use Rattle.verdict.proofs.told.Goals as goal

pub packed-fact-requires : goal.packed-fact-requires
packed-fact-requires c = tt

pub loop-i-init : goal.loop-i-init
unfolding some_in some_below
loop-i-init c = (omega arith, refl)

pub overflow_mul-i : goal.overflow_mul-i
overflow_mul-i c = omega arith

pub bounds-facts-i : goal.bounds-facts-i
bounds-facts-i c = omega arith

pub overflow_mul-i-in-loop-i : goal.overflow_mul-i-in-loop-i
overflow_mul-i-in-loop-i c = omega arith

pub overflow_add-i : goal.overflow_add-i
overflow_add-i c = omega arith

pub bounds-facts-i-in-loop-i : goal.bounds-facts-i-in-loop-i
bounds-facts-i-in-loop-i c = omega arith

pub packed-requires : goal.packed-requires
packed-requires c = tt

pub overflow_add-i-in-loop-i : goal.overflow_add-i-in-loop-i
overflow_add-i-in-loop-i c = omega arith

pub loop-i-smaller : goal.loop-i-smaller
loop-i-smaller c = omega arith

pub loop-i-preserved : goal.loop-i-preserved
unfolding some_in
loop-i-preserved c =
    let a = c.args in
    let l = c.loop-i in
    let p = c.packed in
    let q = c.packed-fact in
    (omega arith, below_next c.loop-i.i (λ i. eqb (get_or a.facts.now (2 * i) 0) a.r && eqb (get_or a.facts.now (2 * i + 1) 0) a.v) c.loop-i.some (eqb c.packed.result c.packed-fact.result) c.loop-i.invariant.1 (packed-same (get_or a.facts.now (2 * c.loop-i.i) 0) (get_or a.facts.now (2 * c.loop-i.i + 1) 0) a.r a.v c.packed.result c.packed-fact.result c.packed.ensures.0 c.packed.ensures.1 c.packed-fact.ensures.0 c.packed-fact.ensures.1))

pub returns : goal.returns
returns c =
    let e : c.loop-i.i ≡ c.args.m = omega arith in
    rw e at c.loop-i.invariant.1
