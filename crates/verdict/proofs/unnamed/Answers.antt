-- `verdict::unnamed` meets its contract: none of the facts looked at is one.
use Prim.Native.Nat.{◌+◌, ◌*◌}
use mathlib.Core.Path.{◌≡◌, refl, sym, ◌∙◌}
use mathlib.Core.Bool.{false, ◌&&◌, not}
use native.Mathlib.Omega.{arith}
use lib.Dec.{eqb}
use lib.ListN.{get_or, take}
use Rattle.base.specs.Common.{member as listed}
use Rattle.finishing.specs.Test.{some_below}
use Rattle.finishing.proofs.Exact.{below_true}
use Rattle.verdict.specs.Told.{some_in}
use Rattle.verdict.proofs.Table.{below_next}
use Rattle.verdict.proofs.unnamed.Goals as goal

pub loop-i-init : goal.loop-i-init
unfolding some_in some_below
loop-i-init c = (omega arith, refl)

pub lacks-requires : goal.lacks-requires
lacks-requires c = (omega arith, omega arith)

pub returns-then-lacks : goal.returns-then-lacks
unfolding some_in
returns-then-lacks c = sym (below_true c.args.m (λ i. eqb (get_or c.args.facts.now (2 * i) 0) c.args.r && not (listed (get_or c.args.facts.now (2 * i + 1) 0) (take c.args.n c.args.labels.now))) c.loop-i.i c.loop-i-test.true (sym c.lacks.ensures ∙ c.if-lacks.true))

pub overflow_add-i : goal.overflow_add-i
overflow_add-i c = omega arith

pub loop-i-smaller : goal.loop-i-smaller
loop-i-smaller c = omega arith

pub loop-i-preserved : goal.loop-i-preserved
unfolding some_in
loop-i-preserved c = (omega arith, below_next c.loop-i.i (λ i. eqb (get_or c.args.facts.now (2 * i) 0) c.args.r && not (listed (get_or c.args.facts.now (2 * i + 1) 0) (take c.args.n c.args.labels.now))) false false c.loop-i.invariant.1 (sym c.if-lacks.false ∙ c.lacks.ensures))

pub returns : goal.returns
returns c =
    let e : c.loop-i.i ≡ c.args.m = omega arith in
    rw e at c.loop-i.invariant.1
