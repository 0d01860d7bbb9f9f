-- `verdict::itself` meets its contract: one rule after the other.
use mathlib.Core.Path.{◌≡◌, refl, ap, ◌∙◌}
use native.Mathlib.Omega.{arith}
use Rattle.verdict.specs.Told.{row_of, member}
use Rattle.finishing.specs.Test.{some_below}
use Rattle.verdict.proofs.Table.{below_next}
use Rattle.verdict.proofs.itself.Goals as goal

pub loop-r-init : goal.loop-r-init
unfolding some_below
loop-r-init c = (omega arith, refl)

pub row-requires : goal.row-requires
row-requires c = (omega arith, omega arith)

pub has-some-requires : goal.has-some-requires
has-some-requires c = tt

pub overflow_add-r : goal.overflow_add-r
overflow_add-r c = omega arith

pub loop-r-smaller : goal.loop-r-smaller
loop-r-smaller c = omega arith

pub loop-r-preserved : goal.loop-r-preserved
loop-r-preserved c = (omega arith, below_next c.loop-r.r (λ r. member (row_of c.args.rows.now r) r) c.loop-r.some c.has-some.result c.loop-r.invariant.1 (c.has-some.ensures ∙ ap (λ s. member s c.loop-r.r) c.row.ensures))

pub returns : goal.returns
returns c = let e : c.loop-r.r ≡ c.args.n = omega arith in rw (← e) c.loop-r.invariant.1
