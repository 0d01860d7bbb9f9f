-- `declarer::against` meets its contract.
use native.Mathlib.Omega.{arith}
use Rattle.symbols.specs.Rows.{held}
use Rattle.declarer.proofs.OperatorLaws.{left-stops, left-goes, left-ends}
use Rattle.declarer.proofs.against.Goals as goal

pub returns-then-against_one : goal.returns-then-against_one
returns-then-against_one c es ws' d h from o ws₁ is =
    left-stops (held c.args.text.now c.args.rows.now c.args.n) is (c.loop.invariant.2 es ws' d h from o ws₁ is) c.loop-test.true c.read_entry-b.ensures c.loop.invariant.1 c.against_one.ensures c.if-against_one.true

pub loop-preserved : goal.loop-preserved
loop-preserved c = (
  c.read_entry-b.ensures.high,
  c.loop.invariant.1,
  λ es ws' d h from o ws₁ is.
      left-goes (held c.args.text.now c.args.rows.now c.args.n) is (c.loop.invariant.2 es ws' d h from o ws₁ is) c.loop-test.true c.read_entry-b.ensures c.loop.invariant.1 c.against_one.ensures c.if-against_one.false,
)

pub returns : goal.returns
returns c es ws' d h from o ws₁ is = left-ends (c.loop.invariant.2 es ws' d h from o ws₁ is) (omega (arith, c.loop-test.false))
