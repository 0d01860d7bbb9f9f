-- `verdict::either` meets its contract: by cases of the test.
use mathlib.Core.Path.{refl, ◌∙◌}
use Rattle.base.specs.Bools.{on_true, on_false}
use Rattle.verdict.specs.Told.{member}
use Rattle.verdict.proofs.either.Goals as goal

-- `verdict::either` meets its contract: by cases of the test.
pub union-requires : goal.union-requires
union-requires c = tt

pub union-requires-then-on : goal.union-requires-then-on
union-requires-then-on c = tt

pub returns-then-on : goal.returns-then-on
returns-then-on c = record {
  end = on_true c.args.on c.args.w.end c.args.a.end c.if-on.true;
  exit = on_true c.args.on c.args.w.exit c.args.a.exit c.if-on.true;
  ret = on_true c.args.on c.args.w.ret c.args.a.ret c.if-on.true;
  calls = λ k. c.union.ensures k ∙ on_true c.args.on (member c.args.w.calls k) (member c.args.a.calls k) c.if-on.true;
  given = λ k. c.union-then-on.ensures k ∙ on_true c.args.on (member c.args.w.given k) (member c.args.a.given k) c.if-on.true;
  loops = refl;
  next = refl;
}

pub returns : goal.returns
returns c = record {
  end = on_false c.args.on c.args.w.end c.args.a.end c.if-on.false;
  exit = on_false c.args.on c.args.w.exit c.args.a.exit c.if-on.false;
  ret = on_false c.args.on c.args.w.ret c.args.a.ret c.if-on.false;
  calls = λ k. on_false c.args.on (member c.args.w.calls k) (member c.args.a.calls k) c.if-on.false;
  given = λ k. on_false c.args.on (member c.args.w.given k) (member c.args.a.given k) c.if-on.false;
  loops = refl;
  next = refl;
}
