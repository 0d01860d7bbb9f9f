-- `verdict::then` meets its contract: by cases of the test.
use mathlib.Core.Path.{refl, ◌∙◌}
use Rattle.base.specs.Bools.{on_true, on_false, and_on, and_off}
use Rattle.verdict.specs.Told.{member}
use Rattle.verdict.proofs.then.Goals as goal

-- `verdict::then` meets its contract: by cases of the test.
pub union-requires : goal.union-requires
union-requires c = tt

pub union-requires-then-w : goal.union-requires-then-w
union-requires-then-w c = tt

pub returns-then-w : goal.returns-then-w
returns-then-w c = record {
  end = and_on c.args.w.end c.args.a.end c.if-w.true;
  exit = on_true c.args.w.end c.args.w.exit c.args.a.exit c.if-w.true;
  ret = on_true c.args.w.end c.args.w.ret c.args.a.ret c.if-w.true;
  calls = λ k. c.union.ensures k ∙ on_true c.args.w.end (member c.args.w.calls k) (member c.args.a.calls k) c.if-w.true;
  given = λ k. c.union-then-w.ensures k ∙ on_true c.args.w.end (member c.args.w.given k) (member c.args.a.given k) c.if-w.true;
  loops = refl;
  next = refl;
}

pub returns : goal.returns
returns c = record {
  end = and_off c.args.w.end c.args.a.end c.if-w.false;
  exit = on_false c.args.w.end c.args.w.exit c.args.a.exit c.if-w.false;
  ret = on_false c.args.w.end c.args.w.ret c.args.a.ret c.if-w.false;
  calls = λ k. on_false c.args.w.end (member c.args.w.calls k) (member c.args.a.calls k) c.if-w.false;
  given = λ k. on_false c.args.w.end (member c.args.w.given k) (member c.args.a.given k) c.if-w.false;
  loops = refl;
  next = refl;
}
