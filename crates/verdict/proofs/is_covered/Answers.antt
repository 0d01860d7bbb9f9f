-- `verdict::is_covered` meets its contract.
use mathlib.Core.Path.{sym, ◌∙◌}
use borrow.Author.Tests.{eqb-true}
use Rattle.base.specs.Bools.{never}
use Rattle.verdict.proofs.Worthy.{implied, same_words}
use Rattle.verdict.proofs.is_covered.Goals as goal

pub returns-then-a-w : goal.returns-then-a-w
returns-then-a-w c = λ e. never e

pub returns-then-a-w-2 : goal.returns-then-a-w-2
returns-then-a-w-2 c = λ e. never e

pub returns-then-a-w-3 : goal.returns-then-a-w-3
returns-then-a-w-3 c = λ e. never e

pub returns-then-c-wc : goal.returns-then-c-wc
returns-then-c-wc c = λ e. never e

pub returns-then-c-wc-2 : goal.returns-then-c-wc-2
returns-then-c-wc-2 c = λ e. never e

pub returns-then-g-wg : goal.returns-then-g-wg
returns-then-g-wg c = λ e. never e

pub returns : goal.returns
returns c = λ e. record {
  end = implied c.args.w.end c.args.a.end c.if-a-w.false;
  exit = implied c.args.w.exit c.args.a.exit c.if-a-w-2.false;
  ret = implied c.args.w.ret c.args.a.ret c.if-a-w-3.false;
  calls = λ k. sym (c.union-c.ensures k) ∙ same_words c.args.w.calls c.union-c.result c.if-c-wc.false c.if-c-wc-2.false k;
  given = λ k. sym (c.union-g.ensures k) ∙ same_words c.args.w.given c.union-g.result c.if-g-wg.false (eqb-true c.union-g.result.hi c.args.w.given.hi e) k;
}
