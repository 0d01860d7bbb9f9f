-- `linkpairs::take_pair` meets its contract: the pair stands there, passes a limit or is put behind the others.
use mathlib.Core.Path.{sym, ◌∙◌}
use native.Mathlib.Omega.{arith}
use Rattle.base.proofs.Laws.{above_zero}
use Rattle.linkpairs.proofs.Collecting.{taken-again, taken-empty, taken-over, taken-new, few-more}
use Rattle.linkpairs.proofs.Looking.{some-below, none-above}
use Rattle.linkpairs.proofs.take_pair.Goals as goal
use Rattle.linkpairs.proofs.take_pair.Goals.{then-l-eq0-via-then-l-eq0, then-l-eq0-via-else-l-eq0+then-is_over}

pub returns-then-is_some : goal.returns-then-is_some
returns-then-is_some c = taken-again c.requires.5 c.requires.6 c.look.ensures.is (some-below c.look.result c.args.s.count c.look.ensures.low (sym c.is_some.ensures ∙ c.if-is_some.true))

pub returns-then-l-eq0 : goal.returns-then-l-eq0
returns-then-l-eq0 c =
    elim c.then-l-eq0.branch [
      | then-l-eq0-via-then-l-eq0 w ↦ taken-empty c.requires.5 c.requires.6 c.with_fault.ensures c.levels_of-l.ensures w.if-l-eq0.true
      | then-l-eq0-via-else-l-eq0+then-is_over w ↦ taken-over c.requires.5 c.requires.6 c.with_fault.ensures c.look.ensures.is (none-above c.look.result c.args.s.count (sym c.is_some.ensures ∙ c.if-is_some.false)) c.levels_of-l.ensures w.is_over.ensures w.if-is_over.true
    ]

pub bounds-sites-k : goal.bounds-sites-k
bounds-sites-k c = let a = c.args in omega (arith, c.requires.3, c.requires.5, few-more a.scope a.s c.levels_of-l.result c.is_over.ensures c.if-is_over.false, above_zero c.levels_of-l.result.count c.if-l-eq0.false)

pub bounds-lowest-k : goal.bounds-lowest-k
bounds-lowest-k c = let a = c.args in omega (arith, c.requires.4, c.requires.5, few-more a.scope a.s c.levels_of-l.result c.is_over.ensures c.if-is_over.false, above_zero c.levels_of-l.result.count c.if-l-eq0.false)

pub returns : goal.returns
returns c = taken-new c.requires.3 c.requires.4 c.requires.5 c.if-l-eq0.false c.look.ensures.is (none-above c.look.result c.args.s.count (sym c.is_some.ensures ∙ c.if-is_some.false)) c.levels_of-l.ensures c.is_over.ensures c.if-is_over.false
