-- `symbols::has_value` meets its contract.
use mathlib.Core.Path.{sym, ◌∙◌}
use native.Mathlib.Omega.{arith}
use Rattle.symbols.specs.Rows.{decl_at}
use Rattle.symbols.proofs.Searches.{by_number, start, hit, miss, end}
use Rattle.symbols.proofs.has_value.Goals as goal

pub loop-i-init : goal.loop-i-init
loop-i-init c = λ text. start (by_number c.args.class c.args.v) text c.args.rows.now c.args.n

pub returns-then-counts : goal.returns-then-counts
unfolding decl_at
returns-then-counts c = λ text. sym (c.loop-i.invariant text ∙ hit (by_number c.args.class c.args.v) text c.args.rows.now c.loop-i.i c.args.n c.loop-i-test.true (sym c.counts.ensures ∙ c.if-counts.true))

pub loop-i-preserved : goal.loop-i-preserved
unfolding decl_at
loop-i-preserved c = λ text. c.loop-i.invariant text ∙ miss (by_number c.args.class c.args.v) text c.args.rows.now c.loop-i.i c.args.n c.loop-i-test.true (sym c.counts.ensures ∙ c.if-counts.false)

pub returns : goal.returns
returns c = λ text. sym (c.loop-i.invariant text ∙ end (by_number c.args.class c.args.v) text c.args.rows.now c.loop-i.i c.args.n (omega arith))
