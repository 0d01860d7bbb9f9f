-- `symbols::is_declared` meets its contract.
use mathlib.Core.Path.{sym, ◌∙◌}
use native.Mathlib.Omega.{arith}
use Rattle.symbols.proofs.Searches.{by_word, start, hit, miss, end}
use Rattle.symbols.proofs.is_declared.Goals as goal

pub loop-i-init : goal.loop-i-init
loop-i-init c = start (by_word c.part-word.result.now) c.args.text.now c.args.rows.now c.args.n

pub returns-then-declares : goal.returns-then-declares
returns-then-declares c = rw c.part-word.ensures at (sym (c.loop-i.invariant ∙ hit (by_word c.part-word.result.now) c.args.text.now c.args.rows.now c.loop-i.i c.args.n c.loop-i-test.true (sym c.declares.ensures ∙ c.if-declares.true)))

pub loop-i-preserved : goal.loop-i-preserved
loop-i-preserved c = c.loop-i.invariant ∙ miss (by_word c.part-word.result.now) c.args.text.now c.args.rows.now c.loop-i.i c.args.n c.loop-i-test.true (sym c.declares.ensures ∙ c.if-declares.false)

pub returns : goal.returns
returns c = rw c.part-word.ensures at (sym (c.loop-i.invariant ∙ end (by_word c.part-word.result.now) c.args.text.now c.args.rows.now c.loop-i.i c.args.n (omega arith)))
