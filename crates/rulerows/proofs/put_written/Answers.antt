-- `rulerows::put_written` meets its contract.
use borrow.Author.Rules.{rules}
use mathlib.Core.Path.{refl, sym, ◌∙◌}
use native.Mathlib.Omega.{arith}
use Rattle.rulerows.proofs.Laws.{row_put, written_none, written-more, written-end}
use Rattle.rulerows.proofs.put_written.Goals as goal

-- src/lib.rt:56:5
pub loop-k-init : goal.loop-k-init
loop-k-init c = (omega arith, c.requires.2, written_none)

-- src/lib.rt:57:33
pub overflow_add-i : goal.overflow_add-i
overflow_add-i c = omega (arith, c.requires.0.inside, c.loop-k-test.true)

-- src/lib.rt:57:17
pub overflow_mul-i : goal.overflow_mul-i
overflow_mul-i c = omega (arith, c.requires.0.inside, c.loop-k-test.true)

-- src/lib.rt:59:24
pub bounds-places-k : goal.bounds-places-k
bounds-places-k c = omega (arith, c.requires.1, c.loop-k-test.true)

-- src/lib.rt:60:37
pub overflow_add-i-in-loop-k : goal.overflow_add-i-in-loop-k
overflow_add-i-in-loop-k c = omega (arith, c.requires.0.inside, c.loop-k-test.true)

-- src/lib.rt:61:35
pub overflow_add-i-in-loop-k-2 : goal.overflow_add-i-in-loop-k-2
overflow_add-i-in-loop-k-2 c = omega (arith, c.requires.0.inside, c.loop-k-test.true)

-- src/lib.rt:66:9
pub put_row-requires : goal.put_row-requires
put_row-requires c = omega (arith, c.requires.0.few, c.loop-k-test.true, c.loop-k.invariant.1)

-- src/lib.rt:56:5
pub loop-k-preserved : goal.loop-k-preserved
loop-k-preserved c = (omega (arith, c.loop-k-test.true), search rules ∙ c.loop-k.invariant.1, written-more c.loop-k.invariant.2 (row_put (omega (arith, c.requires.0.few, c.loop-k-test.true, c.loop-k.invariant.1)) c.put_row.ensures) refl c.cell.ensures c.cell-in-loop-k.ensures refl)

-- src/lib.rt:51:1
pub shape_of-sheet : goal.shape_of-sheet
shape_of-sheet c = c.loop-k.invariant.1 ∙ sym c.requires.2

-- src/lib.rt:51:1
pub returns : goal.returns
returns c = written-end (omega (arith, c.loop-k.invariant.0, c.loop-k-test.false)) c.loop-k.invariant.2
