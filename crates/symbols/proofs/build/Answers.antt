-- `symbols::build` meets its contract.
use mathlib.Core.Path.{◌∙◌}
use native.Mathlib.Omega.{arith}
use Rattle.symbols.proofs.Indexing.{rows_same, rows-after, index-none, index-all, index_at, row_kept, index-more}
use Rattle.symbols.proofs.build.Goals as goal

pub loop-i-init : goal.loop-i-init
loop-i-init c = (omega arith, rows_same _, index-none c.args.text.now _ c.args.n c.clear_heads.ensures.keyed c.clear_heads.ensures.clear)

pub loop-i-preserved : goal.loop-i-preserved
loop-i-preserved c = (omega (arith, c.loop-i-test.true, c.loop-i.invariant.0), rows-after c.loop-i.invariant.1 (row_kept _ c.args.text.now c.loop-i.i c.push_second.ensures c.push_name.ensures), index-more _ c.args.text.now c.loop-i.i c.push_second.ensures c.push_name.ensures c.loop-i-test.true c.loop-i.invariant.0 c.requires.1 (c.loop-i.invariant.1.size ∙ (c.clear_heads.ensures.kept.size ∙ c.requires.0)) c.loop-i.invariant.2)

pub returns : goal.returns
returns c = record { index = index-all c.requires.1 (index_at c.loop-i.invariant.2 (omega (arith, c.loop-i-test.false))); rows = rows-after c.clear_heads.ensures.kept c.loop-i.invariant.1 }
