-- `symbols::clear_heads` meets its contract.
use mathlib.Core.Path.{◌∙◌}
use native.Mathlib.Omega.{arith}
use Rattle.symbols.proofs.Indexing.{rows-after, rows-set, clear-keyed, mid-length, heads-kept, heads-clear}
use Rattle.symbols.proofs.clear_heads.Goals as goal

pub returns-clause-kept : goal.returns-clause-kept
returns-clause-kept c = rows-after (heads-kept c.args.rows.now c.fill.new.self c.requires.0 (c.fill.ensures.len ∙ mid-length c.args.rows.now c.requires.0)) (rows-set _ 4607 c.args.key (omega arith))

pub returns-clause-clear : goal.returns-clause-clear
returns-clause-clear c = λ b l. clear-keyed _ c.args.key (heads-clear c.args.rows.now c.fill.new.self _ c.requires.0 (c.fill.ensures.after (λ y e. e)) (mid-length c.args.rows.now c.requires.0)) b l
