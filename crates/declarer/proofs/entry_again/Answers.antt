-- `declarer::entry_again` meets its contract.
use mathlib.Core.Path.{sym, ◌∙◌}
use native.Mathlib.Omega.{arith}
use Rattle.symbols.specs.Rows.{decl_at, held}
use Rattle.symbols.proofs.Searches.{class-at}
use Rattle.declarer.proofs.FaultLaws.{again-input, again-both, again-other}
use Rattle.declarer.proofs.entry_again.Goals as goal

pub returns-in-1 : goal.returns-in-1
returns-in-1 c = c.input_again.ensures ∙ sym (again-input (held c.args.text.now c.args.rows.now c.args.i) (decl_at c.args.text.now c.args.rows.now c.args.i) (class-at c.args.text.now c.args.rows.now c.args.i ∙ sym c.number-class.ensures.0 ∙ c.in-1.is))

pub returns-in-3 : goal.returns-in-3
returns-in-3 c = c.both_again.ensures ∙ sym (again-both (held c.args.text.now c.args.rows.now c.args.i) (decl_at c.args.text.now c.args.rows.now c.args.i) (class-at c.args.text.now c.args.rows.now c.args.i ∙ sym c.number-class.ensures.0 ∙ c.in-3.is))

pub returns-in_default : goal.returns-in_default
returns-in_default c = c.repeats.ensures ∙ sym (again-other (held c.args.text.now c.args.rows.now c.args.i) (decl_at c.args.text.now c.args.rows.now c.args.i) c.number-class.result (class-at c.args.text.now c.args.rows.now c.args.i ∙ sym c.number-class.ensures.0) (λ e. omega (arith, e)) (λ e. omega (arith, e)))
