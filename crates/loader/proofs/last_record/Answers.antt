-- `loader::last_record` meets its contract.
use borrow.Author.Tests.{eqb-true, eqb-false, ne_eqb}
use mathlib.Core.Path.{refl, sym, ◌∙◌}
use Rattle.base.specs.Bools.{never}
use Rattle.loader.proofs.Filing.{last-mark, last-count, last-there}
use Rattle.loader.proofs.last_record.Goals as goal
use Rattle.loader.proofs.last_record.Goals.{then-word-eq-TABLE_MARK, else-word-eq-TABLE_MARK}

pub returns-then-from-left : goal.returns-then-from-left
returns-then-from-left c = elim c.if-word-eq-TABLE_MARK.branch [
  | then-word-eq-TABLE_MARK w ↦ last-there c.args.file.now c.args.p c.word.result w.from.result c.args.total c.word.ensures (w.from.ensures ∙ w.word-then-word-eq-TABLE_MARK.ensures) c.requires.0 c.args.left c.requires.3 w.if-word-eq-TABLE_MARK.true (eqb-true _ _ (sym w.value-is ∙ c.if-from-left.true))
  | else-word-eq-TABLE_MARK w ↦ never (sym (ne_eqb _ _ w.if-word-eq-TABLE_MARK.false) ∙ sym w.value-is ∙ c.if-from-left.true)
]

pub returns-else-from-left : goal.returns-else-from-left
returns-else-from-left c = elim c.if-word-eq-TABLE_MARK.branch [
  | then-word-eq-TABLE_MARK w ↦ c.if-from-left.false ∙ last-count c.args.file.now c.args.p c.word.result w.from.result c.args.total c.word.ensures (w.from.ensures ∙ w.word-then-word-eq-TABLE_MARK.ensures) c.requires.0 c.args.left w.if-word-eq-TABLE_MARK.true (eqb-false _ _ (sym w.value-is ∙ c.if-from-left.false))
  | else-word-eq-TABLE_MARK w ↦ w.value-is ∙ ne_eqb _ _ w.if-word-eq-TABLE_MARK.false ∙ last-mark c.args.file.now c.args.p c.word.result _ c.args.total c.word.ensures refl c.requires.0 c.args.left w.if-word-eq-TABLE_MARK.false
]
