-- `loader::full_record` meets its contract.
use borrow.Author.Tests.{eqb-true, eqb-false, ne_eqb}
use mathlib.Core.Path.{refl, sym, ◌∙◌}
use Rattle.base.specs.Bools.{never}
use Rattle.loader.proofs.Filing.{full-mark, full-count, full-there}
use Rattle.loader.proofs.full_record.Goals as goal
use Rattle.loader.proofs.full_record.Goals.{then-word-eq-TABLE_MARK, else-word-eq-TABLE_MARK}

pub returns-then-from-eq-RECORD_WORDS : goal.returns-then-from-eq-RECORD_WORDS
returns-then-from-eq-RECORD_WORDS c = elim c.if-word-eq-TABLE_MARK.branch [
  | then-word-eq-TABLE_MARK w ↦ full-there c.args.file.now c.args.p c.word.result w.from.result c.args.total c.word.ensures (w.from.ensures ∙ w.word-then-word-eq-TABLE_MARK.ensures) c.requires.0 w.if-word-eq-TABLE_MARK.true (eqb-true _ _ (sym w.value-is ∙ c.if-from-eq-RECORD_WORDS.true))
  | else-word-eq-TABLE_MARK w ↦ never (sym (ne_eqb _ _ w.if-word-eq-TABLE_MARK.false) ∙ sym w.value-is ∙ c.if-from-eq-RECORD_WORDS.true)
]

pub returns-else-from-eq-RECORD_WORDS : goal.returns-else-from-eq-RECORD_WORDS
returns-else-from-eq-RECORD_WORDS c = elim c.if-word-eq-TABLE_MARK.branch [
  | then-word-eq-TABLE_MARK w ↦ c.if-from-eq-RECORD_WORDS.false ∙ full-count c.args.file.now c.args.p c.word.result w.from.result c.args.total c.word.ensures (w.from.ensures ∙ w.word-then-word-eq-TABLE_MARK.ensures) c.requires.0 w.if-word-eq-TABLE_MARK.true (eqb-false _ _ (sym w.value-is ∙ c.if-from-eq-RECORD_WORDS.false))
  | else-word-eq-TABLE_MARK w ↦ w.value-is ∙ ne_eqb _ _ w.if-word-eq-TABLE_MARK.false ∙ full-mark c.args.file.now c.args.p c.word.result _ c.args.total c.word.ensures refl c.requires.0 w.if-word-eq-TABLE_MARK.false
]
