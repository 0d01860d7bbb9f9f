-- `loader::file_words` meets its contract.
use mathlib.Core.Path.{◌∙◌}
use native.Mathlib.Omega.{arith}
use Rattle.loader.proofs.Filing.{odd-file, first-file, second-file, length-file, verdict_file, records-file, whole-file}
use Rattle.loader.proofs.file_words.Goals as goal
use Rattle.loader.proofs.file_words.Goals.{then-file-ne0-via-then-file-ne0, then-file-ne0-via-else-file-ne0+then-word-ne-HEAD_MARK, then-file-ne0-via-else-file-ne0+else-word-ne-HEAD_MARK+then-word-ne-HEAD_WORDS, then-n-eq0-via-then-n-eq0, then-n-eq0-via-else-n-eq0+then-n-gt-TABLE_WORDS, then-n-eq0-via-else-n-eq0+else-n-gt-TABLE_WORDS+then-word-gt1}

pub returns-then-file-ne0 : goal.returns-then-file-ne0
returns-then-file-ne0 c = elim c.then-file-ne0.branch [
  | then-file-ne0-via-then-file-ne0 w ↦ odd-file c.args.file.now w.if-file-ne0.true
  | then-file-ne0-via-else-file-ne0+then-word-ne-HEAD_MARK w ↦ first-file c.args.file.now w.word.result w.word.ensures w.if-word-ne-HEAD_MARK.true
  | then-file-ne0-via-else-file-ne0+else-word-ne-HEAD_MARK+then-word-ne-HEAD_WORDS w ↦ second-file c.args.file.now w.word-else-word-ne-HEAD_MARK.result w.word-else-word-ne-HEAD_MARK.ensures w.if-word-ne-HEAD_WORDS.true
]

pub returns-then-n-eq0 : goal.returns-then-n-eq0
returns-then-n-eq0 c = elim c.then-n-eq0.branch [
  | then-n-eq0-via-then-n-eq0 w ↦ length-file c.args.file.now c.from-n.result (c.from-n.ensures ∙ c.word-2.ensures) (λ a b. omega (arith, w.if-n-eq0.true, a))
  | then-n-eq0-via-else-n-eq0+then-n-gt-TABLE_WORDS w ↦ length-file c.args.file.now c.from-n.result (c.from-n.ensures ∙ c.word-2.ensures) (λ a b. omega (arith, w.if-n-gt-TABLE_WORDS.true, b))
  | then-n-eq0-via-else-n-eq0+else-n-gt-TABLE_WORDS+then-word-gt1 w ↦ verdict_file c.args.file.now w.word-else-n-gt-TABLE_WORDS.result w.word-else-n-gt-TABLE_WORDS.ensures w.if-word-gt1.true
]

pub returns-then-are_records : goal.returns-then-are_records
returns-then-are_records c = whole-file c.args.file.now c.word.result c.word-else-word-ne-HEAD_MARK.result c.from-n.result c.word-else-n-gt-TABLE_WORDS.result c.are_records.result (λ i. omega (arith, c.shared_slice_known-1.given i)) c.if-file-ne0.false c.word.ensures c.if-word-ne-HEAD_MARK.false c.word-else-word-ne-HEAD_MARK.ensures c.if-word-ne-HEAD_WORDS.false (c.from-n.ensures ∙ c.word-2.ensures) c.if-n-eq0.false c.if-n-gt-TABLE_WORDS.false c.word-else-n-gt-TABLE_WORDS.ensures c.if-word-gt1.false c.are_records.ensures c.if-are_records.true

pub returns-else-are_records : goal.returns-else-are_records
returns-else-are_records c = records-file c.args.file.now c.from-n.result c.are_records.result (c.from-n.ensures ∙ c.word-2.ensures) c.are_records.ensures c.if-are_records.false
