-- `loader::load` meets its contract.
use mathlib.Core.Path.{refl, sym, ap, ◌∙◌}
use native.Mathlib.Omega.{arith}
use Rattle.machine.specs.Bytes.{count, bytes_of, over}
use Rattle.loading.specs.File.{table_named}
use Rattle.buffers.specs.Words.{zeroed}
use Rattle.loader.proofs.Loading.{file_is, words_are, size_low, load-40, load-20, load-41, load-0, zeroed-length, taken-part}
use Rattle.loader.proofs.load.Goals as goal

pub returns-in_default : goal.returns-in_default
returns-in_default c = load-40 c.args.file.now c.args.table.now (sym c.in_default.is ∙ c.file_words-named.ensures) _ c.clear_words.ensures

pub returns-then-table-words : goal.returns-then-table-words
unfolding count
returns-then-table-words c = load-20 c.args.file.now c.args.table.now c.in-Some.words (sym c.in-Some.is ∙ c.file_words-named.ensures) (omega (arith, c.if-table-words.true, zeroed-length c.args.table.now _ c.clear_words.ensures)) _ c.clear_words.ensures

pub copy_words-requires : goal.copy_words-requires
copy_words-requires c = (file_is c.args.file.now c.args.table.now c.in-Some.words (sym c.in-Some.is ∙ c.file_words-named.ensures), words_are c.args.file.now c.args.table.now c.in-Some.words (sym c.in-Some.is ∙ c.file_words-named.ensures), size_low c.args.file.now c.in-Some.words (sym c.in-Some.is ∙ c.file_words-named.ensures), omega (arith, c.if-table-words.false))

pub returns-then-not-takes : goal.returns-then-not-takes
unfolding count
returns-then-not-takes c = load-41 c.args.file.now c.args.table.now c.in-Some.words (sym c.in-Some.is ∙ c.file_words-named.ensures) (omega (arith, c.if-table-words.false, zeroed-length c.args.table.now _ c.clear_words.ensures)) (sym (taken-part c.args.file.now _ _ c.in-Some.words c.takes.result c.takes.ensures c.copy_words.ensures (words_are c.args.file.now c.args.table.now c.in-Some.words (sym c.in-Some.is ∙ c.file_words-named.ensures)) (size_low c.args.file.now c.in-Some.words (sym c.in-Some.is ∙ c.file_words-named.ensures))) ∙ c.if-not-takes.true) _ (c.clear_words-then-not-takes.ensures ∙ ap zeroed (c.copy_words.ensures ∙ ap (over (bytes_of (table_named c.args.file.now))) c.clear_words.ensures))

pub returns : goal.returns
unfolding count
returns c = load-0 c.args.file.now c.args.table.now c.in-Some.words (sym c.in-Some.is ∙ c.file_words-named.ensures) (omega (arith, c.if-table-words.false, zeroed-length c.args.table.now _ c.clear_words.ensures)) (sym (taken-part c.args.file.now _ _ c.in-Some.words c.takes.result c.takes.ensures c.copy_words.ensures (words_are c.args.file.now c.args.table.now c.in-Some.words (sym c.in-Some.is ∙ c.file_words-named.ensures)) (size_low c.args.file.now c.in-Some.words (sym c.in-Some.is ∙ c.file_words-named.ensures))) ∙ c.if-not-takes.false) _ refl (c.from.ensures ∙ c.word.ensures) _ (c.copy_words.ensures ∙ ap (over (bytes_of (table_named c.args.file.now))) c.clear_words.ensures)
