-- `linker::same_name` meets its contract.
use mathlib.Core.Path.{sym, ◌∙◌}
use borrow.Author.Tests.{ne_eqb}
use Rattle.machine.specs.Bytes.{words_of}
use Rattle.linker.proofs.Placing.{unlike-names, like-names}
use Rattle.linker.proofs.same_name.Goals as goal

pub returns-then-n-word : goal.returns-then-n-word
returns-then-n-word c = let a = c.args in like-names (words_of a.words.now) a.p a.q c.from.ensures c.word-n.ensures (c.from.ensures ∙ c.if-n-word.true ∙ c.word.ensures) c.same_words.ensures

pub returns-else-n-word : goal.returns-else-n-word
returns-else-n-word c = let a = c.args in ne_eqb _ _ c.if-n-word.false ∙ sym (unlike-names (words_of a.words.now) a.p a.q (λ e. c.if-n-word.false (c.word-n.ensures ∙ e ∙ sym c.word.ensures)))
