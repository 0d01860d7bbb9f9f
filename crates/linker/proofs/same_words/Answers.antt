-- `linker::same_words` meets its contract.
use mathlib.Core.Path.{sym, ◌∙◌}
use native.Mathlib.Omega.{arith}
use Rattle.machine.specs.Bytes.{words_of}
use Rattle.linker.proofs.Placing.{left-next, left_other, left-none, left-all}
use Rattle.linker.proofs.same_words.Goals as goal

pub loop-i-init : goal.loop-i-init
loop-i-init c = let a = c.args in sym (left-all (words_of a.words.now) a.p a.q a.n)

pub returns-then-word : goal.returns-then-word
returns-then-word c =
    let a = c.args in
    sym (c.loop-i.invariant ∙ left_other (words_of a.words.now) a.p a.q a.n c.loop-i.i (omega arith) (λ e. c.if-word.true (c.word.ensures ∙ e ∙ sym c.word-in-loop-i.ensures)))

pub loop-i-preserved : goal.loop-i-preserved
loop-i-preserved c =
    let a = c.args in
    c.loop-i.invariant ∙ left-next (words_of a.words.now) a.p a.q a.n c.loop-i.i (omega arith) (sym c.word.ensures ∙ c.if-word.false ∙ c.word-in-loop-i.ensures)

pub returns : goal.returns
returns c =
    let a = c.args in
    sym (c.loop-i.invariant ∙ left-none (words_of a.words.now) a.p a.q a.n c.loop-i.i (omega arith))
