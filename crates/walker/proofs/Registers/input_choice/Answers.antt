-- `Registers::input_choice` meets its contract.
use mathlib.Core.Path.{◌≡◌, sym, ap, ◌∙◌}
use native.Mathlib.Omega.{arith}
use Prim.Native.Nat.{◌≤◌, ◌<◌}
use borrow.Author.Tests.{lt-ltb, le-ltb}
use Rattle.machine.specs.Bytes.{count, word_at}
use Rattle.walker.specs.Shape.{input_choice_of, take_input, choice_of}
use Rattle.walker.proofs.Laws.{inside, behind}
use Rattle.walker.proofs.Registers.input_choice.Goals as goal

pub returns-then-n-loc : goal.returns-then-n-loc
returns-then-n-loc c = simp (behind c.args.self.location c.if-n-loc.true c.requires.0 c.requires.2)

pub read_token-requires : goal.read_token-requires
unfolding count
read_token-requires c =
    simp (c.moved.ensures, c.with_result.ensures) (omega (arith, c.well_formed, c.count_words.ensures, c.if-k-count_words.true))

pub returns-in-Label : goal.returns-in-Label
unfolding input_choice_of take_input
returns-in-Label c =
    let a = c.args in
    let h : a.self.read < count a.tokens.now = omega (arith, c.count_words.ensures, c.if-k-count_words.true) in
    let g : choice_of a.t.now a.self.location (word_at a.tokens.now a.self.read) ≡ _ = sym (ap (choice_of a.t.now a.self.location) c.word-x.ensures) ∙ sym c.choice_target-g.ensures ∙ c.in-Label.is in
    simp (inside c.args.self.location c.if-n-loc.false c.requires.0 c.requires.2, lt-ltb _ _ h, g, c.read_token.ensures, c.moved.ensures, c.with_result.ensures, c.word-x.ensures)

pub returns-in-Otherwise : goal.returns-in-Otherwise
unfolding input_choice_of take_input
returns-in-Otherwise c =
    let a = c.args in
    let h : a.self.read < count a.tokens.now = omega (arith, c.count_words.ensures, c.if-k-count_words.true) in
    let g : choice_of a.t.now a.self.location (word_at a.tokens.now a.self.read) ≡ _ = sym (ap (choice_of a.t.now a.self.location) c.word-x.ensures) ∙ sym c.choice_target-g.ensures ∙ c.in-Otherwise.is in
    simp (inside c.args.self.location c.if-n-loc.false c.requires.0 c.requires.2, lt-ltb _ _ h, g, c.moved-in-Otherwise.ensures, c.with_result-in-Otherwise.ensures, c.word-x.ensures)

pub returns-in-Outside : goal.returns-in-Outside
unfolding input_choice_of take_input
returns-in-Outside c =
    let a = c.args in
    let h : a.self.read < count a.tokens.now = omega (arith, c.count_words.ensures, c.if-k-count_words.true) in
    let g : choice_of a.t.now a.self.location (word_at a.tokens.now a.self.read) ≡ _ = sym (ap (choice_of a.t.now a.self.location) c.word-x.ensures) ∙ sym c.choice_target-g.ensures ∙ c.in-Outside.is in
    simp (inside c.args.self.location c.if-n-loc.false c.requires.0 c.requires.2, lt-ltb _ _ h, g)

pub returns-else-k-count_words : goal.returns-else-k-count_words
unfolding input_choice_of
returns-else-k-count_words c =
    let a = c.args in
    let h : count a.tokens.now ≤ a.self.read = omega (arith, c.count_words.ensures, c.if-k-count_words.false) in
    simp (inside c.args.self.location c.if-n-loc.false c.requires.0 c.requires.2, le-ltb _ _ h, c.take_other.ensures, c.default_target.ensures)
