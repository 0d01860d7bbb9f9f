-- `Registers::input` meets its contract.
use mathlib.Core.Path.{◌≡◌, sym, ◌∙◌}
use native.Mathlib.Omega.{arith}
use Prim.Native.Nat.{◌≤◌, ◌<◌}
use borrow.Author.Tests.{lt-ltb, le-ltb, eq-eqb, ne_eqb}
use Rattle.machine.specs.Bytes.{count, word_at}
use Rattle.walker.specs.Shape.{input_of}
use Rattle.walker.proofs.Laws.{inside, behind}
use Rattle.walker.proofs.Registers.input.Goals.{else-k-count_words-via-then-k-count_words+else-word, else-k-count_words-via-else-k-count_words}
use Rattle.walker.proofs.Registers.input.Goals as goal

pub returns-then-n-loc : goal.returns-then-n-loc
returns-then-n-loc c = simp (behind c.args.self.location c.if-n-loc.true c.requires.0 c.requires.2)

pub read_token-requires : goal.read_token-requires
unfolding count
read_token-requires c = simp c.moved.ensures (omega (arith, c.well_formed, c.count_words.ensures))

pub returns-then-word : goal.returns-then-word
unfolding input_of
returns-then-word c =
    let a = c.args in
    let h : a.self.read < count a.tokens.now = omega (arith, c.count_words.ensures, c.if-k-count_words.true) in
    let e : word_at a.tokens.now a.self.read ≡ word_at a.t.now a.self.location = sym c.word.ensures ∙ c.if-word.true ∙ c.word-then-k-count_words.ensures in
    simp (inside c.args.self.location c.if-n-loc.false c.requires.0 c.requires.2, lt-ltb _ _ h, eq-eqb _ _ e, c.read_token.ensures, c.moved.ensures, c.requires.2)

pub returns-else-k-count_words : goal.returns-else-k-count_words
unfolding input_of
returns-else-k-count_words c =
    let a = c.args in
    elim c.else-k-count_words.branch [
      | else-k-count_words-via-then-k-count_words+else-word w ↦
          let h : a.self.read < count a.tokens.now = omega (arith, c.count_words.ensures, w.if-k-count_words.true) in
          simp (inside c.args.self.location c.if-n-loc.false c.requires.0 c.requires.2, lt-ltb _ _ h, ne_eqb (word_at a.tokens.now a.self.read) (word_at a.t.now a.self.location) (λ e. w.if-word.false (w.word.ensures ∙ e ∙ sym w.word-then-k-count_words.ensures)), c.mend.ensures)
      | else-k-count_words-via-else-k-count_words w ↦
          let h : count a.tokens.now ≤ a.self.read = omega (arith, c.count_words.ensures, w.if-k-count_words.false) in
          simp (inside c.args.self.location c.if-n-loc.false c.requires.0 c.requires.2, le-ltb _ _ h, c.mend.ensures)
    ]
