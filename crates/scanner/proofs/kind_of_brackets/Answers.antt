-- `scanner::kind_of_brackets` meets its contract.
use mathlib.Core.Path.{refl, sym, ◌∙◌}
use Rattle.scanner.specs.Scanning.{brackets}
use Rattle.words.specs.Words.{kind_of}
use Rattle.scanner.proofs.kind_of_brackets.Goals as goal

pub returns-then-spelt : goal.returns-then-spelt
unfolding brackets kind_of
returns-then-spelt c = rw (sym c.spelt.ensures ∙ c.if-spelt.true) refl

pub returns-then-spelt-2 : goal.returns-then-spelt-2
unfolding brackets kind_of
returns-then-spelt-2 c = rw (sym c.spelt.ensures ∙ c.if-spelt.false, sym c.spelt-2.ensures ∙ c.if-spelt-2.true) refl

pub returns-then-spelt-3 : goal.returns-then-spelt-3
unfolding brackets kind_of
returns-then-spelt-3 c = rw (sym c.spelt.ensures ∙ c.if-spelt.false, sym c.spelt-2.ensures ∙ c.if-spelt-2.false, sym c.spelt-3.ensures ∙ c.if-spelt-3.true) refl

pub returns-then-spelt-4 : goal.returns-then-spelt-4
unfolding brackets kind_of
returns-then-spelt-4 c = rw (sym c.spelt.ensures ∙ c.if-spelt.false, sym c.spelt-2.ensures ∙ c.if-spelt-2.false, sym c.spelt-3.ensures ∙ c.if-spelt-3.false, sym c.spelt-4.ensures ∙ c.if-spelt-4.true) refl

pub returns : goal.returns
unfolding brackets kind_of
returns c = rw (sym c.spelt.ensures ∙ c.if-spelt.false, sym c.spelt-2.ensures ∙ c.if-spelt-2.false, sym c.spelt-3.ensures ∙ c.if-spelt-3.false, sym c.spelt-4.ensures ∙ c.if-spelt-4.false) refl
