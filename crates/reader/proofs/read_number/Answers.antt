-- `reader::read_number` meets its contract.
use mathlib.Core.Path.{refl, sym, ◌∙◌}
use native.Mathlib.Omega.{arith}
use Rattle.reader.proofs.Laws.{faulty, no, one-or-two-not, refuses, yes, yes-with}
use Rattle.reader.proofs.SectionLaws.{small-got, small-over}
use Rattle.syntax.specs.Reading.{a_number}
use Rattle.reader.proofs.read_number.Goals as goal

pub returns-then-w-ne-NUMBER : goal.returns-then-w-ne-NUMBER
unfolding a_number
returns-then-w-ne-NUMBER c = record { yields = record { low = omega arith; high = omega arith; past = λ e. absurd (one-or-two-not c.look-w.result.kind (sym c.refused.ensures.number ∙ e)); brings = λ k h. faulty (no _ _ _ c.look-w.ensures c.if-w-ne-NUMBER.true (refuses c.look-w.ensures c.refused.ensures)) (λ e. one-or-two-not c.look-w.result.kind (sym c.refused.ensures.number ∙ e)) }; small = omega arith }

pub returns-then-n-gt-GREATEST_VALUE : goal.returns-then-n-gt-GREATEST_VALUE
unfolding a_number
returns-then-n-gt-GREATEST_VALUE c = record { yields = record { low = omega arith; high = omega arith; past = λ e. absurd (omega arith); brings = λ k h. faulty (yes _ _ _ c.look-w.ensures c.if-w-ne-NUMBER.false (small-over c.look-w.ensures (c.number_of-n.ensures.past c.if-n-gt-GREATEST_VALUE.true) c.over.ensures)) (λ e. omega arith) }; small = omega arith }

pub returns : goal.returns
unfolding a_number
returns c = record { yields = record { low = omega arith; high = omega arith; past = λ e. omega (arith, c.look-w.ensures.moves (omega arith)); brings = λ k h. yes-with _ _ _ c.look-w.ensures c.if-w-ne-NUMBER.false (small-got _ c.look-w.ensures (omega arith) (c.number_of-n.ensures.exact c.if-n-gt-GREATEST_VALUE.false) c.if-n-gt-GREATEST_VALUE.false refl refl) }; small = omega arith }
