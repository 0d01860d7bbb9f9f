-- `reader::read_level` meets its contract.
use mathlib.Core.Path.{refl, sym, ◌∙◌}
use native.Mathlib.Omega.{arith}
use Rattle.reader.proofs.Laws.{no, one-or-two-not, refuses, yes}
use Rattle.reader.proofs.SectionLaws.{level-zero, level-high, level-got, level-past}
use Rattle.syntax.specs.Sections.{a_level}
use Rattle.reader.proofs.read_level.Goals.{in_default-via-then-number_of-lt1, in_default-via-else-number_of-lt1+else-this-lt16}
use Rattle.reader.proofs.read_level.Goals as goal

pub returns-then-v-ne-NUMBER : goal.returns-then-v-ne-NUMBER
unfolding a_level
returns-then-v-ne-NUMBER c = record { reads = record { low = omega arith; high = omega arith; tells = λ k h. no _ _ _ c.look-v.ensures c.if-v-ne-NUMBER.true (refuses c.look-v.ensures c.refused.ensures) }; past = λ e. absurd (one-or-two-not c.look-v.result.kind (sym c.refused.ensures.number ∙ e)) }

pub returns-in-1-to-15 : goal.returns-in-1-to-15
unfolding a_level
returns-in-1-to-15 c =
    record {
      reads = record { low = omega arith; high = omega arith; tells = λ k h. yes _ _ _ c.look-v.ensures c.if-v-ne-NUMBER.false (level-got _ c.look-v.ensures (omega arith) (c.number_of.ensures.exact (grind arith)) (λ e. grind arith) (grind arith) refl refl) };
      past = λ e. omega (arith, c.look-v.ensures.moves (omega arith));
    }

pub returns-in_default : goal.returns-in_default
unfolding a_level
returns-in_default c =
    elim c.in_default.branch [
      | in_default-via-then-number_of-lt1 w ↦ record { reads = record { low = omega arith; high = omega arith; tells = λ k h. yes _ _ _ c.look-v.ensures c.if-v-ne-NUMBER.false (level-zero c.look-v.ensures (c.number_of.ensures.exact (grind arith) ∙ grind arith) c.over.ensures) }; past = λ e. absurd (omega arith) }
      | in_default-via-else-number_of-lt1+else-this-lt16 w ↦ record { reads = record { low = omega arith; high = omega arith; tells = λ k h. yes _ _ _ c.look-v.ensures c.if-v-ne-NUMBER.false (level-high c.look-v.ensures (level-past _ _ c.number_of.ensures (grind arith)) c.over.ensures) }; past = λ e. absurd (omega arith) }
    ]
