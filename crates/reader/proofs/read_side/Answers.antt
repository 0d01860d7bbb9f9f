-- `reader::read_side` meets its contract.
use mathlib.Core.Bool.{false≢true}
use mathlib.Core.Path.{refl, sym, ◌∙◌}
use native.Mathlib.Omega.{arith}
use Rattle.reader.proofs.Laws.{one-or-two-not}
use Rattle.reader.proofs.SectionLaws.{side-none, side_left, side_right, side-neither}
use Rattle.reader.proofs.read_side.Goals.{then-spelt, else-spelt}
use Rattle.reader.proofs.read_side.Goals as goal

pub returns-then-w-ne-NAME : goal.returns-then-w-ne-NAME
returns-then-w-ne-NAME c = record { reads = record { low = omega arith; high = omega arith; tells = λ k h. side-none c.look-w.ensures c.if-w-ne-NAME.true c.refused.ensures }; past = λ e. absurd (one-or-two-not c.look-w.result.kind (sym c.refused.ensures.number ∙ e)) }

pub returns-then-spelt-2 : goal.returns-then-spelt-2
returns-then-spelt-2 c =
    record {
      reads = record {
        low = omega arith;
        high = omega arith;
        tells = λ k h. elim c.if-spelt.branch [
          | then-spelt w ↦ side_left c.look-w.ensures c.if-w-ne-NAME.false (sym c.spelt.ensures ∙ w.if-spelt.true) refl refl
          | else-spelt w ↦ side_right c.look-w.ensures c.if-w-ne-NAME.false (sym c.spelt.ensures ∙ w.if-spelt.false) (sym w.spelt-else-spelt.ensures ∙ sym w.value-is ∙ c.if-spelt-2.true) refl refl
        ];
      };
      past = λ e. omega (arith, c.look-w.ensures.moves (omega arith));
    }

pub returns-else-spelt-2 : goal.returns-else-spelt-2
returns-else-spelt-2 c =
    record {
      reads = record {
        low = omega arith;
        high = omega arith;
        tells = λ k h. elim c.if-spelt.branch [
          | then-spelt w ↦ absurd (false≢true (sym c.if-spelt-2.false ∙ w.value-is ∙ w.if-spelt.true))
          | else-spelt w ↦ side-neither c.look-w.ensures c.if-w-ne-NAME.false (sym c.spelt.ensures ∙ w.if-spelt.false) (sym w.spelt-else-spelt.ensures ∙ sym w.value-is ∙ c.if-spelt-2.false) c.refused-else-spelt-2.ensures
        ];
      };
      past = λ e. absurd (one-or-two-not c.look-w.result.kind (sym c.refused-else-spelt-2.ensures.number ∙ e));
    }
