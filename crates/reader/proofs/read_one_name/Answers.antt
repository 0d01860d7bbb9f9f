-- `reader::read_one_name` meets its contract.
use mathlib.Core.Path.{refl, sym, ◌∙◌}
use native.Mathlib.Omega.{arith}
use Rattle.reader.proofs.Laws.{above, faulty, long, no, one-or-two-not, overs, refuses, under, yes, yes-with}
use Rattle.reader.proofs.SectionLaws.{shorts-with, under-with}
use Rattle.syntax.specs.Reading.{one_name}
use Rattle.reader.proofs.read_one_name.Goals as goal

pub returns-then-w-ne-NAME : goal.returns-then-w-ne-NAME
unfolding one_name
returns-then-w-ne-NAME c = record { yields = record { low = omega arith; high = omega arith; past = λ e. absurd (one-or-two-not c.look-w.result.kind (sym c.refused.ensures.number ∙ e)); brings = λ k h. faulty (no _ _ _ c.look-w.ensures c.if-w-ne-NAME.true (refuses c.look-w.ensures c.refused.ensures)) (λ e. one-or-two-not c.look-w.result.kind (sym c.refused.ensures.number ∙ e)) }; some = λ e. absurd (one-or-two-not c.look-w.result.kind (sym c.refused.ensures.number ∙ e)) }

pub returns-then-left-eq0 : goal.returns-then-left-eq0
unfolding one_name
returns-then-left-eq0 c = record { yields = record { low = omega arith; high = omega arith; past = λ e. absurd (omega arith); brings = λ k h. faulty (yes _ _ _ c.look-w.ensures c.if-w-ne-NAME.false (above _ _ _ c.if-left-eq0.true (overs c.look-w.ensures c.over.ensures))) (λ e. omega arith) }; some = λ e. absurd (omega arith) }

pub returns-then-w-gt-WORD_BYTES : goal.returns-then-w-gt-WORD_BYTES
unfolding one_name
returns-then-w-gt-WORD_BYTES c = record { yields = record { low = omega arith; high = omega arith; past = λ e. absurd (omega arith); brings = λ k h. faulty (yes _ _ _ c.look-w.ensures c.if-w-ne-NAME.false (under _ _ _ c.if-left-eq0.false (long c.look-w.ensures c.if-w-gt-WORD_BYTES.true c.over-then-w-gt-WORD_BYTES.ensures))) (λ e. omega arith) }; some = λ e. absurd (omega arith) }

pub returns : goal.returns
unfolding one_name
returns c = record { yields = record { low = omega arith; high = omega arith; past = λ e. omega (arith, c.look-w.ensures.moves (omega arith)); brings = λ k h. yes-with _ _ _ c.look-w.ensures c.if-w-ne-NAME.false (under-with _ _ _ c.if-left-eq0.false (shorts-with c.look-w.ensures (omega arith) c.if-w-gt-WORD_BYTES.false refl refl)) }; some = λ e. omega (arith, c.if-left-eq0.false) }
