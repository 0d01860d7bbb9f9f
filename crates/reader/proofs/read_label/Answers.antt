-- `reader::read_label` meets its contract.
use mathlib.Core.Path.{refl, sym, ◌∙◌}
use native.Mathlib.Omega.{arith}
use Rattle.reader.proofs.Laws.{above, no, one-or-two-not, overs, passed, refuses, shorts, under, yes, long}
use Rattle.syntax.specs.Actions.{a_label}
use Rattle.reader.proofs.read_label.Goals as goal

pub returns-then-room-eq0 : goal.returns-then-room-eq0
unfolding a_label
returns-then-room-eq0 c = record { reads = record { low = omega arith; high = omega arith; tells = λ k h. yes _ _ _ c.look-w.ensures c.if-w-eq-STRING.true (above _ _ _ c.if-room-eq0.true (overs c.look-w.ensures c.over.ensures)) }; past = λ e. absurd (omega arith); some = λ e. absurd (omega arith); dry = λ e. absurd (omega (arith, c.look-w.ensures.moves (omega arith))) }

pub returns-then-w-eq-STRING : goal.returns-then-w-eq-STRING
unfolding a_label
returns-then-w-eq-STRING c = record { reads = record { low = omega arith; high = omega arith; tells = λ k h. yes _ _ _ c.look-w.ensures c.if-w-eq-STRING.true (under _ _ _ c.if-room-eq0.false (passed c.look-w.ensures (omega arith) refl refl)) }; past = λ e. omega (arith, c.look-w.ensures.moves (omega arith)); some = λ e. omega (arith, c.if-room-eq0.false); dry = λ e. absurd (omega (arith, c.look-w.ensures.moves (omega arith))) }

pub returns-then-w-ne-NAME : goal.returns-then-w-ne-NAME
unfolding a_label
returns-then-w-ne-NAME c = record { reads = record { low = omega arith; high = omega arith; tells = λ k h. no _ _ _ c.look-w.ensures c.if-w-eq-STRING.false (no _ _ _ c.look-w.ensures c.if-w-ne-NAME.true (refuses c.look-w.ensures c.refused.ensures)) }; past = λ e. absurd (one-or-two-not c.look-w.result.kind (sym c.refused.ensures.number ∙ e)); some = λ e. absurd (one-or-two-not c.look-w.result.kind (sym c.refused.ensures.number ∙ e)); dry = λ e. refuses c.look-w.ensures c.refused.ensures }

pub returns-then-room-eq0-2 : goal.returns-then-room-eq0-2
unfolding a_label
returns-then-room-eq0-2 c = record { reads = record { low = omega arith; high = omega arith; tells = λ k h. no _ _ _ c.look-w.ensures c.if-w-eq-STRING.false (yes _ _ _ c.look-w.ensures c.if-w-ne-NAME.false (above _ _ _ c.if-room-eq0-2.true (overs c.look-w.ensures c.over-then-room-eq0-2.ensures))) }; past = λ e. absurd (omega arith); some = λ e. absurd (omega arith); dry = λ e. absurd (omega (arith, c.look-w.ensures.moves (omega arith))) }

pub returns-then-w-gt-WORD_BYTES : goal.returns-then-w-gt-WORD_BYTES
unfolding a_label
returns-then-w-gt-WORD_BYTES c = record { reads = record { low = omega arith; high = omega arith; tells = λ k h. no _ _ _ c.look-w.ensures c.if-w-eq-STRING.false (yes _ _ _ c.look-w.ensures c.if-w-ne-NAME.false (under _ _ _ c.if-room-eq0-2.false (long c.look-w.ensures c.if-w-gt-WORD_BYTES.true c.over-then-w-gt-WORD_BYTES.ensures))) }; past = λ e. absurd (omega arith); some = λ e. absurd (omega arith); dry = λ e. absurd (omega (arith, c.look-w.ensures.moves (omega arith))) }

pub returns : goal.returns
unfolding a_label
returns c = record { reads = record { low = omega arith; high = omega arith; tells = λ k h. no _ _ _ c.look-w.ensures c.if-w-eq-STRING.false (yes _ _ _ c.look-w.ensures c.if-w-ne-NAME.false (under _ _ _ c.if-room-eq0-2.false (shorts c.look-w.ensures (omega arith) c.if-w-gt-WORD_BYTES.false refl refl))) }; past = λ e. omega (arith, c.look-w.ensures.moves (omega arith)); some = λ e. omega (arith, c.if-room-eq0-2.false); dry = λ e. absurd (omega (arith, c.look-w.ensures.moves (omega arith))) }
