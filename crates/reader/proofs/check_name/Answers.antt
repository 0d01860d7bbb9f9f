-- `reader::check_name` meets its contract.
use mathlib.Core.Path.{refl, sym, ◌∙◌}
use native.Mathlib.Omega.{arith}
use Rattle.reader.proofs.Laws.{no, one-or-two-not, refuses, shorts, yes, long}
use Rattle.syntax.specs.Reading.{a_name}
use Rattle.reader.proofs.check_name.Goals as goal

pub returns-then-w-ne-NAME : goal.returns-then-w-ne-NAME
unfolding a_name
returns-then-w-ne-NAME c = λ text at h. record { reads = record { low = omega arith; high = omega arith; tells = λ k l. no _ _ _ h c.if-w-ne-NAME.true (refuses h c.refused.ensures) }; past = λ e. absurd (one-or-two-not c.args.w.kind (sym c.refused.ensures.number ∙ e)) }

pub returns-then-w-gt-WORD_BYTES : goal.returns-then-w-gt-WORD_BYTES
unfolding a_name
returns-then-w-gt-WORD_BYTES c = λ text at h. record { reads = record { low = omega arith; high = omega arith; tells = λ k l. yes _ _ _ h c.if-w-ne-NAME.false (long h c.if-w-gt-WORD_BYTES.true c.over.ensures) }; past = λ e. absurd (omega arith) }

pub returns : goal.returns
unfolding a_name
returns c = λ text at h. record { reads = record { low = omega arith; high = omega arith; tells = λ k l. yes _ _ _ h c.if-w-ne-NAME.false (shorts h (omega arith) c.if-w-gt-WORD_BYTES.false refl refl) }; past = λ e. omega (arith, h.moves (omega arith)) }
