-- `reader::read_section` meets its contract.
use native.Mathlib.Omega.{arith}
use Rattle.reader.proofs.Laws.{apart, no-with, passes-with, yes-with}
use Rattle.reader.specs.Counting.{error_section, output_section, type_section}
use Rattle.syntax.specs.Sections.{a_section}
use Rattle.reader.proofs.read_section.Goals as goal

pub returns-in-260 : goal.returns-in-260
unfolding a_section output_section error_section type_section
returns-in-260 c = record { low = omega arith; high = omega arith; past = λ e. omega (arith, c.read_tokens.ensures.past e); brings = λ s q k h. yes-with _ _ _ c.look-w.ensures c.in-260.is (passes-with _ c.look-w.ensures (omega arith) (c.read_tokens.ensures.brings s q k (omega (arith, c.look-w.ensures.moves (omega arith))))) }

pub returns-in-261 : goal.returns-in-261
unfolding a_section output_section error_section type_section
returns-in-261 c = record { low = omega arith; high = omega arith; past = λ e. omega (arith, c.read_outputs.ensures.past e); brings = λ s q k h. no-with _ _ _ c.look-w.ensures (λ e. apart 261 260 c.in-261.is e tt) (yes-with _ _ _ c.look-w.ensures c.in-261.is (passes-with _ c.look-w.ensures (omega arith) (c.read_outputs.ensures.brings s q k (omega (arith, c.look-w.ensures.moves (omega arith)))))) }

pub returns-in-262 : goal.returns-in-262
unfolding a_section output_section error_section type_section
returns-in-262 c = record { low = omega arith; high = omega arith; past = λ e. omega (arith, c.read_errors.ensures.past e); brings = λ s q k h. no-with _ _ _ c.look-w.ensures (λ e. apart 262 260 c.in-262.is e tt) (no-with _ _ _ c.look-w.ensures (λ e. apart 262 261 c.in-262.is e tt) (yes-with _ _ _ c.look-w.ensures c.in-262.is (passes-with _ c.look-w.ensures (omega arith) (c.read_errors.ensures.brings s q k (omega (arith, c.look-w.ensures.moves (omega arith))))))) }

pub returns-in-263 : goal.returns-in-263
unfolding a_section output_section error_section type_section
returns-in-263 c = record { low = omega arith; high = omega arith; past = λ e. omega (arith, c.read_types.ensures.past e); brings = λ s q k h. no-with _ _ _ c.look-w.ensures (λ e. apart 263 260 c.in-263.is e tt) (no-with _ _ _ c.look-w.ensures (λ e. apart 263 261 c.in-263.is e tt) (no-with _ _ _ c.look-w.ensures (λ e. apart 263 262 c.in-263.is e tt) (yes-with _ _ _ c.look-w.ensures c.in-263.is (passes-with _ c.look-w.ensures (omega arith) (c.read_types.ensures.brings s q k (omega (arith, c.look-w.ensures.moves (omega arith)))))))) }

pub returns-in_default : goal.returns-in_default
unfolding a_section output_section error_section type_section
returns-in_default c = record { low = omega arith; high = omega arith; past = λ e. c.read_other.ensures.past e; brings = λ s q k h. no-with _ _ _ c.look-w.ensures c.in_default.in_default-own.rest.0.0.0.1 (no-with _ _ _ c.look-w.ensures c.in_default.in_default-own.rest.0.0.1 (no-with _ _ _ c.look-w.ensures c.in_default.in_default-own.rest.0.1 (no-with _ _ _ c.look-w.ensures c.in_default.in_default-own.rest.1 (c.read_other.ensures.brings s q k h)))) }
