-- `reader::read_plain` meets its contract.
use mathlib.Core.Path.{refl, sym, ◌∙◌}
use native.Mathlib.Omega.{arith}
use Rattle.reader.proofs.Laws.{apart, constants, ends, gives, no, one-or-two-not, passes, refuses, yes}
use Rattle.syntax.specs.Actions.{a_plain}
use Rattle.reader.proofs.read_plain.Goals as goal

pub returns-in-257 : goal.returns-in-257
unfolding a_plain
returns-in-257 c = record { reads = record { low = omega arith; high = omega arith; tells = λ k h. yes _ _ _ c.requires c.in-257.is (constants _ _ (c.with_constant.ensures.reads.tells k h)) }; past = λ e. c.with_constant.ensures.past e }

pub returns-in-259 : goal.returns-in-259
unfolding a_plain
returns-in-259 c = record { reads = record { low = omega arith; high = omega arith; tells = λ k h. no _ _ _ c.requires (λ e. apart 259 257 c.in-259.is e tt) (yes _ _ _ c.requires c.in-259.is (passes _ c.requires (omega arith) (ends _ (c.read_constant.ensures.tells k (omega arith))))) }; past = λ e. omega (arith, c.requires.moves (omega arith)) }

pub returns-in-63 : goal.returns-in-63
unfolding a_plain
returns-in-63 c = record { reads = record { low = omega arith; high = omega arith; tells = λ k h. no _ _ _ c.requires (λ e. apart 63 257 c.in-63.is e tt) (no _ _ _ c.requires (λ e. apart 63 259 c.in-63.is e tt) (yes _ _ _ c.requires c.in-63.is (passes _ c.requires (omega arith) (gives refl)))) }; past = λ e. omega (arith, c.requires.moves (omega arith)) }

pub returns-in-46 : goal.returns-in-46
unfolding a_plain
returns-in-46 c = record { reads = record { low = omega arith; high = omega arith; tells = λ k h. no _ _ _ c.requires (λ e. apart 46 257 c.in-46.is e tt) (no _ _ _ c.requires (λ e. apart 46 259 c.in-46.is e tt) (no _ _ _ c.requires (λ e. apart 46 63 c.in-46.is e tt) (yes _ _ _ c.requires c.in-46.is (passes _ c.requires (omega arith) (ends _ (c.name_or_string.ensures.reads.tells k (omega arith))))))) }; past = λ e. omega (arith, c.requires.moves (omega arith)) }

pub returns-in-35 : goal.returns-in-35
unfolding a_plain
returns-in-35 c = record { reads = record { low = omega arith; high = omega arith; tells = λ k h. no _ _ _ c.requires (λ e. apart 35 257 c.in-35.is e tt) (no _ _ _ c.requires (λ e. apart 35 259 c.in-35.is e tt) (no _ _ _ c.requires (λ e. apart 35 63 c.in-35.is e tt) (no _ _ _ c.requires (λ e. apart 35 46 c.in-35.is e tt) (yes _ _ _ c.requires c.in-35.is (passes _ c.requires (omega arith) (ends _ (c.name_or_string-in-35.ensures.reads.tells k (omega arith)))))))) }; past = λ e. omega (arith, c.requires.moves (omega arith)) }

pub returns-in-62 : goal.returns-in-62
unfolding a_plain
returns-in-62 c = record { reads = record { low = omega arith; high = omega arith; tells = λ k h. no _ _ _ c.requires (λ e. apart 62 257 c.in-62.is e tt) (no _ _ _ c.requires (λ e. apart 62 259 c.in-62.is e tt) (no _ _ _ c.requires (λ e. apart 62 63 c.in-62.is e tt) (no _ _ _ c.requires (λ e. apart 62 46 c.in-62.is e tt) (no _ _ _ c.requires (λ e. apart 62 35 c.in-62.is e tt) (yes _ _ _ c.requires c.in-62.is (passes _ c.requires (omega arith) (gives refl))))))) }; past = λ e. omega (arith, c.requires.moves (omega arith)) }

pub returns-in-64 : goal.returns-in-64
unfolding a_plain
returns-in-64 c = record { reads = record { low = omega arith; high = omega arith; tells = λ k h. no _ _ _ c.requires (λ e. apart 64 257 c.in-64.is e tt) (no _ _ _ c.requires (λ e. apart 64 259 c.in-64.is e tt) (no _ _ _ c.requires (λ e. apart 64 63 c.in-64.is e tt) (no _ _ _ c.requires (λ e. apart 64 46 c.in-64.is e tt) (no _ _ _ c.requires (λ e. apart 64 35 c.in-64.is e tt) (no _ _ _ c.requires (λ e. apart 64 62 c.in-64.is e tt) (yes _ _ _ c.requires c.in-64.is (passes _ c.requires (omega arith) (ends _ (c.read_name.ensures.reads.tells k (omega arith)))))))))) }; past = λ e. omega (arith, c.requires.moves (omega arith)) }

pub returns-in-256 : goal.returns-in-256
unfolding a_plain
returns-in-256 c = record { reads = record { low = omega arith; high = omega arith; tells = λ k h. no _ _ _ c.requires (λ e. apart 256 257 c.in-256.is e tt) (no _ _ _ c.requires (λ e. apart 256 259 c.in-256.is e tt) (no _ _ _ c.requires (λ e. apart 256 63 c.in-256.is e tt) (no _ _ _ c.requires (λ e. apart 256 46 c.in-256.is e tt) (no _ _ _ c.requires (λ e. apart 256 35 c.in-256.is e tt) (no _ _ _ c.requires (λ e. apart 256 62 c.in-256.is e tt) (no _ _ _ c.requires (λ e. apart 256 64 c.in-256.is e tt) (yes _ _ _ c.requires c.in-256.is (passes _ c.requires (omega arith) (ends _ (c.read_value.ensures.tells k (omega arith))))))))))) }; past = λ e. omega (arith, c.requires.moves (omega arith)) }

pub returns-in-94 : goal.returns-in-94
unfolding a_plain
returns-in-94 c = record { reads = record { low = omega arith; high = omega arith; tells = λ k h. no _ _ _ c.requires (λ e. apart 94 257 c.in-94.is e tt) (no _ _ _ c.requires (λ e. apart 94 259 c.in-94.is e tt) (no _ _ _ c.requires (λ e. apart 94 63 c.in-94.is e tt) (no _ _ _ c.requires (λ e. apart 94 46 c.in-94.is e tt) (no _ _ _ c.requires (λ e. apart 94 35 c.in-94.is e tt) (no _ _ _ c.requires (λ e. apart 94 62 c.in-94.is e tt) (no _ _ _ c.requires (λ e. apart 94 64 c.in-94.is e tt) (no _ _ _ c.requires (λ e. apart 94 256 c.in-94.is e tt) (yes _ _ _ c.requires c.in-94.is (passes _ c.requires (omega arith) (c.read_ranked.ensures.tells _ k (omega arith))))))))))) }; past = λ e. omega (arith, c.requires.moves (omega arith)) }

pub returns-in_default : goal.returns-in_default
unfolding a_plain
returns-in_default c = record { reads = record { low = omega arith; high = omega arith; tells = λ k h. no _ _ _ c.requires c.in_default.in_default-own.rest.0.0.0.0.0.0.0.0.1 (no _ _ _ c.requires c.in_default.in_default-own.rest.0.0.0.0.0.0.0.1 (no _ _ _ c.requires c.in_default.in_default-own.rest.0.0.0.0.0.0.1 (no _ _ _ c.requires c.in_default.in_default-own.rest.0.0.0.0.0.1 (no _ _ _ c.requires c.in_default.in_default-own.rest.0.0.0.0.1 (no _ _ _ c.requires c.in_default.in_default-own.rest.0.0.0.1 (no _ _ _ c.requires c.in_default.in_default-own.rest.0.0.1 (no _ _ _ c.requires c.in_default.in_default-own.rest.0.1 (no _ _ _ c.requires c.in_default.in_default-own.rest.1 (refuses c.requires c.refused.ensures))))))))) }; past = λ e. absurd (one-or-two-not c.args.w.kind (sym c.refused.ensures.number ∙ e)) }
