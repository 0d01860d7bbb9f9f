-- `reader::read_operator` meets its contract.
use Rattle.std.proofs.lemmas.Result.{err_from_is_err_and}
use Rattle.reader.proofs.Laws.{not_none}
use mathlib.Core.Path.{refl}
use native.Mathlib.Omega.{arith}
use Rattle.reader.proofs.Laws.{ends, goes, stops}
use Rattle.syntax.specs.Sections.{an_operator}
use Rattle.reader.proofs.read_operator.Goals as goal

pub returns-in_err-t : goal.returns-in_err-t
unfolding an_operator
returns-in_err-t c = let p = err_from_is_err_and c.from_residual.result c.from_residual.ensures.1 in rw (p.1, p.2) (record { reads = record { low = omega (arith, c.in_err-t.ensures.reads.low, c.in_err-t.ensures.reads.high); high = omega (arith, c.in_err-t.ensures.reads.low, c.in_err-t.ensures.reads.high); tells = λ k h. stops _ (c.in_err-t.ensures.reads.tells k h) (not_none _) }; past = λ e. absurd ((not_none _) e) })

pub returns-in_err-l : goal.returns-in_err-l
unfolding an_operator
returns-in_err-l c = let p = err_from_is_err_and c.from_residual-in_err-l.result c.from_residual-in_err-l.ensures.1 in rw (p.1, p.2) (record { reads = record { low = omega (arith, c.in_ok-t.ensures.reads.low, c.in_ok-t.ensures.reads.high, c.in_ok-t.ensures.past refl, c.in_err-l.ensures.reads.low, c.in_err-l.ensures.reads.high); high = omega (arith, c.in_ok-t.ensures.reads.low, c.in_ok-t.ensures.reads.high, c.in_ok-t.ensures.past refl, c.in_err-l.ensures.reads.low, c.in_err-l.ensures.reads.high); tells = λ k h. goes _ (c.in_ok-t.ensures.reads.tells k h) refl (λ a. stops _ (c.in_err-l.ensures.reads.tells k (omega (arith, c.in_ok-t.ensures.reads.low, c.in_ok-t.ensures.reads.high, c.in_ok-t.ensures.past refl, c.in_err-l.ensures.reads.low, c.in_err-l.ensures.reads.high))) (not_none _)) }; past = λ e. absurd ((not_none _) e) })

pub returns-in_err-s : goal.returns-in_err-s
unfolding an_operator
returns-in_err-s c = let p = err_from_is_err_and c.from_residual-in_err-s.result c.from_residual-in_err-s.ensures.1 in rw (p.1, p.2) (record { reads = record { low = omega (arith, c.in_ok-t.ensures.reads.low, c.in_ok-t.ensures.reads.high, c.in_ok-t.ensures.past refl, c.in_ok-l.ensures.reads.low, c.in_ok-l.ensures.reads.high, c.in_ok-l.ensures.past refl, c.in_err-s.ensures.reads.low, c.in_err-s.ensures.reads.high); high = omega (arith, c.in_ok-t.ensures.reads.low, c.in_ok-t.ensures.reads.high, c.in_ok-t.ensures.past refl, c.in_ok-l.ensures.reads.low, c.in_ok-l.ensures.reads.high, c.in_ok-l.ensures.past refl, c.in_err-s.ensures.reads.low, c.in_err-s.ensures.reads.high); tells = λ k h. goes _ (c.in_ok-t.ensures.reads.tells k h) refl (λ a. goes _ (c.in_ok-l.ensures.reads.tells k (omega (arith, c.in_ok-t.ensures.reads.low, c.in_ok-t.ensures.reads.high, c.in_ok-t.ensures.past refl, c.in_ok-l.ensures.reads.low, c.in_ok-l.ensures.reads.high, c.in_ok-l.ensures.past refl, c.in_err-s.ensures.reads.low, c.in_err-s.ensures.reads.high))) refl (λ b. stops _ (c.in_err-s.ensures.reads.tells k (omega (arith, c.in_ok-t.ensures.reads.low, c.in_ok-t.ensures.reads.high, c.in_ok-t.ensures.past refl, c.in_ok-l.ensures.reads.low, c.in_ok-l.ensures.reads.high, c.in_ok-l.ensures.past refl, c.in_err-s.ensures.reads.low, c.in_err-s.ensures.reads.high))) (not_none _))) }; past = λ e. absurd ((not_none _) e) })

pub returns : goal.returns
unfolding an_operator
returns c = record { reads = record { low = omega (arith, c.in_ok-t.ensures.reads.low, c.in_ok-t.ensures.reads.high, c.in_ok-t.ensures.past refl, c.in_ok-l.ensures.reads.low, c.in_ok-l.ensures.reads.high, c.in_ok-l.ensures.past refl, c.in_ok-s.ensures.reads.low, c.in_ok-s.ensures.reads.high, c.in_ok-s.ensures.past refl); high = omega (arith, c.in_ok-t.ensures.reads.low, c.in_ok-t.ensures.reads.high, c.in_ok-t.ensures.past refl, c.in_ok-l.ensures.reads.low, c.in_ok-l.ensures.reads.high, c.in_ok-l.ensures.past refl, c.in_ok-s.ensures.reads.low, c.in_ok-s.ensures.reads.high, c.in_ok-s.ensures.past refl); tells = λ k h. goes _ (c.in_ok-t.ensures.reads.tells k h) refl (λ a. goes _ (c.in_ok-l.ensures.reads.tells k (omega (arith, c.in_ok-t.ensures.reads.low, c.in_ok-t.ensures.reads.high, c.in_ok-t.ensures.past refl, c.in_ok-l.ensures.reads.low, c.in_ok-l.ensures.reads.high, c.in_ok-l.ensures.past refl, c.in_ok-s.ensures.reads.low, c.in_ok-s.ensures.reads.high, c.in_ok-s.ensures.past refl))) refl (λ b. goes _ (c.in_ok-s.ensures.reads.tells k (omega (arith, c.in_ok-t.ensures.reads.low, c.in_ok-t.ensures.reads.high, c.in_ok-t.ensures.past refl, c.in_ok-l.ensures.reads.low, c.in_ok-l.ensures.reads.high, c.in_ok-l.ensures.past refl, c.in_ok-s.ensures.reads.low, c.in_ok-s.ensures.reads.high, c.in_ok-s.ensures.past refl))) refl (λ d. ends _ (c.name_or_string-2.ensures.reads.tells k (omega (arith, c.in_ok-t.ensures.reads.low, c.in_ok-t.ensures.reads.high, c.in_ok-t.ensures.past refl, c.in_ok-l.ensures.reads.low, c.in_ok-l.ensures.reads.high, c.in_ok-l.ensures.past refl, c.in_ok-s.ensures.reads.low, c.in_ok-s.ensures.reads.high, c.in_ok-s.ensures.past refl)))))) }; past = λ e. omega (arith, c.in_ok-t.ensures.reads.low, c.in_ok-t.ensures.reads.high, c.in_ok-t.ensures.past refl, c.in_ok-l.ensures.reads.low, c.in_ok-l.ensures.reads.high, c.in_ok-l.ensures.past refl, c.in_ok-s.ensures.reads.low, c.in_ok-s.ensures.reads.high, c.in_ok-s.ensures.past refl, c.in_ok-t.ensures.past refl) }
