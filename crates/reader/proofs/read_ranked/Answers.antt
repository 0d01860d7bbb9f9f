-- `reader::read_ranked` meets its contract.
use Rattle.std.proofs.lemmas.Result.{err_from_is_err_and}
use Rattle.reader.proofs.Laws.{not_none}
use mathlib.Core.Path.{refl}
use native.Mathlib.Omega.{arith}
use Rattle.reader.proofs.Laws.{ends, goes, stops}
use Rattle.syntax.specs.Actions.{a_ranked}
use Rattle.reader.proofs.read_ranked.Goals as goal

pub returns-in_err-r : goal.returns-in_err-r
unfolding a_ranked
returns-in_err-r c = let p = err_from_is_err_and c.from_residual.result c.from_residual.ensures.1 in rw (p.1, p.2) (record { low = omega (arith, c.in_err-r.ensures.reads.low, c.in_err-r.ensures.reads.high); high = omega (arith, c.in_err-r.ensures.reads.low, c.in_err-r.ensures.reads.high); tells = λ s k h. stops _ (c.in_err-r.ensures.reads.tells k (omega (arith, c.in_err-r.ensures.reads.low, c.in_err-r.ensures.reads.high))) (not_none _) })

pub returns-in_err-s : goal.returns-in_err-s
unfolding a_ranked
returns-in_err-s c = let p = err_from_is_err_and c.from_residual-in_err-s.result c.from_residual-in_err-s.ensures.1 in rw (p.1, p.2) (record { low = omega (arith, c.in_ok-r.ensures.reads.low, c.in_ok-r.ensures.reads.high, c.in_ok-r.ensures.past refl, c.in_err-s.ensures.low, c.in_err-s.ensures.high); high = omega (arith, c.in_ok-r.ensures.reads.low, c.in_ok-r.ensures.reads.high, c.in_ok-r.ensures.past refl, c.in_err-s.ensures.low, c.in_err-s.ensures.high); tells = λ s k h. goes _ (c.in_ok-r.ensures.reads.tells k (omega (arith, c.in_ok-r.ensures.reads.low, c.in_ok-r.ensures.reads.high, c.in_ok-r.ensures.past refl, c.in_err-s.ensures.low, c.in_err-s.ensures.high))) refl (λ a. stops _ (c.in_err-s.ensures.tells k (omega (arith, c.in_ok-r.ensures.reads.low, c.in_ok-r.ensures.reads.high, c.in_ok-r.ensures.past refl, c.in_err-s.ensures.low, c.in_err-s.ensures.high))) (not_none _)) })

pub returns : goal.returns
unfolding a_ranked
returns c = record { low = omega (arith, c.in_ok-r.ensures.reads.low, c.in_ok-r.ensures.reads.high, c.in_ok-r.ensures.past refl, c.in_ok-s.ensures.low, c.in_ok-s.ensures.high); high = omega (arith, c.in_ok-r.ensures.reads.low, c.in_ok-r.ensures.reads.high, c.in_ok-r.ensures.past refl, c.in_ok-s.ensures.low, c.in_ok-s.ensures.high); tells = λ s k h. goes _ (c.in_ok-r.ensures.reads.tells k (omega (arith, c.in_ok-r.ensures.reads.low, c.in_ok-r.ensures.reads.high, c.in_ok-r.ensures.past refl, c.in_ok-s.ensures.low, c.in_ok-s.ensures.high))) refl (λ a. goes _ (c.in_ok-s.ensures.tells k (omega (arith, c.in_ok-r.ensures.reads.low, c.in_ok-r.ensures.reads.high, c.in_ok-r.ensures.past refl, c.in_ok-s.ensures.low, c.in_ok-s.ensures.high))) refl (λ b. ends _ (c.read_name-2.ensures.reads.tells k (omega (arith, c.in_ok-r.ensures.reads.low, c.in_ok-r.ensures.reads.high, c.in_ok-r.ensures.past refl, c.in_ok-s.ensures.low, c.in_ok-s.ensures.high))))) }
