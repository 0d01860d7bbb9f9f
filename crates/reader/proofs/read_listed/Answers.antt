-- `reader::read_listed` meets its contract.
use Rattle.std.proofs.lemmas.Result.{err_from_is_err_and}
use Rattle.reader.proofs.Laws.{not_none}
use mathlib.Core.Path.{refl}
use native.Mathlib.Omega.{arith}
use Rattle.reader.proofs.Laws.{any_value, faulty, goes_with, stops}
use Rattle.reader.specs.Counting.{listed}
use Rattle.reader.proofs.read_listed.Goals as goal

pub returns-in_err-c : goal.returns-in_err-c
unfolding listed
returns-in_err-c c = let p = err_from_is_err_and c.from_residual.result c.from_residual.ensures.1 in rw (p.1, p.2) (record { low = omega (arith, c.in_err-c.ensures.low, c.in_err-c.ensures.high); high = omega (arith, c.in_err-c.ensures.low, c.in_err-c.ensures.high); past = λ e. absurd ((not_none _) e); brings = λ k h. faulty (stops _ (c.in_err-c.ensures.tells k h) (not_none _)) (not_none _) })

pub returns : goal.returns
unfolding listed
returns c = record { low = omega (arith, c.in_ok-c.ensures.low, c.in_ok-c.ensures.high); high = omega (arith, c.in_ok-c.ensures.low, c.in_ok-c.ensures.high); past = λ e. omega (arith, c.in_ok-c.ensures.low, c.in_ok-c.ensures.high, c.read_entries.ensures.past e); brings = λ k h. goes_with _ (any_value (c.in_ok-c.ensures.tells k h)) refl (λ a _. c.read_entries.ensures.brings k (omega (arith, c.in_ok-c.ensures.low, c.in_ok-c.ensures.high))) }
