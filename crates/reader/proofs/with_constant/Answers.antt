-- `reader::with_constant` meets its contract.
use Rattle.std.proofs.lemmas.Result.{err_from_is_err_and}
use Rattle.reader.proofs.Laws.{not_none}
use mathlib.Core.Path.{refl}
use native.Mathlib.Omega.{arith}
use Rattle.reader.proofs.Laws.{ends, goes, stops}
use Rattle.reader.specs.Parts.{with_constant}
use Rattle.reader.proofs.with_constant.Goals as goal

pub returns-in_err-r : goal.returns-in_err-r
unfolding with_constant
returns-in_err-r c = let p = err_from_is_err_and c.from_residual.result c.from_residual.ensures.1 in rw (p.1, p.2) (let named = c.in_err-r.ensures _ _ c.requires in record { reads = record { low = omega (arith, (c.in_err-r.ensures _ _ c.requires).reads.low, (c.in_err-r.ensures _ _ c.requires).reads.high); high = omega (arith, (c.in_err-r.ensures _ _ c.requires).reads.low, (c.in_err-r.ensures _ _ c.requires).reads.high); tells = λ k h. stops _ (named.reads.tells k h) (not_none _) }; past = λ e. absurd ((not_none _) e) })

pub returns : goal.returns
unfolding with_constant
returns c = let named = c.in_ok-r.ensures _ _ c.requires in record { reads = record { low = omega (arith, (c.in_ok-r.ensures _ _ c.requires).reads.low, (c.in_ok-r.ensures _ _ c.requires).reads.high, (c.in_ok-r.ensures _ _ c.requires).past refl); high = omega (arith, (c.in_ok-r.ensures _ _ c.requires).reads.low, (c.in_ok-r.ensures _ _ c.requires).reads.high, (c.in_ok-r.ensures _ _ c.requires).past refl); tells = λ k h. goes _ (named.reads.tells k h) refl (λ a. ends _ (c.read_constant.ensures.tells k (omega (arith, (c.in_ok-r.ensures _ _ c.requires).reads.low, (c.in_ok-r.ensures _ _ c.requires).reads.high, (c.in_ok-r.ensures _ _ c.requires).past refl)))) }; past = λ e. omega (arith, (c.in_ok-r.ensures _ _ c.requires).reads.low, (c.in_ok-r.ensures _ _ c.requires).reads.high, (c.in_ok-r.ensures _ _ c.requires).past refl, named.past refl) }
