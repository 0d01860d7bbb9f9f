-- `reader::read_errors` meets its contract.
use Rattle.reader.proofs.Laws.{faulty}
use Rattle.reader.proofs.Laws.{not_none}
use Rattle.std.proofs.lemmas.Result.{err_from_is_err_and}
use mathlib.Core.Path.{refl}
use native.Mathlib.Omega.{arith}
use Rattle.reader.proofs.SectionLaws.{errors-read}
use Rattle.reader.specs.Counting.{error_section}
use Rattle.reader.proofs.read_errors.Goals as goal

pub returns : goal.returns
unfolding error_section
returns c = record { low = omega (arith, c.in_ok-e.ensures.low, c.in_ok-e.ensures.high, c.in_ok-e.ensures.past refl); high = omega (arith, c.in_ok-e.ensures.low, c.in_ok-e.ensures.high, c.in_ok-e.ensures.past refl); past = λ e. c.in_ok-e.ensures.past e; brings = λ s q k h. errors-read s c.args.state k _ _ _ _ q c.max-error.ensures (c.in_ok-e.ensures.brings k h) }

pub returns-in_err-e : goal.returns-in_err-e
unfolding error_section
returns-in_err-e c = let p = err_from_is_err_and c.from_residual.result c.from_residual.ensures.1 in rw (p.1, p.2) (record { low = omega (arith, c.in_err-e.ensures.low, c.in_err-e.ensures.high); high = omega (arith, c.in_err-e.ensures.low, c.in_err-e.ensures.high); past = λ e. absurd (not_none _ e); brings = λ s q k h. faulty (errors-read s c.args.state k 0 0 _ _ q refl (faulty (c.in_err-e.ensures.brings k h).tells (not_none _))).tells (not_none _) })
