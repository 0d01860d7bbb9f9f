-- `reader::read_parameter` meets its contract.
use Rattle.std.proofs.lemmas.Result.{err_from_is_err_and}
use Rattle.reader.proofs.Laws.{not_none}
use mathlib.Core.Path.{refl}
use native.Mathlib.Omega.{arith}
use Rattle.reader.proofs.Laws.{ends, gives, goes, no, passes, stops, yes}
use Rattle.syntax.specs.Sections.{a_parameter}
use Rattle.reader.proofs.read_parameter.Goals as goal

pub returns-then-w-ne-OPENING : goal.returns-then-w-ne-OPENING
unfolding a_parameter
returns-then-w-ne-OPENING c = record { low = omega arith; high = omega arith; tells = λ k h. no _ _ _ c.look-w.ensures c.if-w-ne-OPENING.true (gives refl) }

pub returns-in_err-r : goal.returns-in_err-r
unfolding a_parameter
returns-in_err-r c = let p = err_from_is_err_and c.from_residual.result c.from_residual.ensures.1 in rw (p.1, p.2) (record { low = omega (arith, c.in_err-r.ensures.reads.low, c.in_err-r.ensures.reads.high); high = omega (arith, c.in_err-r.ensures.reads.low, c.in_err-r.ensures.reads.high); tells = λ k h. yes _ _ _ c.look-w.ensures c.if-w-ne-OPENING.false (passes _ c.look-w.ensures (omega (arith, c.in_err-r.ensures.reads.low, c.in_err-r.ensures.reads.high)) (stops _ (c.in_err-r.ensures.reads.tells k (omega (arith, c.in_err-r.ensures.reads.low, c.in_err-r.ensures.reads.high))) (not_none _))) })

pub returns : goal.returns
unfolding a_parameter
returns c = record { low = omega (arith, c.in_ok-r.ensures.reads.low, c.in_ok-r.ensures.reads.high, c.in_ok-r.ensures.past refl); high = omega (arith, c.in_ok-r.ensures.reads.low, c.in_ok-r.ensures.reads.high, c.in_ok-r.ensures.past refl); tells = λ k h. yes _ _ _ c.look-w.ensures c.if-w-ne-OPENING.false (passes _ c.look-w.ensures (omega (arith, c.in_ok-r.ensures.reads.low, c.in_ok-r.ensures.reads.high, c.in_ok-r.ensures.past refl)) (goes _ (c.in_ok-r.ensures.reads.tells k (omega (arith, c.in_ok-r.ensures.reads.low, c.in_ok-r.ensures.reads.high, c.in_ok-r.ensures.past refl))) refl (λ t. ends _ (c.expect_word.ensures.tells k (omega (arith, c.in_ok-r.ensures.reads.low, c.in_ok-r.ensures.reads.high, c.in_ok-r.ensures.past refl)))))) }
