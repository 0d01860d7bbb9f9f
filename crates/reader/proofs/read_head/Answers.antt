-- `reader::read_head` meets its contract.
use Rattle.std.proofs.lemmas.Result.{err_from_is_err_and}
use Rattle.reader.proofs.Laws.{not_none}
use mathlib.Core.Path.{refl}
use native.Mathlib.Omega.{arith}
use Rattle.reader.proofs.Laws.{ends, goes, stops}
use Rattle.syntax.specs.Texts.{a_head}
use Rattle.reader.proofs.read_head.Goals as goal

pub returns-in_err-o : goal.returns-in_err-o
unfolding a_head
returns-in_err-o c = let p = err_from_is_err_and c.from_residual.result c.from_residual.ensures.1 in rw (p.1, p.2) (record { moves = record { reads = record { low = omega (arith, c.in_err-o.ensures.yields.low, c.in_err-o.ensures.yields.high); high = omega (arith, c.in_err-o.ensures.yields.low, c.in_err-o.ensures.yields.high); tells = λ k h. stops _ (c.in_err-o.ensures.yields.brings k h).tells (not_none _) }; past = λ e. absurd ((not_none _) e) }; some = λ e. absurd ((not_none _) e) })

pub returns-in_err-e : goal.returns-in_err-e
unfolding a_head
returns-in_err-e c = let p = err_from_is_err_and c.from_residual-in_err-e.result c.from_residual-in_err-e.ensures.1 in rw (p.1, p.2) (record { moves = record { reads = record { low = omega (arith, c.in_ok-o.ensures.yields.low, c.in_ok-o.ensures.yields.high, c.in_ok-o.ensures.yields.past refl, c.in_ok-o.ensures.some refl, c.in_err-e.ensures.low, c.in_err-e.ensures.high); high = omega (arith, c.in_ok-o.ensures.yields.low, c.in_ok-o.ensures.yields.high, c.in_ok-o.ensures.yields.past refl, c.in_ok-o.ensures.some refl, c.in_err-e.ensures.low, c.in_err-e.ensures.high); tells = λ k h. goes _ (c.in_ok-o.ensures.yields.brings k h).tells refl (λ w. stops _ (c.in_err-e.ensures.tells k (omega (arith, c.in_ok-o.ensures.yields.low, c.in_ok-o.ensures.yields.high, c.in_ok-o.ensures.yields.past refl, c.in_ok-o.ensures.some refl, c.in_err-e.ensures.low, c.in_err-e.ensures.high))) (not_none _)) }; past = λ e. absurd ((not_none _) e) }; some = λ e. absurd ((not_none _) e) })

pub returns-in_err-g : goal.returns-in_err-g
unfolding a_head
returns-in_err-g c = let p = err_from_is_err_and c.from_residual-in_err-g.result c.from_residual-in_err-g.ensures.1 in rw (p.1, p.2) (record { moves = record { reads = record { low = omega (arith, c.in_ok-o.ensures.yields.low, c.in_ok-o.ensures.yields.high, c.in_ok-o.ensures.yields.past refl, c.in_ok-o.ensures.some refl, c.in_ok-e.ensures.low, c.in_ok-e.ensures.high, c.in_err-g.ensures.reads.low, c.in_err-g.ensures.reads.high); high = omega (arith, c.in_ok-o.ensures.yields.low, c.in_ok-o.ensures.yields.high, c.in_ok-o.ensures.yields.past refl, c.in_ok-o.ensures.some refl, c.in_ok-e.ensures.low, c.in_ok-e.ensures.high, c.in_err-g.ensures.reads.low, c.in_err-g.ensures.reads.high); tells = λ k h. goes _ (c.in_ok-o.ensures.yields.brings k h).tells refl (λ w. goes _ (c.in_ok-e.ensures.tells k (omega (arith, c.in_ok-o.ensures.yields.low, c.in_ok-o.ensures.yields.high, c.in_ok-o.ensures.yields.past refl, c.in_ok-o.ensures.some refl, c.in_ok-e.ensures.low, c.in_ok-e.ensures.high, c.in_err-g.ensures.reads.low, c.in_err-g.ensures.reads.high))) refl (λ t. stops _ (c.in_err-g.ensures.reads.tells k (omega (arith, c.in_ok-o.ensures.yields.low, c.in_ok-o.ensures.yields.high, c.in_ok-o.ensures.yields.past refl, c.in_ok-o.ensures.some refl, c.in_ok-e.ensures.low, c.in_ok-e.ensures.high, c.in_err-g.ensures.reads.low, c.in_err-g.ensures.reads.high))) (not_none _))) }; past = λ e. absurd ((not_none _) e) }; some = λ e. absurd ((not_none _) e) })

pub returns : goal.returns
unfolding a_head
returns c = record { moves = record { reads = record { low = omega (arith, c.in_ok-o.ensures.yields.low, c.in_ok-o.ensures.yields.high, c.in_ok-o.ensures.yields.past refl, c.in_ok-o.ensures.some refl, c.in_ok-e.ensures.low, c.in_ok-e.ensures.high, c.in_ok-g.ensures.reads.low, c.in_ok-g.ensures.reads.high, c.in_ok-g.ensures.past refl); high = omega (arith, c.in_ok-o.ensures.yields.low, c.in_ok-o.ensures.yields.high, c.in_ok-o.ensures.yields.past refl, c.in_ok-o.ensures.some refl, c.in_ok-e.ensures.low, c.in_ok-e.ensures.high, c.in_ok-g.ensures.reads.low, c.in_ok-g.ensures.reads.high, c.in_ok-g.ensures.past refl); tells = λ k h. goes _ (c.in_ok-o.ensures.yields.brings k h).tells refl (λ w. goes _ (c.in_ok-e.ensures.tells k (omega (arith, c.in_ok-o.ensures.yields.low, c.in_ok-o.ensures.yields.high, c.in_ok-o.ensures.yields.past refl, c.in_ok-o.ensures.some refl, c.in_ok-e.ensures.low, c.in_ok-e.ensures.high, c.in_ok-g.ensures.reads.low, c.in_ok-g.ensures.reads.high, c.in_ok-g.ensures.past refl))) refl (λ t. goes _ (c.in_ok-g.ensures.reads.tells k (omega (arith, c.in_ok-o.ensures.yields.low, c.in_ok-o.ensures.yields.high, c.in_ok-o.ensures.yields.past refl, c.in_ok-o.ensures.some refl, c.in_ok-e.ensures.low, c.in_ok-e.ensures.high, c.in_ok-g.ensures.reads.low, c.in_ok-g.ensures.reads.high, c.in_ok-g.ensures.past refl))) refl (λ g. ends _ (c.expect_word-2.ensures.tells k (omega (arith, c.in_ok-o.ensures.yields.low, c.in_ok-o.ensures.yields.high, c.in_ok-o.ensures.yields.past refl, c.in_ok-o.ensures.some refl, c.in_ok-e.ensures.low, c.in_ok-e.ensures.high, c.in_ok-g.ensures.reads.low, c.in_ok-g.ensures.reads.high, c.in_ok-g.ensures.past refl)))))) }; past = λ e. omega (arith, c.in_ok-o.ensures.yields.low, c.in_ok-o.ensures.yields.high, c.in_ok-o.ensures.yields.past refl, c.in_ok-o.ensures.some refl, c.in_ok-e.ensures.low, c.in_ok-e.ensures.high, c.in_ok-g.ensures.reads.low, c.in_ok-g.ensures.reads.high, c.in_ok-g.ensures.past refl, c.in_ok-o.ensures.yields.past refl) }; some = λ e. c.in_ok-o.ensures.some refl }
