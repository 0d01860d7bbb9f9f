-- `reader::read_rule` meets its contract.
use Rattle.std.proofs.lemmas.Result.{err_from_is_err_and}
use Rattle.reader.proofs.Laws.{not_none}
use mathlib.Core.Path.{refl}
use Prim.Native.Nat.{suc}
use native.Mathlib.Omega.{arith}
use Rattle.reader.proofs.Laws.{ends, goes, stops}
use Rattle.syntax.specs.Parse.{a_rule}
use Rattle.reader.proofs.read_rule.Goals as goal

pub returns-in_err-o : goal.returns-in_err-o
unfolding a_rule
returns-in_err-o c = let p = err_from_is_err_and c.from_residual.result c.from_residual.ensures.1 in rw (p.1, p.2) (record { moves = record { reads = record { low = omega (arith, c.in_err-o.ensures.yields.low, c.in_err-o.ensures.yields.high); high = omega (arith, c.in_err-o.ensures.yields.low, c.in_err-o.ensures.yields.high); tells = λ k h. stops _ (c.in_err-o.ensures.yields.brings (suc k) (omega (arith, c.in_err-o.ensures.yields.low, c.in_err-o.ensures.yields.high))).tells (not_none _) }; past = λ e. absurd ((not_none _) e) }; some = λ e. absurd ((not_none _) e) })

pub returns-in_err-g : goal.returns-in_err-g
unfolding a_rule
returns-in_err-g c = let p = err_from_is_err_and c.from_residual-in_err-g.result c.from_residual-in_err-g.ensures.1 in rw (p.1, p.2) (record { moves = record { reads = record { low = omega (arith, c.in_ok-o.ensures.yields.low, c.in_ok-o.ensures.yields.high, c.in_ok-o.ensures.yields.past refl, c.in_ok-o.ensures.some refl, c.in_err-g.ensures.low, c.in_err-g.ensures.high); high = omega (arith, c.in_ok-o.ensures.yields.low, c.in_ok-o.ensures.yields.high, c.in_ok-o.ensures.yields.past refl, c.in_ok-o.ensures.some refl, c.in_err-g.ensures.low, c.in_err-g.ensures.high); tells = λ k h. goes _ (c.in_ok-o.ensures.yields.brings (suc k) (omega (arith, c.in_ok-o.ensures.yields.low, c.in_ok-o.ensures.yields.high, c.in_ok-o.ensures.yields.past refl, c.in_ok-o.ensures.some refl, c.in_err-g.ensures.low, c.in_err-g.ensures.high))).tells refl (λ a0. stops _ (c.in_err-g.ensures.tells (suc k) (omega (arith, c.in_ok-o.ensures.yields.low, c.in_ok-o.ensures.yields.high, c.in_ok-o.ensures.yields.past refl, c.in_ok-o.ensures.some refl, c.in_err-g.ensures.low, c.in_err-g.ensures.high))) (not_none _)) }; past = λ e. absurd ((not_none _) e) }; some = λ e. absurd ((not_none _) e) })

pub returns-in_err-c : goal.returns-in_err-c
unfolding a_rule
returns-in_err-c c = let p = err_from_is_err_and c.from_residual-in_err-c.result c.from_residual-in_err-c.ensures.1 in rw (p.1, p.2) (record { moves = record { reads = record { low = omega (arith, c.in_ok-o.ensures.yields.low, c.in_ok-o.ensures.yields.high, c.in_ok-o.ensures.yields.past refl, c.in_ok-o.ensures.some refl, c.in_ok-g.ensures.low, c.in_ok-g.ensures.high, c.in_err-c.ensures.low, c.in_err-c.ensures.high); high = omega (arith, c.in_ok-o.ensures.yields.low, c.in_ok-o.ensures.yields.high, c.in_ok-o.ensures.yields.past refl, c.in_ok-o.ensures.some refl, c.in_ok-g.ensures.low, c.in_ok-g.ensures.high, c.in_err-c.ensures.low, c.in_err-c.ensures.high); tells = λ k h. goes _ (c.in_ok-o.ensures.yields.brings (suc k) (omega (arith, c.in_ok-o.ensures.yields.low, c.in_ok-o.ensures.yields.high, c.in_ok-o.ensures.yields.past refl, c.in_ok-o.ensures.some refl, c.in_ok-g.ensures.low, c.in_ok-g.ensures.high, c.in_err-c.ensures.low, c.in_err-c.ensures.high))).tells refl (λ a0. goes _ (c.in_ok-g.ensures.tells (suc k) (omega (arith, c.in_ok-o.ensures.yields.low, c.in_ok-o.ensures.yields.high, c.in_ok-o.ensures.yields.past refl, c.in_ok-o.ensures.some refl, c.in_ok-g.ensures.low, c.in_ok-g.ensures.high, c.in_err-c.ensures.low, c.in_err-c.ensures.high))) refl (λ a1. stops _ (c.in_err-c.ensures.tells (suc k) (omega (arith, c.in_ok-o.ensures.yields.low, c.in_ok-o.ensures.yields.high, c.in_ok-o.ensures.yields.past refl, c.in_ok-o.ensures.some refl, c.in_ok-g.ensures.low, c.in_ok-g.ensures.high, c.in_err-c.ensures.low, c.in_err-c.ensures.high))) (not_none _))) }; past = λ e. absurd ((not_none _) e) }; some = λ e. absurd ((not_none _) e) })

pub returns-in_err-b : goal.returns-in_err-b
unfolding a_rule
returns-in_err-b c = let p = err_from_is_err_and c.from_residual-in_err-b.result c.from_residual-in_err-b.ensures.1 in rw (p.1, p.2) (record { moves = record { reads = record { low = omega (arith, c.in_ok-o.ensures.yields.low, c.in_ok-o.ensures.yields.high, c.in_ok-o.ensures.yields.past refl, c.in_ok-o.ensures.some refl, c.in_ok-g.ensures.low, c.in_ok-g.ensures.high, c.in_ok-c.ensures.low, c.in_ok-c.ensures.high, c.in_err-b.ensures.low, c.in_err-b.ensures.high); high = omega (arith, c.in_ok-o.ensures.yields.low, c.in_ok-o.ensures.yields.high, c.in_ok-o.ensures.yields.past refl, c.in_ok-o.ensures.some refl, c.in_ok-g.ensures.low, c.in_ok-g.ensures.high, c.in_ok-c.ensures.low, c.in_ok-c.ensures.high, c.in_err-b.ensures.low, c.in_err-b.ensures.high); tells = λ k h. goes _ (c.in_ok-o.ensures.yields.brings (suc k) (omega (arith, c.in_ok-o.ensures.yields.low, c.in_ok-o.ensures.yields.high, c.in_ok-o.ensures.yields.past refl, c.in_ok-o.ensures.some refl, c.in_ok-g.ensures.low, c.in_ok-g.ensures.high, c.in_ok-c.ensures.low, c.in_ok-c.ensures.high, c.in_err-b.ensures.low, c.in_err-b.ensures.high))).tells refl (λ a0. goes _ (c.in_ok-g.ensures.tells (suc k) (omega (arith, c.in_ok-o.ensures.yields.low, c.in_ok-o.ensures.yields.high, c.in_ok-o.ensures.yields.past refl, c.in_ok-o.ensures.some refl, c.in_ok-g.ensures.low, c.in_ok-g.ensures.high, c.in_ok-c.ensures.low, c.in_ok-c.ensures.high, c.in_err-b.ensures.low, c.in_err-b.ensures.high))) refl (λ a1. goes _ (c.in_ok-c.ensures.tells (suc k) (omega (arith, c.in_ok-o.ensures.yields.low, c.in_ok-o.ensures.yields.high, c.in_ok-o.ensures.yields.past refl, c.in_ok-o.ensures.some refl, c.in_ok-g.ensures.low, c.in_ok-g.ensures.high, c.in_ok-c.ensures.low, c.in_ok-c.ensures.high, c.in_err-b.ensures.low, c.in_err-b.ensures.high))) refl (λ a2. stops _ (c.in_err-b.ensures.tells k (omega (arith, c.in_ok-o.ensures.yields.low, c.in_ok-o.ensures.yields.high, c.in_ok-o.ensures.yields.past refl, c.in_ok-o.ensures.some refl, c.in_ok-g.ensures.low, c.in_ok-g.ensures.high, c.in_ok-c.ensures.low, c.in_ok-c.ensures.high, c.in_err-b.ensures.low, c.in_err-b.ensures.high, c.in_ok-o.ensures.yields.past refl))) (not_none _)))) }; past = λ e. absurd ((not_none _) e) }; some = λ e. absurd ((not_none _) e) })

pub returns : goal.returns
unfolding a_rule
returns c = record { moves = record { reads = record { low = omega (arith, c.in_ok-o.ensures.yields.low, c.in_ok-o.ensures.yields.high, c.in_ok-o.ensures.yields.past refl, c.in_ok-o.ensures.some refl, c.in_ok-g.ensures.low, c.in_ok-g.ensures.high, c.in_ok-c.ensures.low, c.in_ok-c.ensures.high, c.in_ok-b.ensures.low, c.in_ok-b.ensures.high, c.in_ok-o.ensures.yields.low, c.in_ok-g.ensures.low, c.in_ok-c.ensures.low, c.in_ok-b.ensures.low, c.expect_word-2.ensures.low); high = omega (arith, c.in_ok-o.ensures.yields.low, c.in_ok-o.ensures.yields.high, c.in_ok-o.ensures.yields.past refl, c.in_ok-o.ensures.some refl, c.in_ok-g.ensures.low, c.in_ok-g.ensures.high, c.in_ok-c.ensures.low, c.in_ok-c.ensures.high, c.in_ok-b.ensures.low, c.in_ok-b.ensures.high, c.in_ok-o.ensures.yields.low, c.in_ok-g.ensures.low, c.in_ok-c.ensures.low, c.in_ok-b.ensures.low, c.expect_word-2.ensures.low); tells = λ k h. goes _ (c.in_ok-o.ensures.yields.brings (suc k) (omega (arith, c.in_ok-o.ensures.yields.low, c.in_ok-o.ensures.yields.high, c.in_ok-o.ensures.yields.past refl, c.in_ok-o.ensures.some refl, c.in_ok-g.ensures.low, c.in_ok-g.ensures.high, c.in_ok-c.ensures.low, c.in_ok-c.ensures.high, c.in_ok-b.ensures.low, c.in_ok-b.ensures.high, c.in_ok-o.ensures.yields.low, c.in_ok-g.ensures.low, c.in_ok-c.ensures.low, c.in_ok-b.ensures.low, c.expect_word-2.ensures.low))).tells refl (λ a0. goes _ (c.in_ok-g.ensures.tells (suc k) (omega (arith, c.in_ok-o.ensures.yields.low, c.in_ok-o.ensures.yields.high, c.in_ok-o.ensures.yields.past refl, c.in_ok-o.ensures.some refl, c.in_ok-g.ensures.low, c.in_ok-g.ensures.high, c.in_ok-c.ensures.low, c.in_ok-c.ensures.high, c.in_ok-b.ensures.low, c.in_ok-b.ensures.high, c.in_ok-o.ensures.yields.low, c.in_ok-g.ensures.low, c.in_ok-c.ensures.low, c.in_ok-b.ensures.low, c.expect_word-2.ensures.low))) refl (λ a1. goes _ (c.in_ok-c.ensures.tells (suc k) (omega (arith, c.in_ok-o.ensures.yields.low, c.in_ok-o.ensures.yields.high, c.in_ok-o.ensures.yields.past refl, c.in_ok-o.ensures.some refl, c.in_ok-g.ensures.low, c.in_ok-g.ensures.high, c.in_ok-c.ensures.low, c.in_ok-c.ensures.high, c.in_ok-b.ensures.low, c.in_ok-b.ensures.high, c.in_ok-o.ensures.yields.low, c.in_ok-g.ensures.low, c.in_ok-c.ensures.low, c.in_ok-b.ensures.low, c.expect_word-2.ensures.low))) refl (λ a2. goes _ (c.in_ok-b.ensures.tells k (omega (arith, c.in_ok-o.ensures.yields.low, c.in_ok-o.ensures.yields.high, c.in_ok-o.ensures.yields.past refl, c.in_ok-o.ensures.some refl, c.in_ok-g.ensures.low, c.in_ok-g.ensures.high, c.in_ok-c.ensures.low, c.in_ok-c.ensures.high, c.in_ok-b.ensures.low, c.in_ok-b.ensures.high, c.in_ok-o.ensures.yields.low, c.in_ok-g.ensures.low, c.in_ok-c.ensures.low, c.in_ok-b.ensures.low, c.expect_word-2.ensures.low, c.in_ok-o.ensures.yields.past refl))) refl (λ a3. ends _ (c.expect_word-2.ensures.tells (suc k) (omega (arith, c.in_ok-o.ensures.yields.low, c.in_ok-o.ensures.yields.high, c.in_ok-o.ensures.yields.past refl, c.in_ok-o.ensures.some refl, c.in_ok-g.ensures.low, c.in_ok-g.ensures.high, c.in_ok-c.ensures.low, c.in_ok-c.ensures.high, c.in_ok-b.ensures.low, c.in_ok-b.ensures.high, c.in_ok-o.ensures.yields.low, c.in_ok-g.ensures.low, c.in_ok-c.ensures.low, c.in_ok-b.ensures.low, c.expect_word-2.ensures.low))))))) }; past = λ e. omega (arith, c.in_ok-o.ensures.yields.low, c.in_ok-o.ensures.yields.high, c.in_ok-o.ensures.yields.past refl, c.in_ok-o.ensures.some refl, c.in_ok-g.ensures.low, c.in_ok-g.ensures.high, c.in_ok-c.ensures.low, c.in_ok-c.ensures.high, c.in_ok-b.ensures.low, c.in_ok-b.ensures.high, c.in_ok-o.ensures.yields.low, c.in_ok-g.ensures.low, c.in_ok-c.ensures.low, c.in_ok-b.ensures.low, c.expect_word-2.ensures.low, c.in_ok-o.ensures.yields.past refl) }; some = λ e. c.in_ok-o.ensures.some refl }
