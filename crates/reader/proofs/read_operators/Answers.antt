-- `reader::read_operators` meets its contract.
use Rattle.std.proofs.lemmas.Result.{err_from_is_err_and}
use Rattle.reader.proofs.Laws.{not_none}
use mathlib.Core.Path.{refl}
use native.Mathlib.Omega.{arith}
use Prim.Native.Nat.{suc}
use Rattle.reader.proofs.Laws.{ends, fueled, gives, goes, no, passes, stops, yes}
use Rattle.syntax.specs.Sections.{some_operators}
use Rattle.reader.proofs.read_operators.Goals as goal

pub loop-r-init : goal.loop-r-init
loop-r-init c = (omega arith, omega arith, λ o e. e)

pub returns-in_err-r : goal.returns-in_err-r
unfolding some_operators
returns-in_err-r c = let p = err_from_is_err_and c.from_residual.result c.from_residual.ensures.1 in rw (p.1, p.2) (c.loop-r.invariant.2 _ (record { reads = record { low = omega (arith, c.in_err-r.ensures.reads.low, c.in_err-r.ensures.reads.high); high = omega (arith, c.in_err-r.ensures.reads.low, c.in_err-r.ensures.reads.high); tells = fueled (λ k. some_operators k) (omega (arith, c.in_err-r.ensures.reads.low, c.in_err-r.ensures.reads.high)) (λ j h. stops _ (c.in_err-r.ensures.reads.tells (suc j) (omega (arith, c.in_err-r.ensures.reads.low, c.in_err-r.ensures.reads.high))) (not_none _)) }; past = λ e. absurd ((not_none _) e) }))

pub returns-then-w-eq-SEMICOLON : goal.returns-then-w-eq-SEMICOLON
unfolding some_operators
returns-then-w-eq-SEMICOLON c = c.loop-r.invariant.2 _ (record { reads = record { low = omega (arith, c.in_ok-r.ensures.reads.low, c.in_ok-r.ensures.reads.high, c.in_ok-r.ensures.past refl); high = omega (arith, c.in_ok-r.ensures.reads.low, c.in_ok-r.ensures.reads.high, c.in_ok-r.ensures.past refl); tells = fueled (λ k. some_operators k) (omega (arith, c.in_ok-r.ensures.reads.low, c.in_ok-r.ensures.reads.high, c.in_ok-r.ensures.past refl)) (λ j h. goes _ (c.in_ok-r.ensures.reads.tells (suc j) (omega (arith, c.in_ok-r.ensures.reads.low, c.in_ok-r.ensures.reads.high, c.in_ok-r.ensures.past refl))) refl (λ a. ends _ (yes _ _ _ c.look-w.ensures c.if-w-eq-SEMICOLON.true (passes _ c.look-w.ensures (omega (arith, c.in_ok-r.ensures.reads.low, c.in_ok-r.ensures.reads.high, c.in_ok-r.ensures.past refl)) (gives refl))))) }; past = λ e. omega (arith, c.in_ok-r.ensures.reads.low, c.in_ok-r.ensures.reads.high, c.in_ok-r.ensures.past refl, c.look-w.ensures.moves (omega (arith, c.in_ok-r.ensures.reads.low, c.in_ok-r.ensures.reads.high, c.in_ok-r.ensures.past refl))) })

pub loop-r-smaller : goal.loop-r-smaller
loop-r-smaller c = omega (arith, c.in_ok-r.ensures.reads.low, c.in_ok-r.ensures.reads.high, c.in_ok-r.ensures.past refl, c.in_ok-r.ensures.past refl)

pub loop-r-preserved : goal.loop-r-preserved
unfolding some_operators
loop-r-preserved c = (omega (arith, c.in_ok-r.ensures.reads.low, c.in_ok-r.ensures.reads.high, c.in_ok-r.ensures.past refl), omega (arith, c.in_ok-r.ensures.reads.low, c.in_ok-r.ensures.reads.high, c.in_ok-r.ensures.past refl), λ o u. c.loop-r.invariant.2 o (record { reads = record { low = omega (arith, c.in_ok-r.ensures.reads.low, c.in_ok-r.ensures.reads.high, c.in_ok-r.ensures.past refl, u.reads.low); high = u.reads.high; tells = fueled (λ k. some_operators k) (omega (arith, c.in_ok-r.ensures.reads.low, c.in_ok-r.ensures.reads.high, c.in_ok-r.ensures.past refl)) (λ j h. goes _ (c.in_ok-r.ensures.reads.tells (suc j) (omega (arith, c.in_ok-r.ensures.reads.low, c.in_ok-r.ensures.reads.high, c.in_ok-r.ensures.past refl))) refl (λ a. ends _ (no _ _ _ c.look-w.ensures c.if-w-eq-SEMICOLON.false (u.reads.tells j (omega (arith, c.in_ok-r.ensures.reads.low, c.in_ok-r.ensures.reads.high, c.in_ok-r.ensures.past refl, c.in_ok-r.ensures.past refl)))))) }; past = λ e. omega (arith, c.in_ok-r.ensures.reads.low, c.in_ok-r.ensures.reads.high, c.in_ok-r.ensures.past refl, u.reads.low, c.in_ok-r.ensures.past refl) }))
