-- `reader::read_rules` meets its contract.
use Rattle.std.proofs.lemmas.Result.{err_from_is_err_and}
use Rattle.reader.proofs.Laws.{not_none}
use mathlib.Core.Path.{refl}
use native.Mathlib.Omega.{arith}
use Rattle.reader.proofs.Laws.{ends, fueled, gives, goes, no, stops, yes}
use Rattle.syntax.specs.Parse.{some_rules}
use Rattle.reader.proofs.read_rules.Goals as goal

pub loop-r-init : goal.loop-r-init
loop-r-init c = (omega arith, omega arith, λ o e. e)

pub returns-in_err-r : goal.returns-in_err-r
unfolding some_rules
returns-in_err-r c = let p = err_from_is_err_and c.from_residual.result c.from_residual.ensures.1 in rw (p.1, p.2) (c.loop-r.invariant.2 _ (record { low = omega (arith, c.in_err-r.ensures.moves.reads.low, c.in_err-r.ensures.moves.reads.high); high = omega (arith, c.in_err-r.ensures.moves.reads.low, c.in_err-r.ensures.moves.reads.high); tells = fueled (λ k. some_rules k c.loop-r.names) (omega (arith, c.in_err-r.ensures.moves.reads.low, c.in_err-r.ensures.moves.reads.high)) (λ j h. stops _ (c.in_err-r.ensures.moves.reads.tells j (omega (arith, c.in_err-r.ensures.moves.reads.low, c.in_err-r.ensures.moves.reads.high))) (not_none _)) }))

pub returns-then-w-ne-NAME : goal.returns-then-w-ne-NAME
unfolding some_rules
returns-then-w-ne-NAME c = c.loop-r.invariant.2 _ (record { low = omega (arith, c.in_ok-r.ensures.moves.reads.low, c.in_ok-r.ensures.moves.reads.high, c.in_ok-r.ensures.moves.past refl, c.in_ok-r.ensures.some refl); high = omega (arith, c.in_ok-r.ensures.moves.reads.low, c.in_ok-r.ensures.moves.reads.high, c.in_ok-r.ensures.moves.past refl, c.in_ok-r.ensures.some refl); tells = fueled (λ k. some_rules k c.loop-r.names) (omega (arith, c.in_ok-r.ensures.moves.reads.low, c.in_ok-r.ensures.moves.reads.high, c.in_ok-r.ensures.moves.past refl, c.in_ok-r.ensures.some refl)) (λ j h. goes _ (c.in_ok-r.ensures.moves.reads.tells j (omega (arith, c.in_ok-r.ensures.moves.reads.low, c.in_ok-r.ensures.moves.reads.high, c.in_ok-r.ensures.moves.past refl, c.in_ok-r.ensures.some refl))) refl (λ a. ends _ (no _ _ _ c.look-w.ensures c.if-w-ne-NAME.true (gives refl)))) })

pub loop-r-smaller : goal.loop-r-smaller
loop-r-smaller c = omega (arith, c.in_ok-r.ensures.moves.reads.low, c.in_ok-r.ensures.moves.reads.high, c.in_ok-r.ensures.moves.past refl, c.in_ok-r.ensures.some refl, c.in_ok-r.ensures.moves.past refl)

pub loop-r-preserved : goal.loop-r-preserved
unfolding some_rules
loop-r-preserved c = (omega (arith, c.in_ok-r.ensures.moves.reads.low, c.in_ok-r.ensures.moves.reads.high, c.in_ok-r.ensures.moves.past refl, c.in_ok-r.ensures.some refl), omega (arith, c.in_ok-r.ensures.moves.reads.low, c.in_ok-r.ensures.moves.reads.high, c.in_ok-r.ensures.moves.past refl, c.in_ok-r.ensures.some refl), λ o u. c.loop-r.invariant.2 o (record { low = omega (arith, c.in_ok-r.ensures.moves.reads.low, c.in_ok-r.ensures.moves.reads.high, c.in_ok-r.ensures.moves.past refl, c.in_ok-r.ensures.some refl, u.low); high = u.high; tells = fueled (λ k. some_rules k c.loop-r.names) (omega (arith, c.in_ok-r.ensures.moves.reads.low, c.in_ok-r.ensures.moves.reads.high, c.in_ok-r.ensures.moves.past refl, c.in_ok-r.ensures.some refl)) (λ j h. goes _ (c.in_ok-r.ensures.moves.reads.tells j (omega (arith, c.in_ok-r.ensures.moves.reads.low, c.in_ok-r.ensures.moves.reads.high, c.in_ok-r.ensures.moves.past refl, c.in_ok-r.ensures.some refl))) refl (λ a. ends _ (yes _ _ _ c.look-w.ensures c.if-w-ne-NAME.false (u.tells j (omega (arith, c.in_ok-r.ensures.moves.reads.low, c.in_ok-r.ensures.moves.reads.high, c.in_ok-r.ensures.moves.past refl, c.in_ok-r.ensures.some refl, c.in_ok-r.ensures.moves.past refl)))))) }))
