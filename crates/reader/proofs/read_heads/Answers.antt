-- `reader::read_heads` meets its contract.
use Rattle.std.proofs.lemmas.Result.{err_from_is_err_and}
use Rattle.reader.proofs.Laws.{not_none}
use mathlib.Core.Path.{refl}
use native.Mathlib.Omega.{arith}
use Rattle.reader.proofs.Laws.{ends, fueled, gives, goes, no, stops, yes}
use Rattle.syntax.specs.Texts.{some_heads}
use Rattle.reader.proofs.read_heads.Goals as goal

pub loop-at-init : goal.loop-at-init
loop-at-init c = (omega arith, omega arith, λ o e. e)

pub returns-then-w-ne-NAME : goal.returns-then-w-ne-NAME
unfolding some_heads
returns-then-w-ne-NAME c = c.loop-at.invariant.2 _ (record { low = omega arith; high = omega arith; tells = fueled (λ k. some_heads k c.loop-at.names) (omega arith) (λ j h. no _ _ _ c.look-w.ensures c.if-w-ne-NAME.true (gives refl)) })

pub returns-in_err-i : goal.returns-in_err-i
unfolding some_heads
returns-in_err-i c = let p = err_from_is_err_and c.from_residual.result c.from_residual.ensures.1 in rw (p.1, p.2) (c.loop-at.invariant.2 _ (record { low = omega (arith, c.in_err-i.ensures.moves.reads.low, c.in_err-i.ensures.moves.reads.high); high = omega (arith, c.in_err-i.ensures.moves.reads.low, c.in_err-i.ensures.moves.reads.high); tells = fueled (λ k. some_heads k c.loop-at.names) (omega (arith, c.in_err-i.ensures.moves.reads.low, c.in_err-i.ensures.moves.reads.high)) (λ j h. yes _ _ _ c.look-w.ensures c.if-w-ne-NAME.false (stops _ (c.in_err-i.ensures.moves.reads.tells _ h) (not_none _))) }))

pub loop-at-smaller : goal.loop-at-smaller
loop-at-smaller c = omega (arith, c.in_ok-i.ensures.moves.reads.low, c.in_ok-i.ensures.moves.reads.high, c.in_ok-i.ensures.moves.past refl, c.in_ok-i.ensures.some refl, c.in_ok-i.ensures.moves.past refl)

pub loop-at-preserved : goal.loop-at-preserved
unfolding some_heads
loop-at-preserved c = (omega (arith, c.in_ok-i.ensures.moves.reads.low, c.in_ok-i.ensures.moves.reads.high, c.in_ok-i.ensures.moves.past refl, c.in_ok-i.ensures.some refl), omega (arith, c.in_ok-i.ensures.moves.reads.low, c.in_ok-i.ensures.moves.reads.high, c.in_ok-i.ensures.moves.past refl, c.in_ok-i.ensures.some refl), λ o u. c.loop-at.invariant.2 o (record { low = omega (arith, c.in_ok-i.ensures.moves.reads.low, c.in_ok-i.ensures.moves.reads.high, c.in_ok-i.ensures.moves.past refl, c.in_ok-i.ensures.some refl, u.low); high = u.high; tells = fueled (λ k. some_heads k c.loop-at.names) (omega (arith, c.in_ok-i.ensures.moves.reads.low, c.in_ok-i.ensures.moves.reads.high, c.in_ok-i.ensures.moves.past refl, c.in_ok-i.ensures.some refl)) (λ j h. yes _ _ _ c.look-w.ensures c.if-w-ne-NAME.false (goes _ (c.in_ok-i.ensures.moves.reads.tells _ h) refl (λ a. ends _ (u.tells j (omega (arith, c.in_ok-i.ensures.moves.reads.low, c.in_ok-i.ensures.moves.reads.high, c.in_ok-i.ensures.moves.past refl, c.in_ok-i.ensures.some refl, c.in_ok-i.ensures.moves.past refl)))))) }))
