-- `reader::read_end` meets its contract.
use Rattle.std.proofs.lemmas.Result.{err_from_is_err_and}
use Rattle.reader.proofs.Laws.{not_none}
use mathlib.Core.Path.{refl}
use Prim.Native.Nat.{◌+◌}
use native.Mathlib.Omega.{arith}
use lib.ListN.{length}
use Rattle.reader.proofs.Laws.{any_value, stops}
use Rattle.reader.proofs.SectionLaws.{decides-off, decides-on, last_word, no_last}
use Rattle.reader.specs.Counting.{ending}
use Rattle.reader.proofs.read_end.Goals as goal

pub returns-in_err-e : goal.returns-in_err-e
unfolding ending
returns-in_err-e c = let p = err_from_is_err_and c.from_residual.result c.from_residual.ensures.1 in rw (p.1, p.2) (decides-off (stops _ (c.in_err-e.ensures.tells (length c.args.text.now + 1) (omega (arith, c.in_err-e.ensures.low, c.in_err-e.ensures.high))) (not_none _)) (not_none _))

pub returns-then-w-eq-LAST : goal.returns-then-w-eq-LAST
unfolding ending
returns-then-w-eq-LAST c = decides-on _ (any_value (c.in_ok-e.ensures.tells (length c.args.text.now + 1) (omega (arith, c.in_ok-e.ensures.low, c.in_ok-e.ensures.high)))) refl (λ a _. last_word c.look-w.ensures c.if-w-eq-LAST.true refl)

pub returns-else-w-eq-LAST : goal.returns-else-w-eq-LAST
unfolding ending
returns-else-w-eq-LAST c = decides-on _ (any_value (c.in_ok-e.ensures.tells (length c.args.text.now + 1) (omega (arith, c.in_ok-e.ensures.low, c.in_ok-e.ensures.high)))) refl (λ a _. no_last c.look-w.ensures c.if-w-eq-LAST.false c.refused.ensures)
