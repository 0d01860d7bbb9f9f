-- `reader::read_part` meets its contract.
use Rattle.std.proofs.lemmas.Result.{err_from_is_err_and}
use Rattle.reader.proofs.Laws.{not_none}
use mathlib.Core.Path.{refl, ◌∙◌}
use Prim.Native.Nat.{◌+◌}
use native.Mathlib.Omega.{arith}
use lib.ListN.{length}
use Rattle.reader.proofs.Laws.{any_value, stops}
use Rattle.reader.proofs.SectionLaws.{from_start, rules-as}
use Rattle.reader.proofs.TextLaws.{behind, closes-off, closes-on, first_word, settles-off, settles_on}
use Rattle.syntax.specs.Texts.{a_part, read_part}
use Rattle.reader.proofs.read_part.Goals as goal

pub returns-in_err-k : goal.returns-in_err-k
unfolding read_part a_part
returns-in_err-k c = let p = err_from_is_err_and c.from_residual.result c.from_residual.ensures.1 in rw (p.1, p.2) (rw (from_start c.args.text.now) (settles-off (stops _ (c.in_err-k.ensures.tells (length c.args.text.now + 1) (omega (arith, c.in_err-k.ensures.low, c.in_err-k.ensures.high))) (not_none _)) (not_none _)))

pub returns-in_err-r : goal.returns-in_err-r
unfolding read_part a_part
returns-in_err-r c = let p = err_from_is_err_and c.from_residual-in_err-r.result c.from_residual-in_err-r.ensures.1 in rw (p.1, p.2) (rw (from_start c.args.text.now) (settles_on _ (any_value (c.in_ok-k.ensures.tells (length c.args.text.now + 1) (omega (arith, c.in_ok-k.ensures.low, c.in_ok-k.ensures.high, c.in_err-r.ensures.low, c.in_err-r.ensures.high)))) refl (λ w _ e. settles-off (stops _ (rules-as _ _ _ _ _ c.min-m.ensures refl (c.in_err-r.ensures.tells (length c.args.text.now + 1) (omega (arith, c.in_ok-k.ensures.low, c.in_ok-k.ensures.high, c.in_err-r.ensures.low, c.in_err-r.ensures.high)))) (not_none _)) (not_none _))))

pub returns-in_err-read_end : goal.returns-in_err-read_end
unfolding read_part a_part
returns-in_err-read_end c = let p = err_from_is_err_and c.from_residual-in_err-read_end.result c.from_residual-in_err-read_end.ensures.1 in rw (p.1, p.2) (rw (from_start c.args.text.now) (settles_on _ (any_value (c.in_ok-k.ensures.tells (length c.args.text.now + 1) (omega (arith, c.in_ok-k.ensures.low, c.in_ok-k.ensures.high, c.in_ok-r.ensures.low, c.in_ok-r.ensures.high)))) refl (λ w _ e. settles_on _ (any_value (rules-as _ _ _ _ _ c.min-m.ensures refl (c.in_ok-r.ensures.tells (length c.args.text.now + 1) (omega (arith, c.in_ok-k.ensures.low, c.in_ok-k.ensures.high, c.in_ok-r.ensures.low, c.in_ok-r.ensures.high))))) refl (λ rs _ f. closes-off rs _ c.in_err-read_end.ensures (not_none _)))))

pub returns : goal.returns
unfolding read_part a_part
returns c = rw (from_start c.args.text.now) (settles_on _ (any_value (c.in_ok-k.ensures.tells (length c.args.text.now + 1) (omega (arith, c.in_ok-k.ensures.low, c.in_ok-k.ensures.high, c.in_ok-r.ensures.low, c.in_ok-r.ensures.high)))) refl (λ w _ e. settles_on _ (any_value (rules-as _ _ _ _ _ c.min-m.ensures refl (c.in_ok-r.ensures.tells (length c.args.text.now + 1) (omega (arith, c.in_ok-k.ensures.low, c.in_ok-k.ensures.high, c.in_ok-r.ensures.low, c.in_ok-r.ensures.high))))) refl (λ rs _ f. closes-on rs _ c.in_ok-read_end.ensures refl refl (record { some = behind c.args.text.now _ w (first_word _ _ w e); inside = omega (arith, c.in_ok-k.ensures.low, c.in_ok-k.ensures.high, c.in_ok-r.ensures.low, c.in_ok-r.ensures.high); keyword = w; first = from_start c.args.text.now ∙ first_word _ _ w e; rest = _; reads = f }))))
