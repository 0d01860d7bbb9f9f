-- `reader::read_program` meets its contract.
use Rattle.std.proofs.lemmas.Result.{err_from_is_err_and}
use Rattle.reader.proofs.Laws.{not_none}
use mathlib.Core.Path.{refl}
use Prim.Native.Nat.{◌+◌}
use native.Mathlib.Omega.{arith}
use lib.ListN.{length}
use Rattle.reader.proofs.Laws.{any_value, stops}
use Rattle.reader.proofs.SectionLaws.{decides-off, decides-on, ends-whole, from_start, rules-as}
use Rattle.syntax.specs.Parse.{program}
use Rattle.syntax.specs.Sections.{nothing}
use Rattle.reader.proofs.read_program.Goals as goal

pub returns-in_err-s : goal.returns-in_err-s
unfolding program
returns-in_err-s c = let p = err_from_is_err_and c.from_residual.result c.from_residual.ensures.1 in rw (p.1, p.2) (rw (from_start c.args.text.now) (decides-off (stops _ (c.in_err-s.ensures.brings nothing c.no_section.ensures (length c.args.text.now + 1) (omega (arith, c.in_err-s.ensures.low, c.in_err-s.ensures.high))).tells (not_none _)) (not_none _)))

pub returns-in_err-e : goal.returns-in_err-e
unfolding program
returns-in_err-e c = let p = err_from_is_err_and c.from_residual-in_err-e.result c.from_residual-in_err-e.ensures.1 in rw (p.1, p.2) (rw (from_start c.args.text.now) (decides-on _ (c.in_ok-s.ensures.brings nothing c.no_section.ensures (length c.args.text.now + 1) (omega (arith, c.in_ok-s.ensures.low, c.in_ok-s.ensures.high, c.in_err-e.ensures.low, c.in_err-e.ensures.high))) refl (λ s e. decides-off (stops _ (c.in_err-e.ensures.tells (length c.args.text.now + 1) (omega (arith, c.in_ok-s.ensures.low, c.in_ok-s.ensures.high, c.in_err-e.ensures.low, c.in_err-e.ensures.high))) (not_none _)) (not_none _))))

pub returns-in_err-r : goal.returns-in_err-r
unfolding program
returns-in_err-r c = let p = err_from_is_err_and c.from_residual-in_err-r.result c.from_residual-in_err-r.ensures.1 in rw (p.1, p.2) (rw (from_start c.args.text.now) (decides-on _ (c.in_ok-s.ensures.brings nothing c.no_section.ensures (length c.args.text.now + 1) (omega (arith, c.in_ok-s.ensures.low, c.in_ok-s.ensures.high, c.in_ok-e.ensures.low, c.in_ok-e.ensures.high, c.in_err-r.ensures.low, c.in_err-r.ensures.high))) refl (λ s e. decides-on _ (any_value (c.in_ok-e.ensures.tells (length c.args.text.now + 1) (omega (arith, c.in_ok-s.ensures.low, c.in_ok-s.ensures.high, c.in_ok-e.ensures.low, c.in_ok-e.ensures.high, c.in_err-r.ensures.low, c.in_err-r.ensures.high)))) refl (λ b _. decides-off (stops _ (rules-as _ _ _ _ _ c.min-m.ensures e (c.in_err-r.ensures.tells (length c.args.text.now + 1) (omega (arith, c.in_ok-s.ensures.low, c.in_ok-s.ensures.high, c.in_ok-e.ensures.low, c.in_ok-e.ensures.high, c.in_err-r.ensures.low, c.in_err-r.ensures.high)))) (not_none _)) (not_none _)))))

pub returns : goal.returns
unfolding program
returns c = rw (from_start c.args.text.now) (decides-on _ (c.in_ok-s.ensures.brings nothing c.no_section.ensures (length c.args.text.now + 1) (omega (arith, c.in_ok-s.ensures.low, c.in_ok-s.ensures.high, c.in_ok-e.ensures.low, c.in_ok-e.ensures.high, c.in_ok-r.ensures.low, c.in_ok-r.ensures.high))) refl (λ s e. decides-on _ (any_value (c.in_ok-e.ensures.tells (length c.args.text.now + 1) (omega (arith, c.in_ok-s.ensures.low, c.in_ok-s.ensures.high, c.in_ok-e.ensures.low, c.in_ok-e.ensures.high, c.in_ok-r.ensures.low, c.in_ok-r.ensures.high)))) refl (λ b _. decides-on _ (any_value (rules-as _ _ _ _ _ c.min-m.ensures e (c.in_ok-r.ensures.tells (length c.args.text.now + 1) (omega (arith, c.in_ok-s.ensures.low, c.in_ok-s.ensures.high, c.in_ok-e.ensures.low, c.in_ok-e.ensures.high, c.in_ok-r.ensures.low, c.in_ok-r.ensures.high))))) refl (λ rs _. ends-whole _ _ c.read_end.ensures))))
