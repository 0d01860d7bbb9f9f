-- `reader::read_shared` meets its contract.
use Rattle.std.proofs.lemmas.Result.{err_from_is_err_and}
use Rattle.reader.proofs.Laws.{not_none}
use mathlib.Core.Path.{refl}
use Prim.Native.Nat.{◌+◌}
use native.Mathlib.Omega.{arith}
use lib.ListN.{length}
use Rattle.reader.proofs.Laws.{any_value, ends_with, faulty, goes_with, stops}
use Rattle.reader.proofs.SectionLaws.{from_start}
use Rattle.reader.proofs.TextLaws.{heads-as}
use Rattle.reader.specs.Texts.{up_to_end}
use Rattle.syntax.specs.Sections.{nothing}
use Rattle.reader.proofs.read_shared.Goals as goal

pub returns-in_err-s : goal.returns-in_err-s
unfolding up_to_end
returns-in_err-s c = let p = err_from_is_err_and c.from_residual.result c.from_residual.ensures.1 in rw (p.1, p.2) (record { high = omega (arith, c.in_err-s.ensures.low, c.in_err-s.ensures.high); brings = rw (from_start c.args.text.now) (faulty (stops _ (c.in_err-s.ensures.brings nothing c.no_section.ensures (length c.args.text.now + 1) (omega (arith, c.in_err-s.ensures.low, c.in_err-s.ensures.high))).tells (not_none _)) (not_none _)) })

pub returns-in_err-e : goal.returns-in_err-e
unfolding up_to_end
returns-in_err-e c = let p = err_from_is_err_and c.from_residual-in_err-e.result c.from_residual-in_err-e.ensures.1 in rw (p.1, p.2) (record { high = omega (arith, c.in_ok-s.ensures.low, c.in_ok-s.ensures.high, c.in_err-e.ensures.low, c.in_err-e.ensures.high); brings = rw (from_start c.args.text.now) (goes_with _ (c.in_ok-s.ensures.brings nothing c.no_section.ensures (length c.args.text.now + 1) (omega (arith, c.in_ok-s.ensures.low, c.in_ok-s.ensures.high, c.in_err-e.ensures.low, c.in_err-e.ensures.high))) refl (λ s e. faulty (stops _ (c.in_err-e.ensures.tells (length c.args.text.now + 1) (omega (arith, c.in_ok-s.ensures.low, c.in_ok-s.ensures.high, c.in_err-e.ensures.low, c.in_err-e.ensures.high))) (not_none _)) (not_none _))) })

pub returns : goal.returns
unfolding up_to_end
returns c = record { high = omega (arith, c.in_ok-s.ensures.low, c.in_ok-s.ensures.high, c.in_ok-e.ensures.low, c.in_ok-e.ensures.high, c.in_ok-h.ensures.low, c.in_ok-h.ensures.high); brings = rw (from_start c.args.text.now) (goes_with _ (c.in_ok-s.ensures.brings nothing c.no_section.ensures (length c.args.text.now + 1) (omega (arith, c.in_ok-s.ensures.low, c.in_ok-s.ensures.high, c.in_ok-e.ensures.low, c.in_ok-e.ensures.high, c.in_ok-h.ensures.low, c.in_ok-h.ensures.high))) refl (λ s e. goes_with _ (any_value (c.in_ok-e.ensures.tells (length c.args.text.now + 1) (omega (arith, c.in_ok-s.ensures.low, c.in_ok-s.ensures.high, c.in_ok-e.ensures.low, c.in_ok-e.ensures.high, c.in_ok-h.ensures.low, c.in_ok-h.ensures.high)))) refl (λ b _. ends_with _ (any_value (heads-as _ _ _ _ _ c.min-m.ensures e (c.in_ok-h.ensures.tells (length c.args.text.now + 1) (omega (arith, c.in_ok-s.ensures.low, c.in_ok-s.ensures.high, c.in_ok-e.ensures.low, c.in_ok-e.ensures.high, c.in_ok-h.ensures.low, c.in_ok-h.ensures.high))))) (λ hs _. e)))) }

pub returns-in_err-h : goal.returns-in_err-h
unfolding up_to_end
returns-in_err-h c = let p = err_from_is_err_and c.from_residual-in_err-h.result c.from_residual-in_err-h.ensures.1 in rw (p.1, p.2) (record { high = omega (arith, c.in_ok-s.ensures.low, c.in_ok-s.ensures.high, c.in_ok-e.ensures.low, c.in_ok-e.ensures.high, c.in_err-h.ensures.low, c.in_err-h.ensures.high); brings = rw (from_start c.args.text.now) (goes_with _ (c.in_ok-s.ensures.brings nothing c.no_section.ensures (length c.args.text.now + 1) (omega (arith, c.in_ok-s.ensures.low, c.in_ok-s.ensures.high, c.in_ok-e.ensures.low, c.in_ok-e.ensures.high, c.in_err-h.ensures.low, c.in_err-h.ensures.high))) refl (λ s e. goes_with _ (any_value (c.in_ok-e.ensures.tells (length c.args.text.now + 1) (omega (arith, c.in_ok-s.ensures.low, c.in_ok-s.ensures.high, c.in_ok-e.ensures.low, c.in_ok-e.ensures.high, c.in_err-h.ensures.low, c.in_err-h.ensures.high)))) refl (λ b _. ends_with _ (any_value (heads-as _ _ _ _ _ c.min-m.ensures e (c.in_err-h.ensures.tells (length c.args.text.now + 1) (omega (arith, c.in_ok-s.ensures.low, c.in_ok-s.ensures.high, c.in_ok-e.ensures.low, c.in_ok-e.ensures.high, c.in_err-h.ensures.low, c.in_err-h.ensures.high))))) (λ hs _. tt)))) })
