-- `partrules::read_rule` meets its contract.
use native.Mathlib.Omega.{arith}
use Rattle.std.proofs.lemmas.Result.{err_from_is_err_and}
use Rattle.symbols.proofs.Numbered.{fault-some}
use mathlib.Core.Path.{refl}
use Rattle.builder.proofs.Building.{apart}
use Rattle.partrules.proofs.Opening.{open-taken, open-typed, open-fail, open-closed}
use Rattle.partrules.proofs.read_rule.Goals as goal

pub returns-then-is_taken : goal.returns-then-is_taken
returns-then-is_taken c = open-taken c.requires.0 c.next_word-w.ensures c.is_taken.ensures c.if-is_taken.true c.refused.ensures.fault c.refused.ensures.at c.refused.ensures.len

pub read_type-requires : goal.read_type-requires
read_type-requires c = (c.next_word-w.ensures.high c.requires.0, c.requires.1)

pub returns-in_err-h : goal.returns-in_err-h
returns-in_err-h c = let p = err_from_is_err_and c.from_residual.result c.from_residual.ensures.1 in rw (p.1, p.2) (open-typed c.next_word-w.ensures c.is_taken.ensures c.if-is_taken.false c.in_err-h.ensures (fault-some _) refl refl refl)

pub build_actions-requires : goal.build_actions-requires
build_actions-requires c = (c.in_ok-h.ensures.high refl, c.requires.1)

pub returns-in_err-b : goal.returns-in_err-b
returns-in_err-b c = let p = err_from_is_err_and c.from_residual-in_err-b.result c.from_residual-in_err-b.ensures.1 in rw (p.1, p.2) (open-fail c.next_word-w.ensures c.is_taken.ensures c.if-is_taken.false c.in_ok-h.ensures refl c.in_err-b.ensures (fault-some _))

pub returns-then-goes_past : goal.returns-then-goes_past
returns-then-goes_past c = open-closed c.next_word-w.ensures c.is_taken.ensures c.if-is_taken.false c.in_ok-h.ensures refl c.in_ok-b.ensures refl c.next_word-s.ensures c.goes_past.ensures (λ _. (c.refused-then-goes_past.ensures.fault, c.refused-then-goes_past.ensures.at, c.refused-then-goes_past.ensures.len)) (λ e. absurd (apart _ c.if-goes_past.true e)) (λ z. absurd (omega (arith, z, c.refused-then-goes_past.ensures.fault)))

pub returns : goal.returns
returns c = open-closed c.next_word-w.ensures c.is_taken.ensures c.if-is_taken.false c.in_ok-h.ensures refl c.in_ok-b.ensures refl c.next_word-s.ensures c.goes_past.ensures (λ e. absurd (apart _ e c.if-goes_past.false)) (λ _. (refl, refl, refl)) (λ _. c.next_word-s.ensures.high (c.in_ok-b.ensures.kept.high refl))
