-- `builder::build_rule` meets its contract.
use Rattle.std.proofs.lemmas.Result.{err_from_is_err_and}
use Rattle.symbols.proofs.Numbered.{fault-some}
use mathlib.Core.Bool.{true, false}
use mathlib.Core.Path.{refl, sym}
use native.Mathlib.Omega.{arith}
use borrow.Author.Tests.{lt-ltb, le-ltb}
use Rattle.builder.proofs.Building.{apart}
use Rattle.builder.proofs.Ruling.{rule-headless, rule-fail, rule-closed}
use Rattle.builder.proofs.build_rule.Goals as goal
use Rattle.builder.proofs.build_rule.Goals.{else-valued-via-then-valued+else-b, else-valued-via-else-valued}

pub returns-in_err-h : goal.returns-in_err-h
returns-in_err-h c = let p = err_from_is_err_and c.from_residual.result c.from_residual.ensures.1 in rw (p.1, p.2) (rule-headless c.in_err-h.ensures (fault-some _) refl refl refl)

pub build_actions-requires : goal.build_actions-requires
build_actions-requires c = (omega (arith, c.requires.1, c.in_ok-h.ensures.high refl), c.requires.1)

pub returns-in_err-b : goal.returns-in_err-b
returns-in_err-b c = let p = err_from_is_err_and c.from_residual-in_err-b.result c.from_residual-in_err-b.ensures.1 in rw (p.1, p.2) (rule-fail c.in_ok-h.ensures refl c.in_err-b.ensures (fault-some _) refl)

pub returns-then-b : goal.returns-then-b
returns-then-b c = rule-closed c.in_ok-h.ensures refl c.in_ok-b.ensures refl c.look-w.ensures (rw (lt-ltb 0 _ c.if-valued.true, c.if-b.true) refl) (λ _. (c.refused.ensures.fault, c.refused.ensures.at, c.refused.ensures.len)) (λ e. absurd (apart true refl e)) (λ z. absurd (omega (arith, z, c.refused.ensures.fault)))

pub returns : goal.returns
returns c = rule-closed c.in_ok-h.ensures refl c.in_ok-b.ensures refl c.look-w.ensures (elim c.else-valued.branch [ else-valued-via-then-valued+else-b w ↦ rw (lt-ltb 0 _ w.if-valued.true, w.if-b.false) refl | else-valued-via-else-valued w ↦ rw (le-ltb 0 c.in_ok-h.h.class (omega (arith, w.if-valued.false))) refl ]) (λ e. absurd (apart false e refl)) (λ _. (refl, refl, refl, refl)) (λ _. c.look-w.ensures.high (c.in_ok-b.ensures.kept.high refl))
