-- `scanner::greater_here` meets its contract.
use mathlib.Core.Path.{refl, ap, sym, ◌∙◌}
use Prim.Native.Nat.{ℕ, ◌+◌}
use native.Mathlib.Nat.{add-zero}
use native.Mathlib.Omega.{arith}
use lib.ListN.{get_or, drop}
use borrow.Author.Tests.{eqb-false}
use Rattle.scanner.proofs.WordLaws.{spells, twice-is, once_is, past, past_end}
use Rattle.scanner.proofs.greater_here.Goals as goal

pub returns-then-q-eq62 : goal.returns-then-q-eq62
returns-then-q-eq62 c = spells _ 256 2 (twice-is (drop (c.args.at + 1) c.args.text.now) ((past c.args.text.now c.args.at 0 ∙ ap (λ (n : ℕ). get_or c.args.text.now n 0) (add-zero (c.args.at + 1))) ∙ c.if-q-eq62.true)) c.found.ensures (omega arith) (omega arith)

pub returns-then-e-text : goal.returns-then-e-text
returns-then-e-text c = spells _ 62 1 (once_is (drop (c.args.at + 1) c.args.text.now) (λ e. c.if-q-eq62.false (sym (past c.args.text.now c.args.at 0 ∙ ap (λ (n : ℕ). get_or c.args.text.now n 0) (add-zero (c.args.at + 1))) ∙ e))) c.found-then-e-text.ensures (omega arith) (omega arith)

pub returns : goal.returns
returns c = spells _ 62 1 (once_is (drop (c.args.at + 1) c.args.text.now) (λ e. eqb-false 0 62 refl (sym (past_end c.args.text.now c.args.at 0 (omega arith)) ∙ e))) c.found-2.ensures (omega arith) (omega arith)
