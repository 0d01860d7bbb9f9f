-- `declarer::entry_fault` meets its contract.
use native.Mathlib.Omega.{arith}
use mathlib.Core.Path.{refl, sym, ◌∙◌}
use borrow.Author.Tests.{eqb-true}
use lib.ListN.{take}
use Rattle.symbols.proofs.Numbered.{numbered, fault-some}
use Rattle.symbols.specs.Rows.{held}
use Rattle.declarer.proofs.OperatorLaws.{found-number, entry-nowhere, entry-again, entry-token, entry-clean, entry-emits, not-three}
use Rattle.declarer.proofs.entry_fault.Goals as goal

pub returns-then-is_undeclared : goal.returns-then-is_undeclared
returns-then-is_undeclared c es ws' d h from o ws₁ is hap = entry-nowhere (held c.args.text.now c.args.rows.now c.args.n) (take c.args.count es) is (found-number (c.value_of-token.ensures.looks c.args.e.token.kind)) (eqb-true _ _ (sym c.is_undeclared.ensures ∙ c.if-is_undeclared.true)) c.word_fault.ensures.0 c.word_fault.ensures.1 c.word_fault.ensures.2

pub returns-then-against_unless : goal.returns-then-against_unless
returns-then-against_unless c es ws' d h from o ws₁ is hap = entry-again (held c.args.text.now c.args.rows.now c.args.n) (take c.args.count es) is (found-number (c.value_of-token.ensures.looks c.args.e.token.kind)) (not-three c.is_undeclared.ensures c.if-is_undeclared.false) (c.against_unless.ensures es ws' d h from o ws₁ is hap) c.if-against_unless.true c.word_fault-then-against_unless.ensures.0 c.word_fault-then-against_unless.ensures.1 c.word_fault-then-against_unless.ensures.2

pub returns-in-Err : goal.returns-in-Err
returns-in-Err c es ws' d h from o ws₁ is hap = entry-token (held c.args.text.now c.args.rows.now c.args.n) (take c.args.count es) is (numbered (rw c.in-Err.is at (c.value_of-token.ensures.looks c.args.e.token.kind)) (refl, refl)) (not-three (rw c.in-Err.is at c.is_undeclared.ensures) c.if-is_undeclared.false) (c.against_unless.ensures es ws' d h from o ws₁ is hap) c.if-against_unless.false (fault-some _) c.word_fault-in-Err.ensures.0 c.word_fault-in-Err.ensures.1 c.word_fault-in-Err.ensures.2

pub returns-in-Ok : goal.returns-in-Ok
returns-in-Ok c es ws' d h from o ws₁ is hap = entry-clean (held c.args.text.now c.args.rows.now c.args.n) (take c.args.count es) is (numbered (rw c.in_default.is at (c.value_of-token.ensures.looks c.args.e.token.kind)) (refl, refl)) (λ z. omega (arith, z)) (c.against_unless.ensures es ws' d h from o ws₁ is hap) c.if-against_unless.false refl (numbered (rw c.in-Ok.is at (c.value_of.ensures.looks c.args.e.emits.kind)) (refl, refl)) refl

pub returns-in-Err-value_of : goal.returns-in-Err-value_of
returns-in-Err-value_of c es ws' d h from o ws₁ is hap = entry-emits (held c.args.text.now c.args.rows.now c.args.n) (take c.args.count es) is (numbered (rw c.in_default.is at (c.value_of-token.ensures.looks c.args.e.token.kind)) (refl, refl)) (λ z. omega (arith, z)) (c.against_unless.ensures es ws' d h from o ws₁ is hap) c.if-against_unless.false refl (numbered (rw c.in-Err-value_of.is at (c.value_of.ensures.looks c.args.e.emits.kind)) (refl, refl)) c.word_fault-in-Err-value_of.ensures.0 c.word_fault-in-Err-value_of.ensures.1 c.word_fault-in-Err-value_of.ensures.2
