-- `scanner::spelt` meets its contract.
use mathlib.Core.Path.{refl, sym, ◌∙◌}
use native.Mathlib.Omega.{arith}
use lib.ListN.{take, drop}
use Rattle.base.proofs.Laws.{same_next, same_not, same_end}
use Rattle.scanner.proofs.WordLaws.{same_length, part_length, part_at}
use Rattle.scanner.proofs.spelt.Goals as goal

pub returns-then-len-word : goal.returns-then-len-word
returns-then-len-word c = sym (same_length (take c.args.len (drop c.args.start c.args.text.now)) c.args.word.now (λ e. c.if-len-word.true (sym (part_length c.args.text.now c.args.start c.args.len c.requires) ∙ e)))

pub loop-i-init : goal.loop-i-init
loop-i-init c = (omega arith, refl)

pub overflow_add-start : goal.overflow_add-start
overflow_add-start c = omega arith

pub bounds-text-start : goal.bounds-text-start
bounds-text-start c = omega arith

pub bounds-word-i : goal.bounds-word-i
bounds-word-i c = omega arith

pub returns-then-text-start : goal.returns-then-text-start
returns-then-text-start c = sym (same_not (take c.args.len (drop c.args.start c.args.text.now)) c.args.word.now c.loop-i.i (omega (arith, (part_length c.args.text.now c.args.start c.args.len c.requires))) (omega (arith, c.if-len-word.false)) (λ e. c.if-text-start.true (sym (part_at c.args.text.now c.args.start c.args.len c.loop-i.i c.loop-i-test.true) ∙ e))) ∙ c.loop-i.invariant.1

pub overflow_add-i : goal.overflow_add-i
overflow_add-i c = omega arith

pub loop-i-smaller : goal.loop-i-smaller
loop-i-smaller c = omega arith

pub loop-i-preserved : goal.loop-i-preserved
loop-i-preserved c = (omega arith, sym (same_next (take c.args.len (drop c.args.start c.args.text.now)) c.args.word.now c.loop-i.i (omega (arith, (part_length c.args.text.now c.args.start c.args.len c.requires))) (omega (arith, c.if-len-word.false)) (part_at c.args.text.now c.args.start c.args.len c.loop-i.i c.loop-i-test.true ∙ c.if-text-start.false)) ∙ c.loop-i.invariant.1)

pub returns : goal.returns
returns c = sym (same_end (take c.args.len (drop c.args.start c.args.text.now)) c.args.word.now c.loop-i.i (omega (arith, (part_length c.args.text.now c.args.start c.args.len c.requires))) (omega (arith, c.if-len-word.false))) ∙ c.loop-i.invariant.1
