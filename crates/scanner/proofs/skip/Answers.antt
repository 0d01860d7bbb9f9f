-- `scanner::skip` meets its contract.
use mathlib.Core.Path.{refl, sym, ◌∙◌}
use native.Mathlib.Omega.{arith}
use Rattle.scanner.proofs.WordLaws.{blank_step, comment-step}
use Rattle.scanner.proofs.skip.Goals as goal

pub loop-i-init : goal.loop-i-init
loop-i-init c = (omega arith, omega arith, refl)

pub bounds-text-i : goal.bounds-text-i
bounds-text-i c = omega arith

pub overflow_add-i : goal.overflow_add-i
overflow_add-i c = omega arith

pub loop-i-smaller-then-is_blank : goal.loop-i-smaller-then-is_blank
loop-i-smaller-then-is_blank c = omega arith

pub loop-i-preserved-then-is_blank : goal.loop-i-preserved-then-is_blank
loop-i-preserved-then-is_blank c = (omega arith, omega arith, c.loop-i.invariant.2 ∙ blank_step c.args.text.now c.loop-i.i c.loop-i-test.true (sym c.is_blank.ensures ∙ c.if-is_blank.true))

pub returns-then-b-ne37 : goal.returns-then-b-ne37
returns-then-b-ne37 c = record { low = omega arith; high = omega arith; same = c.loop-i.invariant.2; solid = λ h. sym c.is_blank.ensures ∙ c.if-is_blank.false; plain = λ h. c.if-b-ne37.true }

pub overflow_add-i-else-is_blank : goal.overflow_add-i-else-is_blank
overflow_add-i-else-is_blank c = omega arith

pub overflow_add-i-else-is_blank-2 : goal.overflow_add-i-else-is_blank-2
overflow_add-i-else-is_blank-2 c = omega arith

pub run_of-requires : goal.run_of-requires
run_of-requires c = omega arith

pub overflow_add-i-else-is_blank-3 : goal.overflow_add-i-else-is_blank-3
overflow_add-i-else-is_blank-3 c = omega arith

pub loop-i-smaller : goal.loop-i-smaller
loop-i-smaller c = omega arith

pub loop-i-preserved : goal.loop-i-preserved
loop-i-preserved c = (omega arith, omega arith, c.loop-i.invariant.2 ∙ comment-step c.args.text.now c.loop-i.i c.run_of.result c.loop-i-test.true c.if-b-ne37.false c.run_of.ensures.count c.run_of.ensures.inside)

pub returns : goal.returns
returns c = record { low = omega arith; high = omega arith; same = c.loop-i.invariant.2; solid = λ h. absurd (omega arith); plain = λ h. absurd (omega arith) }
