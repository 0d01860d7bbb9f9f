-- `scanner::run_of` meets its contract.
use mathlib.Core.Path.{sym, ◌∙◌}
use native.Mathlib.Omega.{arith}
use Rattle.scanner.proofs.WordLaws.{run-go, run-stop, run_end}
use Rattle.scanner.specs.Scanning.{in_class}
use Rattle.scanner.proofs.run_of.Goals as goal

pub loop-i-init : goal.loop-i-init
loop-i-init c = omega arith

pub bounds-text-i : goal.bounds-text-i
bounds-text-i c = omega arith

pub in_class-requires : goal.in_class-requires
in_class-requires c = tt

pub overflow_sub-result : goal.overflow_sub-result
overflow_sub-result c = omega arith

pub returns-then-not-in_class : goal.returns-then-not-in_class
returns-then-not-in_class c = record { count = omega (arith, run-stop (in_class c.args.class) c.args.text.now c.loop-i.i c.loop-i-test.true (sym c.in_class.ensures ∙ c.if-not-in_class.true)); inside = omega arith }

pub overflow_add-i : goal.overflow_add-i
overflow_add-i c = omega arith

pub loop-i-smaller : goal.loop-i-smaller
loop-i-smaller c = omega arith

pub loop-i-preserved : goal.loop-i-preserved
loop-i-preserved c = omega (arith, run-go (in_class c.args.class) c.args.text.now c.loop-i.i c.loop-i-test.true (sym c.in_class.ensures ∙ c.if-not-in_class.false))

pub overflow_sub-result-2 : goal.overflow_sub-result-2
overflow_sub-result-2 c = omega arith

pub returns : goal.returns
returns c = record { count = omega (arith, run_end (in_class c.args.class) c.args.text.now c.loop-i.i c.loop-i-test.false); inside = omega arith }
