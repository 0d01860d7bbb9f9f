-- `collector::first_of` meets its contract.
use native.Mathlib.Omega.{arith}
use mathlib.Core.Path.{refl}
use Rattle.syntax.specs.Sections.{first_of}
use Rattle.collector.proofs.first_of.Goals as goal

pub returns-in-true-true : goal.returns-in-true-true
unfolding first_of
returns-in-true-true c = (rw (c.in-true-true.is-0, c.in-true-true.is-1) refl, omega arith)

pub returns-in-true-false : goal.returns-in-true-false
unfolding first_of
returns-in-true-false c = (rw (c.in-true-false.is-0, c.in-true-false.is-1) refl, omega arith)

pub returns-in-false-true : goal.returns-in-false-true
unfolding first_of
returns-in-false-true c = (rw (c.in-false-true.is-0, c.in-false-true.is-1) refl, omega arith)

pub returns-in-false-false : goal.returns-in-false-false
unfolding first_of
returns-in-false-false c = (rw (c.in-false-false.is-0, c.in-false-false.is-1) refl, omega arith)
