-- `verdict::calls` meets its contract.
use native.Mathlib.Omega.{arith}
use Rattle.verdict.proofs.calls.Goals as goal

pub loop-i-init : goal.loop-i-init
loop-i-init c = tt

pub number-tag-requires : goal.number-tag-requires
number-tag-requires c = tt

pub overflow_add-i : goal.overflow_add-i
overflow_add-i c = omega arith

pub number-requires : goal.number-requires
number-requires c = tt

pub returns-then-number-r : goal.returns-then-number-r
returns-then-number-r c = tt

pub overflow_add-i-in-loop-i : goal.overflow_add-i-in-loop-i
overflow_add-i-in-loop-i c = omega arith

pub loop-i-smaller : goal.loop-i-smaller
loop-i-smaller c = omega arith

pub loop-i-preserved : goal.loop-i-preserved
loop-i-preserved c = tt

pub returns : goal.returns
returns c = tt
