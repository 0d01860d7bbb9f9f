-- `verdict::callers` meets its contract.
use native.Mathlib.Omega.{arith}
use Rattle.verdict.proofs.callers.Goals as goal

pub loop-i-init : goal.loop-i-init
loop-i-init c = tt

pub number-from-requires : goal.number-from-requires
number-from-requires c = tt

pub overflow_add-i : goal.overflow_add-i
overflow_add-i c = omega arith

pub number-requires : goal.number-requires
number-requires c = tt

pub thought_end-to-requires : goal.thought_end-to-requires
thought_end-to-requires c = tt

pub calls-requires : goal.calls-requires
calls-requires c = tt

pub marked-t-requires : goal.marked-t-requires
marked-t-requires c = tt

pub overflow_add-i-in-loop-i : goal.overflow_add-i-in-loop-i
overflow_add-i-in-loop-i c = omega arith

pub loop-i-smaller : goal.loop-i-smaller
loop-i-smaller c = omega arith

pub loop-i-preserved : goal.loop-i-preserved
loop-i-preserved c = tt

pub returns : goal.returns
returns c = tt
