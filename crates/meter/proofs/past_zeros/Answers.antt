-- `meter::past_zeros` meets its contract: what is passed is 0.
use mathlib.Core.Path.{sym, ◌∙◌}
use native.Mathlib.Omega.{arith}
use Rattle.meter.specs.Store.{numbers_of}
use Prim.Native.Nat.{◌+◌}
use Rattle.meter.proofs.Store.{zero-none, zero_one, zero-less}
use Rattle.meter.proofs.past_zeros.Goals as goal

-- `meter::past_zeros` meets its contract: what is passed is 0.
pub is_clear-requires : goal.is_clear-requires
is_clear-requires c = (c.requires.0, omega arith)

pub overflow_add-i : goal.overflow_add-i
overflow_add-i c = omega arith

pub returns-then-to-i : goal.returns-then-to-i
returns-then-to-i c = (omega arith, omega arith, zero-less (numbers_of c.args.rows.now) c.args.i c.args.to (c.args.i + 32) (omega arith) (c.is_clear.ensures c.if-is_clear.true))

pub overflow_add-result : goal.overflow_add-result
overflow_add-result c = omega arith

pub returns-then-is_clear : goal.returns-then-is_clear
returns-then-is_clear c = (omega arith, omega arith, c.is_clear.ensures c.if-is_clear.true)

pub overflow_add-result-then-number-eq0 : goal.overflow_add-result-then-number-eq0
overflow_add-result-then-number-eq0 c = omega arith

pub returns-then-number-eq0 : goal.returns-then-number-eq0
returns-then-number-eq0 c = (omega arith, omega arith, zero_one (numbers_of c.args.rows.now) c.args.i (sym c.number.ensures ∙ c.if-number-eq0.true))

pub returns : goal.returns
returns c = (omega arith, omega arith, zero-none (numbers_of c.args.rows.now) c.args.i)
