-- `verdict::has` meets its contract: by cases of the word that holds the bit.
use native.Mathlib.Omega.{arith}
use borrow.Author.Tests.{lt-ltb, le-ltb}
use mathlib.Core.Path.{refl}
use Rattle.verdict.specs.Told.{member, bit}
use Rattle.verdict.proofs.has.Goals as goal

-- `verdict::has` meets its contract: by cases of the word that holds the bit.
pub overflow_shr-result : goal.overflow_shr-result
overflow_shr-result c = omega arith

pub returns-then-r-lt-BITS : goal.returns-then-r-lt-BITS
unfolding member bit
returns-then-r-lt-BITS c = rw (lt-ltb _ _ c.if-r-lt-BITS.true) refl

pub overflow_shr-result-then-r-lt-SET_BITS : goal.overflow_shr-result-then-r-lt-SET_BITS
overflow_shr-result-then-r-lt-SET_BITS c = omega arith

pub returns-then-r-lt-SET_BITS : goal.returns-then-r-lt-SET_BITS
unfolding member bit
returns-then-r-lt-SET_BITS c = rw (le-ltb _ _ c.if-r-lt-BITS.false, lt-ltb _ _ c.if-r-lt-SET_BITS.true) refl

pub returns : goal.returns
unfolding member bit
returns c = rw (le-ltb _ _ c.if-r-lt-BITS.false, le-ltb _ _ c.if-r-lt-SET_BITS.false) refl
