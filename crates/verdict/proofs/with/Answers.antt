-- `verdict::with` meets its contract: by the word that holds the bit.
use native.Mathlib.Omega.{arith}
use borrow.Author.Tests.{ne_eqb}
use mathlib.Core.Path.{refl}
use Rattle.verdict.proofs.Sets.{member-low, member-high}
use Rattle.verdict.proofs.with.Goals as goal

-- `verdict::with` meets its contract: by the word that holds the bit.
pub overflow_shl-result : goal.overflow_shl-result
overflow_shl-result c = omega arith

pub returns-then-r-lt-BITS : goal.returns-then-r-lt-BITS
returns-then-r-lt-BITS c = λ k h. member-low _ _ k c.if-r-lt-BITS.true h

pub overflow_shl-result-then-r-lt-SET_BITS : goal.overflow_shl-result-then-r-lt-SET_BITS
overflow_shl-result-then-r-lt-SET_BITS c = omega arith

pub returns-then-r-lt-SET_BITS : goal.returns-then-r-lt-SET_BITS
returns-then-r-lt-SET_BITS c = λ k h. member-high _ _ k c.if-r-lt-BITS.false c.if-r-lt-SET_BITS.true h

pub returns : goal.returns
returns c = λ k h. rw (ne_eqb c.args.r k (λ e. omega arith)) refl
