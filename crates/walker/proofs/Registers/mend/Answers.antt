-- `Registers::mend` meets its contract.
use mathlib.Core.Path.{subst}
use Prim.Native.Nat.{◌<◌, ◌≤◌}
use native.Mathlib.Omega.{arith}
use borrow.Author.Tests.{lt-ltb, le-ltb}
use Rattle.walker.specs.Shape.{mend_of}
use Rattle.walker.proofs.Registers.mend.Goals as goal

pub spend-requires : goal.spend-requires
spend-requires c = omega (arith, c.low_word.ensures, c.if-low_word-gt0.true)

pub returns-then-low_word-gt0 : goal.returns-then-low_word-gt0
unfolding mend_of
returns-then-low_word-gt0 c =
    let left = subst (λ x. 0 < x) c.low_word.ensures c.if-low_word-gt0.true in
    simp (lt-ltb _ _ left, c.tell.ensures, c.word.ensures, c.spend.ensures, c.requires.1)

pub returns-else-low_word-gt0 : goal.returns-else-low_word-gt0
unfolding mend_of
returns-else-low_word-gt0 c = simp (le-ltb _ _ (subst (λ x. x ≤ 0) c.low_word.ensures c.if-low_word-gt0.false))
