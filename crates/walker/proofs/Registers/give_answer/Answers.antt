-- `Registers::give_answer` meets its contract.
use mathlib.Core.Path.{◌≡◌}
use Prim.Native.Nat.{ℕ, ◌+◌, ◌<◌, ◌^◌, min}
use native.Mathlib.Omega.{arith}
use borrow.Author.Tests.{ltb-true, ltb-false}
use lib.Dec.{ltb}
use Rattle.base.specs.Bools.{split}
use Rattle.walker.specs.Shape.{one_more}
use Rattle.walker.proofs.Registers.give_answer.Goals as goal

one-more : (n : ℕ) → n < 2 ^ 64 → min (n + 1) 18446744073709551615 ≡ one_more n
unfolding one_more
one-more n h = split (ltb n 18446744073709551615) (λ e. rw e (omega (arith, ltb-true n _ e))) (λ e. rw e (omega (arith, ltb-false n _ e)))

pub returns : goal.returns
returns c = simp (c.saturating_add.ensures, c.from.ensures, one-more c.args.self.used (omega (arith, c.well_formed)))
