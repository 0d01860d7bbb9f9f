-- `linker::count_behind` meets its contract.
use Prim.Native.Nat.{ℕ}
use mathlib.Core.Path.{ap, ◌∙◌}
use lib.ListN.{get_or}
use borrow.Author.Tests.{lt-ltb, le-ltb}
use Rattle.linker.specs.Close.{behind, behind_table}
use Rattle.linker.proofs.count_behind.Goals as goal

pub returns-then-x-lt-PAST : goal.returns-then-x-lt-PAST
unfolding behind
returns-then-x-lt-PAST c = simp (lt-ltb _ _ c.if-x-lt-PAST.true) (c.from-then-x-lt-PAST.ensures ∙ ap (λ (i : ℕ). get_or behind_table i 0) c.from.ensures)

pub returns-then-x-lt-ALTERNATIVE : goal.returns-then-x-lt-ALTERNATIVE
unfolding behind
returns-then-x-lt-ALTERNATIVE c = simp (le-ltb _ _ c.if-x-lt-PAST.false, lt-ltb _ _ c.if-x-lt-ALTERNATIVE.true)

pub returns-then-x-lt-UPDATE : goal.returns-then-x-lt-UPDATE
unfolding behind
returns-then-x-lt-UPDATE c = simp (le-ltb _ _ c.if-x-lt-PAST.false, le-ltb _ _ c.if-x-lt-ALTERNATIVE.false, lt-ltb _ _ c.if-x-lt-UPDATE.true) c.from-then-x-lt-UPDATE.ensures

pub returns-then-x-lt-UPDATE_WITH : goal.returns-then-x-lt-UPDATE_WITH
unfolding behind
returns-then-x-lt-UPDATE_WITH c = simp (le-ltb _ _ c.if-x-lt-PAST.false, le-ltb _ _ c.if-x-lt-ALTERNATIVE.false, le-ltb _ _ c.if-x-lt-UPDATE.false, lt-ltb _ _ c.if-x-lt-UPDATE_WITH.true)

pub returns-then-x-lt-ASK : goal.returns-then-x-lt-ASK
unfolding behind
returns-then-x-lt-ASK c = simp (le-ltb _ _ c.if-x-lt-PAST.false, le-ltb _ _ c.if-x-lt-ALTERNATIVE.false, le-ltb _ _ c.if-x-lt-UPDATE.false, le-ltb _ _ c.if-x-lt-UPDATE_WITH.false, lt-ltb _ _ c.if-x-lt-ASK.true)

pub returns-then-x-lt-ASK_WITH : goal.returns-then-x-lt-ASK_WITH
unfolding behind
returns-then-x-lt-ASK_WITH c = simp (le-ltb _ _ c.if-x-lt-PAST.false, le-ltb _ _ c.if-x-lt-ALTERNATIVE.false, le-ltb _ _ c.if-x-lt-UPDATE.false, le-ltb _ _ c.if-x-lt-UPDATE_WITH.false, le-ltb _ _ c.if-x-lt-ASK.false, lt-ltb _ _ c.if-x-lt-ASK_WITH.true)

pub returns-else-x-lt-ASK_WITH : goal.returns-else-x-lt-ASK_WITH
unfolding behind
returns-else-x-lt-ASK_WITH c = simp (le-ltb _ _ c.if-x-lt-PAST.false, le-ltb _ _ c.if-x-lt-ALTERNATIVE.false, le-ltb _ _ c.if-x-lt-UPDATE.false, le-ltb _ _ c.if-x-lt-UPDATE_WITH.false, le-ltb _ _ c.if-x-lt-ASK.false, le-ltb _ _ c.if-x-lt-ASK_WITH.false)
