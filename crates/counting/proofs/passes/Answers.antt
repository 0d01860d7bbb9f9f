-- `counting::passes` meets its contract: by the budget, or by a call that writes nothing.
use mathlib.Core.Bool.{false≢true}
use mathlib.Core.Path.{refl, ap, ◌∙◌}
use lib.Dec.{ltb}
use Rattle.counting.proofs.Adds.{past-budget, past-measured}
use Rattle.counting.specs.Counting.{Numbers}
use Rattle.counting.proofs.passes.Goals as goal

-- `counting::passes` meets its contract: by the budget, or by a call that writes nothing.
pub returns-then-b-left : goal.returns-then-b-left
returns-then-b-left c = record { value = past-budget _ _ _ c.if-b-left.true; events_unchanged = refl; counts_unchanged = refl }

pub count_book-m-requires : goal.count_book-m-requires
count_book-m-requires c = (c.requires, λ y. absurd (false≢true y))

pub returns : goal.returns
returns c =
    let b = c.count_book-m in
    let a = c.args in record { value = ap (λ (x : Numbers). ltb a.left x.steps) b.ensures.value ∙ past-measured _ _ _ c.if-b-left.false; events_unchanged = b.ensures.out_after; counts_unchanged = b.ensures.counts_after }
