-- `counting::count_book` meets its contract: the invariant carries the call and the locations still to come, and each case of `Next` has its law.
use Rattle.counting.proofs.Loop.{Inv}
use Rattle.counting.proofs.count_book.Given as goal

abbrev pub invariant-loop-done : goal.invariant-loop-done
invariant-loop-done l =
    Inv l.table l.tokens l.answers l.b.budget l.b.allowance l.b.writes l.initial.out l.initial.counts l.at l.returns l.out l.events l.done l.room l.counts
