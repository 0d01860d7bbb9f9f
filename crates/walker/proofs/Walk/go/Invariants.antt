-- `Walk::go` meets its contract: the invariant carries `go_of` with what is left of the budget, and each step that goes on keeps it.
use Prim.Native.Nat.{◌-◌}
use Rattle.walker.proofs.Go.{Inv}
use Rattle.walker.proofs.Walk.go.Given as goal

abbrev pub invariant-loop-done : goal.invariant-loop-done
invariant-loop-done l =
    Inv l.t l.tokens l.answers l.pause l.budget l.initial.at l.initial.returns l.initial.out l.at l.returns l.out l.events l.done l.room

abbrev pub decreases-loop-done : goal.decreases-loop-done
decreases-loop-done l = l.budget - l.done
