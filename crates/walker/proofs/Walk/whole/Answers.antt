-- `Walk::whole` meets its contract, by phase.
use native.Mathlib.Omega.{arith}
use Rattle.walker.specs.Shape.{ending_number}
use Rattle.walker.proofs.Go.{parts}
use Rattle.walker.proofs.Calls.{retold, whole-goes, whole-waits, whole-stops}
use Rattle.walker.proofs.Walk.whole.Goals as goal

pub go-requires : goal.go-requires
go-requires c = simp c.clipped.ensures.1 (omega arith)

pub returns-in-Going : goal.returns-in-Going
returns-in-Going c =
    let a = c.args in
    let k = retold (whole-goes a.table.now a.tokens.now a.budget a.self a.events.now a.answers.now c.clipped.result c.clipped.ensures.1 c.clipped.ensures.2 c.in-Going.is) (c.go.ensures.walk_value, (c.go.ensures.events_value, (c.go.ensures.steps_value, (c.go.ensures.number_value, c.go.ensures.out_after)))) in
    record { walk_value = k.0; events_value = k.1.0; steps_value = k.1.1.0; number_value = k.1.1.1.0; events_after = k.1.1.1.1 }

pub returns-in-Waiting : goal.returns-in-Waiting
unfolding ending_number
returns-in-Waiting c =
    let a = c.args in
    let k = parts (whole-waits a.table.now a.tokens.now a.budget a.self a.events.now a.answers.now c.in-Waiting.is) in
    record { walk_value = rw c.undone.ensures k.0; events_value = rw c.undone.ensures k.1.0; steps_value = rw c.undone.ensures k.1.1.0; number_value = rw c.undone.ensures k.1.1.1.0; events_after = k.1.1.1.1 }

pub returns-in-Stopped : goal.returns-in-Stopped
unfolding ending_number
returns-in-Stopped c =
    let a = c.args in
    let k = parts (whole-stops a.table.now a.tokens.now a.budget a.self a.events.now a.answers.now _ c.in-Stopped.is) in
    record { walk_value = rw c.undone-in-Stopped.ensures k.0; events_value = rw c.undone-in-Stopped.ensures k.1.0; steps_value = rw c.undone-in-Stopped.ensures k.1.1.0; number_value = rw c.undone-in-Stopped.ensures k.1.1.1.0; events_after = k.1.1.1.1 }
