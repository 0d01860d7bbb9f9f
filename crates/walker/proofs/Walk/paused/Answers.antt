-- `Walk::paused` meets its contract, by phase and by whether an answer is given.
use mathlib.Core.Path.{ap, ◌∙◌}
use native.Mathlib.Omega.{arith}
use Rattle.walker.specs.Shape.{answered_one, ending_number}
use Rattle.walker.specs.declared.Registers.{Registers}
use Rattle.walker.specs.declared.Walk.{Walk}
use Rattle.walker.proofs.Go.{parts}
use Rattle.walker.proofs.Calls.{retold, paused-goes, paused-answers, paused-stops, refused-going, refused-waiting, refused-stopped}
use Rattle.walker.proofs.Walk.paused.Goals as goal

pub go-requires : goal.go-requires
go-requires c = simp c.clipped.ensures.1 (omega arith)

pub go-requires-in-Waiting-Some : goal.go-requires-in-Waiting-Some
go-requires-in-Waiting-Some c = simp (c.give_answer.ensures, c.clipped-in-Waiting-Some.ensures.1) (omega arith)

pub returns-in-Going-None : goal.returns-in-Going-None
returns-in-Going-None c =
    let a = c.args in
    let e = c.clipped.ensures in
    let g = c.go.ensures in
    let k = retold (paused-goes a.table.now a.tokens.now a.budget a.self a.events.now a.answer a.tokens.now c.clipped.result e.1 e.2 c.in-Going-None.is-0 c.in-Going-None.is-1) (g.walk_value, (g.events_value, (g.steps_value, (g.number_value, g.out_after)))) in
    record { walk_value = k.0; events_value = k.1.0; steps_value = k.1.1.0; number_value = k.1.1.1.0; events_after = k.1.1.1.1 }

pub returns-in-Waiting-Some : goal.returns-in-Waiting-Some
returns-in-Waiting-Some c =
    let a = c.args in
    let e = c.clipped-in-Waiting-Some.ensures in
    let f = c.give_answer.ensures in
    let g = c.go-in-Waiting-Some.ensures in
    let x = c.in-Waiting-Some.word in
    let k = retold (paused-answers a.table.now a.tokens.now a.budget a.self a.events.now a.answer x a.tokens.now c.give_answer.result (ap (λ (w : Walk). w.at) f ∙ ap (λ (r : Registers). answered_one r x) e.1) (ap (λ (w : Walk). w.returns) f ∙ e.2) c.in-Waiting-Some.is-0 c.in-Waiting-Some.is-1) (g.walk_value, (g.events_value, (g.steps_value, (g.number_value, g.out_after)))) in
    record { walk_value = k.0; events_value = k.1.0; steps_value = k.1.1.0; number_value = k.1.1.1.0; events_after = k.1.1.1.1 }

pub returns-in-Stopped-None : goal.returns-in-Stopped-None
unfolding ending_number
returns-in-Stopped-None c =
    let a = c.args in
    let k = parts (paused-stops a.table.now a.tokens.now a.budget a.self a.events.now a.answer _ c.in-Stopped-None.is-0 c.in-Stopped-None.is-1) in
    record { walk_value = rw c.undone-in-Stopped-None.ensures k.0; events_value = rw c.undone-in-Stopped-None.ensures k.1.0; steps_value = rw c.undone-in-Stopped-None.ensures k.1.1.0; number_value = rw c.undone-in-Stopped-None.ensures k.1.1.1.0; events_after = k.1.1.1.1 }

pub returns-in-Going-Some : goal.returns-in-Going-Some
unfolding ending_number
returns-in-Going-Some c =
    let a = c.args in
    let k = parts (refused-going a.table.now a.tokens.now a.budget a.self a.events.now a.answer _ c.in-Going-Some.is-0 c.in-Going-Some.is-1) in
    record { walk_value = rw c.undone.ensures k.0; events_value = rw c.undone.ensures k.1.0; steps_value = rw c.undone.ensures k.1.1.0; number_value = rw c.undone.ensures k.1.1.1.0; events_after = k.1.1.1.1 }

pub returns-in-Waiting-None : goal.returns-in-Waiting-None
unfolding ending_number
returns-in-Waiting-None c =
    let a = c.args in
    let k = parts (refused-waiting a.table.now a.tokens.now a.budget a.self a.events.now a.answer c.in-Waiting-None.is-0 c.in-Waiting-None.is-1) in
    record { walk_value = rw c.undone-in-Waiting-None.ensures k.0; events_value = rw c.undone-in-Waiting-None.ensures k.1.0; steps_value = rw c.undone-in-Waiting-None.ensures k.1.1.0; number_value = rw c.undone-in-Waiting-None.ensures k.1.1.1.0; events_after = k.1.1.1.1 }

pub returns-in-Stopped-Some : goal.returns-in-Stopped-Some
unfolding ending_number
returns-in-Stopped-Some c =
    let a = c.args in
    let k = parts (refused-stopped a.table.now a.tokens.now a.budget a.self a.events.now a.answer _ _ c.in-Stopped-Some.is-0 c.in-Stopped-Some.is-1) in
    record { walk_value = rw c.undone-in-Stopped-Some.ensures k.0; events_value = rw c.undone-in-Stopped-Some.ensures k.1.0; steps_value = rw c.undone-in-Stopped-Some.ensures k.1.1.0; number_value = rw c.undone-in-Stopped-Some.ensures k.1.1.1.0; events_after = k.1.1.1.1 }
