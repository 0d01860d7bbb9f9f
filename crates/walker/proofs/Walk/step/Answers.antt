-- `Walk::step` meets its contract, by phase.
use mathlib.Core.Path.{◌∙◌}
use native.Mathlib.Omega.{arith}
use Rattle.walker.proofs.Steps.{step-goes, step_waits, step-stops}
use Rattle.walker.proofs.Walk.step.Goals as goal

pub next-requires : goal.next-requires
next-requires c = simp c.clipped.ensures.1 (omega arith)

pub returns-in-Going : goal.returns-in-Going
returns-in-Going c =
    let a = c.args in
    let e = c.clipped.ensures in
    c.next.ensures ∙ step-goes a.t.now a.tokens.now a.answers.now a.room a.paused a.self c.clipped.result e.0 e.1 e.2 c.in-Going.is

pub returns-in-Waiting : goal.returns-in-Waiting
returns-in-Waiting c =
    let a = c.args in
    c.says.ensures ∙ step_waits a.t.now a.tokens.now a.answers.now a.room a.paused a.self c.in-Waiting.is

pub returns-in-Stopped : goal.returns-in-Stopped
returns-in-Stopped c =
    let a = c.args in
    c.says-in-Stopped.ensures ∙ step-stops a.t.now a.tokens.now a.answers.now a.room a.paused a.self _ c.in-Stopped.is
