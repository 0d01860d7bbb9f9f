-- "every program that was finishing still is": a quiet path now is one before.
use mathlib.Core.List.{List}
use Prim.Native.Nat.{ℕ}
use Rattle.program.specs.Program.{Selector, Act, Acts, Alts, Rule}
use Rattle.finishing.specs.Before as before
use Rattle.finishing.specs.Finishing.{Way, by_give, Path, path_emit, path_error, path_update, path_update_with, path_call, path_calls, path_exit, path_back, path_give, path_out, path_around, path_in, path_selects, path_labelled, path_otherwise, path_named, path_unnamed, Paths, paths_done, paths_here, paths_later, PathsSome, paths_this, paths_that, PathsFor, for_this, for_that, Opens, opens_operation, opens_operation_with, OpensElse, else_token, else_opens, Gives, gives, Passed, passed, Comes, directly, through, Loop, loop_here, loop_in, loop_labelled, loop_otherwise, Loops, loops_here, loops_later, LoopsSome, loops_this, loops_that}

opens : {s : Selector} (prog : List Rule) → Opens s → before.Opens prog s
opens prog opens_operation = before.opens_operation
opens prog opens_operation_with = before.opens_operation_with

else-too : {s : Selector} (prog : List Rule) → OpensElse s → before.OpensElse prog s
else-too prog else_token = before.else_token
else-too prog (else_opens x) = before.else_opens (opens prog x)

module _ (prog : List Rule) where
  mutual
    path : {w : Way} {a : Act} → Path prog w a → before.Path prog w a
    path path_emit = before.path_emit
    path path_error = before.path_error
    path path_update = before.path_update
    path path_update_with = before.path_update_with
    path (path_call x) = before.path_call (is-passed x)
    path path_calls = before.path_calls
    path path_exit = before.path_exit
    path path_back = before.path_back
    path path_give = before.path_give
    path (path_out x) = before.path_out (paths x)
    path (path_around x y) = before.path_around (paths x) (path y)
    path (path_in f x) = before.path_in f (paths x)
    path path_selects = before.path_selects
    path (path_labelled x y) = before.path_labelled (opens prog x) (paths-some y)
    path (path_otherwise x y) = before.path_otherwise (else-too prog x) (paths y)
    path (path_named x y) = before.path_labelled (before.opens_rule (is-given x)) (paths-for y)
    path (path_unnamed x n y) = before.path_otherwise (before.else_opens (before.opens_rule (is-given x))) (paths y)

    paths : {w : Way} {q : Acts} → Paths prog w q → before.Paths prog w q
    paths paths_done = before.paths_done
    paths (paths_here x y) = before.paths_here x (path y)
    paths (paths_later x y) = before.paths_later (path x) (paths y)

    paths-some : {w : Way} {q : Alts} → PathsSome prog w q → before.PathsSome prog w q
    paths-some (paths_this x) = before.paths_this (paths x)
    paths-some (paths_that x) = before.paths_that (paths-some x)

    paths-for : {v : ℕ} {w : Way} {q : Alts} → PathsFor prog v w q → before.PathsSome prog w q
    paths-for (for_this e x) = before.paths_this (paths x)
    paths-for (for_that x) = before.paths_that (paths-for x)

    is-given : {r v : ℕ} → Gives prog r v → before.Passed prog r
    is-given (gives l x) = before.passed l by_give (paths x)

    is-passed : {r : ℕ} → Passed prog r → before.Passed prog r
    is-passed (passed l x p) = before.passed l x (paths p)

  comes : {r s : ℕ} → Comes prog r s → before.Comes prog r s
  comes (directly l p) = before.directly l (paths p)
  comes (through x y) = before.through (comes x) (comes y)

  mutual
    loop : {a : Act} → Loop prog a → before.Loop prog a
    loop (loop_here x) = before.loop_here (paths x)
    loop (loop_in x) = before.loop_in (loops x)
    loop (loop_labelled x) = before.loop_labelled (loops-some x)
    loop (loop_otherwise x) = before.loop_otherwise (loops x)

    loops : {q : Acts} → Loops prog q → before.Loops prog q
    loops (loops_here x) = before.loops_here (loop x)
    loops (loops_later x) = before.loops_later (loops x)

    loops-some : {q : Alts} → LoopsSome prog q → before.LoopsSome prog q
    loops-some (loops_this x) = before.loops_this (loops x)
    loops-some (loops_that x) = before.loops_that (loops-some x)

  pub still-finishing : before.StillFinishing prog
  unfolding before.StillFinishing
  still-finishing fin = record { cycles = λ r l x. fin.cycles r l (loops x); rules = λ r x. fin.rules r (comes x) }
