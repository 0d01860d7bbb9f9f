-- Lists of calls that the demand speaks of, worked out by hand, so that its premises can be met: `rules M: [ f | x: .b ]; end` with f = 768, x = 0
-- and b = 0, no tokens, and 0 as the only answer.
use mathlib.Core.List.{List, [], ◌∷◌}
use mathlib.Core.Option.{none, some}
use mathlib.Core.Path.{refl}
use native.Mathlib.Omega.{arith}
use Prim.Native.Nat.{ℕ, ◌^◌, ◌<◌}
use lib.ListN.{length}
use Rattle.agreement.specs.Demand
use Rattle.agreement.specs.Demand.{Listed, begin, then_call}
use Rattle.agreement.specs.Pauses.{Row, first, next, joined}
use Rattle.events.specs.Events
use Rattle.events.specs.Events.{Event, output, operation, finished}
use Rattle.machine.specs.Call
use Rattle.machine.specs.Call.{whole, paused, Called, call_walk}
use Rattle.machine.specs.Decode
use Rattle.machine.specs.Lengths
use Rattle.machine.specs.Step
use Rattle.machine.specs.Walk
use Rattle.machine.specs.Walk.{Walk, waiting, stopped, fresh}

calling : Unit {0}
unfolding Events.opened Lengths.opened Decode.opened Walk.opened Step.opened Call.opened Demand.Allowed Demand.opened
calling = tt

-- 1: f; 2: choice, 8 - 3; 4: emit 0; 6: jump_forward, 12 - 7; 8: one label; 0 at 9, back 10 - 4; 11: end_choice; 12: return
abbrev table : List ℕ
table = 768 ∷ 11 ∷ 5 ∷ 5 ∷ 0 ∷ 1 ∷ 5 ∷ 1 ∷ 0 ∷ 6 ∷ 12 ∷ 9 ∷ []

-- the walk after its last call: f, choice, emit, jump_forward and return are done
abbrev ended : Walk
ended = record { phase = stopped finished; location = 12; returns = []; result = 0; parameter = 0; io = record { read = 0; used = 1; allowance = 0; events = [] } }

abbrev written : List Event
written = operation 768 ∷ output 0 ∷ []

-- the same in a row, with budgets and buffers enough: it waits (22), and ends with its answer (0)
abbrev asks : Called
asks = call_walk table [] (paused none) 9 9 (fresh 0)

abbrev ends : Called
ends = call_walk table [] (paused (some 0)) 9 9 asks.walk

pub in_a_row : Row table [] (fresh 0) (0 ∷ []) [] (joined asks ends)
unfolding calling
in_a_row = next (first 9 9 ((λ e. omega (arith, e)), λ e. omega (arith, e))) refl 9 9 ((λ e. omega (arith, e)), λ e. omega (arith, e))

few : length {A = ℕ} (0 ∷ []) < 2 ^ 64
few = omega arith

-- paused: it waits after its first step (22), refuses a whole call and one with no answer (21), and ends with its answer
pub in-pauses : Listed table [] (0 ∷ []) 0 ended written 5 (0 ∷ 21 ∷ 21 ∷ 22 ∷ [])
unfolding calling
in-pauses =
    let waits = then_call begin (paused none) 9 9 tt in
    let refuses = then_call (then_call waits (whole (0 ∷ [])) 9 9 (refl, few)) (paused none) 9 9 tt in
    then_call refuses (paused (some 0)) 9 9 refl

-- in pieces, whole and paused calls mixed: an answer that it does not wait for is refused (21), a budget is done (36), an event has no room (35),
-- it ends (0), refuses an answer again and repeats its end
pub in_pieces : Listed table [] (0 ∷ []) 0 ended written 5 (0 ∷ 21 ∷ 0 ∷ 35 ∷ 36 ∷ 21 ∷ [])
unfolding calling
in_pieces =
    let refuses = then_call begin (paused (some 5)) 9 9 tt in
    let asks = then_call refuses (whole (0 ∷ [])) 1 9 (refl, few) in
    let ends = then_call (then_call asks (paused none) 9 2 tt) (whole (0 ∷ [])) 9 3 (refl, few) in
    then_call (then_call ends (paused (some 7)) 0 0 tt) (paused none) 0 0 tt
