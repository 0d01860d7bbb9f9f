-- What the definitions say in single calls, computed: each instruction, each number, their order, and the byte form.
use mathlib.Core.Bool.{Bool, true, ◌&&◌}
use mathlib.Core.List.{List, [], ◌∷◌, ◌++◌}
use mathlib.Core.Option.{none, some}
use Prim.Native.Nat.{ℕ, ◌-◌}
use lib.Dec.{T, eqb}
use lib.ListN.{length, replicate}
use Rattle.base.specs.Common.{same}
use Rattle.events.specs.Events
use Rattle.events.specs.Events.{Reason, finished, differs, missing, unlabelled, deep, unanswered, outside}
use Rattle.machine.specs.Bytes
use Rattle.machine.specs.Lengths
use Rattle.machine.specs.Decode
use Rattle.machine.specs.Walk
use Rattle.machine.specs.Step
use Rattle.machine.specs.Call
use Rattle.machine.specs.Form
use Rattle.machine.specs.Walk.{Phase, going, waiting, stopped, Walk, fresh}
use Rattle.machine.specs.Call.{Mode, whole, paused, Called, call_walk}
use Rattle.machine.specs.Form.{phase_words, events_words, Outcome, call_bytes}

-- a call, and what it gives
pub data Case : Type 0 where
  -- table, tokens, mode, budget, room, walk; number, words of the events, steps, walk
  call : List ℕ → List ℕ → Mode → ℕ → ℕ → Walk → ℕ → List ℕ → ℕ → Walk → Case
  -- the same over bytes: table, tokens, mode, budget, walk, buffer; number, walk, buffer, events, steps
  call_over : List ℕ → List ℕ → Mode → ℕ → List ℕ → List ℕ → ℕ → List ℕ → List ℕ → ℕ → ℕ → Case

-- all that a walk holds
unfoldable pub state : Walk → List ℕ
state w = phase_words w.phase ++ (w.location ∷ w.result ∷ w.parameter ∷ w.io.read ∷ w.io.used ∷ w.io.allowance ∷ length w.io.events ∷ w.returns)

unfoldable pub gives : Called → ℕ → List ℕ → ℕ → Walk → Bool
gives c number events steps w = eqb c.number number && same (events_words c.events) events && eqb c.steps steps && same (state c.walk) (state w)

unfoldable pub gives_bytes : Outcome → ℕ → List ℕ → List ℕ → ℕ → ℕ → Bool
gives_bytes o number walk buffer events steps =
    eqb o.number number && same o.walk walk && same o.buffer buffer && eqb o.events events && eqb o.steps steps

unfoldable pub holds : Case → Bool
holds (call T ts m b room w number events steps v) = gives (call_walk T ts m b room w) number events steps v
holds (call_over T ts m b w buffer number v left events steps) = gives_bytes (call_bytes T ts m b w buffer) number v left events steps

unfoldable pub all : List Case → Bool
all [] = true
all (c ∷ cs) = holds c && all cs

-- a walk: phase, location, return locations, result, parameter, tokens read, answers used
abbrev walk : Phase → ℕ → List ℕ → ℕ → ℕ → ℕ → ℕ → Walk
walk p l rs v x read used = record { phase = p; location = l; returns = rs; result = v; parameter = x; io = record { read = read; used = used; allowance = 0; events = [] } }

-- with an allowance
abbrev having : ℕ → Walk → Walk
having a w = record { phase = w.phase; location = w.location; returns = w.returns; result = w.result; parameter = w.parameter; io = record { read = w.io.read; used = w.io.used; allowance = a; events = w.io.events } }

-- the rest 0 or empty
abbrev on : ℕ → Walk
on l = walk going l [] 0 0 0 0

abbrev ended : Reason → ℕ → Walk
ended r l = walk (stopped r) l [] 0 0 0 0

-- with a result
abbrev holding : ℕ → ℕ → Walk
holding v l = walk going l [] v 0 0 0

-- with return locations
abbrev within : List ℕ → ℕ → Walk
within rs l = walk going l rs 0 0 0 0

-- a whole walk with no answer
abbrev alone : Mode
alone = whole []

-- Each instruction
unfoldable pub instructions : List Case
instructions =
    -- jump_forward and jump_back count from the distance word
    call (1 ∷ 2 ∷ 12 ∷ 9 ∷ []) [] alone 1 9 (fresh 0) 36 [] 1 (on 4)
    ∷ call (1 ∷ 2 ∷ 12 ∷ 9 ∷ []) [] alone 2 9 (fresh 0) 0 [] 2 (ended finished 4)
    ∷ call (9 ∷ 2 ∷ 2 ∷ []) [] alone 1 9 (on 2) 36 [] 1 (on 1)
    -- input
    ∷ call (3 ∷ 7 ∷ 9 ∷ []) (7 ∷ []) alone 1 9 (fresh 0) 36 [] 1 (walk going 3 [] 0 0 1 0)
    ∷ call (3 ∷ 7 ∷ 9 ∷ []) (8 ∷ []) alone 9 9 (fresh 0) 30 [] 1 (ended differs 1)
    ∷ call (3 ∷ 7 ∷ 9 ∷ []) [] alone 9 9 (fresh 0) 30 [] 1 (ended differs 1)
    -- input_any
    ∷ call (4 ∷ 9 ∷ []) (5 ∷ []) alone 1 9 (fresh 0) 36 [] 1 (walk going 2 [] 0 0 1 0)
    ∷ call (4 ∷ 9 ∷ []) [] alone 9 9 (fresh 0) 31 [] 1 (ended missing 1)
    -- emit, error
    ∷ call (5 ∷ 70 ∷ 9 ∷ []) [] alone 2 3 (fresh 0) 0 (1 ∷ 70 ∷ 0 ∷ []) 2 (ended finished 3)
    ∷ call (6 ∷ 10 ∷ 9 ∷ []) [] alone 2 3 (fresh 0) 0 (2 ∷ 10 ∷ 0 ∷ []) 2 (ended finished 3)
    -- input_choice: the label taken, with its token read; the default, with none; the default with no token, whatever result holds
    ∷ call (7 ∷ 3 ∷ 1 ∷ 8 ∷ 1 ∷ 1 ∷ 4 ∷ 3 ∷ 1 ∷ 2 ∷ 8 ∷ 9 ∷ []) (1 ∷ []) alone 1 9 (fresh 0) 36 [] 1 (walk going 3 [] 1 0 1 0)
    ∷ call (7 ∷ 3 ∷ 1 ∷ 8 ∷ 1 ∷ 1 ∷ 4 ∷ 3 ∷ 1 ∷ 2 ∷ 8 ∷ 9 ∷ []) (2 ∷ []) alone 1 9 (fresh 0) 36 [] 1 (holding 2 8)
    ∷ call (7 ∷ 3 ∷ 1 ∷ 8 ∷ 1 ∷ 1 ∷ 4 ∷ 3 ∷ 1 ∷ 2 ∷ 8 ∷ 9 ∷ []) [] alone 1 9 (holding 1 1) 36 [] 1 (holding 1 8)
    ∷ call (7 ∷ 3 ∷ 1 ∷ 8 ∷ 1 ∷ 1 ∷ 4 ∷ 3 ∷ 1 ∷ 2 ∷ 8 ∷ 9 ∷ []) (1 ∷ []) alone 1 9 (walk going 1 [] 1 0 1 0) 36 [] 1 (walk going 8 [] 1 0 1 0)
    -- call, and back behind it; a return with nothing pending
    ∷ call (8 ∷ 4 ∷ 12 ∷ 9 ∷ []) [] alone 1 9 (fresh 0) 36 [] 1 (within (3 ∷ []) 4)
    ∷ call (8 ∷ 4 ∷ 12 ∷ 9 ∷ []) [] alone 2 9 (fresh 0) 36 [] 2 (on 3)
    ∷ call (9 ∷ []) [] alone 9 9 (fresh 0) 0 [] 1 (ended finished 1)
    -- set_result
    ∷ call (10 ∷ 77 ∷ 9 ∷ []) [] alone 1 9 (fresh 0) 36 [] 1 (holding 77 3)
    -- choice: the label taken, no token read; the second of two labels; the first of two equal ones; the default
    ∷ call (11 ∷ 3 ∷ 1 ∷ 8 ∷ 1 ∷ 5 ∷ 4 ∷ 12 ∷ []) (5 ∷ []) alone 1 9 (holding 5 1) 36 [] 1 (holding 5 3)
    ∷ call (11 ∷ 1 ∷ 2 ∷ 4 ∷ 1 ∷ 5 ∷ 6 ∷ 12 ∷ []) [] alone 1 9 (holding 5 1) 36 [] 1 (holding 5 1)
    ∷ call (11 ∷ 1 ∷ 2 ∷ 5 ∷ 1 ∷ 5 ∷ 6 ∷ 12 ∷ []) [] alone 1 9 (holding 5 1) 36 [] 1 (holding 5 4)
    ∷ call (11 ∷ 3 ∷ 1 ∷ 8 ∷ 1 ∷ 5 ∷ 4 ∷ 12 ∷ []) (5 ∷ []) alone 1 9 (holding 4 1) 36 [] 1 (holding 4 8)
    -- end_choice, set_parameter
    ∷ call (12 ∷ 9 ∷ []) [] alone 9 9 (fresh 0) 32 [] 1 (ended unlabelled 1)
    ∷ call (13 ∷ 8 ∷ 9 ∷ []) [] alone 1 9 (fresh 0) 36 [] 1 (walk going 3 [] 0 8 0 0)
    -- the operations of each kind, the first and the last
    ∷ call (256 ∷ 512 ∷ 768 ∷ 1024 ∷ 9 ∷ []) [] (whole (5 ∷ 6 ∷ [])) 9 12 (walk going 1 [] 0 8 0 0)
    0 (3 ∷ 256 ∷ 0 ∷ 3 ∷ 512 ∷ 8 ∷ 3 ∷ 768 ∷ 0 ∷ 3 ∷ 1024 ∷ 8 ∷ []) 5 (walk (stopped finished) 5 [] 6 8 0 2)
    ∷ call (511 ∷ 767 ∷ 1023 ∷ 1279 ∷ 9 ∷ []) [] (whole (5 ∷ 6 ∷ [])) 9 12 (walk going 1 [] 0 8 0 0)
    0 (3 ∷ 511 ∷ 0 ∷ 3 ∷ 767 ∷ 8 ∷ 3 ∷ 1023 ∷ 0 ∷ 3 ∷ 1279 ∷ 8 ∷ []) 5 (walk (stopped finished) 5 [] 6 8 0 2)
    ∷ []

-- The cases P2, P5, P6 and P7 of the paper
unfoldable pub papers : List Case
papers =
    call (7 ∷ 7 ∷ 1 ∷ 12 ∷ 6 ∷ 10 ∷ 1 ∷ 8 ∷ 2 ∷ 2 ∷ 8 ∷ 3 ∷ 8 ∷ 1 ∷ 3 ∷ 2 ∷ 16 ∷ 9 ∷ []) (2 ∷ 3 ∷ 4 ∷ []) alone 99 99 (fresh 0)
    0 (2 ∷ 10 ∷ 0 ∷ []) 10 (walk (stopped finished) 18 [] 4 0 2 0)
    ∷ call (3 ∷ 0 ∷ 9 ∷ []) (0 ∷ []) alone 2 0 (fresh 0) 0 [] 2 (walk (stopped finished) 3 [] 0 0 1 0)
    ∷ call (3 ∷ 0 ∷ 9 ∷ []) (0 ∷ []) alone 1 0 (fresh 0) 36 [] 1 (walk going 3 [] 0 0 1 0)
    ∷ call (3 ∷ 0 ∷ 9 ∷ []) [] alone 1 0 (fresh 0) 30 [] 1 (ended differs 1)
    ∷ call (7 ∷ 3 ∷ 1 ∷ 8 ∷ 1 ∷ 1 ∷ 4 ∷ 3 ∷ 1 ∷ 2 ∷ 8 ∷ 9 ∷ []) (0 ∷ []) alone 2 0 (fresh 0) 30 [] 2 (ended differs 8)
    ∷ call (8 ∷ 1 ∷ 9 ∷ []) [] alone 64 0 (fresh 0) 36 [] 64 (within (replicate 64 3) 1)
    ∷ call (8 ∷ 1 ∷ 9 ∷ []) [] alone 65 0 (fresh 0) 33 [] 65 (walk (stopped deep) 1 (replicate 64 3) 0 0 0 0)
    ∷ []

-- 37: nothing is done and nothing counted
unfoldable pub outsides : List Case
outsides =
    -- a fetch: past the end, at 0, from the operand that jump_forward 0 goes to
    call (13 ∷ 1 ∷ []) [] alone 9 9 (fresh 0) 37 [] 1 (walk (stopped outside) 3 [] 0 1 0 0)
    ∷ call (9 ∷ []) [] alone 9 9 (on 0) 37 [] 0 (ended outside 0)
    ∷ call (1 ∷ 0 ∷ []) [] alone 9 9 (fresh 0) 37 [] 1 (ended outside 2)
    -- an operand
    ∷ call (3 ∷ []) (0 ∷ []) alone 9 9 (fresh 0) 37 [] 0 (ended outside 1)
    -- an instruction 0, 14 to 255 or above 1,279
    ∷ call (0 ∷ 9 ∷ []) [] alone 9 9 (fresh 0) 37 [] 0 (ended outside 1)
    ∷ call (14 ∷ 9 ∷ []) [] alone 9 9 (fresh 0) 37 [] 0 (ended outside 1)
    ∷ call (255 ∷ 9 ∷ []) [] alone 9 9 (fresh 0) 37 [] 0 (ended outside 1)
    ∷ call (1280 ∷ 9 ∷ []) [] alone 9 9 (fresh 0) 37 [] 0 (ended outside 1)
    ∷ call (65535 ∷ 9 ∷ []) [] alone 9 9 (fresh 0) 37 [] 0 (ended outside 1)
    -- a jump past the end, to 0, and before it
    ∷ call (1 ∷ 1 ∷ []) [] alone 9 9 (fresh 0) 37 [] 0 (ended outside 1)
    ∷ call (2 ∷ 2 ∷ []) [] alone 9 9 (fresh 0) 37 [] 0 (ended outside 1)
    ∷ call (2 ∷ 3 ∷ []) [] alone 9 9 (fresh 0) 37 [] 0 (ended outside 1)
    -- a choice table: its count; its last label, though the first is the one; what just fits
    ∷ call (11 ∷ 1 ∷ []) [] alone 9 9 (fresh 0) 37 [] 0 (ended outside 1)
    ∷ call (11 ∷ 1 ∷ 2 ∷ 0 ∷ 1 ∷ 1 ∷ []) [] alone 9 9 (fresh 0) 37 [] 0 (ended outside 1)
    ∷ call (11 ∷ 1 ∷ 2 ∷ 0 ∷ 1 ∷ 1 ∷ 1 ∷ []) [] alone 1 9 (fresh 0) 36 [] 1 (on 4)
    -- the default, with no label taken; the label taken; a label that is not taken
    ∷ call (11 ∷ 1 ∷ 1 ∷ 5 ∷ 2 ∷ []) [] alone 9 9 (fresh 0) 37 [] 0 (ended outside 1)
    ∷ call (11 ∷ 1 ∷ 1 ∷ 5 ∷ 5 ∷ 12 ∷ []) [] alone 9 9 (holding 5 1) 37 [] 0 (walk (stopped outside) 1 [] 5 0 0 0)
    ∷ call (11 ∷ 1 ∷ 1 ∷ 5 ∷ 5 ∷ 12 ∷ []) [] alone 1 9 (fresh 0) 36 [] 1 (on 6)
    -- the same for an input choice: result unchanged, nothing read
    ∷ call (7 ∷ 1 ∷ 1 ∷ 5 ∷ 2 ∷ []) (6 ∷ []) alone 9 9 (fresh 0) 37 [] 0 (ended outside 1)
    ∷ call (7 ∷ 1 ∷ 1 ∷ 5 ∷ 5 ∷ 12 ∷ []) (5 ∷ []) alone 9 9 (fresh 0) 37 [] 0 (ended outside 1)
    -- a return location, at the return and not at the call
    ∷ call (9 ∷ []) [] alone 9 9 (within (2 ∷ []) 1) 37 [] 0 (walk (stopped outside) 1 (2 ∷ []) 0 0 0 0)
    ∷ call (8 ∷ 1 ∷ []) [] alone 1 9 (fresh 0) 36 [] 1 (within (3 ∷ []) 1)
    -- a call's target, also with 64 pending; a call that goes, with 64 pending and with 63
    ∷ call (8 ∷ 4 ∷ 9 ∷ []) [] alone 9 9 (fresh 0) 37 [] 0 (ended outside 1)
    ∷ call (8 ∷ 4 ∷ 9 ∷ []) [] alone 9 9 (within (replicate 64 3) 1) 37 [] 0 (walk (stopped outside) 1 (replicate 64 3) 0 0 0 0)
    ∷ call (8 ∷ 1 ∷ 9 ∷ []) [] alone 9 9 (within (replicate 64 3) 1) 33 [] 1 (walk (stopped deep) 1 (replicate 64 3) 0 0 0 0)
    ∷ call (8 ∷ 1 ∷ 9 ∷ []) [] alone 1 9 (within (replicate 63 3) 1) 36 [] 1 (within (replicate 64 3) 1)
    ∷ []

-- "Tested in order: 36, 37, 35, then the instruction's own."
unfoldable pub order : List Case
order =
    -- 36 before 37, 35 and 30
    call [] [] alone 0 9 (fresh 0) 36 [] 0 (fresh 0)
    ∷ call (5 ∷ 7 ∷ []) [] alone 0 0 (fresh 0) 36 [] 0 (fresh 0)
    ∷ call (3 ∷ 7 ∷ []) [] alone 0 0 (fresh 0) 36 [] 0 (fresh 0)
    -- 37 before 35, 35 before 34
    ∷ call (5 ∷ []) [] alone 9 0 (fresh 0) 37 [] 0 (ended outside 1)
    ∷ call (768 ∷ []) [] alone 9 2 (fresh 0) 35 [] 0 (fresh 0)
    -- 34 counts as done, writes no event and leaves the location
    ∷ call (768 ∷ []) [] alone 9 3 (fresh 0) 34 [] 1 (ended unanswered 1)
    ∷ call (768 ∷ 769 ∷ []) [] (whole (5 ∷ [])) 9 9 (fresh 0) 34 (3 ∷ 768 ∷ 0 ∷ []) 2 (walk (stopped unanswered) 2 [] 5 0 0 1)
    -- 35 with two words free and none with three; the words that are left after an event
    ∷ call (5 ∷ 7 ∷ []) [] alone 1 2 (fresh 0) 35 [] 0 (fresh 0)
    ∷ call (5 ∷ 7 ∷ []) [] alone 1 3 (fresh 0) 36 (1 ∷ 7 ∷ 0 ∷ []) 1 (on 3)
    ∷ call (256 ∷ []) [] alone 1 2 (fresh 0) 35 [] 0 (fresh 0)
    ∷ call (256 ∷ []) [] alone 1 3 (fresh 0) 36 (3 ∷ 256 ∷ 0 ∷ []) 1 (on 2)
    ∷ call (768 ∷ []) [] (whole (5 ∷ [])) 1 2 (fresh 0) 35 [] 0 (fresh 0)
    ∷ call (768 ∷ []) [] (whole (5 ∷ [])) 1 3 (fresh 0) 36 (3 ∷ 768 ∷ 0 ∷ []) 1 (walk going 2 [] 5 0 0 1)
    ∷ call (5 ∷ 7 ∷ 6 ∷ 8 ∷ []) [] alone 9 5 (fresh 0) 35 (1 ∷ 7 ∷ 0 ∷ []) 1 (on 3)
    ∷ call (5 ∷ 7 ∷ 6 ∷ 8 ∷ []) [] alone 2 6 (fresh 0) 36 (1 ∷ 7 ∷ 0 ∷ 2 ∷ 8 ∷ 0 ∷ []) 2 (on 5)
    ∷ call (768 ∷ 769 ∷ []) [] (whole (5 ∷ 6 ∷ [])) 9 5 (fresh 0) 35 (3 ∷ 768 ∷ 0 ∷ []) 1 (walk going 2 [] 5 0 0 1)
    ∷ []

-- Repairs
unfoldable pub repairs : List Case
repairs =
    -- the token is there: read, nothing else; also with no room for an event
    call (3 ∷ 7 ∷ 9 ∷ []) (7 ∷ []) alone 1 0 (fresh 5) 36 [] 1 (having 5 (walk going 3 [] 0 0 1 0))
    -- it differs, it is absent: the event, the allowance, the location, no token read; counted as a step
    ∷ call (3 ∷ 7 ∷ 9 ∷ []) (8 ∷ []) alone 1 3 (fresh 5) 36 (4 ∷ 7 ∷ 0 ∷ []) 1 (having 4 (on 3))
    ∷ call (3 ∷ 7 ∷ 9 ∷ []) [] alone 2 3 (fresh 1) 0 (4 ∷ 7 ∷ 0 ∷ []) 2 (ended finished 3)
    ∷ call (3 ∷ 7 ∷ 9 ∷ []) [] (paused none) 2 3 (fresh 65535) 0 (4 ∷ 7 ∷ 0 ∷ []) 2 (having 65534 (ended finished 3))
    -- "35 is tested before a repair": nothing done, nothing counted; with the allowance used up 30, room or none; 36 and 37 before it
    ∷ call (3 ∷ 7 ∷ 9 ∷ []) (8 ∷ []) alone 9 2 (fresh 5) 35 [] 0 (fresh 5)
    ∷ call (3 ∷ 7 ∷ 9 ∷ []) (8 ∷ []) alone 9 2 (fresh 0) 30 [] 1 (ended differs 1)
    ∷ call (3 ∷ 7 ∷ 9 ∷ []) (8 ∷ []) alone 0 0 (fresh 5) 36 [] 0 (fresh 5)
    ∷ call (3 ∷ []) (8 ∷ []) alone 9 0 (fresh 5) 37 [] 0 (having 5 (ended outside 1))
    -- result, parameter and return locations stay
    ∷ call (3 ∷ 7 ∷ 9 ∷ []) (8 ∷ []) alone 1 3 (having 5 (walk going 1 (3 ∷ []) 4 6 0 2)) 36 (4 ∷ 7 ∷ 0 ∷ []) 1 (having 4 (walk going 3 (3 ∷ []) 4 6 0 2))
    -- `?` with none is 31; no label by a rule or an operation is 32
    ∷ call (4 ∷ 9 ∷ []) [] alone 9 9 (fresh 5) 31 [] 1 (having 5 (ended missing 1))
    ∷ call (11 ∷ 1 ∷ 1 ∷ 5 ∷ 2 ∷ 12 ∷ []) (5 ∷ []) alone 9 9 (fresh 5) 32 [] 2 (having 5 (ended unlabelled 6))
    -- an input choice without otherwise: the result is the present token, the default's input is repaired, and back to the alternative
    ∷ call (7 ∷ 3 ∷ 1 ∷ 8 ∷ 1 ∷ 1 ∷ 4 ∷ 3 ∷ 1 ∷ 2 ∷ 8 ∷ 9 ∷ []) (2 ∷ []) alone 2 3 (fresh 5) 36 (4 ∷ 1 ∷ 0 ∷ []) 2 (having 4 (holding 2 10))
    ∷ call (7 ∷ 3 ∷ 1 ∷ 8 ∷ 1 ∷ 1 ∷ 4 ∷ 3 ∷ 1 ∷ 2 ∷ 8 ∷ 9 ∷ []) (2 ∷ []) alone 3 3 (fresh 5) 36 (4 ∷ 1 ∷ 0 ∷ []) 3 (having 4 (holding 2 3))
    ∷ call (7 ∷ 3 ∷ 1 ∷ 8 ∷ 1 ∷ 1 ∷ 4 ∷ 3 ∷ 1 ∷ 2 ∷ 8 ∷ 9 ∷ []) (2 ∷ []) alone 9 3 (fresh 5) 0 (4 ∷ 1 ∷ 0 ∷ []) 5 (having 4 (walk (stopped finished) 12 [] 2 0 0 0))
    -- .. 35 at its default, the choice done
    ∷ call (7 ∷ 3 ∷ 1 ∷ 8 ∷ 1 ∷ 1 ∷ 4 ∷ 3 ∷ 1 ∷ 2 ∷ 8 ∷ 9 ∷ []) (2 ∷ []) alone 9 2 (fresh 5) 35 [] 1 (having 5 (holding 2 8))
    -- the stop with 30 after repairs changes the reason alone
    ∷ call (3 ∷ 7 ∷ 3 ∷ 8 ∷ 9 ∷ []) [] alone 9 9 (fresh 1) 30 (4 ∷ 7 ∷ 0 ∷ []) 2 (ended differs 3)
    -- an answer and an event leave the allowance
    ∷ call (768 ∷ 5 ∷ 7 ∷ 9 ∷ []) [] (whole (5 ∷ [])) 9 9 (fresh 6) 0 (3 ∷ 768 ∷ 0 ∷ 1 ∷ 7 ∷ 0 ∷ []) 3 (having 6 (walk (stopped finished) 4 [] 5 0 0 1))
    -- 21 and a stop that repeats leave it
    ∷ call [] [] (paused (some 5)) 0 0 (fresh 6) 21 [] 0 (fresh 6)
    ∷ call [] [] alone 0 0 (having 6 (ended missing 4)) 31 [] 0 (having 6 (ended missing 4))
    -- also one with 30, made up with an allowance
    ∷ call (3 ∷ 7 ∷ 9 ∷ []) (8 ∷ []) alone 9 9 (having 6 (ended differs 1)) 30 [] 0 (having 6 (ended differs 1))
    ∷ call (3 ∷ 7 ∷ 9 ∷ []) (8 ∷ []) (paused none) 9 9 (having 6 (ended differs 1)) 30 [] 0 (having 6 (ended differs 1))
    -- a walk that waits keeps it, and repairs once it goes on
    ∷ call (768 ∷ 3 ∷ 7 ∷ 9 ∷ []) [] (paused (some 5)) 1 3 (having 6 (walk waiting 2 [] 0 0 0 0)) 36 (4 ∷ 7 ∷ 0 ∷ []) 1 (having 5 (walk going 4 [] 5 0 0 1))
    ∷ []

-- Paused walks, refusals, stops that repeat, made-up walks
unfoldable pub pauses : List Case
pauses =
    -- an operation is handed out: counted, also as the last step, its event written, the location past it
    call (768 ∷ 9 ∷ []) [] (paused none) 1 3 (fresh 0) 22 (3 ∷ 768 ∷ 0 ∷ []) 1 (walk waiting 2 [] 0 0 0 0)
    ∷ call (1024 ∷ 9 ∷ []) [] (paused none) 9 3 (walk going 1 [] 0 8 0 0) 22 (3 ∷ 1024 ∷ 8 ∷ []) 1 (walk waiting 2 [] 0 8 0 0)
    ∷ call (768 ∷ 9 ∷ []) [] (paused none) 9 2 (fresh 0) 35 [] 0 (fresh 0)
    -- an update is only an event
    ∷ call (256 ∷ 9 ∷ []) [] (paused none) 2 3 (fresh 0) 0 (3 ∷ 256 ∷ 0 ∷ []) 2 (ended finished 2)
    -- an answer is taken before the budget test and counts no step
    ∷ call (768 ∷ 9 ∷ []) [] (paused (some 5)) 0 0 (walk waiting 2 [] 0 0 0 0) 36 [] 0 (walk going 2 [] 5 0 0 1)
    ∷ call (768 ∷ 9 ∷ []) [] (paused (some 5)) 1 0 (walk waiting 2 [] 0 0 0 0) 0 [] 1 (walk (stopped finished) 2 [] 5 0 0 1)
    ∷ call (768 ∷ 769 ∷ []) [] (paused (some 5)) 9 9 (walk waiting 2 [] 0 0 0 0) 22 (3 ∷ 769 ∷ 0 ∷ []) 1 (walk waiting 3 [] 5 0 0 1)
    -- answers used stop at their greatest
    ∷ call [] [] (paused (some 5)) 0 0 (walk waiting 2 [] 0 0 0 18446744073709551614) 36 [] 0 (walk going 2 [] 5 0 0 18446744073709551615)
    ∷ call [] [] (paused (some 5)) 0 0 (walk waiting 2 [] 0 0 0 18446744073709551615) 36 [] 0 (walk going 2 [] 5 0 0 18446744073709551615)
    -- 21 before all other tests, nothing changed
    ∷ call [] [] (paused (some 5)) 0 0 (fresh 0) 21 [] 0 (fresh 0)
    ∷ call [] [] (paused none) 0 0 (walk waiting 2 [] 0 0 0 0) 21 [] 0 (walk waiting 2 [] 0 0 0 0)
    ∷ call [] [] (whole (5 ∷ [])) 0 0 (walk waiting 2 [] 0 0 0 0) 21 [] 0 (walk waiting 2 [] 0 0 0 0)
    ∷ call [] [] (paused (some 5)) 0 0 (ended differs 4) 21 [] 0 (ended differs 4)
    -- a stop repeats
    ∷ call [] [] alone 0 0 (ended finished 4) 0 [] 0 (ended finished 4)
    ∷ call [] [] (paused none) 0 0 (ended differs 4) 30 [] 0 (ended differs 4)
    ∷ call [] [] alone 0 0 (ended missing 4) 31 [] 0 (ended missing 4)
    ∷ call [] [] (paused none) 0 0 (ended unlabelled 4) 32 [] 0 (ended unlabelled 4)
    ∷ call [] [] alone 0 0 (ended deep 4) 33 [] 0 (ended deep 4)
    ∷ call (9 ∷ []) [] (whole (5 ∷ [])) 9 9 (ended unanswered 1) 34 [] 0 (ended unanswered 1)
    ∷ call (9 ∷ []) [] (paused none) 9 9 (ended outside 1) 37 [] 0 (ended outside 1)
    -- nothing of the walk is changed, not even return locations that no call reads
    ∷ call (9 ∷ []) [] alone 9 9 (walk (stopped finished) 1 (3 ∷ replicate 65 2) 5 6 7 8) 0 [] 0 (walk (stopped finished) 1 (3 ∷ replicate 65 2) 5 6 7 8)
    ∷ call (9 ∷ []) [] (paused none) 9 9 (walk (stopped differs) 1 (3 ∷ replicate 65 2) 5 6 7 8) 30 [] 0 (walk (stopped differs) 1 (3 ∷ replicate 65 2) 5 6 7 8)
    -- of more than 64 return locations the first 64 are read
    ∷ call (9 ∷ 9 ∷ []) [] alone 0 0 (within (2 ∷ 1 ∷ replicate 64 2) 1) 36 [] 0 (within (replicate 64 2) 1)
    ∷ call (9 ∷ 9 ∷ []) [] alone 1 0 (within (3 ∷ replicate 64 2) 1) 36 [] 1 (within (replicate 63 2) 2)
    ∷ []

-- 158 bytes: these, then zeros
abbrev form : List ℕ → List ℕ
form s = s ++ replicate (158 - length s) 0

-- bytes that are no walk's: 21, walk and buffer unchanged
abbrev refused : List ℕ → Case
refused w = call_over (0 ∷ 9 ∷ []) [] alone 9 w (replicate 7 170) 21 w (replicate 7 170) 0 0

-- Bytes
unfoldable pub forms : List Case
forms =
    -- an event is written over the buffer's start; an odd last byte is not touched, nor words past the events
    call_over (0 ∷ 5 ∷ 1 ∷ 2 ∷ 0 ∷ 9 ∷ []) [] alone 9 (form (0 ∷ 0 ∷ 0 ∷ 0 ∷ 0 ∷ 1 ∷ [])) (replicate 7 170)
    0 (form (0 ∷ 2 ∷ 0 ∷ 0 ∷ 0 ∷ 3 ∷ [])) (0 ∷ 1 ∷ 1 ∷ 2 ∷ 0 ∷ 0 ∷ 170 ∷ []) 1 2
    ∷ call_over (0 ∷ 5 ∷ 1 ∷ 2 ∷ 0 ∷ 9 ∷ []) [] alone 9 (form (0 ∷ 0 ∷ 0 ∷ 0 ∷ 0 ∷ 1 ∷ [])) (replicate 9 170)
    0 (form (0 ∷ 2 ∷ 0 ∷ 0 ∷ 0 ∷ 3 ∷ [])) (0 ∷ 1 ∷ 1 ∷ 2 ∷ 0 ∷ 0 ∷ 170 ∷ 170 ∷ 170 ∷ []) 1 2
    -- an odd last byte makes no third word of room, no token, no operand
    ∷ call_over (0 ∷ 5 ∷ 1 ∷ 2 ∷ 0 ∷ 9 ∷ []) [] alone 9 (form (0 ∷ 0 ∷ 0 ∷ 0 ∷ 0 ∷ 1 ∷ [])) (replicate 5 170)
    35 (form (0 ∷ 0 ∷ 0 ∷ 0 ∷ 0 ∷ 1 ∷ [])) (replicate 5 170) 0 0
    ∷ call_over (0 ∷ 4 ∷ []) (0 ∷ []) alone 9 (form (0 ∷ 0 ∷ 0 ∷ 0 ∷ 0 ∷ 1 ∷ [])) []
    31 (form (0 ∷ 2 ∷ 0 ∷ 31 ∷ 0 ∷ 1 ∷ [])) [] 0 1
    ∷ call_over (0 ∷ 13 ∷ 0 ∷ []) [] alone 9 (form (0 ∷ 0 ∷ 0 ∷ 0 ∷ 0 ∷ 1 ∷ [])) []
    37 (form (0 ∷ 2 ∷ 0 ∷ 37 ∷ 0 ∷ 1 ∷ [])) [] 0 0
    -- words are high byte first; tokens read are four words
    ∷ call_over (0 ∷ 3 ∷ 1 ∷ 2 ∷ []) (1 ∷ 2 ∷ 9 ∷ []) alone 1 (form (0 ∷ 0 ∷ 0 ∷ 0 ∷ 0 ∷ 1 ∷ [])) []
    36 (form (0 ∷ 0 ∷ 0 ∷ 0 ∷ 0 ∷ 3 ∷ 0 ∷ 0 ∷ 0 ∷ 0 ∷ 0 ∷ 0 ∷ 0 ∷ 0 ∷ 0 ∷ 0 ∷ 0 ∷ 0 ∷ 0 ∷ 0 ∷ 0 ∷ 1 ∷ [])) [] 0 1
    -- the allowance stands in word 6
    ∷ call_over (0 ∷ 3 ∷ 1 ∷ 2 ∷ []) [] alone 1 (form (0 ∷ 0 ∷ 0 ∷ 0 ∷ 0 ∷ 1 ∷ 0 ∷ 0 ∷ 0 ∷ 0 ∷ 0 ∷ 0 ∷ 255 ∷ 255 ∷ [])) (replicate 6 170)
    36 (form (0 ∷ 0 ∷ 0 ∷ 0 ∷ 0 ∷ 3 ∷ 0 ∷ 0 ∷ 0 ∷ 0 ∷ 0 ∷ 0 ∷ 255 ∷ 254 ∷ [])) (0 ∷ 4 ∷ 1 ∷ 2 ∷ 0 ∷ 0 ∷ []) 1 1
    -- only table words past 4,096 are outside: the 4,097th token is read, a table's 4,096th word is fetched, its 4,097th is not
    ∷ call_over (0 ∷ 3 ∷ 1 ∷ 2 ∷ []) (replicate 8192 0 ++ (1 ∷ 2 ∷ [])) alone 1 (form (0 ∷ 0 ∷ 0 ∷ 0 ∷ 0 ∷ 1 ∷ (replicate 14 0 ++ (16 ∷ 0 ∷ [])))) []
    36 (form (0 ∷ 0 ∷ 0 ∷ 0 ∷ 0 ∷ 3 ∷ (replicate 14 0 ++ (16 ∷ 1 ∷ [])))) [] 0 1
    ∷ call_over (replicate 8190 0 ++ (0 ∷ 9 ∷ [])) [] alone 1 (form (0 ∷ 0 ∷ 0 ∷ 0 ∷ 16 ∷ 0 ∷ [])) []
    0 (form (0 ∷ 2 ∷ 0 ∷ 0 ∷ 16 ∷ 0 ∷ [])) [] 0 1
    ∷ call_over (replicate 8192 0 ++ (0 ∷ 9 ∷ [])) [] alone 1 (form (0 ∷ 0 ∷ 0 ∷ 0 ∷ 16 ∷ 1 ∷ [])) []
    37 (form (0 ∷ 2 ∷ 0 ∷ 37 ∷ 16 ∷ 1 ∷ [])) [] 0 0
    -- result and parameter
    ∷ call_over (0 ∷ 10 ∷ 3 ∷ 4 ∷ 0 ∷ 13 ∷ 5 ∷ 6 ∷ []) [] alone 2 (form (0 ∷ 0 ∷ 0 ∷ 0 ∷ 0 ∷ 1 ∷ [])) []
    36 (form (0 ∷ 0 ∷ 0 ∷ 0 ∷ 0 ∷ 5 ∷ 3 ∷ 4 ∷ 5 ∷ 6 ∷ [])) [] 0 2
    -- return locations, the oldest first
    ∷ call_over (0 ∷ 8 ∷ 0 ∷ 3 ∷ 0 ∷ 8 ∷ 0 ∷ 5 ∷ 0 ∷ 9 ∷ []) [] alone 2 (form (0 ∷ 0 ∷ 0 ∷ 0 ∷ 0 ∷ 1 ∷ [])) []
    36 (form (0 ∷ 0 ∷ 0 ∷ 0 ∷ 0 ∷ 5 ∷ 0 ∷ 0 ∷ 0 ∷ 0 ∷ 0 ∷ 2 ∷ (replicate 18 0 ++ (0 ∷ 3 ∷ 0 ∷ 5 ∷ [])))) [] 0 2
    -- a paused walk waits, and takes an answer, answers used being at their greatest
    ∷ call_over (3 ∷ 0 ∷ 0 ∷ 9 ∷ []) [] (paused none) 9 (form (0 ∷ 0 ∷ 0 ∷ 0 ∷ 0 ∷ 1 ∷ [])) (replicate 6 170)
    22 (form (0 ∷ 1 ∷ 0 ∷ 0 ∷ 0 ∷ 2 ∷ [])) (0 ∷ 3 ∷ 3 ∷ 0 ∷ 0 ∷ 0 ∷ []) 1 1
    ∷ call_over (3 ∷ 0 ∷ 0 ∷ 9 ∷ []) [] (paused (some 258)) 0 (form (0 ∷ 1 ∷ 0 ∷ 0 ∷ 0 ∷ 2 ∷ (replicate 16 0 ++ replicate 8 255))) []
    36 (form (0 ∷ 0 ∷ 0 ∷ 0 ∷ 0 ∷ 2 ∷ 1 ∷ 2 ∷ (replicate 14 0 ++ replicate 8 255))) [] 0 0
    -- a count goes on from one of its four words to the next
    ∷ call_over [] [] (paused (some 258)) 0 (form (0 ∷ 1 ∷ 0 ∷ 0 ∷ 0 ∷ 2 ∷ (replicate 22 0 ++ (255 ∷ 255 ∷ [])))) []
    36 (form (0 ∷ 0 ∷ 0 ∷ 0 ∷ 0 ∷ 2 ∷ 1 ∷ 2 ∷ (replicate 19 0 ++ (1 ∷ 0 ∷ 0 ∷ [])))) [] 0 0
    ∷ call_over [] [] (paused (some 258)) 0 (form (0 ∷ 1 ∷ 0 ∷ 0 ∷ 0 ∷ 2 ∷ (replicate 20 0 ++ replicate 4 255))) []
    36 (form (0 ∷ 0 ∷ 0 ∷ 0 ∷ 0 ∷ 2 ∷ 1 ∷ 2 ∷ (replicate 17 0 ++ (1 ∷ [])))) [] 0 0
    -- 21 for a walk in the wrong phase leaves its bytes
    ∷ call_over (3 ∷ 0 ∷ []) [] (paused (some 258)) 9 (form (0 ∷ 0 ∷ 0 ∷ 0 ∷ 0 ∷ 1 ∷ [])) (replicate 7 170)
    21 (form (0 ∷ 0 ∷ 0 ∷ 0 ∷ 0 ∷ 1 ∷ [])) (replicate 7 170) 0 0
    -- bytes too few and too many
    ∷ refused []
    ∷ refused (0 ∷ 0 ∷ 0 ∷ 0 ∷ 0 ∷ 1 ∷ replicate 151 0)
    ∷ refused (0 ∷ 0 ∷ 0 ∷ 0 ∷ 0 ∷ 1 ∷ replicate 153 0)
    ∷ refused (0 ∷ 0 ∷ 0 ∷ 0 ∷ 0 ∷ 1 ∷ replicate 154 0)
    ∷ refused (0 ∷ 0 ∷ 0 ∷ 0 ∷ 0 ∷ 1 ∷ 0 ∷ 0 ∷ 0 ∷ 0 ∷ 0 ∷ 65 ∷ (replicate 18 0 ++ replicate 130 1))
    -- 65 return locations; one that is not used and not 0
    ∷ refused (form (0 ∷ 0 ∷ 0 ∷ 0 ∷ 0 ∷ 1 ∷ 0 ∷ 0 ∷ 0 ∷ 0 ∷ 0 ∷ 65 ∷ []))
    ∷ refused (0 ∷ 0 ∷ 0 ∷ 0 ∷ 0 ∷ 1 ∷ (replicate 151 0 ++ (1 ∷ [])))
    -- a phase 3, a reason 1, a reason for a walk that goes on or waits
    ∷ refused (form (0 ∷ 3 ∷ 0 ∷ 0 ∷ 0 ∷ 1 ∷ []))
    ∷ refused (form (0 ∷ 2 ∷ 0 ∷ 1 ∷ 0 ∷ 1 ∷ []))
    ∷ refused (form (0 ∷ 0 ∷ 0 ∷ 30 ∷ 0 ∷ 1 ∷ []))
    ∷ refused (form (0 ∷ 1 ∷ 0 ∷ 30 ∷ 0 ∷ 1 ∷ []))
    ∷ []

unfoldable pub cases : List Case
unfolding instructions papers outsides order repairs pauses forms
cases = instructions ++ papers ++ outsides ++ order ++ repairs ++ pauses ++ forms

pub all_hold : T (all cases)
unfolding state gives gives_bytes holds all cases Events.opened Bytes.opened Lengths.opened Decode.opened Walk.opened Step.opened Call.opened Form.opened
all_hold = tt
