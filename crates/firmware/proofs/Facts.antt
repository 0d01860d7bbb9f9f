-- What the entries leave with their caller, number by number in the header's order, worked out by hand: an entry that told one in another's place, and a
-- definition that read it so, would not meet these.
use mathlib.Core.Bool.{true}
use mathlib.Core.List.{List, [], ◌∷◌, ◌++◌}
use mathlib.Core.Option.{Option, none, some}
use mathlib.Core.Path.{◌≡◌, refl}
use Prim.Native.Nat.{ℕ}
use lib.ListN.{replicate}
use Rattle.events.specs.Events
use Rattle.events.specs.Events.{unlabelled}
use Rattle.firmware.specs.Entries.{phase_in, reason_in, phase_number, reason_or_none, location_or0, read_or0, used_or0, allowance_or0, fresh_number, fresh_in, handing, gives}
use Rattle.firmware.specs.Filing.{hands}
use Rattle.firmware.specs.Processing.{flag_of, numbers_of, tells}
use Rattle.firmware.specs.Turning.{leaves}
use Rattle.loading.specs.File as files
use Rattle.machine.specs.Bytes
use Rattle.machine.specs.Call
use Rattle.machine.specs.Call.{Mode, whole, paused}
use Rattle.machine.specs.Decode
use Rattle.machine.specs.Form
use Rattle.machine.specs.Form.{walk_bytes, call_bytes}
use Rattle.machine.specs.Lengths
use Rattle.machine.specs.Step
use Rattle.machine.specs.Walk
use Rattle.machine.specs.Walk.{Walk, waiting, stopped, fresh}
use Rattle.processor.specs.Process.{accepted, refused}
use Rattle.screen.specs.Screen
use Rattle.screen.specs.Screen.{turn_bytes}

-- A text: refused with 7 at the byte 9, one byte long; accepted with three words, finishing, Q 5; with 47
processed : numbers_of (refused 7 (record { start = 9; size = 1 })) (record { figure = 0; number = 0 }) ∷ numbers_of (accepted (3 ∷ 0 ∷ 9 ∷ []) true) (record { figure = 5; number = 0 })
    ∷ numbers_of (accepted (3 ∷ 0 ∷ 9 ∷ []) true) (record { figure = 0; number = 47 }) ∷ []
    ≡ tells 7 9 1 0 0 0 0 ∷ tells 0 0 0 3 1 5 0 ∷ tells 0 0 0 3 1 0 47 ∷ []
unfolding numbers_of flag_of
processed = refl

-- A file: two words, the claim "finishing"
loaded : files.numbers_of (files.done (256 ∷ 9 ∷ []) 1) ≡ hands 0 2 1
unfolding files.opened
loaded = refl

-- the table `.7` and back, over and over; the walk behind two steps, and behind four
abbrev table : List ℕ
table = 0 ∷ 5 ∷ 0 ∷ 7 ∷ 0 ∷ 2 ∷ 0 ∷ 3 ∷ []

-- room for one event and a byte
abbrev buffer : List ℕ
buffer = replicate 7 9

-- A call with a budget of three: 35 behind the second step; one event, two steps
called : call_bytes table [] (whole []) 3 (walk_bytes (fresh 6)) buffer ≡ gives 35 (walk_bytes (fresh 6)) (0 ∷ 1 ∷ 0 ∷ 7 ∷ 0 ∷ 0 ∷ 9 ∷ []) 1 2
unfolding Events.opened Bytes.opened Lengths.opened Decode.opened Walk.opened Step.opened Call.opened Form.opened
called = refl

-- the walk of a book, and its steps left
abbrev seat : ℕ → ℕ → List ℕ
seat allowance left = walk_bytes (fresh allowance) ++ (replicate 7 0 ++ (left ∷ []))

-- The same as a turn of the second book, with nine steps left of which two are done
turned : turn_bytes table [] (whole []) 1 (seat 4 8 ++ seat 6 9) buffer ≡ leaves 35 (seat 4 8 ++ seat 6 7) (0 ∷ 1 ∷ 0 ∷ 7 ∷ 0 ∷ 0 ∷ 9 ∷ []) 1 2
unfolding Events.opened Bytes.opened Lengths.opened Decode.opened Walk.opened Step.opened Call.opened Form.opened Screen.opened
turned = refl

-- The parts of a walk, in the header's order: phase, reason, location, tokens read, answers used, repairs left
unfoldable read : Option Walk → List ℕ
read w = phase_number w ∷ reason_or_none w ∷ location_or0 w ∷ read_or0 w ∷ used_or0 w ∷ allowance_or0 w ∷ []

-- stopped with 32, waiting, going on, and bytes that are no walk
parts : read (some (record { phase = stopped unlabelled; location = 7; returns = []; result = 8; parameter = 9; io = record { read = 3; used = 2; allowance = 5; events = [] } })) ++ read (some (record { phase = waiting; location = 7; returns = []; result = 8; parameter = 9; io = record { read = 3; used = 2; allowance = 5; events = [] } }))
    ++ (read (some (fresh 6)) ++ read none)
    ≡ 2 ∷ 32 ∷ 7 ∷ 3 ∷ 2 ∷ 5 ∷ 1 ∷ 65535 ∷ 7 ∷ 3 ∷ 2 ∷ 5 ∷ 0 ∷ 65535 ∷ 1 ∷ 0 ∷ 0 ∷ 6 ∷ 3 ∷ 65535 ∷ 0 ∷ 0 ∷ 0 ∷ 0 ∷ []
unfolding read phase_in reason_in phase_number reason_or_none location_or0 read_or0 used_or0 allowance_or0 Events.opened Walk.opened
parts = refl

-- A fresh walk is 158 bytes; another length is refused and kept
begun : (fresh_number (replicate 158 9) ∷ fresh_number (replicate 157 9) ∷ fresh_number (replicate 159 9) ∷ [] ≡ 0 ∷ 21 ∷ 21 ∷ [])
    × (fresh_in 6 (replicate 158 9) ≡ walk_bytes (fresh 6)) × (fresh_in 6 (replicate 157 9) ≡ replicate 157 9)
unfolding fresh_number fresh_in
begun = (refl, refl, refl)

-- `given` 0 is no answer, whatever stands beside it; any other is one
handed : handing 0 7 ∷ handing 1 7 ∷ handing 2 7 ∷ [] ≡ paused none ∷ paused (some 7) ∷ paused (some 7) ∷ []
unfolding handing
handed = refl
