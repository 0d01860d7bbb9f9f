-- What the entries leave with their caller, number by number in the header's order, worked out by hand: an entry that told one in another's place, and a
-- definition that read it so, would not meet these.
use mathlib.Core.List.{List, [], ◌∷◌, ◌++◌}
use mathlib.Core.Option.{some}
use mathlib.Core.Path.{◌≡◌, refl}
use Prim.Native.Nat.{ℕ}
use lib.Count
use lib.ListN.{replicate}
use Rattle.desk.specs.Leaves.{adds, reports}
use Rattle.events.specs.Events
use Rattle.figures.specs.Figures
use Rattle.figures.specs.Figures.{Figures}
use Rattle.figures.specs.Form
use Rattle.figures.specs.Form.{added, report_of}
use Rattle.figures.specs.Visits
use Rattle.machine.specs.Bytes
use Rattle.machine.specs.Call
use Rattle.machine.specs.Decode
use Rattle.machine.specs.Form as form
use Rattle.machine.specs.Lengths
use Rattle.machine.specs.Step
use Rattle.machine.specs.Walk

-- books and total, here without the counts
abbrev shelf : ℕ → ℕ → Figures
shelf books total = record { counts = []; bits = []; books = books; total = total }

-- a number below 256 in eight bytes
abbrev eight : ℕ → List ℕ
eight n = replicate 7 0 ++ (n ∷ [])

-- a book that emits 7 and returns: the number, the figures, the event buffer, one event, two steps
added_is : added (5 ∷ 7 ∷ 9 ∷ []) (record { tokens = []; answers = []; budget = 10; allowance = 0; room = 3 }) (some (shelf 1 5)) (3 ∷ 3 ∷ []) (9 ∷ 9 ∷ 9 ∷ 9 ∷ 9 ∷ 9 ∷ 9 ∷ [])
    ≡ adds 0 (eight 2 ++ eight 7) (0 ∷ 1 ∷ 0 ∷ 7 ∷ 0 ∷ 0 ∷ 9 ∷ []) 1 2
unfolding Events.opened Rattle.figures.specs.Figures.opened Form.opened Visits.opened Bytes.opened Call.opened Decode.opened form.opened Lengths.opened Step.opened Walk.opened
added_is = refl

-- 17 steps of 3 books, four locations executed: number, books, total, locations, mean and remainder
reported : report_of (some (record { counts = []; bits = 5 ∷ 3 ∷ []; books = 3; total = 17 })) ≡ reports 0 3 17 4 5 2
unfolding Rattle.figures.specs.Figures.opened Form.opened lib.Count.ones
reported = refl
