-- What the definitions say of single books, computed.
use mathlib.Core.Bool.{Bool, true, not, ◌&&◌}
use mathlib.Core.List.{List, [], ◌∷◌, ◌++◌}
use mathlib.Core.Option.{none, some}
use mathlib.Core.Path.{◌≡◌, refl}
use Prim.Native.Nat.{ℕ}
use lib.Dec.{T}
use lib.ListN.{replicate}
use Rattle.base.specs.Common.{same}
use Rattle.events.specs.Events
use Rattle.figures.specs.Figures
use Rattle.figures.specs.Figures.{Figures, bumps, marks, plus, mean_whole, mean_rest, within64, sound}
use Rattle.figures.specs.Form
use Rattle.figures.specs.Form.{Outcome, added, figures_bytes, given_of, Report, report_of}
use Rattle.figures.specs.Spans
use Rattle.figures.specs.Spans.{Total, tells, span_total, span_totals, locations_in, span_of, together_of}
use Rattle.figures.specs.Visits
use Rattle.figures.specs.Visits.{Given, visited}
use Rattle.machine.specs.Bytes
use Rattle.machine.specs.Call
use Rattle.machine.specs.Decode
use Rattle.machine.specs.Form as form
use Rattle.machine.specs.Lengths
use Rattle.machine.specs.Step
use Rattle.machine.specs.Walk

-- table, tokens, answers, budget, allowance, room of the event buffer; the locations visited
pub data Case : Type 0 where
  book : List ℕ → List ℕ → List ℕ → ℕ → ℕ → ℕ → List ℕ → Case

unfoldable pub holds : Case → Bool
holds (book t tokens answers budget allowance room ls) = same (visited t (record { tokens = tokens; answers = answers; budget = budget; allowance = allowance; room = room })) ls

unfoldable pub all : List Case → Bool
all [] = true
all (c ∷ cs) = holds c && all cs

pub cases : List Case
cases =
    -- emit 7, return
    book (5 ∷ 7 ∷ 9 ∷ []) [] [] 10 0 3 (1 ∷ 3 ∷ [])
    -- 35: nothing is done, nothing is counted
    ∷ book (5 ∷ 7 ∷ 9 ∷ []) [] [] 10 0 2 []
    -- 36 after one step, and at once
    ∷ book (5 ∷ 7 ∷ 9 ∷ []) [] [] 1 0 3 (1 ∷ [])
    ∷ book (5 ∷ 7 ∷ 9 ∷ []) [] [] 0 0 3 []
    -- 30: the stopping instruction counts
    ∷ book (3 ∷ 5 ∷ 9 ∷ []) [] [] 10 0 0 (1 ∷ [])
    -- a repair is a step at its location; 35 before it counts nothing
    ∷ book (3 ∷ 5 ∷ 9 ∷ []) [] [] 10 1 3 (1 ∷ 3 ∷ [])
    ∷ book (3 ∷ 5 ∷ 9 ∷ []) [] [] 10 1 2 []
    -- 37 counts nothing: an instruction 0, an operand outside, a target outside
    ∷ book (0 ∷ []) [] [] 10 0 0 []
    ∷ book (5 ∷ []) [] [] 10 0 3 []
    ∷ book (1 ∷ 9 ∷ []) [] [] 10 0 3 []
    ∷ book [] [] [] 10 0 3 []
    -- 34: the operation counts, though its event is not written
    ∷ book (768 ∷ 9 ∷ []) [] [] 10 0 3 (1 ∷ [])
    ∷ book (768 ∷ 9 ∷ []) [] (1 ∷ []) 10 0 3 (1 ∷ 2 ∷ [])
    -- a call and its return; a location visited twice
    ∷ book (8 ∷ 6 ∷ 8 ∷ 6 ∷ 9 ∷ 9 ∷ []) [] [] 10 0 0 (1 ∷ 6 ∷ 3 ∷ 6 ∷ 5 ∷ [])
    -- an input choice with one label, otherwise behind it
    ∷ book (7 ∷ 2 ∷ 9 ∷ 1 ∷ 5 ∷ 3 ∷ 9 ∷ []) (5 ∷ []) [] 10 0 0 (1 ∷ 3 ∷ [])
    ∷ book (7 ∷ 2 ∷ 9 ∷ 1 ∷ 5 ∷ 3 ∷ 9 ∷ []) (6 ∷ []) [] 10 0 0 (1 ∷ 7 ∷ [])
    ∷ []

pub hold : T (all cases)
unfolding all holds cases Rattle.events.specs.Events.opened Rattle.figures.specs.Visits.opened Rattle.machine.specs.Call.opened Rattle.machine.specs.Decode.opened Rattle.machine.specs.Lengths.opened Rattle.machine.specs.Step.opened Rattle.machine.specs.Walk.opened
hold = tt

-- counts, bits and means
abbrev shelf : ℕ → ℕ → Figures
shelf books total = record { counts = []; bits = []; books = books; total = total }

pub sums : T (same (bumps (0 ∷ 4 ∷ 0 ∷ []) (1 ∷ 3 ∷ 1 ∷ [])) (2 ∷ 4 ∷ 1 ∷ []) && same (marks (0 ∷ 0 ∷ []) (1 ∷ 3 ∷ 1 ∷ 64 ∷ 65 ∷ [])) (9223372036854775813 ∷ 1 ∷ [])
    && same (mean_whole (shelf 0 0) ∷ mean_rest (shelf 0 0) ∷ mean_whole (shelf 3 17) ∷ mean_rest (shelf 3 17) ∷ []) (0 ∷ 0 ∷ 5 ∷ 2 ∷ []))
unfolding Rattle.figures.specs.Figures.opened
sums = tt

-- 46: a book of two steps, at the limit of the grand total and past it; one book more, at the limit of the number of books and past it
abbrev two : Given
two = record { tokens = []; answers = []; budget = 10; allowance = 0; room = 3 }

pub past : T (within64 (plus (5 ∷ 7 ∷ 9 ∷ []) two (shelf 1 18446744073709551613)) && not (within64 (plus (5 ∷ 7 ∷ 9 ∷ []) two (shelf 1 18446744073709551614)))
    && within64 (plus (5 ∷ 7 ∷ 9 ∷ []) two (shelf 18446744073709551614 5)) && not (within64 (plus (5 ∷ 7 ∷ 9 ∷ []) two (shelf 18446744073709551615 5))))
unfolding Rattle.events.specs.Events.opened Rattle.figures.specs.Figures.opened Rattle.figures.specs.Visits.opened Rattle.machine.specs.Call.opened Rattle.machine.specs.Decode.opened Rattle.machine.specs.Lengths.opened Rattle.machine.specs.Step.opened Rattle.machine.specs.Walk.opened
past = tt

-- figures whose parts do not fit together are refused: a bit where the count is 0, a count without its bit, a total that is not the sum, a total but no book
abbrev zeros : List ℕ
zeros = replicate 63 0

abbrev lone : ℕ → ℕ → ℕ → ℕ → Figures
lone count bit books total = record { counts = count ∷ replicate 4095 0; bits = bit ∷ zeros; books = books; total = total }

pub fits : T (sound (lone 2 1 1 2) && sound (lone 0 0 1 0) && sound (lone 0 0 0 0) && not (sound (lone 0 1 1 0)) && not (sound (lone 2 0 1 2)) && not (sound (lone 2 2 1 2)) && not (sound (lone 2 1 1 3)) && not (sound (lone 2 1 0 2)))
unfolding Rattle.figures.specs.Figures.opened
fits = tt

-- adding over bytes, here with two bytes for figures: the book's number, events and steps; with 46 and 21 nothing is changed
unfoldable pub row : Outcome → List ℕ
row o = o.number ∷ o.events ∷ o.steps ∷ (o.buffer ++ o.figures)

abbrev nines : List ℕ
nines = 9 ∷ 9 ∷ 9 ∷ 9 ∷ 9 ∷ 9 ∷ 9 ∷ []

pub adding : T (same (row (added (5 ∷ 7 ∷ 9 ∷ []) two (some (shelf 1 5)) (3 ∷ 3 ∷ []) nines)) (0 ∷ 1 ∷ 2 ∷ 0 ∷ 1 ∷ 0 ∷ 7 ∷ 0 ∷ 0 ∷ 9 ∷ 0 ∷ 0 ∷ 0 ∷ 0 ∷ 0 ∷ 0 ∷ 0 ∷ 2 ∷ 0 ∷ 0 ∷ 0 ∷ 0 ∷ 0 ∷ 0 ∷ 0 ∷ 7 ∷ [])
    && same (row (added (5 ∷ 7 ∷ 9 ∷ []) two (some (shelf 1 18446744073709551614)) (3 ∷ 3 ∷ []) nines)) (46 ∷ 0 ∷ 0 ∷ (nines ++ (3 ∷ 3 ∷ [])))
    && same (row (added (5 ∷ 7 ∷ 9 ∷ []) two none (3 ∷ 3 ∷ []) nines)) (21 ∷ 0 ∷ 0 ∷ (nines ++ (3 ∷ 3 ∷ []))))
unfolding row Rattle.events.specs.Events.opened Rattle.figures.specs.Figures.opened Rattle.figures.specs.Form.opened Rattle.figures.specs.Visits.opened Rattle.machine.specs.Bytes.opened Rattle.machine.specs.Call.opened Rattle.machine.specs.Decode.opened form.opened Rattle.machine.specs.Lengths.opened Rattle.machine.specs.Step.opened Rattle.machine.specs.Walk.opened
adding = tt

-- the order of the numbers: counts, bits, books, total, each in eight bytes, high byte first
pub ordered : T (same (figures_bytes (record { counts = 1 ∷ 258 ∷ []; bits = 3 ∷ []; books = 4; total = 5 }))
    (replicate 7 0 ++ (1 ∷ (replicate 6 0 ++ (1 ∷ 2 ∷ (replicate 7 0 ++ (3 ∷ (replicate 7 0 ++ (4 ∷ (replicate 7 0 ++ (5 ∷ [])))))))))))
unfolding Rattle.figures.specs.Form.opened Rattle.machine.specs.Bytes.opened form.opened
ordered = tt

-- what is said of the whole shelf: 17 steps of 3 books, three locations executed; bytes that are no figures
unfoldable pub said : Report → List ℕ
said r = r.number ∷ r.books ∷ r.total ∷ r.covered ∷ r.mean ∷ r.rest ∷ []

pub reporting : T (same (said (report_of (some (record { counts = []; bits = 5 ∷ 1 ∷ []; books = 3; total = 17 })))) (0 ∷ 3 ∷ 17 ∷ 3 ∷ 5 ∷ 2 ∷ [])
    && same (said (report_of none)) (21 ∷ 0 ∷ 0 ∷ 0 ∷ 0 ∷ 0 ∷ []))
unfolding said Rattle.figures.specs.Figures.opened Rattle.figures.specs.Form.opened lib.Count.ones
reporting = tt

-- a book over bytes: tokens and answers by whole words, seven bytes are room for three
pub as-given : given_of (0 ∷ 7 ∷ 9 ∷ []) (0 ∷ 1 ∷ []) 10 3 nines ≡ record { tokens = 7 ∷ []; answers = 1 ∷ []; budget = 10; allowance = 3; room = 3 }
unfolding Rattle.figures.specs.Form.opened Rattle.machine.specs.Bytes.opened
as-given = refl

-- a count at each of four locations; a row, whose third number is its location
abbrev eights : List ℕ
eights = 1 ∷ 2 ∷ 4 ∷ 8 ∷ []

abbrev counted : Figures
counted = record { counts = eights; bits = []; books = 1; total = 15 }

abbrev row_at : ℕ → List ℕ
row_at l = replicate 16 7 ++ (replicate 7 0 ++ (l ∷ []))

-- Rule by rule. One span: a rule in the middle, the last one, an empty one, one that goes back, from location 0 (which has no count), past the last count
pub spans : T (same (span_total 2 4 eights ∷ span_total 4 5 eights ∷ span_total 3 3 eights ∷ span_total 3 2 eights ∷ span_total 0 3 eights ∷ span_total 1 3 eights ∷ span_total 3 99 eights ∷ span_total 6 9 eights ∷ [])
    (6 ∷ 8 ∷ 0 ∷ 0 ∷ 3 ∷ 3 ∷ 12 ∷ 0 ∷ []))
unfolding Spans.opened Rattle.figures.specs.Figures.opened
spans = tt

-- rows at locations 1, 2 and 4, the table's end behind location 4: each up to the next, the last up to the end
pub by_rows : T (same (locations_in (row_at 1 ++ (row_at 2 ++ (row_at 4 ++ (9 ∷ []))))) (1 ∷ 2 ∷ 4 ∷ []) && same (span_totals (1 ∷ 2 ∷ 4 ∷ []) 5 eights) (1 ∷ 6 ∷ 8 ∷ []))
unfolding Spans.opened Rattle.figures.specs.Figures.opened Rattle.figures.specs.Form.opened Rattle.machine.specs.Bytes.opened form.opened
by_rows = tt

-- what is told: a rule's total and all rules' together; 21 for bytes that are no figures; 46 where rows overlap past 64 bits
unfoldable pub totalled : Total → List ℕ
totalled t = t.number ∷ t.total ∷ []

pub totalling : T (same (totalled (span_of (some counted) 2 4)) (0 ∷ 6 ∷ []) && same (totalled (span_of none 2 4)) (21 ∷ 0 ∷ [])
    && same (totalled (together_of (some counted) (1 ∷ 2 ∷ 4 ∷ []) 5)) (0 ∷ 15 ∷ []) && same (totalled (together_of none [] 5)) (21 ∷ 0 ∷ [])
    && same (totalled (together_of (some (lone 18446744073709551615 1 1 18446744073709551615)) (1 ∷ []) 2)) (0 ∷ 18446744073709551615 ∷ [])
    && same (totalled (together_of (some (lone 18446744073709551615 1 1 18446744073709551615)) (1 ∷ 2 ∷ 1 ∷ []) 2)) (46 ∷ 0 ∷ []) && same (totalled (tells 46 7)) (46 ∷ 7 ∷ []))
unfolding totalled Spans.opened Rattle.figures.specs.Figures.opened
totalling = tt
