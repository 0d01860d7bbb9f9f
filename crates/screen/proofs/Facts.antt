-- Worked examples of turns and refills, computed.
use mathlib.Core.Bool.{Bool, true, ◌&&◌}
use mathlib.Core.List.{List, [], ◌∷◌, ◌++◌}
use mathlib.Core.Option.{none, some}
use Prim.Native.Nat.{ℕ}
use lib.Dec.{T, eqb}
use lib.ListN.{replicate}
use Rattle.base.specs.Common.{same}
use Rattle.events.specs.Events
use Rattle.machine.specs.Bytes
use Rattle.machine.specs.Call
use Rattle.machine.specs.Call.{whole, paused}
use Rattle.machine.specs.Decode
use Rattle.machine.specs.Form
use Rattle.machine.specs.Form.{Outcome, walk_bytes}
use Rattle.machine.specs.Lengths
use Rattle.machine.specs.Step
use Rattle.machine.specs.Walk
use Rattle.machine.specs.Walk.{fresh}
use Rattle.screen.specs.Items
use Rattle.screen.specs.Items.{Item, turn, refill, heard, lefts, spent, granted}
use Rattle.screen.specs.Screen
use Rattle.screen.specs.Screen.{turn_bytes, refill_number, refill_bytes, screen_number, fresh_bytes}

-- the table: { (?).9 768 }: read a token, emit 9, a choice operation, and back
abbrev table : List ℕ
table = 0 ∷ 4 ∷ 0 ∷ 5 ∷ 0 ∷ 9 ∷ 3 ∷ 0 ∷ 0 ∷ 2 ∷ 0 ∷ 5 ∷ []

-- a fresh screen with repair allowances
abbrev begun : List ℕ
begun = fresh_bytes 0 3 (replicate 332 170)

-- number, events written and steps done of each turn, the last first
unfoldable pub told : List Outcome → List ℕ
told [] = []
told (o ∷ os) = o.number ∷ o.events ∷ o.steps ∷ told os

pub data Case : Type 0 where
  -- turns and refills from a fresh screen, the last first; what those of book 0 and of book 1 gave, and the steps left to each after each of its items
  runs : List Item → List ℕ → List ℕ → List ℕ → List ℕ → Case
  -- steps that this book has done since its last refill, and what that set
  counts : List Item → ℕ → ℕ → ℕ → Case
  -- a turn of this book of this screen is refused and touches nothing
  refuses : ℕ → List ℕ → Case
  -- a refill of this book of this screen answers this number and leaves this screen
  refills : ℕ → ℕ → List ℕ → ℕ → List ℕ → Case

unfoldable pub holds : Case → Bool
holds (runs items first second left₀ left₁) =
    same (told (heard table 0 items begun)) first && same (told (heard table 1 items begun)) second && same (lefts table 0 items begun) left₀ && same (lefts table 1 items begun) left₁
holds (counts items b done set) = eqb (spent table b items begun) done && eqb (granted b items begun) set
holds (refuses b r) =
    let g = turn_bytes table (0 ∷ 7 ∷ []) (whole (1 ∷ [])) b r (1 ∷ 2 ∷ 3 ∷ []) in
    eqb g.number 21 && same g.screen r && same g.buffer (1 ∷ 2 ∷ 3 ∷ []) && eqb g.events 0 && eqb g.steps 0
holds (refills b n r number s) = eqb (refill_number b r) number && same (refill_bytes b n r) s

unfoldable pub all : List Case → Bool
all [] = true
all (c ∷ cs) = holds c && all cs

-- a whole turn of book 0 with two tokens and two answers, a paused one of book 1 with one token, and one with the answer 5
abbrev zero-whole : Item
zero-whole = turn 0 (0 ∷ 7 ∷ 0 ∷ 8 ∷ []) (whole (1 ∷ 1 ∷ [])) (replicate 60 170)

abbrev one-paused : Item
one-paused = turn 1 (0 ∷ 7 ∷ []) (paused none) (replicate 60 170)

abbrev one-answered : Item
one-answered = turn 1 (0 ∷ 7 ∷ []) (paused (some 5)) (replicate 60 170)

-- a fresh walk and eight bytes more
abbrev seat : List ℕ
seat = walk_bytes (fresh 3) ++ replicate 8 1

unfoldable pub cases : List Case
cases =
    runs [] [] [] [] []
    -- no steps are left before the first refill, and the other book's refill changes nothing
    ∷ runs (one-paused ∷ zero-whole ∷ refill 1 6 ∷ []) (36 ∷ 0 ∷ 0 ∷ []) (22 ∷ 2 ∷ 3 ∷ []) (0 ∷ []) (3 ∷ 6 ∷ [])
    -- each book draws on its own counter, in every order of the turns
    ∷ runs (one-paused ∷ zero-whole ∷ refill 1 4 ∷ refill 0 6 ∷ []) (36 ∷ 3 ∷ 6 ∷ []) (22 ∷ 2 ∷ 3 ∷ []) (0 ∷ 6 ∷ []) (1 ∷ 4 ∷ [])
    ∷ runs (zero-whole ∷ one-paused ∷ refill 0 6 ∷ refill 1 4 ∷ []) (36 ∷ 3 ∷ 6 ∷ []) (22 ∷ 2 ∷ 3 ∷ []) (0 ∷ 6 ∷ []) (1 ∷ 4 ∷ [])
    -- a refused turn, one of a number that is no book's and one of a stopped walk cost nothing
    ∷ runs (one-answered ∷ one-answered ∷ turn 2 [] (whole []) [] ∷ one-paused ∷ one-paused ∷ refill 2 7 ∷ refill 1 9 ∷ []) [] (21 ∷ 0 ∷ 0 ∷ 31 ∷ 0 ∷ 2 ∷ 21 ∷ 0 ∷ 0 ∷ 22 ∷ 2 ∷ 3 ∷ []) [] (4 ∷ 4 ∷ 6 ∷ 6 ∷ 9 ∷ [])
    ∷ counts (one-answered ∷ zero-whole ∷ one-paused ∷ refill 0 5 ∷ refill 1 9 ∷ []) 1 5 9
    ∷ counts (one-answered ∷ zero-whole ∷ one-paused ∷ refill 0 5 ∷ refill 1 9 ∷ []) 0 5 5
    -- a refill sets anew: less than is left, and nothing is added
    ∷ runs (refill 1 2 ∷ one-paused ∷ refill 1 9 ∷ []) [] (22 ∷ 2 ∷ 3 ∷ []) [] (2 ∷ 6 ∷ 9 ∷ [])
    -- the greatest number of steps
    ∷ runs (one-paused ∷ refill 1 18446744073709551615 ∷ []) [] (22 ∷ 2 ∷ 3 ∷ []) [] (18446744073709551612 ∷ 18446744073709551615 ∷ [])
    -- another number, a byte more or less, bytes of this book that are no walk
    ∷ refuses 2 (seat ++ seat)
    ∷ refuses 0 (seat ++ walk_bytes (fresh 3) ++ replicate 7 1)
    ∷ refuses 0 (seat ++ seat ++ replicate 1 1)
    ∷ refuses 0 (replicate 158 9 ++ replicate 8 1 ++ seat)
    ∷ refuses 1 (seat ++ replicate 158 9 ++ replicate 8 1)
    -- a refill looks at the length and the book alone, and writes that book's last eight bytes, high byte first
    ∷ refills 0 258 (replicate 332 9) 0 (replicate 158 9 ++ (0 ∷ 0 ∷ 0 ∷ 0 ∷ 0 ∷ 0 ∷ 1 ∷ 2 ∷ []) ++ replicate 166 9)
    ∷ refills 1 258 (replicate 332 9) 0 (replicate 324 9 ++ (0 ∷ 0 ∷ 0 ∷ 0 ∷ 0 ∷ 0 ∷ 1 ∷ 2 ∷ []))
    ∷ refills 2 258 (replicate 332 9) 21 (replicate 332 9)
    ∷ refills 0 258 (replicate 331 9) 21 (replicate 331 9)
    ∷ []

pub all_hold : T (all cases)
unfolding all holds told cases Events.opened Bytes.opened Lengths.opened Decode.opened Walk.opened Step.opened Call.opened Form.opened Screen.opened Items.opened
all_hold = tt

-- both books begin, each with its own allowance and no steps left; another length is refused and kept
pub begins : T (eqb (screen_number (replicate 332 9)) 0 && eqb (screen_number (replicate 331 9)) 21 && eqb (screen_number (replicate 333 9)) 21
    && same (fresh_bytes 1 258 (replicate 332 9)) (walk_bytes (fresh 1) ++ (replicate 8 0 ++ (walk_bytes (fresh 258) ++ replicate 8 0)))
    && same (fresh_bytes 1 258 (replicate 331 9)) (replicate 331 9))
unfolding Events.opened Bytes.opened Walk.opened Form.opened Screen.opened
begins = tt
