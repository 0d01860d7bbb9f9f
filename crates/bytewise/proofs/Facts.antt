-- What the definitions say of single calls over bytes, computed.
use mathlib.Core.Bool.{Bool, ◌&&◌}
use mathlib.Core.List.{List, [], ◌∷◌}
use mathlib.Core.Option.{none, some}
use mathlib.Core.Path.{refl}
use Prim.Native.Nat.{ℕ}
use native.Mathlib.Omega.{arith}
use lib.Dec.{T, eqb}
use lib.ListN.{replicate}
use Rattle.base.specs.Common.{same}
use Rattle.events.specs.Events
use Rattle.machine.specs.Bytes
use Rattle.machine.specs.Lengths
use Rattle.machine.specs.Decode
use Rattle.machine.specs.Walk
use Rattle.machine.specs.Step
use Rattle.machine.specs.Call
use Rattle.machine.specs.Form
use Rattle.machine.specs.Call.{whole, paused}
use Rattle.machine.specs.Form.{walk_bytes, Outcome, call_bytes}
use Rattle.machine.specs.Walk.{fresh}
use Rattle.screen.specs.Items
use Rattle.screen.specs.Items.{Item, turn, refill}
use Rattle.screen.specs.Screen
use Rattle.screen.specs.Screen.{fresh_bytes}
use Rattle.bytewise.specs.AtScreen
use Rattle.bytewise.specs.AtScreen.{Asked}
use Rattle.bytewise.specs.ByteCalls
use Rattle.bytewise.specs.ByteCalls.{written_words, choices_in, Hands}

-- the table: emit 7, the update operation 512 with the parameter 900, the choice operation 768, return
abbrev table : List ℕ
table = 0 ∷ 5 ∷ 0 ∷ 7 ∷ 0 ∷ 13 ∷ 3 ∷ 132 ∷ 2 ∷ 0 ∷ 3 ∷ 0 ∷ 0 ∷ 9 ∷ []

-- the words that the calls of a fresh walk write, the first without an answer, the second with one; the buffers are longer than that
abbrev one : Outcome
one = call_bytes table [] (paused none) 9 (walk_bytes (fresh 0)) (replicate 23 170)

abbrev two : Outcome
two = call_bytes table [] (paused (some 4)) 9 one.walk (replicate 6 170)

-- the numbers, the words of three events and of none, and of choice operations one; a token, a repair or a parameter is none
unfoldable pub holds : Bool
holds =
    eqb one.number 22 && same (written_words one) (1 ∷ 7 ∷ 0 ∷ 3 ∷ 512 ∷ 900 ∷ 3 ∷ 768 ∷ 0 ∷ []) && eqb (choices_in (written_words one)) 1
    && eqb two.number 0 && same (written_words two) []
    && eqb (choices_in (1 ∷ 900 ∷ 0 ∷ 2 ∷ 900 ∷ 0 ∷ 4 ∷ 900 ∷ 0 ∷ 3 ∷ 1024 ∷ 5 ∷ 3 ∷ 767 ∷ 0 ∷ 3 ∷ 768 ∷ 0 ∷ [])) 2

pub all_hold : T holds
unfolding holds Events.opened Bytes.opened Lengths.opened Decode.opened Walk.opened Step.opened Call.opened Form.opened ByteCalls.opened
all_hold = tt

-- what is asked of the turns of a book can be met: book 0 pauses, book 1 takes a turn of other tokens, book 0 is given its answer
abbrev turns : List Item
turns = turn 0 [] (paused (some 4)) (replicate 6 170) ∷ turn 1 (1 ∷ 2 ∷ 3 ∷ []) (whole []) [] ∷ turn 0 [] (paused none) (replicate 23 170) ∷ refill 0 9 ∷ []

pub asked : Asked table 0 [] (0 ∷ 4 ∷ []) (fresh_bytes 0 3 (replicate 332 170)) turns
unfolding Asked Hands AtScreen.opened ByteCalls.opened Events.opened Bytes.opened Lengths.opened Decode.opened Walk.opened Step.opened Call.opened Form.opened Screen.opened Items.opened
asked = (λ e. (refl, (omega arith, λ w. refl)), (λ e. absurd (omega arith), (λ e. (refl, tt), tt)))
