-- What the definitions give, against values worked out from document 01 by hand.
use mathlib.Core.Bool.{Bool, true, false, ◌&&◌, not}
use mathlib.Core.List.{List, [], ◌∷◌, ◌++◌}
use mathlib.Core.Option.{Option, none, some}
use Prim.Native.Nat.{ℕ}
use lib.Dec.{T, eqb}
use Rattle.base.specs.Common.{same}
use Rattle.events.specs.Events
use Rattle.events.specs.Events.{Event, output, signal, repair, operation, operation_with, event_words, Reason, finished, differs, missing, unlabelled, deep, unanswered, outside, reason_number, is_choice, choices, Io, present, answer, took, wrote, answered, mends, spent, repaired, is}

-- Events and reasons

pub record Words : Type 0 where
  pub event : Event
  pub words : List ℕ

abbrev pub says : Event → ℕ → ℕ → ℕ → Words
says e a b c = record { event = e; words = a ∷ b ∷ c ∷ [] }

-- "1, output token, 0; 2, error, 0; 3, the operation's instruction number, its parameter or 0"
pub events : List Words
events =
    says (output 0) 1 0 0
    ∷ says (output 7) 1 7 0
    ∷ says (signal 10) 2 10 0
    ∷ says (repair 0) 4 0 0
    ∷ says (repair 900) 4 900 0
    ∷ says (operation 256) 3 256 0
    ∷ says (operation 1023) 3 1023 0
    ∷ says (operation_with 512 9) 3 512 9
    ∷ says (operation_with 1024 0) 3 1024 0
    ∷ says (operation_with 1279 65535) 3 1279 65535
    ∷ []

pub all_say : List Words → Bool
all_say [] = true
all_say (w ∷ ws) = same (event_words w.event) w.words && all_say ws

pub events-say : T (all_say events)
unfolding events all_say Events.opened
events-say = tt

pub numbers : List Reason → List ℕ
numbers [] = []
numbers (r ∷ rs) = reason_number r ∷ numbers rs

-- 0, 30 to 34 and 37, in this order
pub reasons-number : T (same (numbers (finished ∷ differs ∷ missing ∷ unlabelled ∷ deep ∷ unanswered ∷ outside ∷ [])) (0 ∷ 30 ∷ 31 ∷ 32 ∷ 33 ∷ 34 ∷ 37 ∷ []))
unfolding numbers Events.opened
reasons-number = tt

-- choice operations are those from 768 on: the others, output tokens, errors and repaired tokens are none, whatever their numbers
pub choices-counted : T (not (is_choice (operation 256)) && not (is_choice (operation_with 767 800)) && is_choice (operation 768) && is_choice (operation_with 1024 0)
    && not (is_choice (output 768)) && not (is_choice (signal 1024)) && eqb (choices []) 0
    && eqb (choices (operation 768 ∷ output 900 ∷ repair 768 ∷ operation_with 512 768 ∷ operation_with 1279 3 ∷ signal 768 ∷ operation 1023 ∷ operation 511 ∷ [])) 3)
unfolding Events.opened
choices-counted = tt

-- Tokens and answers

abbrev pub io : ℕ → ℕ → List Event → Io
io r u es = record { read = r; used = u; allowance = 7; events = es }

pub record Look : Type 0 where
  pub list : List ℕ
  pub read : ℕ
  pub used : ℕ
  pub token : Option ℕ
  pub reply : Option ℕ

abbrev pub look : List ℕ → ℕ → ℕ → Option ℕ → Option ℕ → Look
look l r u t a = record { list = l; read = r; used = u; token = t; reply = a }

-- the same list as tokens and as answers, with so many read and so many used: the present token and the next answer
pub looks : List Look
looks =
    look [] 0 0 none none
    ∷ look (5 ∷ 6 ∷ []) 0 0 (some 5) (some 5)
    ∷ look (5 ∷ 6 ∷ []) 0 1 (some 5) (some 6)
    ∷ look (5 ∷ 6 ∷ []) 1 0 (some 6) (some 5)
    ∷ look (5 ∷ 6 ∷ []) 1 2 (some 6) none
    ∷ look (5 ∷ 6 ∷ []) 2 1 none (some 6)
    ∷ look (5 ∷ 6 ∷ []) 2 2 none none
    ∷ look (5 ∷ 6 ∷ []) 3 900 none none
    ∷ look (0 ∷ []) 0 1 (some 0) none
    ∷ look (0 ∷ []) 1 0 none (some 0)
    ∷ look (5 ∷ []) 18446744073709551615 18446744073709551615 none none
    ∷ []

abbrev pub alike : Option ℕ → Option ℕ → Bool
alike none none = true
alike none (some v) = false
alike (some u) none = false
alike (some u) (some v) = eqb u v

pub all_look : List Look → Bool
all_look [] = true
all_look (l ∷ ls) =
    let at = io l.read l.used [] in
    alike (present l.list at) l.token && alike (answer l.list at) l.reply && all_look ls

pub all-look : T (all_look looks)
unfolding looks all_look Events.opened
all-look = tt

-- "30 token differs from the one required, or none": also where the token required is 0
pub tokens-required : T (is 5 (some 5) && is 0 (some 0) && not (is 5 (some 6)) && not (is 0 (some 1)) && not (is 0 none) && not (is 5 none))
unfolding Events.opened
tokens-required = tt

-- What changes

pub words_of : List Event → List ℕ
words_of [] = []
words_of (e ∷ es) = event_words e ++ words_of es

pub is_io : Io → ℕ → ℕ → List ℕ → Bool
is_io x r u ws = eqb x.read r && eqb x.used u && eqb x.allowance 7 && same (words_of x.events) ws

-- one token more is read, an event is written behind the others, one answer more is used; nothing else changes
pub changes : T (is_io (took (io 3 4 (output 1 ∷ []))) 4 4 (1 ∷ 1 ∷ 0 ∷ [])
    && is_io (wrote (signal 2) (io 3 4 (output 1 ∷ []))) 3 4 (1 ∷ 1 ∷ 0 ∷ 2 ∷ 2 ∷ 0 ∷ [])
    && is_io (wrote (operation_with 512 8) (io 0 0 [])) 0 0 (3 ∷ 512 ∷ 8 ∷ [])
    && is_io (answered (io 3 4 (output 1 ∷ []))) 3 5 (1 ∷ 1 ∷ 0 ∷ []))
unfolding is_io words_of Events.opened
changes = tt

-- "answers used, 64 bits wide, stops at its greatest"
pub greatest : T (is_io (answered (io 0 18446744073709551613 [])) 0 18446744073709551614 []
    && is_io (answered (io 0 18446744073709551614 [])) 0 18446744073709551615 []
    && is_io (answered (io 0 18446744073709551615 [])) 0 18446744073709551615 [])
unfolding is_io words_of Events.opened
greatest = tt

-- What a repair changes

abbrev pub left : ℕ → Io
left a = record { read = 3; used = 4; allowance = a; events = output 1 ∷ [] }

pub is_left : Io → ℕ → List ℕ → Bool
is_left x a ws = eqb x.read 3 && eqb x.used 4 && eqb x.allowance a && same (words_of x.events) ws

-- "the event 4, required token, 0 is written, the allowance falls by one"; "A repaired token isn't counted as read."
pub repairs : T (is_left (repaired 9 (left 65535)) 65534 (1 ∷ 1 ∷ 0 ∷ 4 ∷ 9 ∷ 0 ∷ []) && is_left (repaired 9 (left 1)) 0 (1 ∷ 1 ∷ 0 ∷ 4 ∷ 9 ∷ 0 ∷ [])
    && is_left (spent (left 1)) 0 (1 ∷ 1 ∷ 0 ∷ []) && mends (left 1) && mends (left 65535) && not (mends (left 0)))
unfolding is_left words_of Events.opened
repairs = tt
