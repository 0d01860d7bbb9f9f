-- What the walker's functions compute, in the code's own order, over bytes. proofs/Link.antt shows that it is what the machine's definitions say.
use Rattle.std.specs.Prelude.{Bool, true, false, List, [], ℕ, zero, suc, ◌+◌, ◌*◌, ◌-◌, ◌/◌, ◌%◌, min, eqb, ltb, leb, get_or, set, if◌then◌else◌, Option, Some, None}
use Rattle.machine.specs.Bytes.{count, word_at}
use Rattle.machine.specs.Lengths.{length_of}
use Rattle.walker.specs.declared.Ending.{Ending}
use Rattle.walker.specs.declared.Event.{Event}
use Rattle.walker.specs.declared.Event.TheVariants.{Output, Repair, Plain, With}
use Rattle.walker.specs.declared.Next.{Next}
use Rattle.walker.specs.declared.Next.TheVariants.{Full, Stop, On, Tells, Push, Waits}
use Rattle.walker.specs.declared.Phase.{Phase}
use Rattle.walker.specs.declared.Phase.TheVariants.{Going, Waiting, Stopped}
use Rattle.walker.specs.declared.Reason.{Reason}
use Rattle.walker.specs.declared.Reason.TheVariants.{Finished, Differs, Missing, Unlabelled, Deep, Unanswered}
use Rattle.walker.specs.declared.Registers.{Registers}
use Rattle.walker.specs.declared.Target.{Target}
use Rattle.walker.specs.declared.Target.TheVariants.{Label, Otherwise}
use Rattle.walker.specs.declared.Walk.{Walk}

-- Bytes

-- the words of a table: those past 4,096 are outside
abbrev pub size : List ℕ → ℕ
size t = min (count t) 4096

-- s with the word x at index i
unfoldable pub set_word : List ℕ → ℕ → ℕ → List ℕ
set_word s i x = set (set s (2 * i) (x / 256)) (2 * i + 1) (x % 256)

-- the three words of an event from index i on
unfoldable pub put_event : List ℕ → ℕ → Event → List ℕ
put_event o i (Output t) = set_word (set_word (set_word o i 1) (i + 1) t) (i + 2) 0
put_event o i (Event.Error n) = set_word (set_word (set_word o i 2) (i + 1) n) (i + 2) 0
put_event o i (Repair t) = set_word (set_word (set_word o i 4) (i + 1) t) (i + 2) 0
put_event o i (Plain op) = set_word (set_word (set_word o i 3) (i + 1) op) (i + 2) 0
put_event o i (With op v) = set_word (set_word (set_word o i 3) (i + 1) op) (i + 2) v

-- the word x with its bytes exchanged
unfoldable pub swapped : ℕ → ℕ
swapped x = x % 256 * 256 + x / 256

-- the index of the first of the left labels from i on that is x, or i + left; labels stand at every second word from b
unfoldable pub find_from : List ℕ → ℕ → ℕ → ℕ → ℕ → ℕ
find_from t b x zero i = i
find_from t b x (suc left) i = let later = find_from t b x left (i + 1) in if eqb (word_at t (b + 2 * i)) x then i else later

-- the registers of a fresh walk
abbrev pub fresh_at : ℕ → Registers
fresh_at allowance = record { location = 1; depth = 0; result = 0; parameter = 0; read = 0; used = 0; allowance = allowance }

-- Registers with one thing changed

abbrev pub moved : Registers → ℕ → Registers
moved r l = record { location = l; depth = r.depth; result = r.result; parameter = r.parameter; read = r.read; used = r.used; allowance = r.allowance }

abbrev pub read_one : Registers → Registers
read_one r = record { location = r.location; depth = r.depth; result = r.result; parameter = r.parameter; read = r.read + 1; used = r.used; allowance = r.allowance }

abbrev pub spent_one : Registers → Registers
spent_one r = record { location = r.location; depth = r.depth; result = r.result; parameter = r.parameter; read = r.read; used = r.used; allowance = r.allowance - 1 }

-- one more, up to the greatest number of 64 bits
unfoldable pub one_more : ℕ → ℕ
one_more n = if ltb n 18446744073709551615 then n + 1 else n

abbrev pub answered_one : Registers → ℕ → Registers
answered_one r x = record { location = r.location; depth = r.depth; result = x; parameter = r.parameter; read = r.read; used = one_more r.used; allowance = r.allowance }

abbrev pub with_result : Registers → ℕ → Registers
with_result r x = record { location = r.location; depth = r.depth; result = x; parameter = r.parameter; read = r.read; used = r.used; allowance = r.allowance }

abbrev pub with_parameter : Registers → ℕ → Registers
with_parameter r x = record { location = r.location; depth = r.depth; result = r.result; parameter = x; read = r.read; used = r.used; allowance = r.allowance }

abbrev pub with_depth : Registers → ℕ → Registers
with_depth r d = record { location = r.location; depth = d; result = r.result; parameter = r.parameter; read = r.read; used = r.used; allowance = r.allowance }

abbrev pub popped_to : Registers → ℕ → Registers
popped_to r l = record { location = l; depth = r.depth - 1; result = r.result; parameter = r.parameter; read = r.read; used = r.used; allowance = r.allowance }

-- the walk with one more return location
abbrev pub pushed : Walk → ℕ → Walk
pushed w l = record { phase = w.phase; at = with_depth w.at (w.at.depth + 1); returns = set w.returns w.at.depth l }

-- Choices

-- the operand of the instruction at l, which stands at location l + 1
abbrev pub operand : List ℕ → ℕ → ℕ
operand t l = word_at t l

-- where a choice goes whose table ends with location e: past it
unfoldable pub otherwise_of : ℕ → ℕ → Target
otherwise_of n e = if leb (e + 1) n then Otherwise (e + 1) else Target.Outside

-- to the alternative of the label at index p
unfoldable pub label_of : List ℕ → ℕ → Target
label_of t p = if ltb (word_at t (p + 1)) (p + 2) then Label (p + 2 - word_at t (p + 1)) else Target.Outside

-- with x, by the c labels from index b on
unfoldable pub labelled_of : List ℕ → ℕ → ℕ → ℕ → Target
labelled_of t b c x = if ltb (find_from t b x c 0) c then label_of t (b + 2 * find_from t b x c 0) else otherwise_of (size t) (b + 2 * c)

-- the location of the choice table of the instruction at l, and its count
abbrev pub table_at : List ℕ → ℕ → ℕ
table_at t l = l + 1 + operand t l

abbrev pub labels_at : List ℕ → ℕ → ℕ
labels_at t l = word_at t (table_at t l - 1)

-- the whole choice table is inside, and then as g says
unfoldable pub inside_table : List ℕ → ℕ → Target → Target
inside_table t l g = if leb (table_at t l) (size t) then (if leb (table_at t l + 2 * labels_at t l) (size t) then g else Target.Outside) else Target.Outside

abbrev pub choice_of : List ℕ → ℕ → ℕ → Target
choice_of t l x = inside_table t l (labelled_of t (table_at t l) (labels_at t l) x)

abbrev pub default_of : List ℕ → ℕ → Target
default_of t l = inside_table t l (otherwise_of (size t) (table_at t l + 2 * labels_at t l))

-- an input choice with the present token x
unfoldable pub take_input : Registers → ℕ → Target → Next
take_input r x (Label l) = On (read_one (moved (with_result r x) l))
take_input r x (Otherwise l) = On (moved (with_result r x) l)
take_input r x Target.Outside = Next.Outside

unfoldable pub take_other : Registers → Target → Next
take_other r (Label l) = On (moved r l)
take_other r (Otherwise l) = On (moved r l)
take_other r Target.Outside = Next.Outside

-- Instructions

unfoldable pub forward_of : List ℕ → Registers → Next
forward_of t r = if leb (table_at t r.location) (size t) then On (moved r (table_at t r.location)) else Next.Outside

unfoldable pub back_of : List ℕ → Registers → Next
back_of t r = if leb (operand t r.location) r.location then On (moved r (r.location + 1 - operand t r.location)) else Next.Outside

-- an event, and on to l, with room for three words
unfoldable pub tell_of : ℕ → ℕ → Event → Registers → Next
tell_of room l e r = if leb 3 room then Tells (moved r l) e else Full

-- a required token that is not there: repaired while allowance is left
unfoldable pub mend_of : List ℕ → ℕ → Registers → Next
mend_of t room r =
    if ltb 0 (r.allowance % 65536) then tell_of room (r.location + 2) (Repair (operand t r.location)) (spent_one r) else Stop Differs

unfoldable pub input_of : List ℕ → List ℕ → ℕ → Registers → Next
input_of t k room r =
    if ltb r.read (count k)
    then (if eqb (word_at k r.read) (operand t r.location) then On (read_one (moved r (r.location + 2))) else mend_of t room r)
    else mend_of t room r

unfoldable pub any_of : List ℕ → Registers → Next
any_of k r = if ltb r.read (count k) then On (read_one (moved r (r.location + 1))) else Stop Missing

unfoldable pub input_choice_of : List ℕ → List ℕ → Registers → Next
input_choice_of t k r =
    if ltb r.read (count k)
    then take_input r (word_at k r.read) (choice_of t r.location (word_at k r.read))
    else take_other r (default_of t r.location)

unfoldable pub call_of : List ℕ → Registers → Next
call_of t r =
    if eqb (operand t r.location) 0 then Next.Outside
    else if leb (operand t r.location) (size t)
    then (if ltb r.depth 64 then Push (moved r (operand t r.location)) (r.location + 2) else Stop Deep)
    else Next.Outside

-- a return to location l
unfoldable pub back_to : List ℕ → ℕ → Registers → Next
back_to t l r = if eqb l 0 then Next.Outside else if leb l (size t) then On (popped_to r l) else Next.Outside

unfoldable pub return_of : List ℕ → List ℕ → Registers → Next
return_of returns t r = if eqb r.depth 0 then Stop Finished else back_to t (get_or returns (r.depth - 1) 0) r

-- a choice operation, whose event is e: handed out by a paused walk, else with the next of the answers a
unfoldable pub ask_of : Bool → List ℕ → Event → Registers → Next
ask_of true a e r = Waits (moved r (r.location + 1)) e
ask_of false a e r =
    if ltb r.used (count a) then Tells (answered_one (moved r (r.location + 1)) (word_at a r.used)) e else Stop Unanswered

unfoldable pub answer_of : ℕ → Bool → List ℕ → Event → Registers → Next
answer_of room paused a e r = if leb 3 room then ask_of paused a e r else Full

-- what instruction 1 to 13 does: rs the return locations, t the table, k the tokens
unfoldable pub act_of : List ℕ → List ℕ → List ℕ → ℕ → ℕ → Registers → Next
act_of rs t k room i r =
    if eqb i 1 then forward_of t r
    else if eqb i 2 then back_of t r
    else if eqb i 3 then input_of t k room r
    else if eqb i 4 then any_of k r
    else if eqb i 5 then tell_of room (r.location + 2) (Output (operand t r.location)) r
    else if eqb i 6 then tell_of room (r.location + 2) (Event.Error (operand t r.location)) r
    else if eqb i 7 then input_choice_of t k r
    else if eqb i 8 then call_of t r
    else if eqb i 9 then return_of rs t r
    else if eqb i 10 then On (with_result (moved r (r.location + 2)) (operand t r.location))
    else if eqb i 11 then take_other r (choice_of t r.location (r.result % 65536))
    else if eqb i 12 then Stop Unlabelled
    else if eqb i 13 then On (with_parameter (moved r (r.location + 2)) (operand t r.location))
    else Next.Outside

-- what an operation does, by its number; a the answers
unfoldable pub operate_of : ℕ → Bool → List ℕ → ℕ → Registers → Next
operate_of room paused a i r =
    if ltb i 256 then Next.Outside
    else if ltb i 512 then tell_of room (r.location + 1) (Plain i) r
    else if ltb i 768 then tell_of room (r.location + 1) (With i (r.parameter % 65536)) r
    else if ltb i 1024 then answer_of room paused a (Plain i) r
    else if ltb i 1280 then answer_of room paused a (With i (r.parameter % 65536)) r
    else Next.Outside

-- x, if the table has the whole instruction at r, of so many words
abbrev pub in_full : List ℕ → ℕ → Registers → Next → Next
in_full t len r x = if leb (r.location + len) (size t + 1) then x else Next.Outside

-- the instruction i was fetched at r
unfoldable pub fetched_of : List ℕ → List ℕ → List ℕ → List ℕ → ℕ → Bool → ℕ → Registers → Next
fetched_of rs t k a room paused i r =
    if ltb i 14
    then in_full t (length_of i) r (act_of rs t k room i r)
    else operate_of room paused a i r

-- one step of a walk that goes on
unfoldable pub step_of : List ℕ → List ℕ → List ℕ → List ℕ → ℕ → Bool → Registers → Next
step_of rs t k a room paused r =
    if eqb r.location 0 then Next.Outside
    else if leb r.location (size t) then fetched_of rs t k a room paused (word_at t (r.location - 1)) r
    else Next.Outside

-- Calls

-- what a call gives: the walk, events written, steps done, number, and the event buffer's bytes
pub record Outcome : Type 0 where
  pub walk : Walk
  pub events : ℕ
  pub steps : ℕ
  pub number : ℕ
  pub out : List ℕ

abbrev pub ended : Phase → Registers → List ℕ → List ℕ → ℕ → ℕ → ℕ → Outcome
ended ph r rs o events steps number = record { walk = record { phase = ph; at = r; returns = rs }; events = events; steps = steps; number = number; out = o }

-- the number of a reason
unfoldable pub number_of : Reason → ℕ
number_of Finished = 0
number_of Differs = 30
number_of Missing = 31
number_of Unlabelled = 32
number_of Deep = 33
number_of Unanswered = 34
number_of Reason.Outside = 37

-- the number of a call that ends so
unfoldable pub ending_number : Ending → ℕ
ending_number (Ending.Stopped x) = number_of x
ending_number Ending.Refused = 21
ending_number Ending.Waits = 22
ending_number Ending.Full = 35
ending_number Ending.Spent = 36

-- up to n steps of a walk that goes on; e events are written to o, d steps are done
unfoldable pub go_of : List ℕ → List ℕ → List ℕ → Bool → ℕ → Registers → List ℕ → List ℕ → ℕ → ℕ → Outcome
go_of t k a paused zero r rs o e d = ended Going r rs o e d 36
go_of t k a paused (suc n) r rs o e d =
    elim (step_of rs t k a (count o - 3 * e) paused r) [
      | Full ↦ ended Going r rs o e d 35
      | Next.Outside ↦ ended (Stopped Reason.Outside) r rs o e d 37
      | Stop x ↦ ended (Stopped x) r rs o e (d + 1) (number_of x)
      | On v ↦ go_of t k a paused n v rs o e (d + 1)
      | Tells v x ↦ go_of t k a paused n v rs (put_event o (3 * e) x) (e + 1) (d + 1)
      | Push v l ↦ go_of t k a paused n (with_depth v (v.depth + 1)) (set rs v.depth l) o e (d + 1)
      | Waits v x ↦ ended Waiting v rs (put_event o (3 * e) x) (e + 1) (d + 1) 22
    ]

-- the registers with their depth as it is read
abbrev pub first64 : Registers → Registers
first64 r = with_depth r (min r.depth 64)

-- a call that changes nothing
abbrev pub kept_of : Walk → List ℕ → ℕ → Outcome
kept_of w o number = record { walk = w; events = 0; steps = 0; number = number; out = o }

abbrev pub refused_of : Walk → List ℕ → Outcome
refused_of w o = kept_of w o 21

-- a whole call: t the table, k the tokens, a the answers, n the budget
unfoldable pub whole_of : List ℕ → List ℕ → List ℕ → ℕ → Walk → List ℕ → Phase → Outcome
whole_of t k a n w o Going = go_of t k a false n (first64 w.at) w.returns o 0 0
whole_of t k a n w o Waiting = refused_of w o
whole_of t k a n w o (Stopped r) = kept_of w o (number_of r)

-- a paused call with an answer x, or none
unfoldable pub paused_of : List ℕ → List ℕ → Option ℕ → ℕ → Walk → List ℕ → Phase → Outcome
paused_of t k None n w o Going = go_of t k [] true n (first64 w.at) w.returns o 0 0
paused_of t k (Some x) n w o Going = refused_of w o
paused_of t k None n w o Waiting = refused_of w o
paused_of t k (Some x) n w o Waiting = go_of t k [] true n (answered_one (first64 w.at) x) w.returns o 0 0
paused_of t k None n w o (Stopped r) = kept_of w o (number_of r)
paused_of t k (Some x) n w o (Stopped r) = refused_of w o
