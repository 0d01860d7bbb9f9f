-- A call over 158 bytes gives 158 bytes back, whatever they are.
use mathlib.Core.Bool.{Bool, true, false}
use mathlib.Core.List.{List, [], ◌∷◌}
use mathlib.Core.Option.{Option, none, some}
use mathlib.Core.Path.{◌≡◌, refl, ap, ◌∙◌, subst}
use Prim.Native.Nat.{ℕ, zero, suc, ◌+◌, ◌-◌, ◌≤◌, ◌<◌}
use native.Mathlib.Omega.{arith}
use lib.Dec.{ltb}
use lib.ListN.{length, get_or, length-append, length-take, length-drop, length-reverse}
use Rattle.std.specs.Prelude.{if◌then◌else◌}
use Rattle.base.specs.Common.{same}
use Rattle.base.specs.Bools.{never, split}
use Rattle.events.specs.Events.{Event, Reason, outside, unanswered, answer}
use Rattle.machine.proofs.Form.{length-walk}
use Rattle.machine.proofs.Words.{small-words, number64-words64, words64-number64}
use Rattle.machine.proofs.Bytes.{words_of-bytes_of, length-bytes_of, length-words_of, bytes_of-words_of}
use Rattle.machine.specs.Bytes.{count, words_of, table_of, bytes_of}
use Rattle.machine.specs.Call as call
use Rattle.machine.specs.Call.{Mode, whole, paused, Called, ends, ends_for, writing, takes, hands_out, run, call_in, call_walk}
use Rattle.machine.specs.Form.{words64, walk_bytes, number64, walk_named, walk_of, outcome, call_bytes}
use Rattle.machine.specs.Step.{Next, goes_outside, stops, goes, tells, asks, step}
use Rattle.machine.specs.Walk as walks
use Rattle.screen.specs.Screen.{book_size, fresh_book}
use Rattle.machine.specs.Walk.{Phase, going, waiting, stopped, Walk, at_rest, with_answer, in_phase, fresh}

abbrev Shallow : Walk → Type 0
Shallow w = length w.returns ≤ 64

pub length-fresh : (a : ℕ) → length (walk_bytes (fresh a)) ≡ 158
unfolding fresh
length-fresh a = length-walk (fresh a) (omega arith)

pub length-counter : (n : ℕ) → length (bytes_of (words64 n)) ≡ 8
unfolding words64
length-counter n = length-bytes_of (words64 n)

pub length-fresh_book : (a : ℕ) → length (fresh_book a) ≡ book_size
unfolding fresh_book
length-fresh_book a = length-append (walk_bytes (fresh a)) (bytes_of (words64 0)) ∙ omega (arith, length-fresh a, length-counter 0)

pub counter-back : (n : ℕ) → number64 (words_of (bytes_of (words64 n))) ≡ n
unfolding words64
counter-back n = ap number64 (words_of-bytes_of (words64 n)) ∙ number64-words64 n []

-- a walk that is read from bytes holds 64 return locations or fewer
shallow-named : (ws : List ℕ) → Shallow (walk_named ws)
unfolding walk_named
shallow-named ws = simp (length-reverse, length-take, length-drop) (omega arith)

pub shallow-read : (s : List ℕ) (w : Walk) → walk_of s ≡ some w → Shallow w
unfolding walk_of
shallow-read s w e =
    split (same (walk_bytes (walk_named (words_of s))) s)
    (λ t. let v : some (walk_named (words_of s)) ≡ some w = rw t at e in
    let u : walk_named (words_of s) ≡ w = cc in
    subst Shallow u (shallow-named (words_of s)))
    (λ f. let v : none ≡ some w = rw f at e in let z : ◌≡◌ {A = Bool} false true = cc in never z)

-- and so does every walk that a call gives back
abbrev Gives : Called → Type 0
Gives c = Shallow c.walk

shallow-ends : (number n : ℕ) (w : Walk) → Gives (ends number n w)
unfolding ends walks.opened
shallow-ends number n w = omega (arith, length-drop (length w.returns - 64) w.returns)

shallow-ends_for : (r : Reason) (n : ℕ) (w : Walk) → Gives (ends_for r n w)
unfolding ends_for
shallow-ends_for r n w = shallow-ends (Rattle.events.specs.Events.reason_number r) n (in_phase (stopped r) w)

abbrev After : (ℕ → Walk → Called) → call.Turn → Called
After f (call.over c) = c
After f (call.further room v) = f room v

module _ (f : ℕ → Walk → Called) (rest : (room : ℕ) (v : Walk) → Gives (f room v)) where
  taking : (o : Option ℕ) (room n : ℕ) (w : Walk) (e : Event) (v : Walk) → Gives (After f (takes o room n w e v))
  unfolding takes
  taking none room n w e v = shallow-ends_for unanswered (n + 1) w
  taking (some x) room n w e v = rest (room - 3) (with_answer x (writing e v))

  handing : (m : Mode) (room n : ℕ) (w : Walk) (e : Event) (v : Walk) → Gives (After f (hands_out m room n w e v))
  unfolding hands_out
  handing (whole given) room n w e v = taking (answer given w.io) room n w e v
  handing (paused x) room n w e v = shallow-ends call.waits (n + 1) (in_phase waiting (writing e v))

  either : (t : Bool) (x y : call.Turn) → Gives (After f x) → Gives (After f y) → Gives (After f (if t then x else y))
  either true x y p q = p
  either false x y p q = q

  turned : (m : Mode) (room n : ℕ) (w : Walk) (nx : Next) → Gives (After f (call.turn m room n w nx))
  unfolding call.turn
  turned m room n w goes_outside = shallow-ends_for outside n w
  turned m room n w (stops r) = shallow-ends_for r (n + 1) w
  turned m room n w (goes v) = rest room v
  turned m room n w (tells e v) = either (ltb room 3) (call.over (ends 35 n w)) (call.further (room - 3) (writing e v)) (shallow-ends 35 n w) (rest (room - 3) (writing e v))
  turned m room n w (asks e v) = either (ltb room 3) (call.over (ends 35 n w)) (hands_out m room n w e v) (shallow-ends 35 n w) (handing m room n w e v)

module _ (T tokens : List ℕ) where
  ran : (b : ℕ) (m : Mode) (room n : ℕ) (w : Walk) → Gives (run T tokens b m room n w)
  unfolding run
  ran zero m room n w = shallow-ends 36 n w
  ran (suc b) m room n w =
      go (call.turn m room n w (step T tokens w)) (turned (λ room v. run T tokens b m room (n + 1) v) (λ room v. ran b m room (n + 1) v) m room n w (step T tokens w))
    where
      go : (t : call.Turn) → Gives (After (λ room v. run T tokens b m room (n + 1) v) t)
          → Gives (elim t as (λ _. Called) [ call.over c ↦ c | call.further left v ↦ run T tokens b m left (n + 1) v ])
      go (call.over c) h = h
      go (call.further left v) h = h

  in-phase : (p : Phase) (m : Mode) (budget room : ℕ) (w : Walk) → Shallow w → Gives (call_in T tokens p m budget room w)
  unfolding call_in
  in-phase going (whole given) budget room w h = ran budget (whole given) room 0 (at_rest w)
  in-phase going (paused none) budget room w h = ran budget (paused none) room 0 (at_rest w)
  in-phase going (paused (some x)) budget room w h = h
  in-phase waiting (whole given) budget room w h = h
  in-phase waiting (paused none) budget room w h = h
  in-phase waiting (paused (some x)) budget room w h = ran budget (paused none) room 0 (with_answer x (at_rest w))
  in-phase (stopped r) (whole given) budget room w h = h
  in-phase (stopped r) (paused none) budget room w h = h
  in-phase (stopped r) (paused (some x)) budget room w h = h

pub length-call : (table tokens : List ℕ) (m : Mode) (budget : ℕ) (walk buffer : List ℕ) → length walk ≡ 158
    → length (call_bytes table tokens m budget walk buffer).walk ≡ 158
unfolding call_bytes outcome call_walk
length-call table tokens m budget walk buffer h = go (walk_of walk) refl
  where
    f : Walk → Called
    f = call_walk (table_of table) (words_of tokens) m budget (count buffer)

    go : (x : Option Walk) → walk_of walk ≡ x → length (outcome x walk buffer f).walk ≡ 158
    go none d = h
    go (some w) d = length-walk (f w).walk (in-phase (table_of table) (words_of tokens) w.phase m budget (count buffer) w (shallow-read walk w d))

-- eight bytes are those of the number that they are

number_same : (ws : List ℕ) → length ws ≡ 4 → ((i : ℕ) → get_or ws i 0 < 65536) → words64 (number64 ws) ≡ ws
number_same (a ∷ b ∷ c ∷ d ∷ []) k h = words64-number64 a b c d [] (h 1) (h 2) (h 3)
number_same [] k h = absurd (omega arith)
number_same (a ∷ []) k h = absurd (omega arith)
number_same (a ∷ b ∷ []) k h = absurd (omega arith)
number_same (a ∷ b ∷ c ∷ []) k h = absurd (omega arith)
number_same (a ∷ b ∷ c ∷ d ∷ e ∷ ws) k h = absurd (omega arith)

pub counter-same : (s : List ℕ) → ((i : ℕ) → get_or s i 0 < 256) → length s ≡ 8 → bytes_of (words64 (number64 (words_of s))) ≡ s
unfolding count
counter-same s b k = ap bytes_of (number_same (words_of s) (length-words_of s ∙ omega arith) (small-words s b)) ∙ bytes_of-words_of s b (omega arith)
