-- "21 .. (walk and buffer unchanged; before all other tests)": a call over bytes that answers 21 changes nothing and counts nothing. "such stops are
-- final, and repeat, before the budget test, with nothing changed": nor does a call of a walk that has stopped.
use mathlib.Core.Bool.{Bool, true, false}
use mathlib.Core.List.{List, []}
use mathlib.Core.Option.{Option, none, some}
use mathlib.Core.Path.{◌≡◌, refl, ap, ◌∙◌}
use Prim.Native.Nat.{ℕ, zero, suc, ◌+◌, ◌-◌}
use lib.Dec.{ltb}
use native.Mathlib.Omega.{arith}
use Rattle.std.specs.Prelude.{if◌then◌else◌}
use Rattle.events.specs.Events.{Event, Reason, finished, differs, missing, unlabelled, deep, unanswered, outside, reason_number, answer}
use Rattle.machine.proofs.Form.{walk_bytes-walk_of}
use Rattle.machine.specs.Bytes.{count, words_of, table_of, bytes_of, over}
use Rattle.machine.specs.Call as calls
use Rattle.machine.specs.Call.{Mode, whole, paused, Called, ends, ends_for, writing, Turn, further, takes, hands_out, turn, run, call_in, call_walk}
use Rattle.machine.specs.Form.{walk_bytes, walk_of, events_words, outcome, call_bytes}
use Rattle.machine.specs.Step.{Next, goes_outside, stops, goes, tells, asks, step}
use Rattle.machine.specs.Unchanged.{Same, Unchanged}
use Rattle.machine.specs.Walk.{Phase, going, waiting, stopped, Walk, at_rest, with_answer}

-- no reason has the number 21
no-reason : (r : Reason) → reason_number r ≡ 21 → ⊥
unfolding reason_number
no-reason finished e = omega arith
no-reason differs e = omega arith
no-reason missing e = omega arith
no-reason unlabelled e = omega arith
no-reason deep e = omega arith
no-reason unanswered e = omega arith
no-reason outside e = omega arith

abbrev Not21 : Called → Type 0
Not21 c = c.number ≡ 21 → ⊥

ended : (r : Reason) (n : ℕ) (w : Walk) → Not21 (ends_for r n w)
unfolding ends_for ends
ended r n w e = no-reason r e

-- what follows a turn
abbrev After : (ℕ → Walk → Called) → Turn → Called
After f (calls.over c) = c
After f (further room v) = f room v

module _ (f : ℕ → Walk → Called) (rest : (room : ℕ) (v : Walk) → Not21 (f room v)) where
  taking : (o : Option ℕ) (room n : ℕ) (w : Walk) (e : Event) (v : Walk) → Not21 (After f (takes o room n w e v))
  unfolding takes
  taking none room n w e v = ended unanswered (n + 1) w
  taking (some x) room n w e v = rest (room - 3) (with_answer x (writing e v))

  handing : (m : Mode) (room n : ℕ) (w : Walk) (e : Event) (v : Walk) → Not21 (After f (hands_out m room n w e v))
  unfolding hands_out ends
  handing (whole given) room n w e v = taking (answer given w.io) room n w e v
  handing (paused x) room n w e v = λ z. omega arith

  either : (t : Bool) (x y : Turn) → Not21 (After f x) → Not21 (After f y) → Not21 (After f (if t then x else y))
  either true x y p q = p
  either false x y p q = q

  turned : (m : Mode) (room n : ℕ) (w : Walk) (nx : Next) → Not21 (After f (turn m room n w nx))
  unfolding turn ends
  turned m room n w goes_outside = ended outside n w
  turned m room n w (stops r) = ended r (n + 1) w
  turned m room n w (goes v) = rest room v
  turned m room n w (tells e v) = either (ltb room 3) (calls.over (ends 35 n w)) (further (room - 3) (writing e v)) (λ z. omega arith) (rest (room - 3) (writing e v))
  turned m room n w (asks e v) = either (ltb room 3) (calls.over (ends 35 n w)) (hands_out m room n w e v) (λ z. omega arith) (handing m room n w e v)

module _ (T tokens : List ℕ) where
  ran : (b : ℕ) (m : Mode) (room n : ℕ) (w : Walk) → Not21 (run T tokens b m room n w)
  unfolding run ends
  ran zero m room n w = λ z. omega arith
  ran (suc b) m room n w = go (turn m room n w (step T tokens w)) (turned (λ room v. run T tokens b m room (n + 1) v) (λ room v. ran b m room (n + 1) v) m room n w (step T tokens w))
    where
      go : (t : Turn) → Not21 (After (λ room v. run T tokens b m room (n + 1) v) t)
          → Not21 (elim t as (λ _. Called) [ calls.over c ↦ c | further left v ↦ run T tokens b m left (n + 1) v ])
      go (calls.over c) h = h
      go (further left v) h = h

  in-phase : (p : Phase) (m : Mode) (budget room : ℕ) (w : Walk) → (call_in T tokens p m budget room w).number ≡ 21 → Same w (call_in T tokens p m budget room w)
  unfolding call_in ends
  in-phase going (whole given) budget room w e = absurd (ran budget (whole given) room 0 (at_rest w) e)
  in-phase going (paused none) budget room w e = absurd (ran budget (paused none) room 0 (at_rest w) e)
  in-phase going (paused (some x)) budget room w e = record { walk = refl; events = refl; steps = refl }
  in-phase waiting (whole given) budget room w e = record { walk = refl; events = refl; steps = refl }
  in-phase waiting (paused none) budget room w e = record { walk = refl; events = refl; steps = refl }
  in-phase waiting (paused (some x)) budget room w e = absurd (ran budget (paused none) room 0 (with_answer x (at_rest w)) e)
  in-phase (stopped r) (whole given) budget room w e = absurd (no-reason r e)
  in-phase (stopped r) (paused none) budget room w e = absurd (no-reason r e)
  in-phase (stopped r) (paused (some x)) budget room w e = record { walk = refl; events = refl; steps = refl }

  -- a call that answers 21 gives the walk back as it was
  pub refused-walk : (m : Mode) (budget room : ℕ) (w : Walk) → (call_walk T tokens m budget room w).number ≡ 21 → Same w (call_walk T tokens m budget room w)
  unfolding call_walk
  refused-walk m budget room w e = in-phase w.phase m budget room w e

nothing : (b : List ℕ) → over (bytes_of (events_words [])) b ≡ b
unfolding over bytes_of events_words
nothing b = refl

same_bytes : (walk buffer : List ℕ) (w : Walk) (f : Walk → Called) → walk_of walk ≡ some w → Same w (f w) → Unchanged walk buffer (outcome (some w) walk buffer f)
unfolding outcome
same_bytes walk buffer w f is s = record {
  walk_bytes_lem = ap walk_bytes s.walk ∙ walk_bytes-walk_of walk w is;
  buffer_bytes = ap (λ (es : List Event). over (bytes_of (events_words es)) buffer) s.events ∙ nothing buffer;
  no_event = ap (λ (es : List Event). lib.ListN.length es) s.events;
  no_step = s.steps;
}

pub refused-unchanged : (table tokens : List ℕ) (m : Mode) (budget : ℕ) (walk buffer : List ℕ) → (call_bytes table tokens m budget walk buffer).number ≡ 21
    → Unchanged walk buffer (call_bytes table tokens m budget walk buffer)
unfolding call_bytes outcome
refused-unchanged table tokens m budget walk buffer e = go (walk_of walk) refl e
  where
    f : Walk → Called
    f = call_walk (table_of table) (words_of tokens) m budget (count buffer)

    go : (x : Option Walk) → walk_of walk ≡ x → (outcome x walk buffer f).number ≡ 21 → Unchanged walk buffer (outcome x walk buffer f)
    go none d h = record { walk_bytes_lem = refl; buffer_bytes = refl; no_event = refl; no_step = refl }
    go (some w) d h = same_bytes walk buffer w f d (refused-walk (table_of table) (words_of tokens) m budget (count buffer) w h)

-- A walk that has stopped

module _ (T tokens : List ℕ) where
  stopped-in : (p : Phase) (r : Reason) (m : Mode) (budget room : ℕ) (w : Walk) → p ≡ stopped r → Same w (call_in T tokens p m budget room w)
  unfolding call_in
  stopped-in p r (whole given) budget room w e = rw e (record { walk = refl; events = refl; steps = refl })
  stopped-in p r (paused none) budget room w e = rw e (record { walk = refl; events = refl; steps = refl })
  stopped-in p r (paused (some x)) budget room w e = rw e (record { walk = refl; events = refl; steps = refl })

  -- whatever the call, and however many return locations the walk was made up with
  pub stopped-walk : (r : Reason) (m : Mode) (budget room : ℕ) (w : Walk) → w.phase ≡ stopped r → Same w (call_walk T tokens m budget room w)
  unfolding call_walk
  stopped-walk r m budget room w e = stopped-in w.phase r m budget room w e

pub stopped-unchanged : (table tokens : List ℕ) (r : Reason) (m : Mode) (budget : ℕ) (walk buffer : List ℕ) (w : Walk) → walk_of walk ≡ some w → w.phase ≡ stopped r
    → Unchanged walk buffer (call_bytes table tokens m budget walk buffer)
unfolding call_bytes
stopped-unchanged table tokens r m budget walk buffer w d e =
    rw d (same_bytes walk buffer w (call_walk (table_of table) (words_of tokens) m budget (count buffer)) d (stopped-walk (table_of table) (words_of tokens) r m budget (count buffer) w e))
