-- The calls of the code's definitions are those of the machine's.
use mathlib.Core.Path.{◌≡◌, refl, sym, ap, ◌∙◌}
use mathlib.Core.Bool.{Bool, true, false}
use mathlib.Core.List.{List, [], ◌∷◌, ◌++◌, reverse}
use mathlib.Core.Logic.{⊎_elim}
use mathlib.Core.Option.{none}
use Prim.Native.Nat.{ℕ, zero, suc, ◌+◌, ◌*◌, ◌-◌, ◌%◌, ◌<◌, ◌≤◌}
use native.Mathlib.Omega.{arith}
use lib.ListN.{length, take, set, length-set, length-append}
use Rattle.std.specs.Prelude.{Option, Some, None}
use Rattle.events.specs.Events as events
use Rattle.events.specs.Events.{reason_number}
use Rattle.machine.specs.Bytes.{count, words_of, table_of, bytes_of, over}
use Rattle.machine.specs.Walk as machine
use Rattle.machine.specs.Call as calls
use Rattle.machine.specs.Call.{whole, paused, Called, further, ends, ends_for, keeps, run, call_in, call_walk}
use Rattle.machine.specs.Form.{events_words}
use Rattle.machine.specs.Small.{SmallMode}
use Rattle.walker.specs.declared.Event.{Event}
use Rattle.walker.specs.declared.Next.{Next}
use Rattle.walker.specs.declared.Next.TheVariants.{Full, Stop, On, Tells, Push, Waits}
use Rattle.walker.specs.declared.Phase.{Phase}
use Rattle.walker.specs.declared.Phase.TheVariants.{Going, Waiting, Stopped}
use Rattle.walker.specs.declared.Reason.{Reason}
use Rattle.walker.specs.declared.Reason.TheVariants.{Finished, Differs, Missing, Unlabelled, Deep, Unanswered}
use Rattle.walker.specs.declared.Registers.{Registers}
use Rattle.walker.specs.declared.Walk.{Walk}
use Rattle.walker.specs.View.{reason_of, phase_of, event_of, walk_in, walk_of}
use Rattle.walker.specs.Linked.{Bytes, handed, Agrees}
use Rattle.walker.specs.Shape.{with_depth, answered_one, step_of, put_event, Outcome, ended, number_of, go_of, first64, kept_of, refused_of, whole_of, paused_of}
use Rattle.walker.proofs.LinkWords.{length-returns, clip-returns, over-event, count-put_event, one_more_lem, one-more-fits}
use Rattle.walker.proofs.Keeps.{After, Keeps, keeps as keeping}
use Rattle.walker.proofs.LinkStep.{with_events, in_call, turn_of, mode_of, step-turn}

-- registers that a call may hold: at most 64 return locations, and answers used within their width
pub record Held (r : Registers) : Type 0 where
  pub depth : r.depth ≤ 64
  pub used : r.used < 18446744073709551616

pub held_after : {r v : Registers} → After r v → Held r → Held v
held_after {r} h held = record {
  depth = omega (arith, h.depth, held.depth);
  used = ⊎_elim (λ e. rw e held.used) (λ e. rw e (one-more-fits r.used held.used)) h.used;
}

pub number-reason : (x : Reason) → number_of x ≡ reason_number (reason_of x)
unfolding number_of reason_number reason_of
number-reason Finished = refl
number-reason Differs = refl
number-reason Missing = refl
number-reason Unlabelled = refl
number-reason Deep = refl
number-reason Unanswered = refl
number-reason Reason.Outside = refl

-- a walk with 64 return locations at most is at rest but for its events
rest-returns : (rs : List ℕ) (d : ℕ) → length rs ≡ 64 → machine.first64 (reverse (take d rs)) ≡ reverse (take d rs)
unfolding machine.first64
rest-returns rs d h =
    let e = length-returns rs d in
    let f : length (reverse (take d rs)) - 64 ≡ 0 = omega arith in
    rw f

at_rest_lem : (ph : machine.Phase) (es : List events.Event) (r : Registers) (rs : List ℕ) → length rs ≡ 64
    → walk_in ph r rs ≡ machine.at_rest (machine.in_phase ph (in_call es r rs))
unfolding with_events walk_in machine.opened
at_rest_lem ph es r rs h = rw (rest-returns rs r.depth h)

-- a call ends with the events es in its buffer
ended-agrees : (s : List ℕ) (ph : Phase) (number steps e : ℕ) (es : List events.Event) (r : Registers) (rs o : List ℕ) → length rs ≡ 64 → length es ≡ e
    → o ≡ over (bytes_of (events_words es)) s → Agrees s (ended ph r rs o e steps number) (ends number steps (machine.in_phase (phase_of ph) (in_call es r rs)))
unfolding ends walk_of with_events walk_in machine.opened
ended-agrees s ph number steps e es r rs o h l b = record {
  number = refl;
  steps = refl;
  events = sym l;
  walk = at_rest_lem (phase_of ph) es r rs h;
  out = b;
}

-- Up to n steps

module _ (t k a : List ℕ) (q : Bool) (s : List ℕ) (small-t : Bytes t) (small-k : Bytes k) (small-a : Bytes a) where
  -- n steps from the registers r and the return locations rs, with the events es written to the buffer o and d steps done
  abbrev pub Runs : ℕ → Registers → List ℕ → List ℕ → ℕ → ℕ → List events.Event → Type 0
  Runs n r rs o e d es = Agrees s (go_of t k a q n r rs o e d) (run (table_of t) (words_of k) n (mode_of q a) (count o - 3 * e) d (in_call es r rs))

  abbrev pub Goes : ℕ → Type 0
  Goes n = (r : Registers) (rs o : List ℕ) (e d : ℕ) (es : List events.Event) → length rs ≡ 64 → Held r → length es ≡ e
      → o ≡ over (bytes_of (events_words es)) s → Runs n r rs o e d es

  module _ (n : ℕ) (ih : Goes n) (r : Registers) (rs o : List ℕ) (e d : ℕ) (es : List events.Event) (sized : length rs ≡ 64) (held : Held r) (length-es : length es ≡ e)
      (b : o ≡ over (bytes_of (events_words es)) s) where
    -- one more event is written
    told : (x : Event) → 3 ≤ count o - 3 * e → put_event o (3 * e) x ≡ over (bytes_of (events_words (es ++ (event_of x ∷ [])))) s
    told x h =
        let h₂ : 3 ≤ count (over (bytes_of (events_words es)) s) - 3 * e = rw b at h in
        ap (λ (u : List ℕ). put_event u (3 * e) x) b ∙ over-event es s (3 * e) x (omega arith) (omega arith)

    more : (x : Event) → length (es ++ (event_of x ∷ [])) ≡ e + 1
    more x = length-append es (event_of x ∷ []) ∙ omega arith

    next : (x : Next) → Keeps (count o - 3 * e) r x → Agrees s
        (elim x as (λ y. Outcome) [
          | Full ↦ ended Going r rs o e d 35
          | Next.Outside ↦ ended (Stopped Reason.Outside) r rs o e d 37
          | Stop x ↦ ended (Stopped x) r rs o e (d + 1) (number_of x)
          | On v ↦ go_of t k a q n v rs o e (d + 1)
          | Tells v x ↦ go_of t k a q n v rs (put_event o (3 * e) x) (e + 1) (d + 1)
          | Push v l ↦ go_of t k a q n (with_depth v (v.depth + 1)) (set rs v.depth l) o e (d + 1)
          | Waits v x ↦ ended Waiting v rs (put_event o (3 * e) x) (e + 1) (d + 1) 22
        ])
        (elim (turn_of (count o - 3 * e) d es r rs x) as (λ y. Called) [ calls.over c ↦ c | further left v ↦ run (table_of t) (words_of k) n (mode_of q a) left (d + 1) v ])
    unfolding turn_of ends_for with_events machine.in_phase machine.with_io walk_in phase_of reason_of reason_number
    next Full h = ended-agrees s Going 35 d e es r rs o sized length-es b
    next Next.Outside h = ended-agrees s (Stopped Reason.Outside) 37 d e es r rs o sized length-es b
    next (Stop x) h = rw (number-reason x) (ended-agrees s (Stopped x) (reason_number (reason_of x)) (d + 1) e es r rs o sized length-es b)
    next (On v) h = ih v rs o e (d + 1) es sized (held_after h held) length-es b
    next (Tells v x) h =
        let f : count (put_event o (3 * e) x) - 3 * (e + 1) ≡ count o - 3 * e - 3 = rw (count-put_event o (3 * e) x) (omega arith) in
        rw f at (ih v rs (put_event o (3 * e) x) (e + 1) (d + 1) (es ++ (event_of x ∷ [])) sized (held_after h.0 held) (more x) (told x h.1))
    next (Push v l) h =
        ih (with_depth v (v.depth + 1)) (set rs v.depth l) o e (d + 1) es (length-set rs v.depth l ∙ sized) (record { depth = omega (arith, h.1); used = (held_after h.0 held).used }) length-es b
    next (Waits v x) h = ended-agrees s Waiting 22 (d + 1) (e + 1) (es ++ (event_of x ∷ [])) v rs (put_event o (3 * e) x) sized (more x) (told x h)

  -- up to n steps are the machine's
  pub go-run : (n : ℕ) → Goes n
  unfolding go_of run with_events machine.in_phase machine.with_io walk_in phase_of
  go-run zero r rs o e d es h held l b = ended-agrees s Going 36 d e es r rs o h l b
  go-run (suc n) r rs o e d es h held l b =
      rw (step-turn t k a (count o - 3 * e) d q es r rs h held.depth held.used small-t small-k small-a, run)
      (next n (go-run n) r rs o e d es h held l b (step_of rs t k a (count o - 3 * e) q r) (keeping (count o - 3 * e) r rs t k a q))

-- Calls over bytes: for every walk struct, whatever its depth, an array of 64 return locations and answers used within their width

module _ (t k : List ℕ) (n : ℕ) (w : Walk) (o : List ℕ) (sized : length w.returns ≡ 64) (used : w.at.used < 18446744073709551616)
    (small-t : Bytes t) (small-k : Bytes k) where
  -- the walk as a call begins with it
  begins : (ph : Phase) → w.phase ≡ ph → machine.in_phase (phase_of ph) (in_call [] (first64 w.at) w.returns) ≡ machine.at_rest (walk_of w)
  unfolding walk_of with_events walk_in machine.opened
  begins ph e = rw (rest-returns w.returns w.at.depth sized, clip-returns w.returns w.at.depth sized, e)

  held : Held (first64 w.at)
  held = record { depth = omega arith; used = used }

  nothing : o ≡ over (bytes_of (events_words [])) o
  unfolding over bytes_of events_words
  nothing = refl

  -- from registers, with the whole buffer left
  fresh-run : (a : List ℕ) (q : Bool) (r : Registers) → Bytes a → Held r
      → Agrees o (go_of t k a q n r w.returns o 0 0) (run (table_of t) (words_of k) n (mode_of q a) (count o) 0 (in_call [] r w.returns))
  fresh-run a q r small-a h =
      let e : count o - 3 * 0 ≡ count o = omega arith in
      rw e at (go-run t k a q o small-t small-k small-a n r w.returns o 0 0 [] sized h refl nothing)

  refused-agrees : Agrees o (refused_of w o) (keeps 21 (walk_of w))
  refused-agrees = record { number = refl; steps = refl; events = refl; walk = refl; out = nothing }

  stopped-agrees : (r : Reason) → Agrees o (kept_of w o (number_of r)) (keeps (reason_number (reason_of r)) (walk_of w))
  stopped-agrees r = record { number = number-reason r; steps = refl; events = refl; walk = refl; out = nothing }

  going-run : (a : List ℕ) (q : Bool) → Bytes a → w.phase ≡ Going
      → Agrees o (go_of t k a q n (first64 w.at) w.returns o 0 0) (run (table_of t) (words_of k) n (mode_of q a) (count o) 0 (machine.at_rest (walk_of w)))
  unfolding with_events walk_in phase_of machine.in_phase machine.with_io
  going-run a q small-a e = rw (← begins Going e) (fresh-run a q (first64 w.at) small-a held)

  no_bytes : Bytes []
  no_bytes i = omega arith

  -- a waiting walk that is given its answer
  answered-begins : (x : ℕ) → x < 65536 → in_call [] (answered_one (first64 w.at) x) w.returns ≡ machine.with_answer x (machine.at_rest (walk_of w))
  unfolding walk_of with_events walk_in machine.opened events.answered
  answered-begins x h =
      let e : x % 65536 ≡ x = omega arith in
      rw (e, rest-returns w.returns w.at.depth sized, clip-returns w.returns w.at.depth sized, one_more_lem w.at.used used)

  answered-run : (x : ℕ) → x < 65536
      → Agrees o (go_of t k [] true n (answered_one (first64 w.at) x) w.returns o 0 0) (run (table_of t) (words_of k) n (paused none) (count o) 0 (machine.with_answer x (machine.at_rest (walk_of w))))
  answered-run x small =
      let h : Held (answered_one (first64 w.at) x) = record { depth = omega arith; used = one-more-fits w.at.used used } in
      rw (← answered-begins x small) (fresh-run [] true (answered_one (first64 w.at) x) no_bytes h)

  whole_in : (a : List ℕ) (ph : Phase) → Bytes a → w.phase ≡ ph
      → Agrees o (whole_of t k a n w o ph) (call_in (table_of t) (words_of k) (phase_of ph) (whole (words_of a)) n (count o) (walk_of w))
  unfolding whole_of call_in phase_of
  whole_in a Going small-a e = going-run a false small-a e
  whole_in a Waiting small-a e = refused-agrees
  whole_in a (Stopped r) small-a e = stopped-agrees r

  paused-in : (g : Option ℕ) (ph : Phase) → SmallMode (paused (handed g)) → w.phase ≡ ph
      → Agrees o (paused_of t k g n w o ph) (call_in (table_of t) (words_of k) (phase_of ph) (paused (handed g)) n (count o) (walk_of w))
  unfolding paused_of call_in phase_of
  paused-in None Going h e = going-run [] true no_bytes e
  paused-in (Some x) Going h e = refused-agrees
  paused-in None Waiting h e = refused-agrees
  paused-in (Some x) Waiting h e = answered-run x h
  paused-in None (Stopped r) h e = stopped-agrees r
  paused-in (Some x) (Stopped r) h e = refused-agrees

  -- a whole call
  pub whole-call : (a : List ℕ) → Bytes a → Agrees o (whole_of t k a n w o w.phase) (call_walk (table_of t) (words_of k) (whole (words_of a)) n (count o) (walk_of w))
  unfolding call_walk walk_of walk_in
  whole-call a small-a = whole_in a w.phase small-a refl

  -- a paused call, with an answer or none
  pub paused-call : (g : Option ℕ) → SmallMode (paused (handed g))
      → Agrees o (paused_of t k g n w o w.phase) (call_walk (table_of t) (words_of k) (paused (handed g)) n (count o) (walk_of w))
  unfolding call_walk walk_of walk_in
  paused-call g h = paused-in g w.phase h refl

-- A refused call leaves the very struct and the buffer as they were

module _ (t k : List ℕ) (n : ℕ) (w : Walk) (o : List ℕ) where
  pub whole-refused : (a : List ℕ) → w.phase ≡ Waiting → whole_of t k a n w o w.phase ≡ refused_of w o
  unfolding whole_of
  whole-refused a e = rw e

  -- a waiting walk, and no answer
  pub unanswered-refused : w.phase ≡ Waiting → paused_of t k None n w o w.phase ≡ refused_of w o
  unfolding paused_of
  unanswered-refused e = rw e

  answered-in : (x : ℕ) (ph : Phase) → (ph ≡ Waiting → ⊥) → paused_of t k (Some x) n w o ph ≡ refused_of w o
  unfolding paused_of
  answered-in x Going h = refl
  answered-in x Waiting h = absurd (h refl)
  answered-in x (Stopped r) h = refl

  -- an answer, and no waiting walk
  pub answered-refused : (x : ℕ) → (w.phase ≡ Waiting → ⊥) → paused_of t k (Some x) n w o w.phase ≡ refused_of w o
  answered-refused x h = answered-in x w.phase h
