-- "Fed the same answers .., the two agree in events, counts and end until the answers run out: there the whole walk stops with 34, the
-- paused one waits", "for every state, also a made-up one (the agreement for one that isn't waiting)", and for any table.
use mathlib.Core.Bool.{Bool, true, false}
use mathlib.Core.List.{List, [], ◌∷◌, ◌++◌, append-nil, append_assoc}
use mathlib.Core.Option.{Option, none, some}
use mathlib.Core.Path.{◌≡◌, refl, sym, ap, ◌∙◌}
use Prim.Native.Nat.{ℕ, zero, suc, ◌+◌, ◌-◌, ◌*◌, ◌^◌, ◌<◌, ◌≤◌, min}
use native.Mathlib.Nat.{zero-add}
use native.Mathlib.Omega.{arith}
use lib.Dec.{ltb}
use lib.ListN.{length, drop, get_elem?, length-append, length-drop}
use borrow.Author.Tests.{ltb-false}
use Rattle.std.specs.Prelude.{if◌then◌else◌}
use Rattle.events.specs.Events
use Rattle.events.specs.Events.{Event, Reason, finished, differs, missing, unlabelled, deep, unanswered, outside, reason_number, answer}
use Rattle.machine.specs.Walk
use Rattle.machine.specs.Walk.{Phase, going, waiting, stopped, Walk, moved, with_returns, in_phase, with_answer, first64, at_rest}
use Rattle.machine.specs.Step.{Next, asks, step}
use Rattle.machine.specs.Call
use Rattle.machine.specs.Call.{whole, paused, Called, ends, ends_for, keeps, writing, Turn, over, further, takes, hands_out, turn, run, call_in, call_walk}
use Rattle.agreement.specs.Pauses.{joined, Agree, same, run_out, while_waiting, answering, fed, in_aRow}
use Rattle.agreement.proofs.Lists.{with_events, with_earlier, earlier, step-earlier, Keeps, Own, After, after-outside, after_stop, after-goes, after-tells, after-asks, step_after, step-asked, resume, run-resume, writing-earlier, going-waiting, waiting-stopped, all64}

-- an instruction that asks does so whatever events the walk holds
module _ (T tokens : List ℕ) where
  asks-bare : (w v : Walk) (e : Event) → step T tokens w ≡ asks e v
      → step T tokens (with_events [] w) ≡ asks e (moved (w.location + 1) (with_events [] w))
  unfolding earlier with_earlier with_events Walk.opened
  asks-bare w v e s =
      go (step_after T tokens (with_events [] w))
      (sym (step-earlier w.io.events T tokens (with_events [] w)) ∙ ap (step T tokens) back ∙ s)
    where
      back : with_earlier w.io.events (with_events [] w) ≡ w
      back = let a = append-nil w.io.events in λ i. with_events (a i) w

      go : {nx : Next} → After (with_events [] w) nx → earlier w.io.events nx ≡ asks e v
          → nx ≡ asks e (moved (w.location + 1) (with_events [] w))
      go after-outside q = cc
      go (after_stop r o) q = cc
      go (after-goes u k) q = cc
      go (after-tells e' u f k) q = cc
      go (after-asks e' u t past k) q = let d : e' ≡ e = cc in λ i. asks (d i) (past i)

drop-none : (l : List ℕ) (i : ℕ) → get_elem? l i ≡ none → drop i l ≡ []
drop-none [] zero h = refl
drop-none [] (suc i) h = refl
drop-none (x ∷ l) zero h = cc
drop-none (x ∷ l) (suc i) h = drop-none l i h

drop-some : (l : List ℕ) (i : ℕ) {x : ℕ} → get_elem? l i ≡ some x → drop i l ≡ x ∷ drop (suc i) l
drop-some [] zero h = cc
drop-some [] (suc i) h = cc
drop-some (y ∷ l) zero {x} h = let d : y ≡ x = cc in λ i. d i ∷ l
drop-some (y ∷ l) (suc i) h = drop-some l i h

found_before : (l : List ℕ) (i : ℕ) {x : ℕ} → get_elem? l i ≡ some x → i < length l
found_before [] i h = let z : ◌≡◌ {A = ℕ} 0 1 = cc in absurd (omega arith)
found_before (y ∷ l) zero h = omega arith
found_before (y ∷ l) (suc i) h = let ih = found_before l i h in omega arith

unanswered-34 : (r : Reason) → reason_number r ≡ 34 → r ≡ unanswered
unfolding reason_number
unanswered-34 finished e = absurd (omega arith)
unanswered-34 differs e = absurd (omega arith)
unanswered-34 missing e = absurd (omega arith)
unanswered-34 unlabelled e = absurd (omega arith)
unanswered-34 deep e = absurd (omega arith)
unanswered-34 unanswered e = refl
unanswered-34 outside e = absurd (omega arith)

own-34 : (r : Reason) → Own r → reason_number r ≡ 34 → ⊥
own-34 r o e = rw (unanswered-34 r e) at o

-- no call yet
none_yet : Walk → Called
none_yet w = record { number = 0; walk = w; events = []; steps = 0 }

joined-first : (w : Walk) (d : Called) → joined (none_yet w) d ≡ d
unfolding joined none_yet
joined-first w d = let z = zero-add d.steps in λ i. record { number = d.number; walk = d.walk; events = d.events; steps = z i }

first64-few : (rs : List ℕ) → length (first64 rs) ≤ 64
unfolding first64
first64-few rs = let l = length-drop (length rs - 64) rs in omega arith

module _ (T tokens : List ℕ) (budget room : ℕ) where
  pub fed-rests : (xs : List ℕ) (c : Called) → (c.walk.phase ≡ waiting → ⊥) → fed T tokens budget room xs c ≡ c
  unfolding fed while_waiting
  fed-rests [] c h = refl
  fed-rests (x ∷ xs) c h = go c.walk.phase h
    where
      go : (p : Phase) → (p ≡ waiting → ⊥) → while_waiting p c (fed T tokens budget room xs (answering T tokens budget room x c)) ≡ c
      go going h = refl
      go waiting h = absurd (h refl)
      go (stopped r) h = refl

  module _ (answers : List ℕ) (short : length answers < 2 ^ 64) (start : Walk) (starts : start.phase ≡ going) where
    -- where both have come after the paused calls c and n steps of the next, with so much budget and room left and these answers
    record Place (b left n : ℕ) (w : Walk) (c : Called) (xs : List ℕ) : Type 0 where
      on : w.phase ≡ going
      few : length w.returns ≤ 64
      next : xs ≡ drop w.io.used answers
      budgeted : budget ≡ b + (c.steps + n)
      roomy : room ≡ left + 3 * (length c.events + length w.io.events)

    place-goes : (b left n : ℕ) (w v : Walk) (c : Called) (xs : List ℕ) → Keeps w v → Place (suc b) left n w c xs
        → Place b left (n + 1) v c xs
    place-goes b left n w v c xs k h =
        let u : w.io.used ≡ v.io.used = sym k.used in
        let e : length v.io.events ≡ length w.io.events = ap length k.events in
        record {
          on = k.phase ∙ h.on;
          few = k.returns h.few;
          next = h.next ∙ ap (λ i. drop i answers) u;
          budgeted = omega (arith, h.budgeted);
          roomy = omega (arith, h.roomy, e);
        }

    place-tells : (b left n : ℕ) (w : Walk) (e : Event) (c : Called) (xs : List ℕ) → ltb left 3 ≡ false → Place b left n w c xs
        → Place b (left - 3) n (writing e w) c xs
    unfolding writing Walk.opened Events.wrote
    place-tells b left n w e c xs t h =
        let three = ltb-false left 3 t in
        let l = length-append w.io.events (e ∷ []) in
        record { on = h.on; few = h.few; next = h.next; budgeted = h.budgeted; roomy = omega (arith, h.roomy, three, l) }

    -- the whole call and the paused calls from there
    abbrev Both : ℕ → Type 0
    Both b = (left n j : ℕ) (w u : Walk) (c : Called) (xs : List ℕ) → Place b left n w c xs → j ≡ c.steps + n
        → u ≡ with_earlier c.events w
        → Agree T tokens answers start (run T tokens b (whole answers) left j u) (fed T tokens budget room xs (joined c (run T tokens b (paused none) left n w)))

    over-both : (number n j : ℕ) (w : Walk) (c : Called) (xs : List ℕ) → (w.phase ≡ waiting → ⊥) → (number ≡ 34 → ⊥) → j ≡ c.steps + n
        → Agree T tokens answers start (ends number j (with_earlier c.events w)) (fed T tokens budget room xs (joined c (ends number n w)))
    unfolding ends joined with_earlier with_events Walk.opened
    over-both number n j w c xs p h e = rw e (same (fed-rests xs (joined c (ends number n w)) p) (λ z. absurd (h z)))

    if-both : (b j n : ℕ) (c : Called) (xs : List ℕ) (t : Bool) (x y x' y' : Turn)
        → Agree T tokens answers start (resume T tokens b (whole answers) j x) (fed T tokens budget room xs (joined c (resume T tokens b (paused none) n x')))
        → (t ≡ false → Agree T tokens answers start (resume T tokens b (whole answers) j y) (fed T tokens budget room xs (joined c (resume T tokens b (paused none) n y'))))
        → Agree T tokens answers start (resume T tokens b (whole answers) j (if t then x else y))
        (fed T tokens budget room xs (joined c (resume T tokens b (paused none) n (if t then x' else y'))))
    if-both b j n c xs true x y x' y' p q = p
    if-both b j n c xs false x y x' y' p q = q refl

    -- the walk asks, with room for the event, and there is no answer
    unanswered-both : (n j : ℕ) (w v : Walk) (e : Event) (c : Called) → answer answers w.io ≡ none → w.phase ≡ going
        → length w.returns ≤ 64 → j ≡ c.steps + n → step T tokens w ≡ asks e v
        → Agree T tokens answers start (ends_for unanswered (j + 1) (with_earlier c.events w))
        (joined c (ends Call.waits (n + 1) (in_phase waiting (writing e v))))
    unfolding joined ends ends_for with_earlier with_events writing Walk.opened Events.opened
    unanswered-both n j w v e c a g few k s =
        let past = (step-asked T tokens w v e s).past in
        let r = all64 w.returns few in
        run_out starts record {
          before = with_events [] w;
          question = e;
          goes_on = g;
          asked = asks-bare T tokens w v e s;
          used_up = a;
          whole_number = refl;
          whole_walk = λ i. with_returns (r i) (in_phase (stopped unanswered) (with_events [] w));
          paused_number = refl;
          paused_walk = rw past (λ i. with_returns (r i) (in_phase waiting (moved (w.location + 1) (with_events [] w))));
          events = rw past (sym (append_assoc c.events w.io.events (e ∷ [])));
          steps = omega arith;
        }

    -- the walk asks, with room for the event, and there is an answer: it is that of the next paused call
    answered-both : (b : ℕ) → Both b → (y left n j : ℕ) (w v : Walk) (e : Event) (c : Called) (xs : List ℕ)
        → answer answers w.io ≡ some y → Place (suc b) left n w c xs → ltb left 3 ≡ false → j ≡ c.steps + n → step T tokens w ≡ asks e v
        → Agree T tokens answers start (run T tokens b (whole answers) (left - 3) (j + 1) (with_answer y (writing e (with_earlier c.events v))))
        (fed T tokens budget room (drop (suc w.io.used) answers) (answering T tokens budget room y (joined c (ends Call.waits (n + 1) (in_phase waiting (writing e v))))))
    unfolding answering joined ends with_earlier with_events writing Walk.opened Events.opened call_walk call_in
    answered-both b rest y left n j w v e c xs a h t k s =
        let q = step-asked T tokens w v e s in
        let c' = joined c (ends Call.waits (n + 1) (in_phase waiting (writing e v))) in
        let l = length-append c.events (v.io.events ++ (e ∷ [])) in
        let l' = length-append v.io.events (e ∷ []) in
        let el : length v.io.events ≡ length w.io.events = ap length q.keeps.events in
        let u = found_before answers w.io.used a in
        let bud : budget - (c.steps + (n + 1)) ≡ b = omega (arith, h.budgeted) in
        let three = ltb-false left 3 t in
        let roo : room - 3 * length (c.events ++ (v.io.events ++ (e ∷ []))) ≡ left - 3 = omega (arith, h.roomy) in
        let r = all64 v.returns (q.keeps.returns h.few) in
        let rr : first64 (first64 v.returns) ≡ v.returns = ap first64 r ∙ r in
        let lr : length (first64 (first64 v.returns)) ≡ length v.returns = ap length rr in
        let few = q.keeps.returns h.few in
        let i : suc w.io.used ≡ min (v.io.used + 1) (2 ^ 64 - 1) = omega (arith, q.keeps.used) in
        let ev = append_assoc c.events v.io.events (e ∷ []) ∙ sym (append-nil (c.events ++ (v.io.events ++ (e ∷ [])))) in
        let here : Place b (left - 3) 0 (with_answer y (at_rest c'.walk)) c' (drop (suc w.io.used) answers) =
        record {
          on = refl;
          few = omega (arith, few, lr);
          next = ap (λ k. drop k answers) i;
          budgeted = omega (arith, h.budgeted);
          roomy = omega (arith, h.roomy, three, l, l', el);
        } in
        rw (bud, roo)
        (rest (left - 3) 0 (j + 1) (with_answer y (at_rest c'.walk)) (with_answer y (writing e (with_earlier c.events v))) c'
        (drop (suc w.io.used) answers) here (omega arith) (λ i. with_returns (sym rr i) (with_events (ev i) (with_answer y v))))

    turn-both : (b : ℕ) → Both b → {nx : Next} (left n j : ℕ) (w : Walk) (c : Called) (xs : List ℕ) → After w nx
        → Place (suc b) left n w c xs → j ≡ c.steps + n → step T tokens w ≡ nx
        → Agree T tokens answers start
        (resume T tokens b (whole answers) j (turn (whole answers) left j (with_earlier c.events w) (earlier c.events nx)))
        (fed T tokens budget room xs (joined c (resume T tokens b (paused none) n (turn (paused none) left n w nx))))
    unfolding turn hands_out takes resume fed while_waiting joined earlier ends ends_for reason_number answer with_earlier with_events Walk.opened
    turn-both b rest left n j w c xs after-outside h k s =
        over-both 37 n j (in_phase (stopped outside) w) c xs (λ p. waiting-stopped p refl) (λ z. omega arith) k
    turn-both b rest left n j w c xs (after_stop y o) h k s =
        over-both (reason_number y) (n + 1) (j + 1) (in_phase (stopped y) w) c xs (λ p. waiting-stopped p refl) (own-34 y o) (omega arith)
    turn-both b rest left n j w c xs (after-goes v keeps) h k s =
        rest left (n + 1) (j + 1) v (with_earlier c.events v) c xs (place-goes b left n w v c xs keeps h) (omega arith) refl
    turn-both b rest left n j w c xs (after-tells e v f keeps) h k s =
        if-both b j n c xs (ltb left 3) (over (ends 35 j (with_earlier c.events w)))
        (further (left - 3) (writing e (with_earlier c.events v)))
        (over (ends 35 n w)) (further (left - 3) (writing e v))
        (over-both 35 n j w c xs (going-waiting h.on) (λ z. omega arith) k)
        (λ t. rest (left - 3) (n + 1) (j + 1) (writing e v) (writing e (with_earlier c.events v)) c xs
        (place-tells b left (n + 1) v e c xs t (place-goes b left n w v c xs keeps h)) (omega arith) (sym (writing-earlier c.events e v)))
    turn-both b rest left n j w c xs (after-asks e v t past keeps) h k s =
        if-both b j n c xs (ltb left 3) (over (ends 35 j (with_earlier c.events w)))
        (takes (answer answers w.io) left j (with_earlier c.events w) e (with_earlier c.events v))
        (over (ends 35 n w)) (over (ends Call.waits (n + 1) (in_phase waiting (writing e v))))
        (over-both 35 n j w c xs (going-waiting h.on) (λ z. omega arith) k)
        (λ f. asks_both (answer answers w.io) refl f)
      where
        asks_both : (o : Option ℕ) → answer answers w.io ≡ o → ltb left 3 ≡ false
            → Agree T tokens answers start
            (resume T tokens b (whole answers) j (takes o left j (with_earlier c.events w) e (with_earlier c.events v)))
            (fed T tokens budget room xs (joined c (ends Call.waits (n + 1) (in_phase waiting (writing e v)))))
        asks_both none a f = rw (h.next ∙ drop-none answers w.io.used a) (unanswered-both n j w v e c a h.on h.few k s)
        asks_both (some y) a f = rw (h.next ∙ drop-some answers w.io.used a) (answered-both b rest y left n j w v e c xs a h f k s)

    both : (b : ℕ) → Both b
    unfolding run
    both zero left n j w u c xs h k d = rw d (over-both 36 n j w c xs (going-waiting h.on) (λ z. omega arith) k)
    both (suc b) left n j w u c xs h k d =
        rw (
          d,
          run-resume T tokens b (whole answers) left j (with_earlier c.events w),
          run-resume T tokens b (paused none) left n w,
          step-earlier c.events T tokens w,
        )
        (turn-both b (both b) left n j w c xs (step_after T tokens w) h k refl)

  -- the claim for a walk in this phase
  agree-in : (answers : List ℕ) → length answers < 2 ^ 64 → (w : Walk) (p : Phase) → w.phase ≡ p → (p ≡ waiting → ⊥)
      → Agree T tokens answers w (call_in T tokens p (whole answers) budget room w)
      (fed T tokens budget room (drop w.io.used answers) (call_in T tokens p (paused none) budget room w))
  unfolding call_in none_yet ends with_earlier with_events Walk.opened
  agree-in answers short w going g h =
      let here : Place answers short w g budget room 0 (at_rest w) (none_yet w) (drop w.io.used answers) =
      record { on = g; few = first64-few w.returns; next = refl; budgeted = omega arith; roomy = omega arith } in
      rw (joined-first w (run T tokens budget (paused none) room 0 (at_rest w)))
      at (both answers short w g budget room 0 0 (at_rest w) (at_rest w) (none_yet w) (drop w.io.used answers) here refl refl)
  agree-in answers short w waiting g h = absurd (h refl)
  agree-in answers short w (stopped r) g h =
      same (fed-rests (drop w.io.used answers) (keeps (reason_number r) w) (λ p. waiting-stopped p g))
      (λ z. g ∙ ap stopped (unanswered-34 r z))

  -- "Fed the same answers .., the two agree": of any walk that does not wait, by any table, whatever the budget and the room; the answers
  -- are one slice, which has fewer than 2^64 of them
  pub whole-paused : (answers : List ℕ) → length answers < 2 ^ 64 → (w : Walk) → (w.phase ≡ waiting → ⊥)
      → Agree T tokens answers w (call_walk T tokens (whole answers) budget room w) (in_aRow T tokens budget room (drop w.io.used answers) w)
  unfolding call_walk in_aRow
  whole-paused answers short w h = agree-in answers short w w.phase refl h
