-- A walk on a taken table stands at reachable locations, and so do its return locations: no step leads out, and every operation in the events
-- stands at a reachable location.
use mathlib.Core.Bool.{Bool, true, false, not}
use mathlib.Core.List.{List, [], ◌∷◌, ◌++◌}
use mathlib.Core.Option.{Option, none, some}
use mathlib.Core.Path.{◌≡◌, refl, sym, ap, ◌∙◌}
use Prim.Native.Nat.{ℕ, zero, suc, ◌+◌, ◌*◌, ◌-◌}
use native.Mathlib.Omega.{arith}
use lib.Dec.{eqb, leb, ltb}
use lib.ListN.{length, drop}
use Rattle.base.specs.Bools.{never}
use Rattle.std.specs.Prelude.{if◌then◌else◌}
use Rattle.base.specs.Common.{member, given}
use Rattle.events.specs.Events
use Rattle.events.specs.Events.{Event, output, signal, repair, operation, operation_with, Reason, finished, differs, missing, unlabelled, deep, unanswered, outside, reason_number, present, took, wrote, answer, mends, spent, is}
use Rattle.machine.proofs.Decoded as decoded
use Rattle.machine.specs.Call.{Mode, whole, paused, Called, ends, ends_for, writing, Turn, over, further, takes, hands_out, turn, keeps, run, call_in, call_walk}
use Rattle.machine.specs.Decode.{fetch, Instruction, invalid, jump, input, input_any, write, input_choice, call_rule, return, set_result, choice, end_choice, set_parameter, update, update_with, choose, choose_with, decode}
use Rattle.machine.specs.Step.{Next, goes_outside, stops, goes, tells, asks, go_to, seek, seek_by, landed, branched, input_choosing, calling, returning, requiring, exec, step}
use Rattle.machine.specs.Walk
use Rattle.machine.specs.Walk.{Phase, going, waiting, stopped, Walk, fresh, moved, with_returns, with_io, in_phase, with_answer, at_rest}
use Rattle.loading.specs.Reach.{fits, bad, gives37, Reachable, at_start, Taken}
use Rattle.loading.specs.Taking.{back_from, labelled, chosen, onward, ways}
use Rattle.rights.specs.Rights.{operation_of}
use Rattle.loading.proofs.Members.{member-head, member-here, member-tail, member-left, member_right}
use Rattle.loading.proofs.Exact.{good-there}
use Rattle.loading.proofs.Ways.{way}
use Rattle.agreement.specs.Demand.{Listed, begin, then_call}

-- What an instruction writes of itself is no operation

unfoldable Plain : Event → Bool
Plain (output t) = true
Plain (signal n) = true
Plain (repair t) = true
Plain (operation op) = false
Plain (operation_with op v) = false

unfoldable Writes : Instruction → Bool
Writes invalid = true
Writes (jump l) = true
Writes (input t) = true
Writes input_any = true
Writes (write e) = Plain e
Writes (input_choice c) = true
Writes (call_rule l) = true
Writes return = true
Writes (set_result v) = true
Writes (choice c) = true
Writes end_choice = true
Writes (set_parameter v) = true
Writes (update op) = true
Writes (update_with op) = true
Writes (choose op) = true
Writes (choose_with op) = true

writes : (T : List ℕ) (l : ℕ) → Writes (decode T l) ≡ true
unfolding Writes Plain
writes T l = decoded.of-decode is T l refl
    (λ i _. decoded.of_one is i (λ _. refl) (λ _. refl) (λ _. refl) (decoded.of-operation is i (λ _. refl) (λ _. refl) (λ _. refl) (λ _. refl)))
    (λ i x _ _. decoded.of_two is l i x (λ _ _. refl) (λ _ _. refl) (λ _. refl) (λ _. refl) (λ _. refl) (λ _ _ _. refl) (λ _. refl) (λ _. refl) (λ _ _ _. refl) refl)
  where
    is : Instruction → Type 0
    is i = Writes i ≡ true

-- Where an event comes from: an operation's stands at a reachable location

pub data Source (T : List ℕ) : Event → Type 0 where
  of_output : {t : ℕ} → Source T (output t)
  of-signal : {n : ℕ} → Source T (signal n)
  of-repair : {t : ℕ} → Source T (repair t)
  of-operation : {l op : ℕ} → Reachable T l → operation_of (decode T l) ≡ some op → Source T (operation op)
  of-operation_with : {l op v : ℕ} → Reachable T l → operation_of (decode T l) ≡ some op → Source T (operation_with op v)

pub data Sources (T : List ℕ) : List Event → Type 0 where
  no-events : Sources T []
  and-event : {e : Event} {es : List Event} → Source T e → Sources T es → Sources T (e ∷ es)

pub sources-append : {T : List ℕ} {a b : List Event} → Sources T a → Sources T b → Sources T (a ++ b)
sources-append no-events h = h
sources-append (and-event s r) h = and-event s (sources-append r h)

plain-source : (T : List ℕ) (e : Event) → Plain e ≡ true → Source T e
unfolding Plain
plain-source T (output t) h = of_output
plain-source T (signal n) h = of-signal
plain-source T (repair t) h = of-repair
plain-source T (operation op) h = never h
plain-source T (operation_with op v) h = never h

-- return locations that are reachable
pub data Back (T : List ℕ) : List ℕ → Type 0 where
  back-nil : Back T []
  back-cons : {l : ℕ} {rs : List ℕ} → Reachable T l → Back T rs → Back T (l ∷ rs)

back-drop : {T : List ℕ} (n : ℕ) {rs : List ℕ} → Back T rs → Back T (drop n rs)
back-drop zero h = h
back-drop (suc n) back-nil = back-nil
back-drop (suc n) (back-cons r h) = back-drop n h

pub record Stands (T : List ℕ) (w : Walk) : Type 0 where
  pub at : Reachable T w.location
  pub back : Back T w.returns
  pub events : Sources T w.io.events
  pub live : w.phase ≡ stopped outside → ⊥

module _ (T tokens : List ℕ) (good : Taken T) where
  -- what a step may give
  unfoldable pub Fine : Next → Type 0
  Fine goes_outside = ⊥
  Fine (stops r) = r ≡ outside → ⊥
  Fine (goes v) = Stands T v
  Fine (tells e v) = Stands T v × Source T e
  Fine (asks e v) = Stands T v × Source T e

  there : {l : ℕ} → Reachable T l → given (fetch T l) ≡ true
  there {l} r = good-there T l (good l r)

  go_to-fine : (l : ℕ) (w : Walk) → Reachable T l → Stands T w → Fine (go_to T tokens l w)
  unfolding go_to Fine moved
  go_to-fine l w r s = rw (there r) (record { at = r; back = s.back; events = s.events; live = s.live })

  if-fine : (b : Bool) (x y : Next) → Fine x → Fine y → Fine (if b then x else y)
  if-fine true x y p q = p
  if-fine false x y p q = q

  seek-labelled : (v n l p : ℕ) → seek T tokens v n l ≡ some p → member (back_from T p) (labelled T n l) ≡ true
  unfolding seek labelled
  seek-labelled v zero l p e = let z : ◌≡◌ {A = ℕ} 0 1 = cc in absurd (omega arith)
  seek-labelled v (suc n) l p e = go (is v (fetch T l)) e (seek-labelled v n (l + 2) p)
    where
      go : (t : Bool) → (if t then some (l + 1) else seek T tokens v n (l + 2)) ≡ some p
          → (seek T tokens v n (l + 2) ≡ some p → member (back_from T p) (labelled T n (l + 2)) ≡ true)
          → member (back_from T p) (back_from T (l + 1) ∷ labelled T n (l + 2)) ≡ true
      go true d i = let q : l + 1 ≡ p = cc in member-here (back_from T p) (back_from T (l + 1)) (labelled T n (l + 2)) (ap (back_from T) (sym q))
      go false d i = member-tail (back_from T p) (back_from T (l + 1)) (labelled T n (l + 2)) (i d)

  seek_by-labelled : (o : Option ℕ) (n l p : ℕ) → seek_by T tokens o n l ≡ some p → member (back_from T p) (labelled T n l) ≡ true
  unfolding seek_by
  seek_by-labelled none n l p e = let z : ◌≡◌ {A = ℕ} 0 1 = cc in absurd (omega arith)
  seek_by-labelled (some v) n l p e = seek-labelled v n l p e

  landed-fine : (o : Option ℕ) (d : ℕ) (taken w : Walk) → Stands T taken → Stands T w → Reachable T d
      → ((p : ℕ) → o ≡ some p → Reachable T (back_from T p)) → Fine (landed T tokens o d taken w)
  unfolding landed back_from fetch
  landed-fine none d taken w st sw r f = go_to-fine d w r sw
  landed-fine (some p) d taken w st sw r f = go (fetch T p) refl (f p refl)
    where
      go : (o : Option ℕ) → fetch T p ≡ o → Reachable T (back_from T p) → Fine (elim o [ none ↦ goes_outside | some x ↦ go_to T tokens (p - x) taken ])
      go none e b = let b₀ : Reachable T 0 = rw (e, back_from) at b in never (there b₀)
      go (some x) e b = go_to-fine (p - x) taken (rw (e, back_from) at b) st

  branched-fine : (o v : Option ℕ) (c : ℕ) (taken w : Walk) → Stands T taken → Stands T w → not (fits T c o) ≡ false
      → ((m : ℕ) → member m (chosen T c o) ≡ true → Reachable T m) → Fine (branched T tokens o v c taken w)
  unfolding branched fits chosen
  branched-fine none v c taken w st sw b f = never (sym b)
  branched-fine (some n) v c taken w st sw b f = go (leb (c + 2 * n) (length T)) b f
    where
      d : ℕ
      d = c + 1 + 2 * n

      go : (t : Bool) → not t ≡ false → ((m : ℕ) → member m (if t then labelled T n (c + 1) ++ ((c + 1 + 2 * n) ∷ []) else []) ≡ true → Reachable T m)
          → Fine (if t then landed T tokens (seek_by T tokens v n (c + 1)) (c + 1 + 2 * n) taken w else goes_outside)
      go false z g = never (sym z)
      go true z g =
          landed-fine (seek_by T tokens v n (c + 1)) (c + 1 + 2 * n) taken w st sw
          (g (c + 1 + 2 * n) (member_right (c + 1 + 2 * n) (labelled T n (c + 1)) ((c + 1 + 2 * n) ∷ []) (member-head (c + 1 + 2 * n) [])))
          (λ p e. g (back_from T p) (member-left (back_from T p) (labelled T n (c + 1)) ((c + 1 + 2 * n) ∷ []) (seek_by-labelled v n (c + 1) p e)))

  no-reason : {r : Reason} → eqb (reason_number r) 37 ≡ false → r ≡ outside → ⊥
  unfolding reason_number
  no-reason {r} e q = never (sym (rw q at e))

  exec-fine : (i : Instruction) (w : Walk) → Stands T w → bad T i ≡ false → Writes i ≡ true
      → ((m : ℕ) → member m (onward T w.location i) ≡ true → Reachable T m)
      → ((op : ℕ) → operation_of i ≡ some op → operation_of (decode T w.location) ≡ some op) → Fine (exec T tokens i w)
  unfolding exec Fine bad Writes onward operation_of reason_number calling returning requiring input_choosing Walk.opened Events.opened
  exec-fine invalid w s b wr f o = never (sym b)
  exec-fine (jump l) w s b wr f o = go_to-fine l w (f l (member-head l [])) s
  exec-fine (input t) w s b wr f o = go (is t (present tokens w.io)) (mends w.io)
    where
      here : Reachable T (w.location + 2)
      here = f (w.location + 2) (member-head (w.location + 2) [])

      go : (a m : Bool) → Fine (if a then goes (moved (w.location + 2) (with_io (took w.io) w)) else if m then tells (repair t) (moved (w.location + 2) (with_io (spent w.io) w)) else stops differs)
      go true m = record { at = here; back = s.back; events = s.events; live = s.live }
      go false true = (record { at = here; back = s.back; events = s.events; live = s.live }, of-repair)
      go false false = no-reason refl
  exec-fine input_any w s b wr f o =
      if-fine (given (present tokens w.io)) _ (stops missing)
      (record { at = f (w.location + 1) (member-head (w.location + 1) []); back = s.back; events = s.events; live = s.live }) (no-reason refl)
  exec-fine (write e) w s b wr f o = (record { at = f (w.location + 2) (member-head (w.location + 2) []); back = s.back; events = s.events; live = s.live }, plain-source T e wr)
  exec-fine (input_choice c) w s b wr f o = go (present tokens w.io)
    where
      go : (t : Option ℕ) → Fine (input_choosing T tokens t c w)
      go none = branched-fine (fetch T c) none c w w s s b f
      go (some t) =
          branched-fine (fetch T c) (some t) c _ _ (record { at = s.at; back = s.back; events = s.events; live = s.live })
          (record { at = s.at; back = s.back; events = s.events; live = s.live }) b f
  exec-fine (call_rule l) w s b wr f o =
      let r : Reachable T l = f l (member-head l ((w.location + 2) ∷ [])) in
      let a : Reachable T (w.location + 2) = f (w.location + 2) (member-tail (w.location + 2) l ((w.location + 2) ∷ []) (member-head (w.location + 2) [])) in
      let g = there r in
      rw g
      (if-fine (ltb (length w.returns) 64) (goes (moved l (with_returns ((w.location + 2) ∷ w.returns) w))) (stops deep)
      (record { at = r; back = back-cons a s.back; events = s.events; live = s.live }) (no-reason refl))
  exec-fine return w s b wr f o = go w.returns s.back
    where
      go : (rs : List ℕ) → Back T rs → Fine (returning T tokens rs w)
      go [] h = no-reason refl
      go (l ∷ rs) (back-cons r h) = go_to-fine l (with_returns rs w) r (record { at = s.at; back = h; events = s.events; live = s.live })
  exec-fine (set_result v) w s b wr f o = record { at = f (w.location + 2) (member-head (w.location + 2) []); back = s.back; events = s.events; live = s.live }
  exec-fine (choice c) w s b wr f o = branched-fine (fetch T c) (some w.result) c w w s s b f
  exec-fine end_choice w s b wr f o = no-reason refl
  exec-fine (set_parameter v) w s b wr f o = record { at = f (w.location + 2) (member-head (w.location + 2) []); back = s.back; events = s.events; live = s.live }
  exec-fine (update op) w s b wr f o = (record { at = f (w.location + 1) (member-head (w.location + 1) []); back = s.back; events = s.events; live = s.live }, of-operation s.at (o op refl))
  exec-fine (update_with op) w s b wr f o = (record { at = f (w.location + 1) (member-head (w.location + 1) []); back = s.back; events = s.events; live = s.live }, of-operation_with s.at (o op refl))
  exec-fine (choose op) w s b wr f o = (record { at = f (w.location + 1) (member-head (w.location + 1) []); back = s.back; events = s.events; live = s.live }, of-operation s.at (o op refl))
  exec-fine (choose_with op) w s b wr f o = (record { at = f (w.location + 1) (member-head (w.location + 1) []); back = s.back; events = s.events; live = s.live }, of-operation_with s.at (o op refl))

  pub step-fine : (w : Walk) → Stands T w → Fine (step T tokens w)
  unfolding step gives37 ways
  step-fine w s =
      exec-fine (decode T w.location) w s (good w.location s.at) (writes T w.location) (λ m h. way T s.at h) (λ op e. e)

  -- Calls

  pub record Right (c : Called) : Type 0 where
    pub number : c.number ≡ 37 → ⊥
    pub walk : Stands T c.walk
    pub events : Sources T c.events

  unfoldable pub Turned : Turn → Type 0
  Turned (over c) = Right c
  Turned (further room v) = Stands T v

  pub rests : {w : Walk} → Stands T w → Stands T (at_rest w)
  unfolding Walk.opened
  rests {w} s = record { at = s.at; back = back-drop (length w.returns - 64) s.back; events = no-events; live = s.live }

  written : {e : Event} {v : Walk} → Stands T v → Source T e → Stands T (writing e v)
  unfolding writing Walk.opened Events.opened
  written s x = record { at = s.at; back = s.back; events = sources-append s.events (and-event x no-events); live = s.live }

  not-outside : {p : Phase} → going ≡ p → p ≡ stopped outside → ⊥
  not-outside e q = let z : ◌≡◌ {A = ℕ} 0 1 = cc in omega arith

  pub takes-answer : {v : Walk} (x : ℕ) → Stands T v → Stands T (with_answer x v)
  unfolding Walk.opened Events.opened
  takes-answer x s = record { at = s.at; back = s.back; events = s.events; live = not-outside refl }

  ends-right : (number n : ℕ) (w : Walk) → (number ≡ 37 → ⊥) → Stands T w → Right (ends number n w)
  unfolding ends
  ends-right number n w z s = record { number = z; walk = rests s; events = s.events }

  reason-37 : (r : Reason) → (r ≡ outside → ⊥) → reason_number r ≡ 37 → ⊥
  unfolding reason_number
  reason-37 finished z e = omega arith
  reason-37 differs z e = omega arith
  reason-37 missing z e = omega arith
  reason-37 unlabelled z e = omega arith
  reason-37 deep z e = omega arith
  reason-37 unanswered z e = omega arith
  reason-37 outside z e = z refl

  stopped-is : {r q : Reason} → stopped r ≡ stopped q → r ≡ q
  stopped-is e = cc

  ends_for-right : (r : Reason) (n : ℕ) (w : Walk) → (r ≡ outside → ⊥) → Stands T w → Right (ends_for r n w)
  unfolding ends_for Walk.opened
  ends_for-right r n w z s =
      ends-right (reason_number r) n (in_phase (stopped r) w) (reason-37 r z)
      (record { at = s.at; back = s.back; events = s.events; live = λ e. z (stopped-is e) })

  waits-right : (n : ℕ) (w : Walk) → Stands T w → Right (ends 22 n (in_phase waiting w))
  unfolding Walk.opened
  waits-right n w s =
      ends-right 22 n (in_phase waiting w) (λ e. omega arith)
      (record { at = s.at; back = s.back; events = s.events; live = λ e. let z : ◌≡◌ {A = ℕ} 0 1 = cc in omega arith })

  pub turn-right : (m : Mode) (room n : ℕ) (w : Walk) (x : Next) → Stands T w → Fine x → Turned (turn m room n w x)
  unfolding turn Turned Fine hands_out takes
  turn-right m room n w goes_outside s f = absurd f
  turn-right m room n w (stops r) s f = ends_for-right r (n + 1) w f s
  turn-right m room n w (goes v) s f = f
  turn-right m room n w (tells e v) s f = go (ltb room 3)
    where
      go : (t : Bool) → Turned (if t then over (ends 35 n w) else further (room - 3) (writing e v))
      go true = ends-right 35 n w (λ q. omega arith) s
      go false = written f.0 f.1
  turn-right m room n w (asks e v) s f = go (ltb room 3) m
    where
      some-answer : (o : Option ℕ) → Turned (takes o room n w e v)
      some-answer none = ends_for-right unanswered (n + 1) w (λ q. let z : ◌≡◌ {A = ℕ} 0 1 = cc in omega arith) s
      some-answer (some x) = takes-answer x (written f.0 f.1)

      hands : (k : Mode) → Turned (hands_out k room n w e v)
      hands (whole answers) = some-answer (answer answers w.io)
      hands (paused x) = waits-right (n + 1) (writing e v) (written f.0 f.1)

      go : (t : Bool) (k : Mode) → Turned (if t then over (ends 35 n w) else hands_out k room n w e v)
      go true k = ends-right 35 n w (λ q. omega arith) s
      go false k = hands k

  run-right : (b : ℕ) (m : Mode) (room n : ℕ) (w : Walk) → Stands T w → Right (run T tokens b m room n w)
  unfolding run Turned
  run-right zero m room n w s = ends-right 36 n w (λ e. omega arith) s
  run-right (suc b) m room n w s = go (turn m room n w (step T tokens w)) (turn-right m room n w (step T tokens w) s (step-fine w s)) (λ left v. run-right b m left (n + 1) v)
    where
      go : (t : Turn) → Turned t → ((left : ℕ) (v : Walk) → Stands T v → Right (run T tokens b m left (n + 1) v))
          → Right (elim t [ over c ↦ c | further left v ↦ run T tokens b m left (n + 1) v ])
      go (over c) h i = h
      go (further left v) h i = i left v h

  refused-right : (w : Walk) → Stands T w → Right (keeps 21 w)
  refused-right w s = record { number = λ e. omega arith; walk = s; events = no-events }

  stopped-right : (r : Reason) (w : Walk) → w.phase ≡ stopped r → Stands T w → Right (keeps (reason_number r) w)
  stopped-right r w e s = record { number = reason-37 r (λ q. s.live (e ∙ ap stopped q)); walk = s; events = no-events }

  call_in-right : (p : Phase) (m : Mode) (budget room : ℕ) (w : Walk) → w.phase ≡ p → Stands T w → Right (call_in T tokens p m budget room w)
  unfolding call_in
  call_in-right going (whole answers) budget room w e s = run-right budget (whole answers) room 0 (at_rest w) (rests s)
  call_in-right going (paused none) budget room w e s = run-right budget (paused none) room 0 (at_rest w) (rests s)
  call_in-right going (paused (some x)) budget room w e s = refused-right w s
  call_in-right waiting (whole answers) budget room w e s = refused-right w s
  call_in-right waiting (paused none) budget room w e s = refused-right w s
  call_in-right waiting (paused (some x)) budget room w e s = run-right budget (paused none) room 0 (with_answer x (at_rest w)) (takes-answer x (rests s))
  call_in-right (stopped r) (whole answers) budget room w e s = stopped-right r w e s
  call_in-right (stopped r) (paused none) budget room w e s = stopped-right r w e s
  call_in-right (stopped r) (paused (some x)) budget room w e s = refused-right w s

  -- Lists of calls

  -- the last number answered
  unfoldable pub Last : List ℕ → Type 0
  Last [] = Unit {0}
  Last (number ∷ ns) = number ≡ 37 → ⊥

  pub record Led (w : Walk) (es : List Event) (ns : List ℕ) : Type 0 where
    pub walk : Stands T w
    pub events : Sources T es
    pub number : Last ns

  fresh-stands : (allowance : ℕ) → Stands T (fresh allowance)
  unfolding fresh
  fresh-stands allowance = record { at = at_start; back = back-nil; events = no-events; live = not-outside refl }

  pub led : {answers : List ℕ} (allowance : ℕ) {w : Walk} {es : List Event} {n : ℕ} {ns : List ℕ} → Listed T tokens answers allowance w es n ns → Led w es ns
  unfolding Last call_walk
  led allowance begin = record { walk = fresh-stands allowance; events = no-events; number = tt }
  led allowance (then_call {w = w} {es = es} l m budget room a) =
      let h = led allowance l in
      let r = call_in-right w.phase m budget room w refl h.walk in
      record { walk = r.walk; events = sources-append h.events r.events; number = r.number }

  pub last-37 : {number : ℕ} {ns : List ℕ} {w : Walk} {es : List Event} → Led w es (number ∷ ns) → number ≡ 37 → ⊥
  unfolding Last
  last-37 h = h.number
