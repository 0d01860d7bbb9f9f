-- What a call gives back fits the byte form; a call writes no more events than there is room for, and does no more steps than its budget.
use mathlib.Core.Path.{◌≡◌, refl, ap}
use Rattle.machine.specs.Small.{Small, SmallMode}
use mathlib.Core.Bool.{Bool, true, false}
use mathlib.Core.List.{List, [], ◌∷◌, ◌++◌}
use mathlib.Core.Option.{Option, none, some}
use Prim.Native.Nat.{ℕ, zero, suc, ◌+◌, ◌*◌, ◌-◌, ◌<◌, ◌≤◌}
use native.Mathlib.Omega.{arith}
use lib.Dec.{leb, ltb}
use lib.ListN.{length, get_or, get_elem?, length-append, length-drop}
use borrow.Author.Tests.{ltb-true, ltb-false}
use Rattle.std.specs.Prelude.{if◌then◌else◌}
use Rattle.base.specs.Common.{given}
use Rattle.base.specs.Bools.{never}
use Rattle.events.specs.Events.{Event, repair, Reason, differs, deep, reason_number, unanswered, outside, Io, present, answer, took, wrote, answered, mends, spent, is}
use Rattle.machine.specs.Decode.{fetch, Instruction, invalid, jump, input, input_any, write, input_choice, call_rule, return, set_result, choice, end_choice, set_parameter, update, update_with, choose, choose_with, decode_two, decode_one, decode}
use Rattle.machine.specs.Walk.{Phase, going, waiting, stopped, Walk, fresh, moved, with_returns, with_result, with_parameter, with_io, in_phase, with_answer, first64, at_rest}
use Rattle.machine.specs.Step.{Next, goes_outside, stops, goes, tells, asks, go_to, seek_by, landed, branched, input_choosing, calling, returning, requiring, exec, step}
use Rattle.machine.specs.Call.{Mode, whole, paused, Called, waits, ends, ends_for, writing, Turn, over, further, takes, hands_out, turn, run, call_in, call_walk}
use Rattle.machine.specs.Form.{Fits}
use Rattle.machine.proofs.Decoded.{of-operation, of_one, of_two, of-decode}
use Rattle.machine.proofs.Words.{small-drop, small-cons}

-- Lists

-- the value, if there is one, is a word
abbrev Word : Option ℕ → Type 0
Word none = Unit {0}
Word (some x) = x < 65536

word-at : (l : List ℕ) (i : ℕ) → Small l → Word (get_elem? l i)
word-at [] i b = tt
word-at (x ∷ l) zero b = b 0
word-at (x ∷ l) (suc i) b = word-at l i (λ k. b (suc k))

below : (l : List ℕ) (i : ℕ) → given (get_elem? l i) ≡ true → i < length l
below [] i e = never e
below (x ∷ l) zero e = omega arith
below (x ∷ l) (suc i) e = let ih = below l i e in omega arith

-- a bound on the elements is one on all places
small-within : (l : List ℕ) → ((i : ℕ) → i < length l → get_or l i 0 < 65536) → Small l
small-within [] b i = omega arith
small-within (x ∷ l) b zero = b 0 (omega arith)
small-within (x ∷ l) b (suc i) = small-within l (λ k h. b (suc k) (omega arith)) i

-- both outcomes of a test

either : {A : Type 0} (P : A → Type 0) (b : Bool) (x y : A) → P x → P y → P (if b then x else y)
either P true x y h k = h
either P false x y h k = k

tested : {A : Type 0} (P : A → Type 0) (b : Bool) (x y : A) → (b ≡ true → P x) → (b ≡ false → P y) → P (if b then x else y)
tested P true x y h k = h refl
tested P false x y h k = k refl

is-given : (t : ℕ) (o : Option ℕ) → is t o ≡ true → given o ≡ true
unfolding is
is-given t none e = e
is-given t (some u) e = refl

-- A walk within a call: it fits but for the events

record Runs (w : Walk) : Type 0 where
  location : w.location < 65536
  result : w.result < 65536
  parameter : w.parameter < 65536
  depth : length w.returns ≤ 64
  returns : Small w.returns
  read : w.io.read < 18446744073709551616
  used : w.io.used < 18446744073709551616
  allowance : w.io.allowance < 65536

runs-fits : (w : Walk) → Fits w → Runs w
runs-fits w f = record {
  location = f.location;
  result = f.result;
  parameter = f.parameter;
  depth = f.depth;
  returns = small-within w.returns f.returns;
  read = f.read;
  used = f.used;
  allowance = f.allowance;
}

runs_moved : (l : ℕ) (w : Walk) → l < 65536 → Runs w → Runs (moved l w)
unfolding moved
runs_moved l w h r = record {
  location = h;
  result = r.result;
  parameter = r.parameter;
  depth = r.depth;
  returns = r.returns;
  read = r.read;
  used = r.used;
  allowance = r.allowance;
}

runs-returns : (rs : List ℕ) (w : Walk) → length rs ≤ 64 → Small rs → Runs w → Runs (with_returns rs w)
unfolding with_returns
runs-returns rs w d b r = record {
  location = r.location;
  result = r.result;
  parameter = r.parameter;
  depth = d;
  returns = b;
  read = r.read;
  used = r.used;
  allowance = r.allowance;
}

runs-result : (v : ℕ) (w : Walk) → v < 65536 → Runs w → Runs (with_result v w)
unfolding with_result
runs-result v w h r = record {
  location = r.location;
  result = h;
  parameter = r.parameter;
  depth = r.depth;
  returns = r.returns;
  read = r.read;
  used = r.used;
  allowance = r.allowance;
}

runs-parameter : (v : ℕ) (w : Walk) → v < 65536 → Runs w → Runs (with_parameter v w)
unfolding with_parameter
runs-parameter v w h r = record {
  location = r.location;
  result = r.result;
  parameter = h;
  depth = r.depth;
  returns = r.returns;
  read = r.read;
  used = r.used;
  allowance = r.allowance;
}

runs-io : (io : Io) (w : Walk) → io.read < 18446744073709551616 → io.used < 18446744073709551616 → io.allowance < 65536 → Runs w → Runs (with_io io w)
unfolding with_io
runs-io io w h k a r = record {
  location = r.location;
  result = r.result;
  parameter = r.parameter;
  depth = r.depth;
  returns = r.returns;
  read = h;
  used = k;
  allowance = a;
}

runs-phase : (p : Phase) (w : Walk) → Runs w → Runs (in_phase p w)
unfolding in_phase
runs-phase p w r = record {
  location = r.location;
  result = r.result;
  parameter = r.parameter;
  depth = r.depth;
  returns = r.returns;
  read = r.read;
  used = r.used;
  allowance = r.allowance;
}

runs-writing : (e : Event) (w : Walk) → Runs w → Runs (writing e w)
unfolding writing wrote
runs-writing e w r = runs-io (wrote e w.io) w r.read r.used r.allowance r

-- "answers used, 64 bits wide, stops at its greatest"
runs-answer : (x : ℕ) (w : Walk) → x < 65536 → Runs w → Runs (with_answer x w)
unfolding with_answer answered
runs-answer x w h r =
    runs-phase going (with_result x (with_io (answered w.io) w))
    (runs-result x (with_io (answered w.io) w) h (runs-io (answered w.io) w r.read (omega arith) r.allowance r))

-- a walk that runs fits at rest
fits-rest : (w : Walk) → Runs w → Fits (at_rest w)
unfolding at_rest with_returns with_io first64
fits-rest w r = record {
  location = r.location;
  result = r.result;
  parameter = r.parameter;
  depth = let e = length-drop (length w.returns - 64) w.returns in omega arith;
  returns = λ i h. small-drop (length w.returns - 64) w.returns r.returns i;
  read = r.read;
  used = r.used;
  allowance = r.allowance;
  events = refl;
}

-- What an instruction makes of a walk

-- the walk that goes on, if it does, has the property
abbrev Each : (Walk → Type 0) → Next → Type 0
Each P goes_outside = Unit {0}
Each P (stops r) = Unit {0}
Each P (goes v) = P v
Each P (tells e v) = P v
Each P (asks e v) = P v

-- an instruction that stands at a location of the table, its values words
abbrev Stands : ℕ → Instruction → Type 0
Stands l invalid = Unit {0}
Stands l (jump t) = l ≤ 4096
Stands l (input t) = l ≤ 4096
Stands l input_any = l ≤ 4096
Stands l (write e) = l ≤ 4096
Stands l (input_choice c) = l ≤ 4096
Stands l (call_rule t) = l ≤ 4096
Stands l return = l ≤ 4096
Stands l (set_result v) = (l ≤ 4096) × (v < 65536)
Stands l (choice c) = l ≤ 4096
Stands l end_choice = l ≤ 4096
Stands l (set_parameter v) = (l ≤ 4096) × (v < 65536)
Stands l (update op) = l ≤ 4096
Stands l (update_with op) = l ≤ 4096
Stands l (choose op) = l ≤ 4096
Stands l (choose_with op) = l ≤ 4096

stands_one : (l i : ℕ) → l ≤ 4096 → Stands l (decode_one i)
stands_one l i h = of_one (Stands l) i (λ _. h) (λ _. h) (λ _. h) (of-operation (Stands l) i (λ _. h) (λ _. h) (λ _. h) (λ _. h))

stands-two : (l i x : ℕ) → l ≤ 4096 → x < 65536 → Stands l (decode_two l i x)
stands-two l i x h b = of_two (Stands l) l i x (λ _ _. h) (λ _ _. h) (λ _. h) (λ _. h) (λ _. h) (λ _ _ _. h) (λ _. h) (λ _. (h, b)) (λ _ _ _. h) (h, b)

module _ (T tokens : List ℕ) (small_t : Small T) (small_tokens : Small tokens) (long_t : length T ≤ 4096) (long_tokens : length tokens < 18446744073709551616) where
  fetch-word : (l : ℕ) → Word (fetch T l)
  unfolding fetch
  fetch-word zero = tt
  fetch-word (suc i) = word-at T i small_t

  fetch-below : (l : ℕ) → given (fetch T l) ≡ true → l ≤ 4096
  unfolding fetch
  fetch-below zero e = never e
  fetch-below (suc i) e = let h = below T i e in omega arith

  stands : (l : ℕ) → Stands l (decode T l)
  stands l =
      of-decode (Stands l) T l tt (λ i e. stands_one l i (fetch-below l (rw e refl)))
      (λ i x e f. stands-two l i x (fetch-below l (rw e refl)) (let h = fetch-word (suc l) in rw f at h))

  runs-took : (w : Walk) → given (present tokens w.io) ≡ true → Runs w → Runs (with_io (took w.io) w)
  unfolding took present
  runs-took w e r = let h = below tokens w.io.read e in runs-io (took w.io) w (omega arith) r.used r.allowance r

  on-go_to : (l : ℕ) (w : Walk) → Runs w → Each Runs (go_to T tokens l w)
  unfolding go_to
  on-go_to l w r =
      tested (Each Runs) (given (fetch T l)) (goes (moved l w)) goes_outside
      (λ t. let h = fetch-below l t in runs_moved l w (omega arith) r)
      (λ f. tt)

  on-landed : (o : Option ℕ) (d : ℕ) (taken w : Walk) → Runs taken → Runs w → Each Runs (landed T tokens o d taken w)
  unfolding landed
  on-landed none d taken w a r = on-go_to d w r
  on-landed (some l) d taken w a r = go (fetch T l)
    where
      go : (o : Option ℕ) → Each Runs (elim o as (λ _. Next) [ none ↦ goes_outside | some x ↦ go_to T tokens (l - x) taken ])
      go none = tt
      go (some x) = on-go_to (l - x) taken a

  on-branched : (o v : Option ℕ) (c : ℕ) (taken w : Walk) → Runs taken → Runs w → Each Runs (branched T tokens o v c taken w)
  unfolding branched
  on-branched none v c taken w a r = tt
  on-branched (some n) v c taken w a r =
      either (Each Runs) (leb (c + 2 * n) (length T)) _ _ (on-landed (seek_by T tokens v n (c + 1)) (c + 1 + 2 * n) taken w a r) tt

  on-input_choosing : (o : Option ℕ) (c : ℕ) (w : Walk) → Word o → (given o ≡ true → w.io.read < length tokens) → Runs w → Each Runs (input_choosing T tokens o c w)
  unfolding input_choosing took
  on-input_choosing none c w b h r = on-branched (fetch T c) none c w w r r
  on-input_choosing (some t) c w b h r =
      let q = h refl in
      let s = runs-result t w b r in
      on-branched (fetch T c) (some t) c (with_io (took w.io) (with_result t w)) (with_result t w)
      (runs-io (took w.io) (with_result t w) (omega arith) r.used r.allowance s) s

  on-calling : (l : ℕ) (w : Walk) → w.location ≤ 4096 → Runs w → Each Runs (calling T tokens l w)
  unfolding calling
  on-calling l w n r =
      tested (Each Runs) (given (fetch T l)) _ goes_outside
      (λ t. tested (Each Runs) (ltb (length w.returns) 64) (goes (moved l (with_returns ((w.location + 2) ∷ w.returns) w))) (stops deep)
      (λ u. let h = fetch-below l t in
      let k = ltb-true (length w.returns) 64 u in
      runs_moved l (with_returns ((w.location + 2) ∷ w.returns) w) (omega arith)
      (runs-returns ((w.location + 2) ∷ w.returns) w (omega arith) (small-cons (w.location + 2) w.returns (omega arith) r.returns) r))
      (λ f. tt))
      (λ f. tt)

  on-returning : (rs : List ℕ) (w : Walk) → length rs ≤ 64 → Small rs → Runs w → Each Runs (returning T tokens rs w)
  unfolding returning
  on-returning [] w d b r = tt
  on-returning (l ∷ rs) w d b r = on-go_to l (with_returns rs w) (runs-returns rs w (omega arith) (λ i. b (suc i)) r)

  -- on behind an instruction
  further-on : (k : ℕ) (w v : Walk) → k ≤ 2 → w.location ≤ 4096 → Runs v → Runs (moved (w.location + k) v)
  further-on k w v h n r = runs_moved (w.location + k) v (omega arith) r

  -- a required token, with the outcome of its test
  on-requiring : (t : ℕ) (b : Bool) (w : Walk) → (b ≡ true → given (present tokens w.io) ≡ true) → w.location ≤ 4096 → Runs w → Each Runs (requiring T tokens t b w)
  unfolding requiring spent
  on-requiring t true w h s r = further-on 2 w (with_io (took w.io) w) (omega arith) s (runs-took w (h refl) r)
  on-requiring t false w h s r =
      either (Each Runs) (mends w.io) (tells (repair t) (moved (w.location + 2) (with_io (spent w.io) w))) (stops differs)
      (further-on 2 w (with_io (spent w.io) w) (omega arith) s (runs-io (spent w.io) w r.read r.used (omega (arith, r.allowance)) r)) tt

  on-exec : (i : Instruction) (w : Walk) → Stands w.location i → Runs w → Each Runs (exec T tokens i w)
  unfolding exec
  on-exec invalid w s r = tt
  on-exec (jump l) w s r = on-go_to l w r
  on-exec (input t) w s r = on-requiring t (is t (present tokens w.io)) w (is-given t (present tokens w.io)) s r
  on-exec input_any w s r =
      tested (Each Runs) (given (present tokens w.io)) (goes (moved (w.location + 1) (with_io (took w.io) w))) _
      (λ e. further-on 1 w (with_io (took w.io) w) (omega arith) s (runs-took w e r))
      (λ f. tt)
  on-exec (write e) w s r = further-on 2 w w (omega arith) s r
  on-exec (input_choice c) w s r =
      on-input_choosing (present tokens w.io) c w
      (unfold present in word-at tokens w.io.read small_tokens)
      (unfold present in below tokens w.io.read) r
  on-exec (call_rule l) w s r = on-calling l w s r
  on-exec return w s r = on-returning w.returns w r.depth r.returns r
  on-exec (set_result v) w s r = further-on 2 w (with_result v w) (omega arith) s.0 (runs-result v w s.1 r)
  on-exec (choice c) w s r = on-branched (fetch T c) (some w.result) c w w r r
  on-exec end_choice w s r = tt
  on-exec (set_parameter v) w s r = further-on 2 w (with_parameter v w) (omega arith) s.0 (runs-parameter v w s.1 r)
  on-exec (update op) w s r = further-on 1 w w (omega arith) s r
  on-exec (update_with op) w s r = further-on 1 w w (omega arith) s r
  on-exec (choose op) w s r = further-on 1 w w (omega arith) s r
  on-exec (choose_with op) w s r = further-on 1 w w (omega arith) s r

  on_step : (w : Walk) → Runs w → Each Runs (step T tokens w)
  unfolding step decode
  on_step w r =
      on-exec (decode T w.location) w
      (stands w.location) r

-- Turns of a call

-- what a turn leads to has the property of a call's end, or that of a walk with so much room left
abbrev Leads : (Called → Type 0) → (ℕ → Walk → Type 0) → Turn → Type 0
Leads Q P (over c) = Q c
Leads Q P (further left v) = P left v

leads : (Q : Called → Type 0) (P : ℕ → Walk → Type 0) (f : ℕ → Walk → Called) → ((left : ℕ) (v : Walk) → P left v → Q (f left v))
    → (t : Turn) → Leads Q P t → Q (elim t as (λ _. Called) [ over c ↦ c | further left v ↦ f left v ])
leads Q P f h (over c) q = q
leads Q P f h (further left v) p = h left v p

-- The walk that a call gives back

abbrev Ended : Called → Type 0
Ended c = Fits c.walk

abbrev Going : ℕ → Walk → Type 0
Going left v = Runs v

ended : (number n : ℕ) (w : Walk) → Runs w → Ended (ends number n w)
unfolding ends
ended number n w r = fits-rest w r

ended-for : (reason : Reason) (n : ℕ) (w : Walk) → Runs w → Ended (ends_for reason n w)
unfolding ends_for
ended-for reason n w r = ended (reason_number reason) n (in_phase (stopped reason) w) (runs-phase (stopped reason) w r)

on-takes : (o : Option ℕ) (room n : ℕ) (w : Walk) (e : Event) (v : Walk) → Word o → Runs w → Runs v → Leads Ended Going (takes o room n w e v)
unfolding takes
on-takes none room n w e v b r s = ended-for unanswered (n + 1) w r
on-takes (some x) room n w e v b r s = runs-answer x (writing e v) b (runs-writing e v s)

on-hands_out : (m : Mode) (room n : ℕ) (w : Walk) (e : Event) (v : Walk) → SmallMode m → Runs w → Runs v → Leads Ended Going (hands_out m room n w e v)
unfolding hands_out answer
on-hands_out (whole answers) room n w e v b r s = on-takes (answer answers w.io) room n w e v (word-at answers w.io.used b) r s
on-hands_out (paused x) room n w e v b r s = ended waits (n + 1) (in_phase waiting (writing e v)) (runs-phase waiting (writing e v) (runs-writing e v s))

on-turn : (m : Mode) (room n : ℕ) (w : Walk) (x : Next) → SmallMode m → Runs w → Each Runs x → Leads Ended Going (turn m room n w x)
unfolding turn
on-turn m room n w goes_outside b r s = ended-for outside n w r
on-turn m room n w (stops reason) b r s = ended-for reason (n + 1) w r
on-turn m room n w (goes v) b r s = s
on-turn m room n w (tells e v) b r s = either (Leads Ended Going) (ltb room 3) _ _ (ended 35 n w r) (runs-writing e v s)
on-turn m room n w (asks e v) b r s = either (Leads Ended Going) (ltb room 3) _ _ (ended 35 n w r) (on-hands_out m room n w e v b r s)

module _ (T tokens : List ℕ) (small_t : Small T) (small_tokens : Small tokens) (long_t : length T ≤ 4096) (long_tokens : length tokens < 18446744073709551616) where
  on-run : (b : ℕ) (m : Mode) (room n : ℕ) (w : Walk) → SmallMode m → Runs w → Ended (run T tokens b m room n w)
  unfolding run
  on-run zero m room n w s r = ended 36 n w r
  on-run (suc b) m room n w s r =
      leads Ended Going (λ left v. run T tokens b m left (n + 1) v) (λ left v p. on-run b m left (n + 1) v s p)
      (turn m room n w (step T tokens w)) (on-turn m room n w (step T tokens w) s r (on_step T tokens small_t small_tokens long_t long_tokens w r))

  on_call : (p : Phase) (m : Mode) (budget room : ℕ) (w : Walk) → SmallMode m → Fits w → Ended (call_in T tokens p m budget room w)
  unfolding call_in
  on_call going (whole answers) budget room w s f = on-run budget (whole answers) room 0 (at_rest w) s (runs-fits (at_rest w) (fits-rest w (runs-fits w f)))
  on_call going (paused none) budget room w s f = on-run budget (paused none) room 0 (at_rest w) s (runs-fits (at_rest w) (fits-rest w (runs-fits w f)))
  on_call going (paused (some x)) budget room w s f = f
  on_call waiting (whole answers) budget room w s f = f
  on_call waiting (paused none) budget room w s f = f
  on_call waiting (paused (some x)) budget room w s f =
      on-run budget (paused none) room 0 (with_answer x (at_rest w)) tt (runs-answer x (at_rest w) s (runs-fits (at_rest w) (fits-rest w (runs-fits w f))))
  on_call (stopped reason) (whole answers) budget room w s f = f
  on_call (stopped reason) (paused none) budget room w s f = f
  on_call (stopped reason) (paused (some x)) budget room w s f = f

-- "every walk that goes on within a device" has a byte form: whatever a call gives back fits
pub fits-call : (T tokens : List ℕ) (m : Mode) (budget room : ℕ) (w : Walk) → Small T → Small tokens → SmallMode m → length T ≤ 4096
    → length tokens < 18446744073709551616 → Fits w → Fits (call_walk T tokens m budget room w).walk
unfolding call_walk
fits-call T tokens m budget room w st sk sm lt lk f = on_call T tokens st sk lt lk w.phase m budget room w sm f

pub fits_fresh : (a : ℕ) → a < 65536 → Fits (fresh a)
unfolding fresh
fits_fresh a h = record {
  location = omega arith;
  result = omega arith;
  parameter = omega arith;
  depth = omega arith;
  returns = λ i k. omega arith;
  read = omega arith;
  used = omega arith;
  allowance = h;
  events = refl;
}

-- The events that a call writes

-- a walk that has written the same events
abbrev Wrote : List Event → Walk → Type 0
Wrote es v = v.io.events ≡ es

module _ (T tokens : List ℕ) (es : List Event) where
  wrote-go_to : (l : ℕ) (w : Walk) → Wrote es w → Each (Wrote es) (go_to T tokens l w)
  unfolding go_to moved
  wrote-go_to l w r = either (Each (Wrote es)) (given (fetch T l)) (goes (moved l w)) goes_outside r tt

  wrote-landed : (o : Option ℕ) (d : ℕ) (taken w : Walk) → Wrote es taken → Wrote es w → Each (Wrote es) (landed T tokens o d taken w)
  unfolding landed
  wrote-landed none d taken w a r = wrote-go_to d w r
  wrote-landed (some l) d taken w a r = go (fetch T l)
    where
      go : (o : Option ℕ) → Each (Wrote es) (elim o as (λ _. Next) [ none ↦ goes_outside | some x ↦ go_to T tokens (l - x) taken ])
      go none = tt
      go (some x) = wrote-go_to (l - x) taken a

  wrote-branched : (o v : Option ℕ) (c : ℕ) (taken w : Walk) → Wrote es taken → Wrote es w → Each (Wrote es) (branched T tokens o v c taken w)
  unfolding branched
  wrote-branched none v c taken w a r = tt
  wrote-branched (some n) v c taken w a r =
      either (Each (Wrote es)) (leb (c + 2 * n) (length T)) _ _ (wrote-landed (seek_by T tokens v n (c + 1)) (c + 1 + 2 * n) taken w a r) tt

  wrote-input_choosing : (o : Option ℕ) (c : ℕ) (w : Walk) → Wrote es w → Each (Wrote es) (input_choosing T tokens o c w)
  unfolding input_choosing took with_io with_result
  wrote-input_choosing none c w r = wrote-branched (fetch T c) none c w w r r
  wrote-input_choosing (some t) c w r =
      wrote-branched (fetch T c) (some t) c (with_io (took w.io) (with_result t w)) (with_result t w) r r

  wrote-calling : (l : ℕ) (w : Walk) → Wrote es w → Each (Wrote es) (calling T tokens l w)
  unfolding calling moved with_returns
  wrote-calling l w r =
      either (Each (Wrote es)) (given (fetch T l)) _ goes_outside (either (Each (Wrote es)) (ltb (length w.returns) 64) _ _ r tt) tt

  wrote-returning : (rs : List ℕ) (w : Walk) → Wrote es w → Each (Wrote es) (returning T tokens rs w)
  unfolding returning with_returns
  wrote-returning [] w r = tt
  wrote-returning (l ∷ rs) w r = wrote-go_to l (with_returns rs w) r

  wrote-requiring : (t : ℕ) (b : Bool) (w : Walk) → Wrote es w → Each (Wrote es) (requiring T tokens t b w)
  unfolding requiring moved with_io took spent
  wrote-requiring t true w r = r
  wrote-requiring t false w r = either (Each (Wrote es)) (mends w.io) (tells (repair t) (moved (w.location + 2) (with_io (spent w.io) w))) (stops differs) r tt

  wrote-exec : (i : Instruction) (w : Walk) → Wrote es w → Each (Wrote es) (exec T tokens i w)
  unfolding exec moved with_io with_result with_parameter took
  wrote-exec invalid w r = tt
  wrote-exec (jump l) w r = wrote-go_to l w r
  wrote-exec (input t) w r = wrote-requiring t (is t (present tokens w.io)) w r
  wrote-exec input_any w r = either (Each (Wrote es)) (given (present tokens w.io)) _ _ r tt
  wrote-exec (write e) w r = r
  wrote-exec (input_choice c) w r = wrote-input_choosing (present tokens w.io) c w r
  wrote-exec (call_rule l) w r = wrote-calling l w r
  wrote-exec return w r = wrote-returning w.returns w r
  wrote-exec (set_result v) w r = r
  wrote-exec (choice c) w r = wrote-branched (fetch T c) (some w.result) c w w r r
  wrote-exec end_choice w r = tt
  wrote-exec (set_parameter v) w r = r
  wrote-exec (update op) w r = r
  wrote-exec (update_with op) w r = r
  wrote-exec (choose op) w r = r
  wrote-exec (choose_with op) w r = r

-- an instruction writes no event: its turn does
step-events : (T tokens : List ℕ) (w : Walk) → Each (Wrote w.io.events) (step T tokens w)
unfolding step
step-events T tokens w = wrote-exec T tokens w.io.events (decode T w.location) w refl

-- the events of a call's end, and those of a walk with so much room left, of so much room in all
abbrev EndedIn : ℕ → Called → Type 0
EndedIn all c = 3 * length c.events ≤ all

abbrev GoingIn : ℕ → ℕ → Walk → Type 0
GoingIn all left v = 3 * length v.io.events + left ≤ all

-- one event more
longer : (es fs : List Event) (e : Event) → fs ≡ es → length (fs ++ (e ∷ [])) ≡ length es + 1
longer es fs e q = let h = length-append fs (e ∷ []) in let k : length fs ≡ length es = ap length q in omega arith

room-takes : (all : ℕ) (o : Option ℕ) (room n : ℕ) (w : Walk) (e : Event) (v : Walk) → 3 ≤ room → GoingIn all room w → Wrote w.io.events v → Leads (EndedIn all) (GoingIn all) (takes o room n w e v)
unfolding takes ends_for ends in_phase with_answer with_result with_io answered writing wrote
room-takes all none room n w e v t r s = omega arith
room-takes all (some x) room n w e v t r s = let h = longer w.io.events v.io.events e s in omega arith

room-hands_out : (all : ℕ) (m : Mode) (room n : ℕ) (w : Walk) (e : Event) (v : Walk) → 3 ≤ room → GoingIn all room w → Wrote w.io.events v → Leads (EndedIn all) (GoingIn all) (hands_out m room n w e v)
unfolding hands_out ends in_phase with_io writing wrote
room-hands_out all (whole answers) room n w e v t r s = room-takes all (answer answers w.io) room n w e v t r s
room-hands_out all (paused x) room n w e v t r s = let h = longer w.io.events v.io.events e s in omega arith

room-turn : (all : ℕ) (m : Mode) (room n : ℕ) (w : Walk) (x : Next) → GoingIn all room w → Each (Wrote w.io.events) x → Leads (EndedIn all) (GoingIn all) (turn m room n w x)
unfolding turn ends_for ends in_phase with_io writing wrote
room-turn all m room n w goes_outside r s = omega arith
room-turn all m room n w (stops reason) r s = omega arith
room-turn all m room n w (goes v) r s = let k : length v.io.events ≡ length w.io.events = ap length s in omega arith
room-turn all m room n w (tells e v) r s =
    tested (Leads (EndedIn all) (GoingIn all)) (ltb room 3) (over (ends 35 n w)) (further (room - 3) (writing e v))
    (λ t. omega arith)
    (λ f. let h = longer w.io.events v.io.events e s in let k = ltb-false room 3 f in omega arith)
room-turn all m room n w (asks e v) r s =
    tested (Leads (EndedIn all) (GoingIn all)) (ltb room 3) (over (ends 35 n w)) (hands_out m room n w e v)
    (λ t. omega arith)
    (λ f. room-hands_out all m room n w e v (ltb-false room 3 f) r s)

module _ (T tokens : List ℕ) where
  room-run : (all b : ℕ) (m : Mode) (room n : ℕ) (w : Walk) → GoingIn all room w → EndedIn all (run T tokens b m room n w)
  unfolding run ends
  room-run all zero m room n w r = omega arith
  room-run all (suc b) m room n w r =
      leads (EndedIn all) (GoingIn all) (λ left v. run T tokens b m left (n + 1) v) (λ left v p. room-run all b m left (n + 1) v p)
      (turn m room n w (step T tokens w)) (room-turn all m room n w (step T tokens w) r (step-events T tokens w))

  room-call : (p : Phase) (m : Mode) (budget room : ℕ) (w : Walk) → EndedIn room (call_in T tokens p m budget room w)
  unfolding call_in ends at_rest with_returns with_io with_answer with_result in_phase answered
  room-call going (whole answers) budget room w = room-run room budget (whole answers) room 0 (at_rest w) (omega arith)
  room-call going (paused none) budget room w = room-run room budget (paused none) room 0 (at_rest w) (omega arith)
  room-call going (paused (some x)) budget room w = omega arith
  room-call waiting (whole answers) budget room w = omega arith
  room-call waiting (paused none) budget room w = omega arith
  room-call waiting (paused (some x)) budget room w = room-run room budget (paused none) room 0 (with_answer x (at_rest w)) (omega arith)
  room-call (stopped reason) (whole answers) budget room w = omega arith
  room-call (stopped reason) (paused none) budget room w = omega arith
  room-call (stopped reason) (paused (some x)) budget room w = omega arith

-- a call writes no more events than its buffer has room for
pub events-room : (T tokens : List ℕ) (m : Mode) (budget room : ℕ) (w : Walk) → 3 * length (call_walk T tokens m budget room w).events ≤ room
unfolding call_walk
events-room T tokens m budget room w = room-call T tokens w.phase m budget room w

-- The steps that a call does

abbrev EndedBy : ℕ → Called → Type 0
EndedBy most c = c.steps ≤ most

abbrev Any : ℕ → Walk → Type 0
Any left v = Unit {0}

steps-takes : (most : ℕ) (o : Option ℕ) (room n : ℕ) (w : Walk) (e : Event) (v : Walk) → n < most → Leads (EndedBy most) Any (takes o room n w e v)
unfolding takes ends_for ends
steps-takes most none room n w e v h = omega arith
steps-takes most (some x) room n w e v h = tt

steps-hands_out : (most : ℕ) (m : Mode) (room n : ℕ) (w : Walk) (e : Event) (v : Walk) → n < most → Leads (EndedBy most) Any (hands_out m room n w e v)
unfolding hands_out ends
steps-hands_out most (whole answers) room n w e v h = steps-takes most (answer answers w.io) room n w e v h
steps-hands_out most (paused x) room n w e v h = omega arith

steps-turn : (most : ℕ) (m : Mode) (room n : ℕ) (w : Walk) (x : Next) → n < most → Leads (EndedBy most) Any (turn m room n w x)
unfolding turn ends_for ends
steps-turn most m room n w goes_outside h = omega arith
steps-turn most m room n w (stops reason) h = omega arith
steps-turn most m room n w (goes v) h = tt
steps-turn most m room n w (tells e v) h = either (Leads (EndedBy most) Any) (ltb room 3) (over (ends 35 n w)) (further (room - 3) (writing e v)) (omega arith) tt
steps-turn most m room n w (asks e v) h =
    either (Leads (EndedBy most) Any) (ltb room 3) (over (ends 35 n w)) (hands_out m room n w e v) (omega arith) (steps-hands_out most m room n w e v h)

module _ (T tokens : List ℕ) where
  steps-run : (b : ℕ) (m : Mode) (room n most : ℕ) (w : Walk) → n + b ≤ most → EndedBy most (run T tokens b m room n w)
  unfolding run ends
  steps-run zero m room n most w h = omega arith
  steps-run (suc b) m room n most w h =
      leads (EndedBy most) Any (λ left v. run T tokens b m left (n + 1) v) (λ left v p. steps-run b m left (n + 1) most v (omega arith))
      (turn m room n w (step T tokens w)) (steps-turn most m room n w (step T tokens w) (omega arith))

  steps-call : (p : Phase) (m : Mode) (budget room : ℕ) (w : Walk) → EndedBy budget (call_in T tokens p m budget room w)
  unfolding call_in ends
  steps-call going (whole answers) budget room w = steps-run budget (whole answers) room 0 budget (at_rest w) (omega arith)
  steps-call going (paused none) budget room w = steps-run budget (paused none) room 0 budget (at_rest w) (omega arith)
  steps-call going (paused (some x)) budget room w = omega arith
  steps-call waiting (whole answers) budget room w = omega arith
  steps-call waiting (paused none) budget room w = omega arith
  steps-call waiting (paused (some x)) budget room w = steps-run budget (paused none) room 0 budget (with_answer x (at_rest w)) (omega arith)
  steps-call (stopped reason) (whole answers) budget room w = omega arith
  steps-call (stopped reason) (paused none) budget room w = omega arith
  steps-call (stopped reason) (paused (some x)) budget room w = omega arith

-- "36" comes when the budget is spent: a call does no more steps than that
pub steps-budget : (T tokens : List ℕ) (m : Mode) (budget room : ℕ) (w : Walk) → (call_walk T tokens m budget room w).steps ≤ budget
unfolding call_walk
steps-budget T tokens m budget room w = steps-call T tokens w.phase m budget room w
