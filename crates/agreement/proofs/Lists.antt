-- Whatever the list of calls, whole and paused, with budgets, buffers and refusals: the walk is where so many single steps lead.
use mathlib.Core.Bool.{Bool, true, false}
use mathlib.Core.List.{List, [], ◌∷◌, ◌++◌, append-nil, append_assoc}
use mathlib.Core.Option.{Option, none, some}
use mathlib.Core.Path.{◌≡◌, refl, sym, ap, ◌∙◌}
use Prim.Native.Nat.{ℕ, zero, suc, ◌+◌, ◌-◌, ◌*◌, ◌^◌, ◌<◌, ◌≤◌, min}
use native.Mathlib.Omega.{arith}
use lib.Dec.{leb, ltb}
use lib.ListN.{length, get_elem?}
use borrow.Author.Tests.{ltb-true, ltb-false, lt-leb, le-leb}
use Rattle.base.specs.Bools.{split}
use Rattle.std.specs.Prelude.{if◌then◌else◌}
use Rattle.base.specs.Common.{given}
use Rattle.events.specs.Events
use Rattle.events.specs.Events.{Event, repair, Reason, finished, differs, missing, unlabelled, deep, unanswered, outside, reason_number, is_choice, choices, answer, mends, is, present}
use Rattle.machine.proofs.Bytes.{past_end}
use Rattle.machine.proofs.Decoded.{of-operation, of_one, of_two, of-decode}
use Rattle.machine.specs.Decode.{fetch, Instruction, invalid, jump, input, input_any, write, input_choice, call_rule, return, set_result, choice, end_choice, set_parameter, update, update_with, choose, choose_with, decode_operation, decode}
use Rattle.machine.specs.Walk
use Rattle.machine.specs.Walk.{Phase, going, waiting, stopped, Walk, fresh, moved, with_returns, with_result, with_io, in_phase, with_answer, first64, at_rest}
use Rattle.machine.specs.Step.{Next, goes_outside, stops, goes, tells, asks, go_to, seek_by, landed, branched, input_choosing, calling, returning, requiring, exec, step}
use Rattle.machine.specs.Call
use Rattle.machine.specs.Call.{Mode, whole, paused, Called, ends, ends_for, keeps, writing, Turn, over, further, takes, hands_out, turn, run, call_in, call_walk}
use Rattle.agreement.specs.Demand.{wanted, Allowed, ListedFrom, begin, then_call, Listed}
use Rattle.agreement.proofs.Single.{taking, done, one_in, one, runs}

-- a walk with these events in place of its own
unfoldable pub with_events : List Event → Walk → Walk
with_events es w = with_io (record { read = w.io.read; used = w.io.used; allowance = w.io.allowance; events = es }) w

-- a walk with the events of earlier calls before its own
unfoldable pub with_earlier : List Event → Walk → Walk
with_earlier es w = with_events (es ++ w.io.events) w

pub writing-earlier : (es : List Event) (e : Event) (v : Walk) → with_earlier es (writing e v) ≡ writing e (with_earlier es v)
unfolding with_earlier with_events writing Walk.opened Events.wrote
writing-earlier es e v = let a = append_assoc es v.io.events (e ∷ []) in λ i. with_events (sym a i) v

-- what an instruction does, with the events of earlier calls before its own
unfoldable pub earlier : List Event → Next → Next
earlier es goes_outside = goes_outside
earlier es (stops r) = stops r
earlier es (goes v) = goes (with_earlier es v)
earlier es (tells e v) = tells e (with_earlier es v)
earlier es (asks e v) = asks e (with_earlier es v)

-- `step` does not look at the events

module _ (es : List Event) where
  if-earlier : (b : Bool) (x y x' y' : Next) → x' ≡ earlier es x → y' ≡ earlier es y
      → (if b then x' else y') ≡ earlier es (if b then x else y)
  if-earlier true x y x' y' p q = p
  if-earlier false x y x' y' p q = q

  module _ (T tokens : List ℕ) where
    go_to-earlier : (l : ℕ) (w : Walk) → go_to T tokens l (with_earlier es w) ≡ earlier es (go_to T tokens l w)
    unfolding go_to earlier with_earlier with_events Walk.opened
    go_to-earlier l w = if-earlier (given (fetch T l)) (goes (moved l w)) goes_outside _ _ refl refl

    landed-earlier : (o : Option ℕ) (d : ℕ) (v w : Walk)
        → landed T tokens o d (with_earlier es v) (with_earlier es w) ≡ earlier es (landed T tokens o d v w)
    unfolding landed earlier
    landed-earlier none d v w = go_to-earlier d w
    landed-earlier (some l) d v w = go (fetch T l)
      where
        go : (o : Option ℕ)
            → ◌≡◌ {A = Next} (elim o [ none ↦ goes_outside | some x ↦ go_to T tokens (l - x) (with_earlier es v) ])
            (earlier es (elim o [ none ↦ goes_outside | some x ↦ go_to T tokens (l - x) v ]))
        go none = refl
        go (some x) = go_to-earlier (l - x) v

    branched-earlier : (n o : Option ℕ) (c : ℕ) (v w : Walk)
        → branched T tokens n o c (with_earlier es v) (with_earlier es w) ≡ earlier es (branched T tokens n o c v w)
    unfolding branched earlier
    branched-earlier none o c v w = refl
    branched-earlier (some n) o c v w =
        let l = landed-earlier (seek_by T tokens o n (c + 1)) (c + 1 + 2 * n) v w in
        if-earlier (leb (c + 2 * n) (length T)) (landed T tokens (seek_by T tokens o n (c + 1)) (c + 1 + 2 * n) v w) goes_outside _ _ l refl

    input_choosing-earlier : (o : Option ℕ) (c : ℕ) (w : Walk)
        → input_choosing T tokens o c (with_earlier es w) ≡ earlier es (input_choosing T tokens o c w)
    unfolding input_choosing with_earlier with_events Walk.opened Events.opened
    input_choosing-earlier none c w = branched-earlier (fetch T c) none c w w
    input_choosing-earlier (some t) c w =
        branched-earlier (fetch T c) (some t) c (with_io (Events.took w.io) (with_result t w)) (with_result t w)

    calling-earlier : (l : ℕ) (w : Walk) → calling T tokens l (with_earlier es w) ≡ earlier es (calling T tokens l w)
    unfolding calling earlier with_earlier with_events Walk.opened
    calling-earlier l w =
        let on = goes (moved l (with_returns ((w.location + 2) ∷ w.returns) w)) in
        let b = ltb (length w.returns) 64 in
        if-earlier (given (fetch T l)) (if b then on else stops deep) goes_outside _ _
        (if-earlier b on (stops deep) _ _ refl refl) refl

    returning-earlier : (rs : List ℕ) (w : Walk) → returning T tokens rs (with_earlier es w) ≡ earlier es (returning T tokens rs w)
    unfolding returning earlier with_earlier with_events Walk.opened
    returning-earlier [] w = refl
    returning-earlier (l ∷ rs) w = go_to-earlier l (with_returns rs w)

    requiring-earlier : (t : ℕ) (b : Bool) (w : Walk) → requiring T tokens t b (with_earlier es w) ≡ earlier es (requiring T tokens t b w)
    unfolding requiring earlier with_earlier with_events Walk.opened Events.opened
    requiring-earlier t true w = refl
    requiring-earlier t false w =
        if-earlier (mends w.io) (tells (repair t) (moved (w.location + 2) (with_io (Events.spent w.io) w))) (stops differs) _ _ refl refl

    exec-earlier : (i : Instruction) (w : Walk) → exec T tokens i (with_earlier es w) ≡ earlier es (exec T tokens i w)
    unfolding exec earlier with_earlier with_events Walk.opened Events.opened
    exec-earlier invalid w = refl
    exec-earlier (jump l) w = go_to-earlier l w
    exec-earlier (input t) w = requiring-earlier t (is t (present tokens w.io)) w
    exec-earlier input_any w =
        let on = goes (moved (w.location + 1) (with_io (Events.took w.io) w)) in
        if-earlier (given (present tokens w.io)) on (stops missing) _ _ refl refl
    exec-earlier (write e) w = refl
    exec-earlier (input_choice c) w = input_choosing-earlier (present tokens w.io) c w
    exec-earlier (call_rule l) w = calling-earlier l w
    exec-earlier return w = returning-earlier w.returns w
    exec-earlier (set_result v) w = refl
    exec-earlier (choice c) w = branched-earlier (fetch T c) (some w.result) c w w
    exec-earlier end_choice w = refl
    exec-earlier (set_parameter v) w = refl
    exec-earlier (update op) w = refl
    exec-earlier (update_with op) w = refl
    exec-earlier (choose op) w = refl
    exec-earlier (choose_with op) w = refl

    pub step-earlier : (w : Walk) → step T tokens (with_earlier es w) ≡ earlier es (step T tokens w)
    unfolding step with_earlier with_events Walk.opened
    step-earlier w = exec-earlier (decode T w.location) w

-- "updates from 256, ..", "choice operations from 768, ..": an instruction whose event is of its kind
Kind : Instruction → Type 0
Kind invalid = Unit {0}
Kind (jump l) = Unit {0}
Kind (input t) = Unit {0}
Kind input_any = Unit {0}
Kind (write e) = is_choice e ≡ false
Kind (input_choice c) = Unit {0}
Kind (call_rule l) = Unit {0}
Kind return = Unit {0}
Kind (set_result v) = Unit {0}
Kind (choice c) = Unit {0}
Kind end_choice = Unit {0}
Kind (set_parameter v) = Unit {0}
Kind (update op) = leb 768 op ≡ false
Kind (update_with op) = leb 768 op ≡ false
Kind (choose op) = leb 768 op ≡ true
Kind (choose_with op) = leb 768 op ≡ true

kind : (T : List ℕ) (l : ℕ) → Kind (decode T l)
unfolding Kind is_choice
kind T l = of-decode Kind T l tt (λ i _. of_one Kind i (λ _. tt) (λ _. tt) (λ _. tt) (operation i))
    (λ i x _ _. of_two Kind l i x (λ _ _. tt) (λ _ _. tt) (λ _. tt) (λ _. refl) (λ _. refl) (λ _ _ _. tt) (λ _. tt) (λ _. tt) (λ _ _ _. tt) tt)
  where
    operation : (i : ℕ) → Kind (decode_operation i)
    operation i = of-operation Kind i (λ h. lt-leb 768 i (omega arith)) (λ h. lt-leb 768 i h) (λ h. le-leb 768 i h) (λ h. le-leb 768 i h)

-- what an instruction leaves as it is: all of the walk but location, result, parameter, tokens read, allowance and return locations, of which there
-- are no more than 64 if there were no more
pub record Keeps (w v : Walk) : Type 0 where
  pub phase : v.phase ≡ w.phase
  pub used : v.io.used ≡ w.io.used
  pub events : v.io.events ≡ w.io.events
  pub returns : length w.returns ≤ 64 → length v.returns ≤ 64

-- the reasons that an instruction stops for of its own: not for want of an answer, and not for 37
abbrev pub Own : Reason → Type 0
Own finished = Unit {0}
Own differs = Unit {0}
Own missing = Unit {0}
Own unlabelled = Unit {0}
Own deep = Unit {0}
Own unanswered = ⊥
Own outside = ⊥

-- what holds of what an instruction does: only one that asks has a choice operation's event
pub data After (w : Walk) : Next → Type 0 where
  after-outside : After w goes_outside
  after_stop : (r : Reason) → Own r → After w (stops r)
  after-goes : (v : Walk) → Keeps w v → After w (goes v)
  after-tells : (e : Event) (v : Walk) → is_choice e ≡ false → Keeps w v → After w (tells e v)
  after-asks : (e : Event) (v : Walk) → is_choice e ≡ true → v ≡ moved (w.location + 1) w → Keeps w v → After w (asks e v)

if-after : (u : Walk) (b : Bool) (x y : Next) → (b ≡ true → After u x) → (b ≡ false → After u y) → After u (if b then x else y)
if-after u true x y p q = p refl
if-after u false x y p q = q refl

-- with another location, result, parameter, count of tokens read and allowance
kept : (w : Walk) (l v p n a : ℕ)
    → Keeps w (record {
      phase = w.phase;
      location = l;
      returns = w.returns;
      result = v;
      parameter = p;
      io = record { read = n; used = w.io.used; allowance = a; events = w.io.events };
    })
kept w l v p n a = record { phase = refl; used = refl; events = refl; returns = λ h. h }

module _ (T tokens : List ℕ) (u : Walk) where
  go_to-after : (l : ℕ) (w : Walk) → Keeps u w → After u (go_to T tokens l w)
  unfolding go_to moved
  go_to-after l w k =
      if-after u (given (fetch T l)) (goes (moved l w)) goes_outside
      (λ _. after-goes _ (record { phase = k.phase; used = k.used; events = k.events; returns = k.returns })) (λ _. after-outside)

  landed-after : (o : Option ℕ) (d : ℕ) (v w : Walk) → Keeps u v → Keeps u w → After u (landed T tokens o d v w)
  unfolding landed
  landed-after none d v w j k = go_to-after d w k
  landed-after (some l) d v w j k = go (fetch T l)
    where
      go : (o : Option ℕ) → After u (elim o [ none ↦ goes_outside | some x ↦ go_to T tokens (l - x) v ])
      go none = after-outside
      go (some x) = go_to-after (l - x) v j

  branched-after : (n o : Option ℕ) (c : ℕ) (v w : Walk) → Keeps u v → Keeps u w → After u (branched T tokens n o c v w)
  unfolding branched
  branched-after none o c v w j k = after-outside
  branched-after (some n) o c v w j k =
      if-after u (leb (c + 2 * n) (length T)) (landed T tokens (seek_by T tokens o n (c + 1)) (c + 1 + 2 * n) v w) goes_outside
      (λ _. landed-after (seek_by T tokens o n (c + 1)) (c + 1 + 2 * n) v w j k) (λ _. after-outside)

  input_choosing-after : (o : Option ℕ) (c : ℕ) → After u (input_choosing T tokens o c u)
  unfolding input_choosing Walk.opened Events.opened
  input_choosing-after none c = branched-after (fetch T c) none c u u (kept u _ _ _ _ _) (kept u _ _ _ _ _)
  input_choosing-after (some t) c =
      branched-after (fetch T c) (some t) c (with_io (Events.took u.io) (with_result t u)) (with_result t u)
      (kept u _ _ _ _ _)
      (kept u _ _ _ _ _)

  calling-after : (l : ℕ) → After u (calling T tokens l u)
  unfolding calling Walk.opened
  calling-after l =
      let on = goes (moved l (with_returns ((u.location + 2) ∷ u.returns) u)) in
      let b = ltb (length u.returns) 64 in
      if-after u (given (fetch T l)) (if b then on else stops deep) goes_outside
      (λ _. if-after u b on (stops deep)
      (λ t. after-goes _ (record { phase = refl; used = refl; events = refl; returns = λ h. ltb-true (length u.returns) 64 t }))
      (λ _. after_stop deep tt))
      (λ _. after-outside)

  returning-after : (rs : List ℕ) → u.returns ≡ rs → After u (returning T tokens rs u)
  unfolding returning with_returns
  returning-after [] e = after_stop finished tt
  returning-after (l ∷ rs) e =
      let s : length u.returns ≡ suc (length rs) = ap length e in
      go_to-after l (with_returns rs u) (record { phase = refl; used = refl; events = refl; returns = λ h. omega (arith, s) })

  requiring-after : (t : ℕ) (b : Bool) → After u (requiring T tokens t b u)
  unfolding requiring is_choice Walk.opened Events.opened
  requiring-after t true = after-goes _ (kept u _ _ _ _ _)
  requiring-after t false =
      if-after u (mends u.io) (tells (repair t) (moved (u.location + 2) (with_io (Events.spent u.io) u))) (stops differs)
      (λ _. after-tells _ _ refl (kept u _ _ _ _ _)) (λ _. after_stop differs tt)

  exec-after : (i : Instruction) → Kind i → After u (exec T tokens i u)
  unfolding exec Kind is_choice Walk.opened Events.opened
  exec-after invalid k = after-outside
  exec-after (jump l) k = go_to-after l u (kept u _ _ _ _ _)
  exec-after (input t) k = requiring-after t (is t (present tokens u.io))
  exec-after input_any k =
      if-after u (given (present tokens u.io)) _ (stops missing)
      (λ _. after-goes _ (kept u _ _ _ _ _)) (λ _. after_stop missing tt)
  exec-after (write e) k = after-tells e _ k (kept u _ _ _ _ _)
  exec-after (input_choice c) k = input_choosing-after (present tokens u.io) c
  exec-after (call_rule l) k = calling-after l
  exec-after return k = returning-after u.returns refl
  exec-after (set_result v) k = after-goes _ (kept u _ _ _ _ _)
  exec-after (choice c) k = branched-after (fetch T c) (some u.result) c u u (kept u _ _ _ _ _) (kept u _ _ _ _ _)
  exec-after end_choice k = after_stop unlabelled tt
  exec-after (set_parameter v) k = after-goes _ (kept u _ _ _ _ _)
  exec-after (update op) k = after-tells _ _ k (kept u _ _ _ _ _)
  exec-after (update_with op) k = after-tells _ _ k (kept u _ _ _ _ _)
  exec-after (choose op) k = after-asks _ _ k refl (kept u _ _ _ _ _)
  exec-after (choose_with op) k = after-asks _ _ k refl (kept u _ _ _ _ _)

  pub step_after : After u (step T tokens u)
  unfolding step
  step_after = exec-after (decode T u.location) (kind T u.location)

-- an operation that asks is a choice operation, and leaves the location past itself
pub record Asked (w v : Walk) (e : Event) : Type 0 where
  pub choice : is_choice e ≡ true
  pub past : v ≡ moved (w.location + 1) w
  pub keeps : Keeps w v

asked : {w v : Walk} {e : Event} → After w (asks e v) → Asked w v e
asked (after-asks e v t m k) = record { choice = t; past = m; keeps = k }

pub step-asked : (T tokens : List ℕ) (w v : Walk) (e : Event) → step T tokens w ≡ asks e v → Asked w v e
step-asked T tokens w v e s = asked (rw s at (step_after T tokens w))

-- The answers used and the choice operations in the events

pub choices-then : (es : List Event) (e : Event) → choices (es ++ (e ∷ [])) ≡ choices es + (if is_choice e then 1 else 0)
unfolding choices
choices-then [] e = omega arith
choices-then (x ∷ es) e = let ih = choices-then es e in omega arith

choices-told : (es : List Event) (e : Event) → is_choice e ≡ false → choices (es ++ (e ∷ [])) ≡ choices es
choices-told es e f = let z : choices (es ++ (e ∷ [])) ≡ choices es + 0 = rw f at (choices-then es e) in omega arith

pub choices-asked : (es : List Event) (e : Event) → is_choice e ≡ true → choices (es ++ (e ∷ [])) ≡ choices es + 1
choices-asked es e t = rw t at (choices-then es e)

-- the answer that a walk waits for is the one that it asks for
pub wanted-asked : (answers : List ℕ) (es : List Event) (e : Event) → is_choice e ≡ true
    → wanted answers (es ++ (e ∷ [])) ≡ get_elem? answers (choices es)
unfolding wanted
wanted-asked answers es e t =
    let c = choices-asked es e t in
    let z : choices (es ++ (e ∷ [])) - 1 ≡ choices es = omega arith in
    ap (get_elem? answers) z

-- answers used stop at their greatest only past the last answer
used-enough : (answers : List ℕ) (c : ℕ) → length answers < 2 ^ 64 → get_elem? answers (min c (2 ^ 64 - 1)) ≡ get_elem? answers c
used-enough answers c h =
    split (ltb c (2 ^ 64))
    (λ t. let l = ltb-true c (2 ^ 64) t in let e : min c (2 ^ 64 - 1) ≡ c = omega arith in ap (get_elem? answers) e)
    (λ f. let l = ltb-false c (2 ^ 64) f in past_end answers (min c (2 ^ 64 - 1)) (omega arith) ∙ sym (past_end answers c (omega arith)))

-- of no more than 64 return locations all are read
pub all64 : (rs : List ℕ) → length rs ≤ 64 → first64 rs ≡ rs
unfolding first64
all64 rs h = let e : length rs - 64 ≡ 0 = omega arith in rw e

-- the phases are apart
pub going-waiting : {p : Phase} → p ≡ going → p ≡ waiting → ⊥
going-waiting g h = let z : ◌≡◌ {A = ℕ} 0 1 = cc in omega arith

pub going-stopped : {p : Phase} {r : Reason} → p ≡ going → p ≡ stopped r → ⊥
going-stopped g h = let z : ◌≡◌ {A = ℕ} 0 1 = cc in omega arith

pub waiting-stopped : {p : Phase} {r : Reason} → p ≡ waiting → p ≡ stopped r → ⊥
waiting-stopped g h = let z : ◌≡◌ {A = ℕ} 0 1 = cc in omega arith

-- what holds of each walk that single steps lead to
pub record Kept (w : Walk) : Type 0 where
  pub used : w.io.used ≡ min (choices w.io.events) (2 ^ 64 - 1)
  pub returns : length w.returns ≤ 64

module _ (T tokens : List ℕ) where
  -- the rest of a call after a turn
  unfoldable pub resume : ℕ → Mode → ℕ → Turn → Called
  resume b m n (over c) = c
  resume b m n (further room v) = run T tokens b m room (n + 1) v

  pub run-resume : (b : ℕ) (m : Mode) (room n : ℕ) (w : Walk)
      → run T tokens (suc b) m room n w ≡ resume b m n (turn m room n w (step T tokens w))
  unfolding run resume
  run-resume b m room n w = go (turn m room n w (step T tokens w))
    where
      go : (t : Turn) → ◌≡◌ {A = Called} (elim t [ over c ↦ c | further room v ↦ run T tokens b m room (n + 1) v ]) (resume b m n t)
      go (over c) = refl
      go (further room v) = refl

module _ (T tokens answers : List ℕ) where
  kept-taking : (o : Option ℕ) (e : Event) (v w : Walk) → is_choice e ≡ true → Keeps w v → Kept w → Kept (taking o e v w)
  unfolding taking writing Walk.opened Events.wrote Events.answered
  kept-taking none e v w t k h = record { used = h.used; returns = h.returns }
  kept-taking (some x) e v w t k h =
      let c = choices-asked v.io.events e t in
      let d : choices v.io.events ≡ choices w.io.events = ap choices k.events in
      record { used = omega (arith, c, d, k.used, h.used); returns = k.returns h.returns }

  kept-done : {nx : Next} (w : Walk) → After w nx → Kept w → Kept (done T tokens answers nx w)
  unfolding done writing Walk.opened Events.wrote
  kept-done w after-outside h = record { used = h.used; returns = h.returns }
  kept-done w (after_stop r o) h = record { used = h.used; returns = h.returns }
  kept-done w (after-goes v k) h =
      let d : choices v.io.events ≡ choices w.io.events = ap choices k.events in
      record { used = omega (arith, d, k.used, h.used); returns = k.returns h.returns }
  kept-done w (after-tells e v f k) h =
      let c = choices-told v.io.events e f in
      let d : choices v.io.events ≡ choices w.io.events = ap choices k.events in
      record { used = omega (arith, c, d, k.used, h.used); returns = k.returns h.returns }
  kept-done w (after-asks e v t m k) h = kept-taking (get_elem? answers (choices w.io.events)) e v w t k h

  kept-one : (w : Walk) → Kept w → Kept (one T tokens answers w)
  unfolding one one_in
  kept-one w h = go w.phase
    where
      go : (p : Phase) → Kept (one_in T tokens answers p w)
      go going = kept-done w (step_after T tokens w) h
      go waiting = h
      go (stopped r) = h

  pub kept-runs : (n : ℕ) (w : Walk) → Kept w → Kept (runs T tokens answers n w)
  unfolding runs
  kept-runs zero w h = h
  kept-runs (suc n) w h = kept-runs n (one T tokens answers w) (kept-one w h)

  pub runs-suc : (n : ℕ) (w : Walk) → runs T tokens answers (suc n) w ≡ one T tokens answers (runs T tokens answers n w)
  unfolding runs
  runs-suc zero w = refl
  runs-suc (suc n) w = runs-suc n (one T tokens answers w)

  pub one-going : (w : Walk) → w.phase ≡ going → one T tokens answers w ≡ done T tokens answers (step T tokens w) w
  unfolding one one_in
  one-going w g = rw g

-- From a walk on, the events before it included

module _ (T tokens answers : List ℕ) (s₀ : Walk) (kept₀ : Kept s₀) where
  -- the walks that so many single steps lead to
  abbrev pub after : ℕ → Walk
  after n = runs T tokens answers n s₀

  pub kept-after : (n : ℕ) → Kept (after n)
  kept-after n = kept-runs T tokens answers n s₀ kept₀

  -- the single step before was one of a walk that went on
  abbrev pub Moved : ℕ → Type 0
  Moved n = (m : ℕ) → n ≡ suc m → (after m).phase ≡ going

  -- a walk that goes on went on before
  went_on : (m : ℕ) → (after (suc m)).phase ≡ going → (after m).phase ≡ going
  unfolding one one_in
  went_on m g = go (after m).phase refl (ap (λ (w : Walk). w.phase) (sym (runs-suc T tokens answers m s₀)) ∙ g)
    where
      go : (p : Phase) → (after m).phase ≡ p → (one_in T tokens answers p (after m)).phase ≡ going → p ≡ going
      go going e h = refl
      go waiting e h = sym e ∙ h
      go (stopped r) e h = sym e ∙ h

  still-going : (n : ℕ) → (after n).phase ≡ going → Moved n
  still-going n g m e = went_on m (rw e at g)

  one_further : (n : ℕ) → (after n).phase ≡ going → Moved (suc n)
  one_further n g m e = let d : n ≡ m = omega arith in rw d at g

  -- where a list of calls has led: to this walk, with these events and so many steps in all
  pub data Where (w : Walk) (es : List Event) (n : ℕ) : Type 0 where
    -- it goes on or has stopped, as it is after so many single steps
    lives : (w.phase ≡ waiting → ⊥) → with_events es w ≡ after n → Moved n → Where w es n
    -- it has stopped for 37, which counts no step
    left : w.phase ≡ stopped outside → (after n).phase ≡ going → step T tokens (after n) ≡ goes_outside
        → with_events es w ≡ in_phase (stopped outside) (after n) → Where w es n
    -- it waits with the question of its last step
    waits : (k : ℕ) (v v' : Walk) (e : Event) → after k ≡ v → v.phase ≡ going → step T tokens v ≡ asks e v'
        → es ≡ v.io.events ++ (e ∷ []) → n ≡ suc k → w ≡ in_phase waiting (with_events [] v') → Where w es n

  -- the single step of a walk that waits: it takes the answer that it waits for
  pub asked-next : (k : ℕ) (v v' : Walk) (e : Event) (es : List Event) → after k ≡ v → v.phase ≡ going → step T tokens v ≡ asks e v'
      → es ≡ v.io.events ++ (e ∷ []) → after (suc k) ≡ taking (wanted answers es) e v' v
  unfolding done
  asked-next k v v' e es a g s q =
      runs-suc T tokens answers k s₀ ∙ ap (one T tokens answers) a ∙ one-going T tokens answers v g ∙ ap (λ nx. done T tokens answers nx v) s
      ∙ ap (λ o. taking o e v' v) (sym (ap (wanted answers) q ∙ wanted-asked answers v.io.events e (step-asked T tokens v v' e s).choice))

  -- A call

  -- the answers that a call is given
  Given : Mode → Type 0
  Given (whole given) = (given ≡ answers) × (length answers < 2 ^ 64)
  Given (paused x) = Unit {0}

  -- before a call there were these events and k steps
  module _ (es : List Event) (k : ℕ) where
    -- the walk within a call, n steps of it done
    abbrev Within : ℕ → Walk → Type 0
    Within n w = with_earlier es w ≡ after (k + n)

    abbrev Ended : Called → Type 0
    Ended c = Where c.walk (es ++ c.events) (k + c.steps)

    within64 : (n : ℕ) (w : Walk) → Within n w → first64 w.returns ≡ w.returns
    unfolding with_earlier with_events with_io
    within64 n w d = all64 w.returns (rw (← d) at (kept-after (k + n)).returns)

    rested : (number n : ℕ) (w : Walk) → (w.phase ≡ waiting → ⊥) → Within n w → Moved (k + n) → Ended (ends number n w)
    unfolding ends with_earlier with_events Walk.opened
    rested number n w p d mv = let r = within64 n w d in lives p ((λ i. with_returns (r i) (with_earlier es w)) ∙ d) mv

    -- a walk that goes on within a call
    goes-within : (n : ℕ) (w : Walk) → w.phase ≡ going → Within n w → (after (k + n)).phase ≡ going
    unfolding with_earlier with_events with_io
    goes-within n w g d = ap (λ (v : Walk). v.phase) (sym d) ∙ g

    paused-at : (number n : ℕ) (w : Walk) → w.phase ≡ going → Within n w → Ended (ends number n w)
    paused-at number n w g d = rested number n w (going-waiting g) d (still-going (k + n) (goes-within n w g d))

    -- the step that stops it was one of a walk that went on
    moved_on : (n : ℕ) (w : Walk) → w.phase ≡ going → Within n w → Moved (k + (n + 1))
    moved_on n w g d = let e : k + (n + 1) ≡ suc (k + n) = omega arith in rw e (one_further (k + n) (goes-within n w g d))

    next-within : (n : ℕ) (w : Walk) (nx : Next) → w.phase ≡ going → Within n w → step T tokens w ≡ nx
        → after (k + (n + 1)) ≡ done T tokens answers (earlier es nx) (with_earlier es w)
    unfolding with_earlier with_events with_io
    next-within n w nx g d s =
        let e : k + (n + 1) ≡ suc (k + n) = omega arith in
        ap after e ∙ runs-suc T tokens answers (k + n) s₀ ∙ ap (one T tokens answers) (sym d) ∙ one-going T tokens answers (with_earlier es w) g
        ∙ ap (λ x. done T tokens answers x (with_earlier es w)) (step-earlier es T tokens w ∙ ap (earlier es) s)

    waited : (n number : ℕ) (w v : Walk) (e : Event) → w.phase ≡ going → Within n w → Keeps w v → step T tokens w ≡ asks e v
        → Ended (ends number (n + 1) (in_phase waiting (writing e v)))
    unfolding ends writing earlier with_earlier with_events Walk.opened Events.wrote
    waited n number w v e g d keeps s =
        let b : length w.returns ≤ 64 = rw (← d) at (kept-after (k + n)).returns in
        let r = all64 v.returns (keeps.returns b) in
        let a = append_assoc es w.io.events (e ∷ []) in
        waits (k + n) (with_earlier es w) (with_earlier es v) e (sym d) g (step-earlier es T tokens w ∙ ap (earlier es) s)
        (rw keeps.events (sym a)) (omega arith) (λ i. with_returns (r i) (in_phase waiting (with_events [] v)))

    if-ended : (b : ℕ) (m : Mode) (n : ℕ) (t : Bool) (x y : Turn) → Ended (resume T tokens b m n x) → Ended (resume T tokens b m n y)
        → Ended (resume T tokens b m n (if t then x else y))
    if-ended b m n true x y p q = p
    if-ended b m n false x y p q = q

    -- where the rest of a call leads after n steps and one more
    abbrev Rest : ℕ → Mode → ℕ → Type 0
    Rest b m n = (room : ℕ) (v : Walk) → v.phase ≡ going → Within (n + 1) v → Ended (run T tokens b m room (n + 1) v)

    takes-ended : (b : ℕ) (m : Mode) (n : ℕ) → Rest b m n → (o : Option ℕ) (room : ℕ) (w : Walk) (e : Event) (v : Walk) → Moved (k + (n + 1))
        → after (k + (n + 1)) ≡ taking o e (with_earlier es v) (with_earlier es w) → Ended (resume T tokens b m n (takes o room n w e v))
    unfolding takes taking resume ends_for with_earlier with_events Walk.opened Events.answered
    takes-ended b m n rest none room w e v mv d = rested _ (n + 1) (in_phase (stopped unanswered) w) (λ p. waiting-stopped p refl) (sym d) mv
    takes-ended b m n rest (some x) room w e v mv d =
        rest (room - 3) (with_answer x (writing e v)) refl (ap (with_answer x) (writing-earlier es e v) ∙ sym d)

    -- a whole call takes the answer after as many as there are choice operations in all events
    takes-next : (given : List ℕ) → Given (whole given) → (n : ℕ) (w : Walk) → Within n w
        → answer given w.io ≡ get_elem? answers (choices (es ++ w.io.events))
    unfolding Given answer with_earlier with_events with_io
    takes-next given (a, l) n w d =
        let u : w.io.used ≡ min (choices (es ++ w.io.events)) (2 ^ 64 - 1) = rw (← d) at (kept-after (k + n)).used in
        rw (a, u) (used-enough answers (choices (es ++ w.io.events)) l)

    hands_out-ended : (b : ℕ) (m : Mode) (n : ℕ) → Rest b m n → Given m → (room : ℕ) (w : Walk) (e : Event) (v : Walk)
        → w.phase ≡ going → Within n w → Keeps w v → step T tokens w ≡ asks e v → Ended (resume T tokens b m n (hands_out m room n w e v))
    unfolding hands_out done earlier resume with_earlier with_events Walk.opened
    hands_out-ended b (whole given) n rest gm room w e v g d keeps s =
        takes-ended b (whole given) n rest (answer given w.io) room w e v (moved_on n w g d)
        (next-within n w (asks e v) g d s ∙ ap (λ o. taking o e (with_earlier es v) (with_earlier es w)) (sym (takes-next given gm n w d)))
    hands_out-ended b (paused x) n rest gm room w e v g d keeps s = waited n Call.waits w v e g d keeps s

    turn-ended : (b : ℕ) (m : Mode) (n : ℕ) → Rest b m n → Given m → (room : ℕ) (w : Walk) {nx : Next} → After w nx
        → w.phase ≡ going → Within n w → step T tokens w ≡ nx → Ended (resume T tokens b m n (turn m room n w nx))
    unfolding turn resume done earlier ends ends_for with_earlier with_events Walk.opened writing
    turn-ended b m n rest gm room w after-outside g d s =
        let r = within64 n w d in
        left refl (ap (λ x. x.phase) (sym d) ∙ g) (ap (step T tokens) (sym d) ∙ step-earlier es T tokens w ∙ ap (earlier es) s)
        ((λ i. with_returns (r i) (in_phase (stopped outside) (with_earlier es w))) ∙ ap (in_phase (stopped outside)) d)
    turn-ended b m n rest gm room w (after_stop r o) g d s =
        rested (reason_number r) (n + 1) (in_phase (stopped r) w) (λ p. waiting-stopped p refl) (sym (next-within n w (stops r) g d s)) (moved_on n w g d)
    turn-ended b m n rest gm room w (after-goes v keeps) g d s = rest room v (keeps.phase ∙ g) (sym (next-within n w (goes v) g d s))
    turn-ended b m n rest gm room w (after-tells e v c keeps) g d s =
        if-ended b m n (ltb room 3) (over (ends 35 n w)) (further (room - 3) (writing e v)) (paused-at 35 n w g d)
        (rest (room - 3) (writing e v) (keeps.phase ∙ g) (writing-earlier es e v ∙ sym (next-within n w (tells e v) g d s)))
    turn-ended b m n rest gm room w (after-asks e v c past keeps) g d s =
        if-ended b m n (ltb room 3) (over (ends 35 n w)) (hands_out m room n w e v) (paused-at 35 n w g d)
        (hands_out-ended b m n rest gm room w e v g d keeps s)

    run-ended : (b : ℕ) (m : Mode) → Given m → (room n : ℕ) (w : Walk) → w.phase ≡ going → Within n w → Ended (run T tokens b m room n w)
    unfolding run
    run-ended zero m gm room n w g d = paused-at 36 n w g d
    run-ended (suc b) m gm room n w g d =
        rw (run-resume T tokens b m room n w)
        (turn-ended b m n (λ room v. run-ended b m gm room (n + 1) v) gm room w (step_after T tokens w) g d refl)

  -- A list of calls

  -- a refused call
  refused : (w : Walk) (es : List Event) (n : ℕ) → Where w es n → Where w (es ++ []) (n + 0)
  refused w es n h = let e : n + 0 ≡ n = omega arith in rw (append-nil es, e) h

  -- a walk as the next call begins with it
  begun : (w : Walk) (es : List Event) (n : ℕ) → with_events es w ≡ after n → Within es n 0 (at_rest w)
  unfolding with_earlier with_events Walk.opened
  begun w es n d =
      let b : length w.returns ≤ 64 = rw (← d) at (kept-after n).returns in
      let r = all64 w.returns b in
      let z : n + 0 ≡ n = omega arith in
      rw (append-nil es, z, r) d

  -- a call of a walk that goes on
  goes_on : (budget : ℕ) (m : Mode) → Given m → (room : ℕ) (w : Walk) (es : List Event) (n : ℕ) → w.phase ≡ going → Where w es n
      → Ended es n (run T tokens budget m room 0 (at_rest w))
  unfolding Walk.opened
  goes_on budget m gm room w es n g (lives p d mv) = run-ended es n budget m gm room 0 (at_rest w) g (begun w es n d)
  goes_on budget m gm room w es n g (left p q s d) = absurd (going-stopped g p)
  goes_on budget m gm room w es n g (waits k v v' e a p s x y d) = absurd (going-waiting g (ap (λ u. u.phase) d))

  -- a call of a walk that has stopped
  repeats : (w : Walk) (es : List Event) (n : ℕ) (r : Reason) → w.phase ≡ stopped r → Where w es n → Ended es n (keeps (reason_number r) w)
  repeats w es n r g h = refused w es n h

  -- an answer for a walk that waits
  answers-it : (budget room : ℕ) (w : Walk) (es : List Event) (n x : ℕ) → w.phase ≡ waiting → wanted answers es ≡ some x → Where w es n
      → Ended es n (run T tokens budget (paused none) room 0 (with_answer x (at_rest w)))
  unfolding with_earlier with_events Given taking writing Walk.opened Events.wrote Events.answered
  answers-it budget room w es n x g o (lives p d mv) = absurd (p g)
  answers-it budget room w es n x g o (left p q s d) = absurd (waiting-stopped g p)
  answers-it budget room w es n x g o (waits k v v' e a p s q y d) =
      let keeps = (step-asked T tokens v v' e s).keeps in
      let b : length v.returns ≤ 64 = rw a at (kept-after k).returns in
      let r = all64 v'.returns (keeps.returns b) in
      let f : es ++ [] ≡ v'.io.events ++ (e ∷ []) = append-nil es ∙ q ∙ ap (λ (l : List Event). l ++ (e ∷ [])) (sym keeps.events) in
      let z : n + 0 ≡ suc k = omega arith in
      let m : after (suc k) ≡ with_answer x (writing e v') = asked-next k v v' e es a p s q ∙ ap (λ u. taking u e v' v) o in
      run-ended es n budget (paused none) tt room 0 (with_answer x (at_rest w)) refl
      (rw (z, m, d) (λ i. with_returns (r i) (with_events (f i) (with_answer x (writing e v')))))

  in-phase : (ph : Phase) (m : Mode) (budget room : ℕ) (w : Walk) (es : List Event) (n : ℕ) → w.phase ≡ ph
      → Allowed answers m ph es → Where w es n → Ended es n (call_in T tokens ph m budget room w)
  unfolding call_in Allowed Given
  in-phase going (whole given) budget room w es n g a h = goes_on budget (whole given) a room w es n g h
  in-phase going (paused none) budget room w es n g a h = goes_on budget (paused none) tt room w es n g h
  in-phase going (paused (some x)) budget room w es n g a h = refused w es n h
  in-phase waiting (whole given) budget room w es n g a h = refused w es n h
  in-phase waiting (paused none) budget room w es n g a h = refused w es n h
  in-phase waiting (paused (some x)) budget room w es n g a h = answers-it budget room w es n x g a h
  in-phase (stopped r) (whole given) budget room w es n g a h = repeats w es n r g h
  in-phase (stopped r) (paused none) budget room w es n g a h = repeats w es n r g h
  in-phase (stopped r) (paused (some x)) budget room w es n g a h = refused w es n h

  -- the first walk of the list, its events before included, is s₀
  pub listed-from : {w₀ : Walk} {es₀ : List Event} {w : Walk} {es : List Event} {n : ℕ} {ns : List ℕ} → (w₀.phase ≡ waiting → ⊥) → with_events es₀ w₀ ≡ s₀
      → ListedFrom T tokens answers w₀ es₀ w es n ns → Where w es n
  unfolding call_walk runs
  listed-from p e begin = lives p e (λ m d. absurd (omega arith))
  listed-from p e (then_call {w = w} {es = es} {n = n} l m budget room a) = in-phase w.phase m budget room w es n refl a (listed-from p e l)

  -- a list that begins with a walk that waits, for the answer x, has done nothing yet, or has taken it: s₀ is the walk with the answer
  pub data Awaits (w₀ : Walk) (es₀ : List Event) (w : Walk) (es : List Event) (n : ℕ) : Type 0 where
    still : w ≡ w₀ → es ≡ es₀ → n ≡ 0 → Awaits w₀ es₀ w es n
    answered : Where w es n → Awaits w₀ es₀ w es n

  -- the call that brings the answer
  brings : (w₀ : Walk) (es₀ : List Event) (x budget room : ℕ) → with_events es₀ (with_answer x w₀) ≡ s₀ → Ended es₀ 0 (run T tokens budget (paused none) room 0 (with_answer x (at_rest w₀)))
  unfolding runs with_earlier with_events Given Walk.opened Events.answered
  brings w₀ es₀ x budget room e =
      let b : length w₀.returns ≤ 64 = rw (← e) at kept₀.returns in
      let r = all64 w₀.returns b in
      run-ended es₀ 0 budget (paused none) tt room 0 (with_answer x (at_rest w₀)) refl (rw (append-nil es₀, r) e)

  waits_in : (w₀ : Walk) (es₀ : List Event) (x : ℕ) → w₀.phase ≡ waiting → wanted answers es₀ ≡ some x → with_events es₀ (with_answer x w₀) ≡ s₀ → (ph : Phase) → ph ≡ waiting → (m : Mode) (budget room : ℕ)
      → Allowed answers m ph es₀ → (c : Called) → c ≡ call_in T tokens ph m budget room w₀ → Awaits w₀ es₀ c.walk (es₀ ++ c.events) (0 + c.steps)
  unfolding call_in Allowed
  waits_in w₀ es₀ x p o e going q m budget room a c d = absurd (going-waiting refl q)
  waits_in w₀ es₀ x p o e (stopped r) q m budget room a c d = absurd (waiting-stopped q refl)
  waits_in w₀ es₀ x p o e waiting q (whole given) budget room a c d = rw d (still refl (append-nil es₀) refl)
  waits_in w₀ es₀ x p o e waiting q (paused none) budget room a c d = rw d (still refl (append-nil es₀) refl)
  waits_in w₀ es₀ x p o e waiting q (paused (some y)) budget room a c d =
      let z : x ≡ y = same_answer (sym o ∙ a) in
      answered (rw (d, ← z) (brings w₀ es₀ x budget room e))
    where
      same_answer : some x ≡ some y → x ≡ y
      same_answer h = cc

  pub listed-awaits : {w₀ : Walk} {es₀ : List Event} (x : ℕ) {w : Walk} {es : List Event} {n : ℕ} {ns : List ℕ} → w₀.phase ≡ waiting → wanted answers es₀ ≡ some x
      → with_events es₀ (with_answer x w₀) ≡ s₀ → ListedFrom T tokens answers w₀ es₀ w es n ns → Awaits w₀ es₀ w es n
  unfolding call_walk
  listed-awaits x p o e begin = still refl refl refl
  listed-awaits {w₀} {es₀} x p o e (then_call {w = w} {es = es} {n = n} l m budget room a) = go (listed-awaits x p o e l)
    where
      go : Awaits w₀ es₀ w es n → Awaits w₀ es₀ (call_walk T tokens m budget room w).walk (es ++ (call_walk T tokens m budget room w).events) (n + (call_walk T tokens m budget room w).steps)
      go (answered h) = answered (in-phase w.phase m budget room w es n refl a h)
      go (still d f g) = rw (d, f, g) (waits_in w₀ es₀ x p o e w₀.phase p m budget room (rw (d, f) at a) (call_walk T tokens m budget room w₀) refl)

pub kept_fresh : (allowance : ℕ) → Kept (fresh allowance)
unfolding fresh choices
kept_fresh allowance = record { used = refl; returns = omega arith }

pub listed-where : (T tokens answers : List ℕ) (allowance : ℕ) {w : Walk} {es : List Event} {n : ℕ} {ns : List ℕ} → Listed T tokens answers allowance w es n ns
    → Where T tokens answers (fresh allowance) (kept_fresh allowance) w es n
unfolding fresh with_events with_io
listed-where T tokens answers allowance l = listed-from T tokens answers (fresh allowance) (kept_fresh allowance) (going-waiting refl) refl l

module _ (T tokens answers : List ℕ) where
  -- 37

  outside-37 : (r : Reason) → reason_number r ≡ 37 → r ≡ outside
  unfolding reason_number
  outside-37 finished e = absurd (omega arith)
  outside-37 differs e = absurd (omega arith)
  outside-37 missing e = absurd (omega arith)
  outside-37 unlabelled e = absurd (omega arith)
  outside-37 deep e = absurd (omega arith)
  outside-37 unanswered e = absurd (omega arith)
  outside-37 outside e = refl

  -- a call that answers 37 gives back a walk that has stopped for it
  abbrev Says : Called → Type 0
  Says c = c.number ≡ 37 → c.walk.phase ≡ stopped outside

  ended-37 : (r : Reason) (n : ℕ) (w : Walk) → Says (ends_for r n w)
  unfolding ends_for ends Walk.opened
  ended-37 r n w e = ap stopped (outside-37 r e)

  if-37 : (b : ℕ) (m : Mode) (n : ℕ) (t : Bool) (x y : Turn) → Says (resume T tokens b m n x) → Says (resume T tokens b m n y)
      → Says (resume T tokens b m n (if t then x else y))
  if-37 b m n true x y p q = p
  if-37 b m n false x y p q = q

  module _ (b : ℕ) (n : ℕ) where
    takes-37 : (m : Mode) (o : Option ℕ) (room : ℕ) (w : Walk) (e : Event) (v : Walk)
        → ((room : ℕ) (v : Walk) → Says (run T tokens b m room (n + 1) v)) → Says (resume T tokens b m n (takes o room n w e v))
    unfolding takes resume
    takes-37 m none room w e v rest = ended-37 unanswered (n + 1) w
    takes-37 m (some x) room w e v rest = rest (room - 3) (with_answer x (writing e v))

    hands_out-37 : (m : Mode) (room : ℕ) (w : Walk) (e : Event) (v : Walk)
        → ((room : ℕ) (v : Walk) → Says (run T tokens b m room (n + 1) v)) → Says (resume T tokens b m n (hands_out m room n w e v))
    unfolding hands_out resume ends
    hands_out-37 (whole given) room w e v rest = takes-37 (whole given) (answer given w.io) room w e v rest
    hands_out-37 (paused x) room w e v rest = λ z. absurd (omega arith)

    turn-37 : (m : Mode) (room : ℕ) (w : Walk) (nx : Next)
        → ((room : ℕ) (v : Walk) → Says (run T tokens b m room (n + 1) v)) → Says (resume T tokens b m n (turn m room n w nx))
    unfolding turn resume ends
    turn-37 m room w goes_outside rest = ended-37 outside n w
    turn-37 m room w (stops r) rest = ended-37 r (n + 1) w
    turn-37 m room w (goes v) rest = rest room v
    turn-37 m room w (tells e v) rest =
        if-37 b m n (ltb room 3) (over (ends 35 n w)) (further (room - 3) (writing e v)) (λ z. absurd (omega arith))
        (rest (room - 3) (writing e v))
    turn-37 m room w (asks e v) rest =
        if-37 b m n (ltb room 3) (over (ends 35 n w)) (hands_out m room n w e v) (λ z. absurd (omega arith)) (hands_out-37 m room w e v rest)

  run-37 : (b : ℕ) (m : Mode) (room n : ℕ) (w : Walk) → Says (run T tokens b m room n w)
  unfolding run ends
  run-37 zero m room n w = λ z. absurd (omega arith)
  run-37 (suc b) m room n w =
      rw (run-resume T tokens b m room n w) (turn-37 b n m room w (step T tokens w) (λ room v. run-37 b m room (n + 1) v))

  in-phase-37 : (ph : Phase) (m : Mode) (budget room : ℕ) (w : Walk) → w.phase ≡ ph → Says (call_in T tokens ph m budget room w)
  unfolding call_in ends Walk.opened
  in-phase-37 going (whole given) budget room w g = run-37 budget (whole given) room 0 (at_rest w)
  in-phase-37 going (paused none) budget room w g = run-37 budget (paused none) room 0 (at_rest w)
  in-phase-37 going (paused (some x)) budget room w g = λ z. absurd (omega arith)
  in-phase-37 waiting (whole given) budget room w g = λ z. absurd (omega arith)
  in-phase-37 waiting (paused none) budget room w g = λ z. absurd (omega arith)
  in-phase-37 waiting (paused (some x)) budget room w g = run-37 budget (paused none) room 0 (with_answer x (at_rest w))
  in-phase-37 (stopped r) (whole given) budget room w g = λ z. g ∙ ap stopped (outside-37 r z)
  in-phase-37 (stopped r) (paused none) budget room w g = λ z. g ∙ ap stopped (outside-37 r z)
  in-phase-37 (stopped r) (paused (some x)) budget room w g = λ z. absurd (omega arith)

  pub number-37 : {w₀ : Walk} {es₀ : List Event} {w : Walk} {es : List Event} {n number : ℕ} {ns : List ℕ} → ListedFrom T tokens answers w₀ es₀ w es n (number ∷ ns) → number ≡ 37
      → w.phase ≡ stopped outside
  unfolding call_walk
  number-37 (then_call {w = w} l m budget room a) z = in-phase-37 w.phase m budget room w refl z
