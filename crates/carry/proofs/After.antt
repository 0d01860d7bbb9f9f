-- Lists of calls that begin with a walk at whose place the rules' own walk stands: what demand 3 says of them.
use mathlib.Core.Path.{◌≡◌, refl, sym, ap, ◌∙◌}
use mathlib.Core.Logic.{◌⊎◌, inl, inr}
use mathlib.Core.Option.{Option, none, some}
use mathlib.Core.List.{List, [], ◌∷◌, ◌++◌, append-nil}
use Prim.Native.Nat.{ℕ, zero, suc, ◌+◌, ◌*◌, ◌≤◌, ◌<◌}
use native.Mathlib.Decide.{dec_lt}
use native.Mathlib.Nat.{suc-add, zero-add}
use native.Mathlib.Omega.{arith}
use lib.ListN.{length}
use Rattle.agreement.proofs.Agree.{Same, same-events, same-stopped, stopped-same, never-outside, near, near_same, all, ahead}
use Rattle.agreement.proofs.Laid.{program-laid}
use Rattle.agreement.proofs.Lists.{with_events, step-asked, going-stopped, going-waiting, waiting-stopped, Kept, runs-suc, one-going, Where, lives, left, waits, listed-from, Awaits, still, answered, listed-awaits, number-37}
use Rattle.agreement.proofs.MoreAnswers.{one_more, alike_from}
use Rattle.agreement.proofs.Single.{taking, done, one, runs}
use Rattle.agreement.proofs.Theorem.{later}
use Rattle.agreement.specs.Demand.{events_of, wanted, Allowed, ListedFrom, begin, then_call, HasStopped}
use Rattle.carry.proofs.Found.{Spot}
use Rattle.carry.proofs.Lists.{none-some}
use Rattle.carry.specs.GoingOn.{StopsFrom, WritesFrom, EndsBy, Follows, after}
use Rattle.carry.specs.Places.{Within, at_start, behind_value, behind_parameter, at_default, behind_repair}
use Rattle.events.specs.Events as events
use Rattle.events.specs.Events.{Event, Reason, outside, choices, Io}
use Rattle.machine.specs.Call.{Mode, whole, paused, Called, writing, call_in, call_walk}
use Rattle.machine.specs.Step.{Next, goes_outside, exec, step}
use Rattle.machine.specs.Walk
use Rattle.machine.specs.Walk.{Phase, going, waiting, stopped, Walk, with_io, in_phase, with_answer}
use Rattle.ownwalk.specs.OwnWalk as rules
use Rattle.ownwalk.specs.OwnWalk.{Own, owns}
use Rattle.program.specs.Accepted.{Accepted}
use Rattle.program.specs.Program.{Rule}
use Rattle.program.specs.Table.{place, table}

-- in the middle of a step of the rules no answer is asked for

pub record Steps (T tokens : List ℕ) (at w : Walk) : Type 0 where
  pub count : ℕ
  pub leads : (answers : List ℕ) → runs T tokens answers count at ≡ w

pub within-steps : {T tokens : List ℕ} {at w : Walk} → Within T tokens at w → at.phase ≡ going → Steps T tokens at w
unfolding runs done step exec
within-steps at_start g = record { count = 0; leads = λ answers. refl }
within-steps {T} {tokens} {at} (behind_value v d) g = record { count = 1; leads = λ answers. one-going T tokens answers at g ∙ rw d }
within-steps {T} {tokens} {at} (behind_parameter v d) g = record { count = 1; leads = λ answers. one-going T tokens answers at g ∙ rw d }
within-steps {T} {tokens} {at} (at_default {w = w} d e) g =
    record { count = 1; leads = λ answers. one-going T tokens answers at g ∙ ap (λ (nx : Next). done T tokens answers nx at) e }
within-steps {T} {tokens} {at} (behind_repair {w = w} t d e g₂ f) g =
    record {
      count = 2;
      leads = λ answers. ap (one T tokens answers) (one-going T tokens answers at g ∙ ap (λ (nx : Next). done T tokens answers nx at) e)
          ∙ one-going T tokens answers w g₂ ∙ ap (λ (nx : Next). done T tokens answers nx w) f;
    }

pub runs-add : (T tokens answers : List ℕ) (k n : ℕ) (w : Walk) → runs T tokens answers n (runs T tokens answers k w) ≡ runs T tokens answers (k + n) w
unfolding runs
runs-add T tokens answers zero n w = rw (zero-add n)
runs-add T tokens answers (suc k) n w = rw (suc-add k n) (runs-add T tokens answers k n (one T tokens answers w))

-- From a walk at whose place the rules stand

module _ (prog : List Rule) (more tokens : List ℕ) (ok : Accepted prog) (w₁ : Walk) (spot : Spot prog (table prog ++ more) tokens w₁) where
  abbrev T : List ℕ
  T = table prog ++ more

  abbrev s : Own
  s = spot.own

  -- after any number of instructions both have read and written the same, and have stopped for the same reason or not
  pub same_after : (answers : List ℕ) (n : ℕ) → (j : ℕ) × Same (owns prog tokens answers j s) (runs T tokens answers n w₁)
  same_after answers n =
      let b = within-steps spot.within spot.goes_on in
      let laid = program-laid prog more ok in
      let r = all T (place 1 prog) prog tokens answers laid (b.count + n) s spot.at (near spot.related) in
      let e : runs T tokens answers (b.count + n) spot.at ≡ runs T tokens answers n w₁ = sym (runs-add T tokens answers b.count n spot.at) ∙ ap (runs T tokens answers n) (b.leads answers) in
      (r.0, rw e at (near_same T (place 1 prog) prog tokens answers laid r.1))

  -- where the rules have stopped after j steps, the walk has after three times as many instructions
  pub stop-after : (answers : List ℕ) (j : ℕ) (r : Reason) (io : Io) → owns prog tokens answers j s ≡ rules.stopped r io → (n : ℕ) → 3 * j ≤ n → (runs T tokens answers n w₁).phase ≡ stopped r
  stop-after answers j r io e n h =
      let b = within-steps spot.within spot.goes_on in
      let laid = program-laid prog more ok in
      let x = ahead T (place 1 prog) prog tokens answers laid j s spot.at spot.related in
      let y = stopped-same (near_same T (place 1 prog) prog tokens answers laid (near x.2)) e in
      let z = later T tokens answers x.0 (b.count + n) spot.at r (omega (arith, x.1)) y in
      let f : runs T tokens answers (b.count + n) spot.at ≡ runs T tokens answers n w₁ = sym (runs-add T tokens answers b.count n spot.at) ∙ ap (runs T tokens answers n) (b.leads answers) in
      ap (λ (v : Walk). v.phase) (sym f) ∙ z

  module _ (answers : List ℕ) (kept₁ : Kept w₁) (few : choices w₁.io.events ≤ length answers) where
    abbrev Led : Walk → List Event → ℕ → Type 0
    Led = Where T tokens answers w₁ kept₁

    no-way-out : {A : Type 0} (k : ℕ) → (runs T tokens answers k w₁).phase ≡ going → step T tokens (runs T tokens answers k w₁) ≡ goes_outside → A
    unfolding done in_phase
    no-way-out k h e =
        let x = same_after answers (suc k) in
        let w = runs T tokens answers k w₁ in
        let y : runs T tokens answers (suc k) w₁ ≡ done T tokens answers goes_outside w =
        runs-suc T tokens answers k w₁ ∙ one-going T tokens answers w h ∙ ap (λ (nx : Next). done T tokens answers nx w) e in
        absurd (never-outside x.1 (ap (λ (v : Walk). v.phase) y))

    led-events : {w : Walk} {es : List Event} {n : ℕ} → Led w es n → (w.phase ≡ waiting → ⊥) → WritesFrom prog tokens answers s es
    unfolding with_events with_io
    led-events {w} {es} {n} (lives x d mv) h =
        let y = same_after answers n in
        record { steps = y.0; begins = record { rest = []; whole = same-events y.1 ∙ ap (λ (v : Walk). v.io.events) (sym d) ∙ sym (append-nil es) } }
    led-events (left x y z d) h = no-way-out _ y z
    led-events (waits k v v' e d y z r m t) h = absurd (h (ap (λ (u : Walk). u.phase) t ∙ unfold in_phase in refl))

    led-waiting : {w : Walk} {es : List Event} {n : ℕ} → Led w es n → w.phase ≡ waiting → (x : ℕ) → WritesFrom prog tokens (answers ++ (x ∷ [])) s es
    unfolding done taking writing Walk.opened events.wrote events.answered
    led-waiting (lives p e mv) h x = absurd (p h)
    led-waiting (left p g z e) h x = no-way-out _ g z
    led-waiting {es = es} (waits k v v' e d g z q m e₁) h x =
        let g₁ : (runs T tokens answers k w₁).phase ≡ going = ap (λ (u : Walk). u.phase) d ∙ g in
        let a = alike_from T tokens answers x w₁ few k g₁ in
        let y = one_more answers x (choices v.io.events) (rw d at a.taken) in
        let f = step-asked T tokens v v' e z in
        let r : runs T tokens (answers ++ (x ∷ [])) (suc k) w₁ ≡ with_answer y.0 (writing e v') =
        runs-suc T tokens (answers ++ (x ∷ [])) k w₁ ∙ ap (one T tokens (answers ++ (x ∷ []))) (a.same ∙ d)
        ∙ one-going T tokens (answers ++ (x ∷ [])) v g ∙ ap (λ (nx : Next). done T tokens (answers ++ (x ∷ [])) nx v) z
        ∙ ap (λ (o : Option ℕ). taking o e v' v) y.1 in
        let b = same_after (answers ++ (x ∷ [])) (suc k) in
        let t : v'.io.events ++ (e ∷ []) ≡ es = ap (λ (l : List Event). l ++ (e ∷ [])) f.keeps.events ∙ sym q in
        record { steps = b.0; begins = record { rest = []; whole = same-events b.1 ∙ ap (λ (u : Walk). u.io.events) r ∙ t ∙ sym (append-nil es) } }

    led-outside : {w : Walk} {es : List Event} {n : ℕ} → Led w es n → w.phase ≡ stopped outside → ⊥
    unfolding with_events with_io
    led-outside {n = n} (lives x d mv) h = never-outside (same_after answers n).1 (ap (λ (v : Walk). v.phase) (sym d) ∙ h)
    led-outside (left x y z d) h = no-way-out _ y z
    led-outside (waits k v v' e d y z r m t) h = waiting-stopped (ap (λ (u : Walk). u.phase) t ∙ unfold in_phase in refl) h

    led-stops : {w : Walk} {es : List Event} {n : ℕ} {r : Reason} → Led w es n → w.phase ≡ stopped r
        → StopsFrom prog tokens answers s r (record { read = w.io.read; used = w.io.used; allowance = w.io.allowance; events = es })
    unfolding with_events with_io in_phase
    led-stops {w} {es} {n} {r} (lives x d mv) h =
        let y = same_after answers n in
        record { steps = y.0; stop = same-stopped y.1 (ap (λ (v : Walk). v.phase) (sym d) ∙ h) ∙ ap (λ (v : Walk). rules.stopped r v.io) (sym d) }
    led-stops (left x y z d) h = no-way-out _ y z
    led-stops (waits k v v' e d y z r m t) h = absurd (waiting-stopped (ap (λ (u : Walk). u.phase) t) h)

    -- once single steps have stopped, every longer list has
    led-ends : (k b : ℕ) (r : Reason) → k < b → ((n : ℕ) → k ≤ n → (runs T tokens answers n w₁).phase ≡ stopped r) → {w : Walk} {es : List Event} {n : ℕ} → Led w es n → HasStopped w ⊎ (n < b)
    unfolding with_events with_io
    led-ends k b r h f {n = n} l = elim (dec_lt n b) [ yes y ↦ inr y | no y ↦ inl (go l (omega arith)) ]
      where
        go : {w : Walk} {es : List Event} {n : ℕ} → Led w es n → k < n → HasStopped w
        go {n = n} (lives x d mv) m = record { reason = r; stop = ap (λ (v : Walk). v.phase) d ∙ f n (omega arith) }
        go (left x y z d) m = record { reason = outside; stop = x }
        go (waits i v v' e d y z t u t₁) m = absurd (going-stopped y (ap (λ (v : Walk). v.phase) (sym d) ∙ f i (omega arith)))

    -- where the rules stop, a budget
    led-budget : (j : ℕ) (r : Reason) (io : Io) → owns prog tokens answers j s ≡ rules.stopped r io → (b : ℕ) → 3 * j < b → {w : Walk} {es : List Event} {n : ℕ} → Led w es n → HasStopped w ⊎ (n < b)
    led-budget j r io e b h l = led-ends (3 * j) b r h (λ n m. stop-after answers j r io e n m) l

    -- A list that begins with the walk itself

    module _ (w₀ : Walk) (es₀ : List Event) (g : w₀.phase ≡ going) (is : with_events es₀ w₀ ≡ w₁) where
      from-going : {w : Walk} {es : List Event} {n : ℕ} {ns : List ℕ} → ListedFrom T tokens answers w₀ es₀ w es n ns → Led w es n
      from-going l = listed-from T tokens answers w₁ kept₁ (going-waiting g) is l

      pub follows-going : Follows prog T tokens answers s w₀ es₀
      follows-going = record {
        events = λ l h. led-events (from-going l) h;
        events_waiting = λ l h x. led-waiting (from-going l) h x;
        never_37 = λ l e. led-outside (from-going l) (number-37 T tokens answers l e);
        stops = λ l h. led-stops (from-going l) h;
        budget = λ {r} {io} f. (3 * f.steps + 1, λ w es n ns l. led-budget f.steps r io f.stop (3 * f.steps + 1) (omega arith) (from-going l));
      }

      pub ends-going : (k b : ℕ) (r : Reason) → k < b → ((n : ℕ) → k ≤ n → (runs T tokens answers n w₁).phase ≡ stopped r) → EndsBy T tokens answers w₀ es₀ b
      ends-going k b r h f w es n ns l = led-ends k b r h f (from-going l)

    -- A list that begins with a walk that waits: w₁ is that walk with its answer

    module _ (w₀ : Walk) (es₀ : List Event) (x₀ : ℕ) (g : w₀.phase ≡ waiting) (o : wanted answers es₀ ≡ some x₀) (is : with_events es₀ (with_answer x₀ w₀) ≡ w₁) where
      from-waiting : {w : Walk} {es : List Event} {n : ℕ} {ns : List ℕ} → ListedFrom T tokens answers w₀ es₀ w es n ns → Awaits T tokens answers w₁ kept₁ w₀ es₀ w es n
      from-waiting l = listed-awaits T tokens answers w₁ kept₁ x₀ g o is l

      still-waits : {w : Walk} → w ≡ w₀ → w.phase ≡ waiting
      still-waits d = ap (λ (v : Walk). v.phase) d ∙ g

      events₀ : w₁.io.events ≡ es₀
      unfolding with_events Walk.opened
      events₀ = ap (λ (v : Walk). v.io.events) (sym is)

      w-events : {w : Walk} {es : List Event} {n : ℕ} → Awaits T tokens answers w₁ kept₁ w₀ es₀ w es n → (w.phase ≡ waiting → ⊥) → WritesFrom prog tokens answers s es
      w-events (still d e f) h = absurd (h (still-waits d))
      w-events (answered l) h = led-events l h

      w-waiting : {w : Walk} {es : List Event} {n : ℕ} → Awaits T tokens answers w₁ kept₁ w₀ es₀ w es n → w.phase ≡ waiting → (x : ℕ) → WritesFrom prog tokens (answers ++ (x ∷ [])) s es
      unfolding runs
      w-waiting {es = es} (still d e f) h x =
          let y = same_after (answers ++ (x ∷ [])) 0 in
          record { steps = y.0; begins = record { rest = []; whole = same-events y.1 ∙ events₀ ∙ sym e ∙ sym (append-nil es) } }
      w-waiting (answered l) h x = led-waiting l h x

      w-outside : {w : Walk} {es : List Event} {n : ℕ} → Awaits T tokens answers w₁ kept₁ w₀ es₀ w es n → w.phase ≡ stopped outside → ⊥
      w-outside (still d e f) h = waiting-stopped (still-waits d) h
      w-outside (answered l) h = led-outside l h

      w-stops : {w : Walk} {es : List Event} {n : ℕ} {r : Reason} → Awaits T tokens answers w₁ kept₁ w₀ es₀ w es n → w.phase ≡ stopped r
          → StopsFrom prog tokens answers s r (record { read = w.io.read; used = w.io.used; allowance = w.io.allowance; events = es })
      w-stops (still d e f) h = absurd (waiting-stopped (still-waits d) h)
      w-stops (answered l) h = led-stops l h

      w-ends : (k b : ℕ) (r : Reason) → k < b → ((n : ℕ) → k ≤ n → (runs T tokens answers n w₁).phase ≡ stopped r) → {w : Walk} {es : List Event} {n : ℕ}
          → Awaits T tokens answers w₁ kept₁ w₀ es₀ w es n → HasStopped w ⊎ (n < b)
      w-ends k b r h f (still d e z) = inr (omega arith)
      w-ends k b r h f (answered l) = led-ends k b r h f l

      pub follows-waiting : Follows prog T tokens answers s w₀ es₀
      follows-waiting = record {
        events = λ l h. w-events (from-waiting l) h;
        events_waiting = λ l h x. w-waiting (from-waiting l) h x;
        never_37 = λ l e. w-outside (from-waiting l) (number-37 T tokens answers l e);
        stops = λ l h. w-stops (from-waiting l) h;
        budget = λ {r} {io} f. (3 * f.steps + 1, λ w es n ns l. w-ends (3 * f.steps) (3 * f.steps + 1) r (omega arith) (λ m h. stop-after answers f.steps r io f.stop m h) (from-waiting l));
      }

      pub ends-waiting : (k b : ℕ) (r : Reason) → k < b → ((n : ℕ) → k ≤ n → (runs T tokens answers n w₁).phase ≡ stopped r) → EndsBy T tokens answers w₀ es₀ b
      ends-waiting k b r h f w es n ns l = w-ends k b r h f (from-waiting l)

-- A list that begins with a walk that has stopped

-- every call leaves it as it is
pub record Stays (w₀ : Walk) (es₀ : List Event) (w : Walk) (es : List Event) (n : ℕ) : Type 0 where
  pub walk : w ≡ w₀
  pub events : es ≡ es₀
  pub steps : n ≡ 0

module _ (T tokens answers : List ℕ) (w₀ : Walk) (es₀ : List Event) (r₀ : Reason) (g : w₀.phase ≡ stopped r₀) where
  call_stays : (m : Mode) (budget room : ℕ) (ph : Phase) → ph ≡ stopped r₀ → (c : Called) → c ≡ call_in T tokens ph m budget room w₀ → Stays w₀ es₀ c.walk (es₀ ++ c.events) (0 + c.steps)
  unfolding call_in
  call_stays m budget room going q c d = absurd (going-stopped refl q)
  call_stays m budget room waiting q c d = absurd (waiting-stopped refl q)
  call_stays (whole given) budget room (stopped r) q c d = rw d (record { walk = refl; events = append-nil es₀; steps = refl })
  call_stays (paused none) budget room (stopped r) q c d = rw d (record { walk = refl; events = append-nil es₀; steps = refl })
  call_stays (paused (some x)) budget room (stopped r) q c d = rw d (record { walk = refl; events = append-nil es₀; steps = refl })

  pub listed-stays : {w : Walk} {es : List Event} {n : ℕ} {ns : List ℕ} → ListedFrom T tokens answers w₀ es₀ w es n ns → Stays w₀ es₀ w es n
  unfolding call_walk
  listed-stays begin = record { walk = refl; events = refl; steps = refl }
  listed-stays (then_call {w = w} {es = es} {n = n} l m budget room a) =
      let h = listed-stays l in
      rw (h.walk, h.events, h.steps) (call_stays m budget room w₀.phase g (call_walk T tokens m budget room w₀) refl)

  same-reason : {r s : Reason} → stopped r ≡ stopped s → r ≡ s
  same-reason e = cc

  pub follows-stopped : (prog : List Rule) → (r₀ ≡ outside → ⊥) → Follows prog T tokens answers (rules.stopped r₀ (after es₀ w₀).io) w₀ es₀
  unfolding owns events_of after Walk.opened
  follows-stopped prog inside = record {
    events = λ {w} {es} l h. let x = listed-stays l in record { steps = 0; begins = record { rest = []; whole = sym x.events ∙ sym (append-nil es) } };
    events_waiting = λ l h x. absurd (waiting-stopped h (ap (λ (v : Walk). v.phase) (listed-stays l).walk ∙ g));
    never_37 = λ l e. let x = listed-stays l in let y = number-37 T tokens answers l e in inside (same-reason (sym g ∙ ap (λ (v : Walk). v.phase) (sym x.walk) ∙ y));
    stops = λ {w} {es} {n} {ns} {r} l h.
        let x = listed-stays l in
        let y : r₀ ≡ r = same-reason (sym g ∙ ap (λ (v : Walk). v.phase) (sym x.walk) ∙ h) in
        record { steps = 0; stop = rw (x.walk, x.events) (ap (λ (r : Reason). rules.stopped r (after es₀ w₀).io) y) };
    budget = λ f. (1, λ w es n ns l. inl (record { reason = r₀; stop = ap (λ (v : Walk). v.phase) (listed-stays l).walk ∙ g }));
  }

  pub ends-stopped : (b : ℕ) → EndsBy T tokens answers w₀ es₀ b
  ends-stopped b w es n ns l = inl (record { reason = r₀; stop = ap (λ (v : Walk). v.phase) (listed-stays l).walk ∙ g })

-- A list that begins with a walk that waits for an answer past the last: it goes on waiting

module _ (T tokens answers : List ℕ) (w₀ : Walk) (es₀ : List Event) (g : w₀.phase ≡ waiting) (o : wanted answers es₀ ≡ none) where
  call-idle : (m : Mode) (budget room : ℕ) (ph : Phase) → ph ≡ waiting → Allowed answers m ph es₀ → (c : Called) → c ≡ call_in T tokens ph m budget room w₀ → Stays w₀ es₀ c.walk (es₀ ++ c.events) (0 + c.steps)
  unfolding call_in Allowed
  call-idle m budget room going q a c d = absurd (going-waiting refl q)
  call-idle m budget room (stopped r) q a c d = absurd (waiting-stopped q refl)
  call-idle (whole given) budget room waiting q a c d = rw d (record { walk = refl; events = append-nil es₀; steps = refl })
  call-idle (paused none) budget room waiting q a c d = rw d (record { walk = refl; events = append-nil es₀; steps = refl })
  call-idle (paused (some x)) budget room waiting q a c d = none-some (sym o ∙ a)

  stays-idle : {w : Walk} {es : List Event} {n : ℕ} {ns : List ℕ} → ListedFrom T tokens answers w₀ es₀ w es n ns → Stays w₀ es₀ w es n
  unfolding call_walk
  stays-idle begin = record { walk = refl; events = refl; steps = refl }
  stays-idle (then_call {w = w} {es = es} {n = n} l m budget room a) =
      let h = stays-idle l in
      rw (h.walk, h.events, h.steps) (call-idle m budget room w₀.phase g (rw (h.walk, h.events) at a) (call_walk T tokens m budget room w₀) refl)

  pub listed-idle : {w : Walk} {es : List Event} {n : ℕ} {ns : List ℕ} → ListedFrom T tokens answers w₀ es₀ w es n ns → n ≡ 0
  listed-idle l = (stays-idle l).steps
