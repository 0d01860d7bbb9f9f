-- `figure-carried`: 65 × Q × (n + r + 1) steps suffice for the calls after a carrying.
use mathlib.Core.Bool.{true}
use mathlib.Core.List.{List, [], ◌∷◌, ◌++◌, append-nil}
use mathlib.Core.Logic.{◌⊎◌, inl, inr}
use mathlib.Core.Option.{Option, none, some}
use mathlib.Core.Path.{◌≡◌, refl, sym, ap, ◌∙◌}
use native.Mathlib.Decide.{dec_lt}
use native.Mathlib.Nat.{le_refl}
use native.Mathlib.Omega.{arith}
use Prim.Native.Nat.{ℕ, zero, suc, ◌+◌, ◌*◌, ◌≤◌, ◌<◌}
use lib.ListN.{length}
use Rattle.acceptance.proofs.Accepts.{accepted-table}
use Rattle.agreement.proofs.Agree.{never-outside}
use Rattle.agreement.proofs.BoundWalk.{budget}
use Rattle.agreement.proofs.Lists.{with_events, Kept, runs-suc, one-going, Where, lives, left, waits, listed-from, Awaits, still, answered, listed-awaits, going-stopped, going-waiting}
use Rattle.agreement.proofs.MoreAnswers.{one_more, alike_from}
use Rattle.agreement.proofs.Single.{taking, done, one, runs}
use Rattle.agreement.proofs.Theorem.{later}
use Rattle.agreement.specs.Demand.{wanted, Listed, ListedFrom, HasStopped}
use Rattle.carry.proofs.After.{same_after, listed-stays, ends-stopped, listed-idle}
use Rattle.carry.proofs.Carrying.{keeping, Begun, begun-going, begun-waiting, begun_more}
use Rattle.carry.proofs.Ends.{ends-after}
use Rattle.carry.proofs.Lists.{Distinct}
use Rattle.carry.proofs.Sources.{source_ok}
use Rattle.carry.specs.Carry.{Source, carried, carry, source_of}
use Rattle.events.specs.Events as events
use Rattle.events.specs.Events.{Event, Reason, outside, choices}
use Rattle.figure.proofs.Battery.{figure-exact}
use Rattle.figure.proofs.More.{same-run}
use Rattle.figure.proofs.Steps.{left as to_come}
use Rattle.figure.specs.Count.{figure}
use Rattle.figure.specs.Figure.{Reached, Bounds}
use Rattle.figure.specs.Promise.{RuleStart}
use Rattle.finishing.proofs.Exact.{finishing-sound}
use Rattle.finishing.specs.Finishing.{Finishing}
use Rattle.machine.specs.Call.{writing}
use Rattle.machine.specs.Decode.{call_rule, decode}
use Rattle.machine.specs.Step.{Next, asks, step}
use Rattle.machine.specs.Walk
use Rattle.machine.specs.Walk.{Phase, going, waiting, stopped, Walk, with_answer}
use Rattle.processor.specs.Process.{Understood, meaning}
use Rattle.program.specs.Accepted.{Accepted}
use Rattle.program.specs.Program.{Rule}
use Rattle.program.specs.Table.{table}
use Rattle.carrybound.proofs.Bound.{PlacedIn, needs}
use Rattle.carrybound.proofs.Reaching.{closed, listed-placed, placed-carried}
use Rattle.carrybound.specs.EnoughCarried.{EnoughFrom, FigureCarried}

-- Lists of calls from a walk whose single steps stop in time, with whatever answers

-- single steps stop, with at least one of them and at most b
pub record InTime (T tokens answers : List ℕ) (w : Walk) (b : ℕ) : Type 0 where
  pub steps : ℕ
  pub reason : Reason
  pub some-step : 1 ≤ steps
  pub few : steps ≤ b
  pub stop : (runs T tokens answers steps w).phase ≡ stopped reason

module _ (T tokens answers : List ℕ) (w₁ : Walk) (kept₁ : Kept w₁) (few : choices w₁.io.events ≤ length answers) (b : ℕ) (in-time : (given : List ℕ) → InTime T tokens given w₁ b) where
  abbrev Led : Walk → List Event → ℕ → Type 0
  Led = Where T tokens answers w₁ kept₁

  -- while a walk goes on, its steps are fewer
  still-going : (given : List ℕ) (n : ℕ) → (runs T tokens given n w₁).phase ≡ going → n < b
  still-going given n g = elim (dec_lt n t.steps) [
    | yes y ↦ omega (arith, t.few)
    | no y ↦ absurd (going-stopped g (later T tokens given t.steps n w₁ t.reason (omega arith) t.stop))
  ]
    where
      t : InTime T tokens given w₁ b
      t = in-time given

  -- a question: with one answer more the walk goes on behind it
  asked : (k : ℕ) (v v' : Walk) (e : Event) → runs T tokens answers k w₁ ≡ v → v.phase ≡ going → step T tokens v ≡ asks e v' → suc k < b
  unfolding done taking writing Walk.opened events.wrote events.answered
  asked k v v' e d g z =
      let g₁ : (runs T tokens answers k w₁).phase ≡ going = ap (λ (u : Walk). u.phase) d ∙ g in
      let more = answers ++ (0 ∷ []) in
      let a = alike_from T tokens answers 0 w₁ few k g₁ in
      let y = one_more answers 0 (choices v.io.events) (rw d at a.taken) in
      let r : runs T tokens more (suc k) w₁ ≡ with_answer y.0 (writing e v') =
      runs-suc T tokens more k w₁ ∙ ap (one T tokens more) (a.same ∙ d)
      ∙ one-going T tokens more v g ∙ ap (λ (nx : Next). done T tokens more nx v) z
      ∙ ap (λ (o : Option ℕ). taking o e v' v) y.1 in
      still-going more (suc k) (ap (λ (u : Walk). u.phase) r)

  pub led-suffices : {w : Walk} {es : List Event} {n : ℕ} → Led w es n → HasStopped w ⊎ (n < b)
  unfolding with_events Walk.opened
  led-suffices {w} {es} {n} (lives x d mv) = elim (dec_lt n b) [
    | yes y ↦ inr y
    | no y ↦ inl (record { reason = t.reason; stop = ap (λ (v : Walk). v.phase) d ∙ later T tokens answers t.steps n w₁ t.reason (omega (arith, t.few)) t.stop })
  ]
    where
      t : InTime T tokens answers w₁ b
      t = in-time answers
  led-suffices (left x y z d) = inl (record { reason = outside; stop = x })
  led-suffices (waits k v v' e d g z r m t) = let h = asked k v v' e d g z in inr (omega (arith, m))

  pub led-steps : {w : Walk} {es : List Event} {n : ℕ} → Led w es n → n ≤ b
  led-steps {n = n} (lives x d mv) = go n mv
    where
      go : (n : ℕ) → ((m : ℕ) → n ≡ suc m → (runs T tokens answers m w₁).phase ≡ going) → n ≤ b
      go zero f = omega arith
      go (suc m) f = still-going answers m (f m refl)
  led-steps {n = n} (left x y z d) = let h = still-going answers n y in omega arith
  led-steps (waits k v v' e d g z r m t) = let h = asked k v v' e d g z in omega (arith, m)

  some-steps : 1 ≤ b
  some-steps = let t = in-time answers in omega (arith, t.some-step, t.few)

  -- one that goes on
  pub from-going : (w₀ : Walk) (es₀ : List Event) → w₀.phase ≡ going → with_events es₀ w₀ ≡ w₁ → EnoughFrom T tokens answers w₀ es₀ b
  from-going w₀ es₀ g is =
      record { suffices = λ w es n ns l. led-suffices (led l); steps = λ w es n ns l. led-steps (led l) }
    where
      led : {w : Walk} {es : List Event} {n : ℕ} {ns : List ℕ} → ListedFrom T tokens answers w₀ es₀ w es n ns → Led w es n
      led l = listed-from T tokens answers w₁ kept₁ (going-waiting g) is l

  -- one that waits for an answer that there is
  pub from-waiting : (w₀ : Walk) (es₀ : List Event) (x : ℕ) → w₀.phase ≡ waiting → wanted answers es₀ ≡ some x → with_events es₀ (with_answer x w₀) ≡ w₁ → EnoughFrom T tokens answers w₀ es₀ b
  from-waiting w₀ es₀ x g o is =
      record { suffices = λ w es n ns l. suffices-led (awaits l); steps = λ w es n ns l. steps-led (awaits l) }
    where
      awaits : {w : Walk} {es : List Event} {n : ℕ} {ns : List ℕ} → ListedFrom T tokens answers w₀ es₀ w es n ns → Awaits T tokens answers w₁ kept₁ w₀ es₀ w es n
      awaits l = listed-awaits T tokens answers w₁ kept₁ x g o is l

      suffices-led : {w : Walk} {es : List Event} {n : ℕ} → Awaits T tokens answers w₁ kept₁ w₀ es₀ w es n → HasStopped w ⊎ (n < b)
      suffices-led (still d e z) = inr (omega (arith, z, some-steps))
      suffices-led (answered h) = led-suffices h

      steps-led : {w : Walk} {es : List Event} {n : ℕ} → Awaits T tokens answers w₁ kept₁ w₀ es₀ w es n → n ≤ b
      steps-led (still d e z) = omega (arith, z)
      steps-led (answered h) = led-steps h

-- A carried walk

module _ (p q : Source) (ok : Accepted p.rules) (ok' : Accepted q.rules) (dp : Distinct p.names) (dq : Distinct q.names) (np : length p.names ≡ length p.rules)
    (nq : length q.names ≡ length q.rules) (more more' tokens : List ℕ) (fin : Finishing q.rules) (longest : ℕ) (most : Bounds (table q.rules) (RuleStart q.rules) longest) where
  abbrev Old : List ℕ
  Old = table p.rules ++ more

  abbrev New : List ℕ
  New = table q.rules ++ more'

  abbrev Bound : ℕ → ℕ
  Bound r = 65 * longest * (length tokens + r + 1)

  closed-here : (s l m : ℕ) → RuleStart q.rules s → Reached (table q.rules) s l → decode (table q.rules) l ≡ call_rule m → RuleStart q.rules m
  closed-here = rw (append-nil (table q.rules)) at (closed q.rules [] ok')

  -- single steps of a walk that goes on, from reachable places: it stops in time over the table alone, and so over every longer one
  stops-in-time : (answers : List ℕ) (w₁ : Walk) → Begun p q ok ok' dp dq np nq more [] tokens answers w₁ → w₁.phase ≡ going
      → PlacedIn (table q.rules) (RuleStart q.rules) w₁.location w₁.returns → (given : List ℕ) → InTime New tokens given w₁ (Bound w₁.io.allowance)
  unfolding to_come runs
  stops-in-time answers w₁ b g pl given =
      let e = ends-after q.rules ok' fin [] tokens given w₁ b.spot b.read b.kept.returns w₁.io.allowance refl in
      let n = 3 * budget q.rules (length tokens + (w₁.io.allowance + 1)) in
      let s = e.1 n (le_refl n) in
      let inside : e.0 ≡ outside → ⊥ = λ z. never-outside (same_after q.rules [] tokens ok' w₁ b.spot given n).1 (s ∙ ap stopped z) in
      let s₁ : (runs (table q.rules) tokens given n w₁).phase ≡ stopped e.0 = rw (append-nil (table q.rules)) at s in
      let h = needs (table q.rules) tokens given (RuleStart q.rules) closed-here longest most n (length tokens + w₁.io.allowance) w₁ e.0 g pl (omega arith) inside s₁ in
      record {
        steps = h.steps;
        reason = e.0;
        some-step = not_none h.steps h.stop;
        few = h.few;
        stop = ap (λ (w : Walk). w.phase) (same-run (table q.rules) more' tokens given h.steps w₁ e.0 h.stop inside) ∙ h.stop;
      }
    where
      not_none : (n : ℕ) {r : Reason} → (runs (table q.rules) tokens given n w₁).phase ≡ stopped r → 1 ≤ n
      not_none zero d = absurd (going-stopped g d)
      not_none (suc n) d = omega arith

  module _ (answers : List ℕ) (allowance : ℕ) {w : Walk} {es : List Event} {n : ℕ} {ns : List ℕ} (l : Listed Old tokens answers allowance w es n ns) (w' : Walk) (c : carry p q w ≡ carried w') where
    abbrev Enough : Type 0
    Enough = EnoughFrom New tokens answers w' es (Bound w'.io.allowance)

    placed : PlacedIn (table q.rules) (RuleStart q.rules) w'.location w'.returns
    placed = rw (append-nil (table q.rules)) at (placed-carried p q ok ok' nq more [] w w' (listed-placed p.rules more tokens ok answers allowance l) c)

    kept-phase : (ph : Phase) → w.phase ≡ ph → w'.phase ≡ ph
    kept-phase ph g = (keeping p q w w' c).phase ∙ g

    enough-going : w.phase ≡ going → Enough
    unfolding with_events Walk.opened
    enough-going g =
        let b = begun-going p q ok ok' dp dq np nq more [] tokens answers allowance l w' c g in
        let g' = kept-phase going g in
        let w₁ = with_events es w' in
        from-going New tokens answers w₁ b.kept b.few (Bound w'.io.allowance) (stops-in-time answers w₁ b g' placed) w' es g' refl

    enough-waiting : (x : ℕ) → w.phase ≡ waiting → wanted answers es ≡ some x → Enough
    unfolding with_events Walk.opened events.answered
    enough-waiting x g o =
        let b = begun-waiting p q ok ok' dp dq np nq more [] tokens answers allowance l w' c x g o in
        let w₁ = with_events es (with_answer x w') in
        from-waiting New tokens answers w₁ b.kept b.few (Bound w'.io.allowance) (stops-in-time answers w₁ b refl placed) w' es x (kept-phase waiting g) o refl

    -- one that waits for an answer past the last goes on waiting
    enough-idle : w.phase ≡ waiting → wanted answers es ≡ none → Enough
    unfolding with_events Walk.opened events.answered
    enough-idle g o =
        let m = begun_more p q ok ok' dp dq np nq more [] tokens answers allowance l w' c 0 g in
        let t = stops-in-time (answers ++ (0 ∷ [])) (with_events es (with_answer m.answer w')) m.begun refl placed [] in
        let z : 1 ≤ Bound w'.io.allowance = omega (arith, t.some-step, t.few) in
        record { suffices = λ w₂ es₂ n₂ ns₂ l₂. inr (omega (arith, z, idle l₂)); steps = λ w₂ es₂ n₂ ns₂ l₂. omega (arith, idle l₂) }
      where
        idle : {w₂ : Walk} {es₂ : List Event} {n₂ : ℕ} {ns₂ : List ℕ} → ListedFrom New tokens answers w' es w₂ es₂ n₂ ns₂ → n₂ ≡ 0
        idle l₂ = listed-idle New tokens answers w' es (kept-phase waiting g) o l₂

    enough-stopped : (r : Reason) → w.phase ≡ stopped r → Enough
    enough-stopped r g =
        let g' = kept-phase (stopped r) g in
        record {
          suffices = ends-stopped New tokens answers w' es r g' (Bound w'.io.allowance);
          steps = λ w₂ es₂ n₂ ns₂ l₂. omega (arith, (listed-stays New tokens answers w' es r g' l₂).steps);
        }

    pub enough : Enough
    enough = go w.phase refl
      where
        awaited : (o : Option ℕ) → wanted answers es ≡ o → w.phase ≡ waiting → Enough
        awaited (some x) e g = enough-waiting x g e
        awaited none e g = enough-idle g e

        go : (ph : Phase) → w.phase ≡ ph → Enough
        go going g = enough-going g
        go waiting g = awaited (wanted answers es) refl g
        go (stopped r) g = enough-stopped r g

-- Two texts

same-meaning : {a b : List Rule} {u : Understood} → u ≡ meaning a → u ≡ meaning b → a ≡ b
same-meaning {a} {b} e f = let x : meaning a ≡ meaning b = sym e ∙ f in cc

pub figure-carried : FigureCarried
figure-carried old new room room' words words' verdict e e' prog' m k f more more' tokens answers allowance w es n ns l w' c =
    let t = accepted-table old room words verdict e in
    let t' = accepted-table new room' words' true e' in
    let s = source_ok old t.prog t.means in
    let s' = source_ok new t'.prog t'.means in
    let ok : Accepted (source_of old).rules = rw s.rules_are t.accepts in
    let ok' : Accepted (source_of new).rules = rw s'.rules_are t'.accepts in
    let old-words : words ≡ table (source_of old).rules = t.words_are ∙ ap table (sym s.rules_are) in
    let new-words : words' ≡ table (source_of new).rules = t'.words_are ∙ ap table (sym s'.rules_are) in
    let fin : Finishing (source_of new).rules = rw s'.rules_are (finishing-sound t'.prog (sym t'.verdict_is)) in
    let is : figure (source_of new).rules ≡ some k = ap figure (s'.rules_are ∙ same-meaning t'.means m) ∙ f in
    let most = (figure-exact (source_of new).rules ok' fin k is).exact.bounds in
    rw new-words
    (enough (source_of old) (source_of new) ok ok' s.distinct s'.distinct s.length-is s'.length-is more more' tokens fin k most answers allowance (rw old-words at l) w' c)
