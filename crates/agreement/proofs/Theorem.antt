-- Demand 3: from the lists of calls, the single steps and the rules' own walk to the claim itself.
use mathlib.Core.Bool.{Bool}
use mathlib.Core.List.{List, [], ◌∷◌, ◌++◌, append-nil}
use mathlib.Core.Logic.{inl, inr}
use mathlib.Core.Option.{Option}
use mathlib.Core.Path.{◌≡◌, refl, sym, ap, ◌∙◌}
use Prim.Native.Nat.{ℕ, zero, suc, ◌+◌, ◌-◌, ◌*◌, ◌<◌, ◌≤◌}
use native.Mathlib.Decide.{dec_lt}
use native.Mathlib.Omega.{arith}
use Rattle.acceptance.proofs.Accepts.{accepted-table}
use Rattle.acceptance.specs.Answers.{TableOf}
use Rattle.agreement.proofs.Agree.{Same, both-going, both_stopped, same-events, same-stopped, stopped-same, never-outside, agree, agree-stop}
use Rattle.agreement.proofs.BoundWalk.{budget, finishes}
use Rattle.agreement.proofs.Bound.{Over, over-stopped, over-nowhere}
use Rattle.agreement.proofs.MoreAnswers.{one_more, alike}
use Rattle.agreement.proofs.Lists.{with_events, step-asked, going-stopped, waiting-stopped, runs-suc, one-going, Where, lives, left, waits, listed-where, kept_fresh, number-37}
use Rattle.agreement.proofs.Sim.{Running, running-on, running-choosing}
use Rattle.agreement.proofs.Single.{taking, done, one_in, one, runs}
use Rattle.agreement.specs.Demand.{Listed, RulesStop, RulesWrite, HasStopped, Suffices, StepsBelow, Agrees, Finishes, Demand3}
use Rattle.events.specs.Events as io
use Rattle.events.specs.Events.{Event, Reason, unanswered, outside, choices, Io}
use Rattle.finishing.proofs.Exact.{finishing-sound, finishing-complete}
use Rattle.finishing.specs.Finishing.{Finishing}
use Rattle.machine.specs.Call.{writing}
use Rattle.machine.specs.Step.{Next, goes_outside, step}
use Rattle.machine.specs.Walk
use Rattle.machine.specs.Walk.{Phase, going, waiting, stopped, Walk, fresh, with_io, in_phase, with_answer}
use Rattle.ownwalk.specs.OwnWalk as rules
use Rattle.ownwalk.specs.OwnWalk.{Own, owns, own_start}
use Rattle.processor.specs.Process.{accepted, process}
use Rattle.program.specs.Accepted.{Accepted}
use Rattle.program.specs.Program.{Rule}
use Rattle.program.specs.Table.{table}

module _ (T tokens answers : List ℕ) where
  -- a walk that has stopped stays so
  one-stopped : (w : Walk) (r : Reason) → w.phase ≡ stopped r → one T tokens answers w ≡ w
  unfolding one one_in
  one-stopped w r e = rw e

  pub stays : (k : ℕ) (w : Walk) (r : Reason) → w.phase ≡ stopped r → runs T tokens answers k w ≡ w
  unfolding runs
  stays zero w r e = refl
  stays (suc k) w r e = ap (runs T tokens answers k) (one-stopped w r e) ∙ stays k w r e

  pub later : (k n : ℕ) (w : Walk) (r : Reason) → k ≤ n → (runs T tokens answers k w).phase ≡ stopped r → (runs T tokens answers n w).phase ≡ stopped r
  unfolding runs
  later zero n w r h e = ap (λ (v : Walk). v.phase) (stays n w r e) ∙ e
  later (suc k) zero w r h e = absurd (omega arith)
  later (suc k) (suc n) w r h e = later k n (one T tokens answers w) r (omega arith) e

-- A program that is accepted

module _ (prog : List Rule) (more tokens answers : List ℕ) (allowance : ℕ) (a : Accepted prog) where
  abbrev Table : List ℕ
  Table = table prog ++ more

  abbrev Step : ℕ → Walk
  Step n = runs Table tokens answers n (fresh allowance)

  -- no single step leads out of the table
  pub no-way-out : {A : Type 0} (n : ℕ) → (Step n).phase ≡ going → step Table tokens (Step n) ≡ goes_outside → A
  unfolding done in_phase
  no-way-out n g s =
      let x = agree prog more tokens answers allowance a (suc n) in
      let y : Step (suc n) ≡ done Table tokens answers goes_outside (Step n) = runs-suc Table tokens answers n (fresh allowance) ∙ one-going Table tokens answers (Step n) g ∙ ap (λ (nx : Next). done Table tokens answers nx (Step n)) s in
      absurd (never-outside x.1 (ap (λ (w : Walk). w.phase) y))

  events-of : (w : Walk) (es : List Event) (n : ℕ) → with_events es w ≡ Step n → RulesWrite prog tokens answers allowance es
  unfolding with_events with_io
  events-of w es n e =
      let x = agree prog more tokens answers allowance a n in
      let y : (Step n).io.events ≡ es = ap (λ (v : Walk). v.io.events) (sym e) in
      record { steps = x.0; begins = record { rest = []; whole = same-events x.1 ∙ y ∙ sym (append-nil es) } }

  in-phase : (w : Walk) (es : List Event) (n : ℕ) (p : Phase) → with_events es w ≡ Step n → w.phase ≡ p → (Step n).phase ≡ p
  unfolding with_events with_io
  in-phase w es n p e h = ap (λ (v : Walk). v.phase) (sym e) ∙ h

  pub events : {w : Walk} {es : List Event} {n : ℕ} {ns : List ℕ} → Listed Table tokens answers allowance w es n ns → (w.phase ≡ waiting → ⊥) → RulesWrite prog tokens answers allowance es
  events {w} {es} {n} l h = go (listed-where Table tokens answers allowance l)
    where
      go : Where Table tokens answers (fresh allowance) (kept_fresh allowance) w es n → RulesWrite prog tokens answers allowance es
      go (lives p e mv) = events-of w es n e
      go (left p g s e) = no-way-out n g s
      go (waits k v v' e d g s q m e₁) = absurd (h (ap (λ (u : Walk). u.phase) e₁ ∙ unfold in_phase in refl))

  pub never_37 : {w : Walk} {es : List Event} {n number : ℕ} {ns : List ℕ} → Listed Table tokens answers allowance w es n (number ∷ ns) → number ≡ 37 → ⊥
  never_37 {w} {es} {n} l e = go (listed-where Table tokens answers allowance l) (number-37 Table tokens answers l e)
    where
      go : Where Table tokens answers (fresh allowance) (kept_fresh allowance) w es n → w.phase ≡ stopped outside → ⊥
      go (lives p e₁ mv) h = never-outside (agree prog more tokens answers allowance a n).1 (in-phase w es n (stopped outside) e₁ h)
      go (left p g s e₁) h = no-way-out n g s
      go (waits k v v' e d g s q m e₁) h = waiting-stopped (ap (λ (u : Walk). u.phase) e₁ ∙ unfold in_phase in refl) h

  pub stops-alike : {w : Walk} {es : List Event} {n : ℕ} {ns : List ℕ} {r : Reason} → Listed Table tokens answers allowance w es n ns → w.phase ≡ stopped r
      → RulesStop prog tokens answers allowance r (record { read = w.io.read; used = w.io.used; allowance = w.io.allowance; events = es })
  unfolding with_events with_io in_phase
  stops-alike {w} {es} {n} {ns} {r} l h = go (listed-where Table tokens answers allowance l)
    where
      go : Where Table tokens answers (fresh allowance) (kept_fresh allowance) w es n → RulesStop prog tokens answers allowance r (record { read = w.io.read; used = w.io.used; allowance = w.io.allowance; events = es })
      go (lives p e mv) =
          let x = agree prog more tokens answers allowance a n in
          record { steps = x.0; stop = same-stopped x.1 (in-phase w es n (stopped r) e h) ∙ ap (λ (v : Walk). rules.stopped r v.io) (sym e) }
      go (left p g s e) = no-way-out n g s
      go (waits k v v' e d g s q m e₁) = absurd (waiting-stopped (ap (λ (u : Walk). u.phase) e₁) h)

  -- once single steps have stopped, every longer list has
  pub suffices : (k b : ℕ) (r : Reason) → k < b → (Step k).phase ≡ stopped r → Suffices prog Table tokens answers allowance b
  unfolding with_events with_io
  suffices k b r h e w es n ns l = elim (dec_lt n b) [ yes x ↦ inr (inl x) | no x ↦ inl (go (listed-where Table tokens answers allowance l) (omega arith)) ]
    where
      go : Where Table tokens answers (fresh allowance) (kept_fresh allowance) w es n → k < n → HasStopped w
      go (lives p e₁ mv) m = record { reason = r; stop = ap (λ (v : Walk). v.phase) e₁ ∙ later Table tokens answers k n (fresh allowance) r (omega arith) e }
      go (left p g s e₁) m = record { reason = outside; stop = p }
      go (waits i v v' e₂ d g s q m₁ e₁) m = absurd (going-stopped g (ap (λ (u : Walk). u.phase) (sym d) ∙ later Table tokens answers k i (fresh allowance) r (omega arith) e))

  -- and no list does more steps than that, whether its walk goes on, waits or has stopped
  pub steps-below : (k b : ℕ) (r : Reason) → k < b → (Step k).phase ≡ stopped r → StepsBelow Table tokens answers allowance b
  steps-below k b r h e w es n ns l = elim (dec_lt k n) [ yes x ↦ absurd (go (listed-where Table tokens answers allowance l) x) | no x ↦ omega arith ]
    where
      -- a step of a walk that went on came before
      too-late : (m : ℕ) → (Step m).phase ≡ going → k ≤ m → ⊥
      too-late m g x = going-stopped g (later Table tokens answers k m (fresh allowance) r x e)

      go : Where Table tokens answers (fresh allowance) (kept_fresh allowance) w es n → k < n → ⊥
      go (lives p e₁ mv) x = let q : n ≡ suc (n - 1) = omega arith in too-late (n - 1) (mv (n - 1) q) (omega arith)
      go (left p g s e₁) x = too-late n g (omega arith)
      go (waits i v v' e₂ d g s q m e₁) x = too-late i (ap (λ (u : Walk). u.phase) d ∙ g) (omega arith)

  pub stops-within : (j : ℕ) {r : Reason} {io : Io} → owns prog tokens answers j (own_start prog allowance) ≡ rules.stopped r io → (b : ℕ) → 3 * j < b → Suffices prog Table tokens answers allowance b
  stops-within j {r} e b h =
      let x = agree-stop prog more tokens answers allowance a j in
      suffices x.0 b r (omega (arith, x.1)) (stopped-same x.2 e)

  -- a walk that waits has written what the rules write with any one answer more
  pub events_waiting : {w : Walk} {es : List Event} {n : ℕ} {ns : List ℕ} → Listed Table tokens answers allowance w es n ns → w.phase ≡ waiting
      → (x : ℕ) → RulesWrite prog tokens (answers ++ (x ∷ [])) allowance es
  unfolding done taking writing Walk.opened io.wrote io.answered
  events_waiting {w} {es} {n} l h x = go (listed-where Table tokens answers allowance l)
    where
      go : Where Table tokens answers (fresh allowance) (kept_fresh allowance) w es n → RulesWrite prog tokens (answers ++ (x ∷ [])) allowance es
      go (lives p e mv) = absurd (p h)
      go (left p g s e) = no-way-out n g s
      go (waits k v v' e d g s q m e₁) =
          let g₁ : (Step k).phase ≡ going = ap (λ (u : Walk). u.phase) d ∙ g in
          let z = alike Table tokens answers x allowance k g₁ in
          let y = one_more answers x (choices v.io.events) (rw d at z.taken) in
          let f = step-asked Table tokens v v' e s in
          let r : runs Table tokens (answers ++ (x ∷ [])) (suc k) (fresh allowance) ≡ with_answer y.0 (writing e v') =
          runs-suc Table tokens (answers ++ (x ∷ [])) k (fresh allowance) ∙ ap (one Table tokens (answers ++ (x ∷ []))) (z.same ∙ d)
          ∙ one-going Table tokens (answers ++ (x ∷ [])) v g ∙ ap (λ (nx : Next). done Table tokens (answers ++ (x ∷ [])) nx v) s
          ∙ ap (λ (o : Option ℕ). taking o e v' v) y.1 in
          let b = agree prog more tokens (answers ++ (x ∷ [])) allowance a (suc k) in
          let t : v'.io.events ++ (e ∷ []) ≡ es = ap (λ (l : List Event). l ++ (e ∷ [])) f.keeps.events ∙ sym q in
          record { steps = b.0; begins = record { rest = []; whole = same-events b.1 ∙ ap (λ (u : Walk). u.io.events) r ∙ t ∙ sym (append-nil es) } }

-- The claim

pub agrees : (prog : List Rule) (more tokens answers : List ℕ) (allowance : ℕ) → Accepted prog → Agrees prog (table prog ++ more) tokens answers allowance
agrees prog more tokens answers allowance a = record {
  events = events prog more tokens answers allowance a;
  events_waiting = events_waiting prog more tokens answers allowance a;
  never_37 = never_37 prog more tokens answers allowance a;
  stops = stops-alike prog more tokens answers allowance a;
  budget = λ s. (3 * s.steps + 1, stops-within prog more tokens answers allowance a s.steps s.stop (3 * s.steps + 1) (omega arith));
}

running-nowhere : {io io' : Io} → Running (rules.nowhere io) io' → ⊥
running-nowhere {io} h = go h refl
  where
    go : {s : Own} {io' : Io} → Running s io' → s ≡ rules.nowhere io → ⊥
    go running-on e = let z : ◌≡◌ {A = ℕ} 0 1 = cc in omega arith
    go running-choosing e = let z : ◌≡◌ {A = ℕ} 0 1 = cc in omega arith

not-nowhere : {io : Io} {w : Walk} → Same (rules.nowhere io) w → ⊥
not-nowhere (both-going h e) = running-nowhere h
not-nowhere (both_stopped r h e f) = let z : ◌≡◌ {A = ℕ} 0 1 = cc in omega arith

pub over-stops : {s : Own} {w : Walk} → Over s → Same s w → (r : Reason) × (w.phase ≡ stopped r)
over-stops (over-stopped {r = r}) h = (r, stopped-same h refl)
over-stops over-nowhere h = absurd (not-nowhere h)

pub finishes-with : (prog : List Rule) → Accepted prog → Finishing prog → Finishes prog (table prog)
finishes-with prog a f count allowance = (
  3 * budget prog (count + allowance) + 1,
  λ more tokens answers e.
      let o = finishes prog tokens answers allowance a f in
      let x = agree-stop prog more tokens answers allowance a o.0 in
      let y = over-stops o.2 x.2 in
      let b : o.0 ≤ budget prog (count + allowance) = rw e at o.1 in
      suffices prog more tokens answers allowance a x.0 (3 * budget prog (count + allowance) + 1) y.0 (omega (arith, x.1)) y.1,
)

-- Demand 3, for every text that `process` accepts.
pub agreement : (text : List ℕ) (room : ℕ) (words : List ℕ) (verdict : Bool) → process text room ≡ accepted words verdict → Demand3 text words verdict
agreement text room words verdict e = claim (accepted-table text room words verdict e)
  where
    claim : TableOf text room words verdict → Demand3 text words verdict
    claim t = record {
      prog = t.prog;
      means = t.means;
      agrees = λ more tokens answers allowance. rw t.words_are (agrees t.prog more tokens answers allowance t.accepts);
      finishes = λ v. rw t.words_are (finishes-with t.prog t.accepts (finishing-sound t.prog (sym t.verdict_is ∙ v)));
      sound = λ v. finishing-sound t.prog (sym t.verdict_is ∙ v);
      complete = λ f. t.verdict_is ∙ finishing-complete t.prog f;
    }
