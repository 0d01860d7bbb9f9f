-- One answer more changes nothing up to where the answers run out; there the walk goes on.
use mathlib.Core.Bool.{true}
use mathlib.Core.List.{List, [], ◌∷◌, ◌++◌}
use mathlib.Core.Option.{Option, none, some}
use mathlib.Core.Path.{◌≡◌, refl, sym, ap, ◌∙◌}
use Prim.Native.Nat.{ℕ, zero, suc, ◌+◌, ◌<◌, ◌≤◌}
use lib.ListN.{length, get_elem?}
use native.Mathlib.Omega.{arith}
use Rattle.agreement.proofs.Lists.{Keeps, After, after-outside, after_stop, after-goes, after-tells, after-asks, step_after, choices-then, choices-asked, going-stopped, runs-suc, one-going}
use Rattle.agreement.proofs.Single.{taking, done, one_in, one, runs}
use Rattle.events.specs.Events as events
use Rattle.events.specs.Events.{Event, unanswered, is_choice, choices}
use Rattle.machine.specs.Call.{writing}
use Rattle.machine.specs.Step.{Next, step}
use Rattle.machine.specs.Walk
use Rattle.machine.specs.Walk.{Phase, going, waiting, stopped, Walk, fresh}

-- what a list has at a place it keeps with more behind it
pub kept-answer : (as' : List ℕ) (x i y : ℕ) → get_elem? as' i ≡ some y → (get_elem? (as' ++ (x ∷ [])) i ≡ some y) × (i < length as')
kept-answer [] x i y e = let z : ◌≡◌ {A = ℕ} 0 1 = cc in absurd (omega arith)
kept-answer (a ∷ as') x zero y e = (e, omega arith)
kept-answer (a ∷ as') x (suc i) y e = let h = kept-answer as' x i y e in (h.0, omega (arith, h.1))

-- one more is enough for one place more
pub one_more : (as' : List ℕ) (x i : ℕ) → i ≤ length as' → (y : ℕ) × (get_elem? (as' ++ (x ∷ [])) i ≡ some y)
one_more [] x zero h = (x, refl)
one_more [] x (suc i) h = absurd (omega arith)
one_more (a ∷ as') x zero h = (a, refl)
one_more (a ∷ as') x (suc i) h = one_more as' x i (omega arith)

module _ (T tokens answers : List ℕ) (x : ℕ) where
  abbrev More : List ℕ
  More = answers ++ (x ∷ [])

  -- a walk that goes on is the same with one answer more, and no answer past the last was taken
  pub record Alike (w v : Walk) : Type 0 where
    pub same : v ≡ w
    pub taken : choices w.io.events ≤ length answers

  alike-taking : (o : Option ℕ) (e : Event) (v w : Walk) → get_elem? answers (choices w.io.events) ≡ o → is_choice e ≡ true → Keeps w v → (taking o e v w).phase ≡ going
      → Alike (taking o e v w) (taking (get_elem? More (choices w.io.events)) e v w)
  unfolding taking writing Walk.opened events.wrote events.answered
  alike-taking none e v w d t k g = absurd (going-stopped g refl)
  alike-taking (some y) e v w d t k g =
      let h = kept-answer answers x (choices w.io.events) y d in
      let c = choices-asked v.io.events e t in
      let q : choices v.io.events ≡ choices w.io.events = ap choices k.events in
      record { same = ap (λ (o : Option ℕ). taking o e v w) h.0; taken = omega (arith, h.1, c, q) }

  alike-done : {nx : Next} (w : Walk) → After w nx → choices w.io.events ≤ length answers → (done T tokens answers nx w).phase ≡ going
      → Alike (done T tokens answers nx w) (done T tokens More nx w)
  unfolding done writing Walk.opened events.wrote
  alike-done w after-outside h g = absurd (going-stopped g refl)
  alike-done w (after_stop r o) h g = absurd (going-stopped g refl)
  alike-done w (after-goes v k) h g = record { same = refl; taken = let q : choices v.io.events ≡ choices w.io.events = ap choices k.events in omega arith }
  alike-done w (after-tells e v f k) h g =
      let z : choices (v.io.events ++ (e ∷ [])) ≡ choices v.io.events + 0 = rw f at (choices-then v.io.events e) in
      let q : choices v.io.events ≡ choices w.io.events = ap choices k.events in
      record { same = refl; taken = omega arith }
  alike-done w (after-asks e v t m k) h g = alike-taking (get_elem? answers (choices w.io.events)) e v w refl t k g

  -- a step that leads to a walk that goes on begins with one
  one_from : (w : Walk) (p : Phase) → w.phase ≡ p → (one T tokens answers w).phase ≡ going → w.phase ≡ going
  unfolding one one_in
  one_from w going e g = e
  one_from w waiting e g = e ∙ (rw e at g)
  one_from w (stopped r) e g = e ∙ (rw e at g)

  -- from a walk on that has taken no answer past the last
  pub alike_from : (s₀ : Walk) → choices s₀.io.events ≤ length answers → (n : ℕ) → (runs T tokens answers n s₀).phase ≡ going
      → Alike (runs T tokens answers n s₀) (runs T tokens More n s₀)
  unfolding runs
  alike_from s₀ h₀ zero g = record { same = refl; taken = h₀ }
  alike_from s₀ h₀ (suc n) g =
      let w = runs T tokens answers n s₀ in
      let s = runs-suc T tokens answers n s₀ in
      let g₁ : (one T tokens answers w).phase ≡ going = ap (λ (u : Walk). u.phase) (sym s) ∙ g in
      let g₂ = one_from w w.phase refl g₁ in
      let ih = alike_from s₀ h₀ n g₂ in
      let d = one-going T tokens answers w g₂ in
      let h = alike-done w (step_after T tokens w) ih.taken (ap (λ (u : Walk). u.phase) (sym d) ∙ g₁) in
      let m : runs T tokens More (suc n) s₀ ≡ done T tokens More (step T tokens w) w =
      runs-suc T tokens More n s₀ ∙ ap (one T tokens More) ih.same ∙ one-going T tokens More w g₂ in
      record { same = m ∙ h.same ∙ sym (s ∙ d); taken = rw (s ∙ d) h.taken }

  pub alike : (allowance n : ℕ) → (runs T tokens answers n (fresh allowance)).phase ≡ going
      → Alike (runs T tokens answers n (fresh allowance)) (runs T tokens More n (fresh allowance))
  unfolding fresh choices
  alike allowance n g = alike_from (fresh allowance) (omega arith) n g
