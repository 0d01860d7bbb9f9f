-- "Then no walk of n tokens and repair allowance r .. needs more than 65 × Q × (n + r + 1) steps": for every table, if the walk stops at all.
use mathlib.Core.List.{List}
use mathlib.Core.Path.{◌≡◌, refl, sym, ap, ◌∙◌}
use native.Mathlib.Nat.{zero-add, suc-add, mul-le-mul_right}
use native.Mathlib.Omega.{arith}
use Prim.Native.Nat.{ℕ, zero, suc, ◌+◌, ◌-◌, ◌*◌, ◌≤◌, ◌<◌}
use lib.ListN.{length}
use Rattle.agreement.proofs.Lists.{going-stopped, one-going}
use Rattle.agreement.proofs.Single.{one_in, one, runs}
use Rattle.events.specs.Events.{Reason, outside}
use Rattle.machine.specs.Decode.{decode}
use Rattle.machine.specs.Step.{step}
use Rattle.machine.specs.Walk.{Phase, going, stopped, Walk, fresh}
use Rattle.figure.specs.Figure.{at_start, quiet, Bounds}
use Rattle.figure.proofs.Steps.{left, Sorted, goes-outside, stops-here, reads_here, goes_on, calls, returns, step-sort}
use Rattle.figure.proofs.Frames.{Called, called-first, is-here, all_none, Placed, ending-stop, ending-read, Quietly, quietly-on, quietly-call, quietly-back, Until, until-last, until-more, Ended, ended-stop, ended-read, until-ended, stretch}

module _ (T tokens answers : List ℕ) where
  abbrev After : ℕ → Walk → Walk
  After n w = runs T tokens answers n w

  abbrev Next : Walk → Walk
  Next w = one T tokens answers w

  runs-add : (n k : ℕ) (w : Walk) → After (n + k) w ≡ After k (After n w)
  unfolding runs
  runs-add zero k w = rw (zero-add k) refl
  runs-add (suc n) k w = rw (suc-add n k) (runs-add n k (Next w))

  sort : (w : Walk) → w.phase ≡ going → Sorted T tokens answers (decode T w.location) w (Next w)
  unfolding step
  sort w g = rw (one-going T tokens answers w g) (step-sort T tokens answers w g (decode T w.location))

  one-stopped : (w : Walk) (r : Reason) → w.phase ≡ stopped r → Next w ≡ w
  unfolding one one_in
  one-stopped w r e = rw e refl

  stays : (k : ℕ) (w : Walk) (r : Reason) → w.phase ≡ stopped r → After k w ≡ w
  unfolding runs
  stays zero w r e = refl
  stays (suc k) w r e = ap (After k) (one-stopped w r e) ∙ stays k w r e

  same-reason : {p : Phase} {r s : Reason} → p ≡ stopped r → p ≡ stopped s → s ≡ r
  same-reason e f = cc

  -- the first stretch of a walk that stops within n steps
  record Cut (n : ℕ) (w : Walk) : Type 0 where
    steps : ℕ
    at : Walk
    few : steps ≤ n
    until : Until T tokens answers steps w at
    there : After steps w ≡ at

  cut-more : {n : ℕ} {w : Walk} → Quietly T tokens answers w (Next w) → Cut n (Next w) → Cut (suc n) w
  unfolding runs
  cut-more s c = record { steps = suc c.steps; at = c.at; few = omega (arith, c.few); until = until-more s c.until; there = c.there }

  cut : (n : ℕ) (w : Walk) (r : Reason) → w.phase ≡ going → (After n w).phase ≡ stopped r → (r ≡ outside → ⊥) → Cut n w
  unfolding runs
  cut zero w r g e h = absurd (going-stopped g e)
  cut (suc n) w r g e h = go (sort w g) (λ g₁. cut n (Next w) r g₁ e h)
    where
      go : Sorted T tokens answers (decode T w.location) w (Next w) → ((Next w).phase ≡ going → Cut n (Next w)) → Cut (suc n) w
      go (goes-outside p) ih = absurd (h (same-reason p (ap (λ (u : Walk). u.phase) (sym (stays n (Next w) outside p)) ∙ e)))
      go (stops-here s p l) ih = record { steps = 1; at = Next w; few = omega arith; until = until-last (ending-stop s p l); there = refl }
      go (reads_here g₁ a c l p) ih = record { steps = 1; at = Next w; few = omega arith; until = until-last (ending-read g₁ a c l (λ x. quiet (p x))); there = refl }
      go (goes_on g₁ a b l p) ih = cut-more (quietly-on a b l p) (ih g₁)
      go (calls g₁ a d b l) ih = cut-more (quietly-call a d b l) (ih g₁)
      go (returns g₁ a d b c) ih = cut-more (quietly-back a d b c) (ih g₁)

  -- it stops within m steps, for that reason
  pub record Stops (m : ℕ) (r : Reason) (w : Walk) : Type 0 where
    pub steps : ℕ
    pub few : steps ≤ m
    pub stop : (After steps w).phase ≡ stopped r

  module _ (q : ℕ) (most : Bounds T (Called T) q) where
    -- a stretch, with up to 64 pending
    of-65 : (n a : ℕ) → n ≤ (a + 1) * q → a ≤ 64 → n ≤ 65 * q
    of-65 n a h l = let z : a * q ≤ 64 * q = mul-le-mul_right q l in omega arith

    cut-few : (n : ℕ) (w : Walk) → Placed T tokens answers w → (c : Cut n w) → c.steps ≤ (length w.returns + 1) * q
    cut-few n w p c = stretch T tokens answers q most (length w.returns) c.steps w c.at (omega arith) c.until p.here p.behind

    -- the rest of the walk behind a stretch of at most b steps, with t reads and repairs left
    rest : (b t n : ℕ) (w : Walk) (r : Reason) → (After n w).phase ≡ stopped r → left tokens w ≤ t → (c : Cut n w) → c.steps ≤ b → Ended T tokens answers w c.at
        → ((t₁ n₁ : ℕ) (v : Walk) → t₁ < t → v.phase ≡ going → Placed T tokens answers v → left tokens v ≤ t₁ → (After n₁ v).phase ≡ stopped r → Stops (suc t₁ * (65 * q)) r v)
        → Stops (b + t * (65 * q)) r w
    rest b t n w r e l c f (ended-stop s p) ih =
        let k = n - c.steps in
        let z : c.steps + k ≡ n = omega (arith, c.few) in
        let y : After n w ≡ c.at = ap (λ (i : ℕ). After i w) (sym z) ∙ runs-add c.steps k w ∙ ap (After k) c.there ∙ stays k c.at s p in
        record { steps = c.steps; few = omega (arith, f); stop = ap (λ (u : Walk). u.phase) (c.there ∙ sym y) ∙ e }
    rest b zero n w r e l c f (ended-read g a p) ih = absurd (omega (arith, l, a))
    rest b (suc t) n w r e l c f (ended-read g a p) ih =
        let k = n - c.steps in
        let z : c.steps + k ≡ n = omega (arith, c.few) in
        let y : (After k c.at).phase ≡ stopped r = ap (λ (u : Walk). u.phase) (ap (After k) (sym c.there) ∙ sym (runs-add c.steps k w) ∙ ap (λ (i : ℕ). After i w) z) ∙ e in
        let o = ih t k c.at (omega arith) g p (omega (arith, l, a)) y in
        record {
          steps = c.steps + o.steps;
          few = omega (arith, f, o.few);
          stop = ap (λ (u : Walk). u.phase) (runs-add c.steps o.steps w ∙ ap (After o.steps) c.there) ∙ o.stop;
        }

    total : (f t n : ℕ) (w : Walk) (r : Reason) → t ≤ f → w.phase ≡ going → Placed T tokens answers w → left tokens w ≤ t → (r ≡ outside → ⊥) → (After n w).phase ≡ stopped r
        → Stops (suc t * (65 * q)) r w
    total zero t n w r b g p l h e =
        let c = cut n w r g e h in
        let o = rest (65 * q) t n w r e l c (of-65 c.steps (length w.returns) (cut-few n w p c) p.few) (until-ended T tokens answers c.until p) (λ t₁ n₁ v z. absurd (omega arith)) in
        record { steps = o.steps; few = omega (arith, o.few); stop = o.stop }
    total (suc f) t n w r b g p l h e =
        let c = cut n w r g e h in
        let o = rest (65 * q) t n w r e l c (of-65 c.steps (length w.returns) (cut-few n w p c) p.few) (until-ended T tokens answers c.until p)
        (λ t₁ n₁ v z g₁ p₁ l₁ e₁. total f t₁ n₁ v r (omega arith) g₁ p₁ l₁ h e₁) in
        record { steps = o.steps; few = omega (arith, o.few); stop = o.stop }

    -- from a fresh walk: the first stretch has nothing pending
    pub needs : (allowance n : ℕ) (r : Reason) → (After n (fresh allowance)).phase ≡ stopped r → (r ≡ outside → ⊥) → Stops (q + (length tokens + allowance) * (65 * q)) r (fresh allowance)
    unfolding fresh left
    needs allowance n r e h =
        let p : Placed T tokens answers (fresh allowance) = record { here = is-here called-first at_start; behind = all_none; few = omega arith } in
        let c = cut n (fresh allowance) r refl e h in
        let z : c.steps ≤ q = omega (arith, cut-few n (fresh allowance) p c) in
        rest q (length tokens + allowance) n (fresh allowance) r e (omega arith) c z (until-ended T tokens answers c.until p)
        (λ t₁ n₁ v y g₁ p₁ l₁ e₁. total t₁ t₁ n₁ v r (omega arith) g₁ p₁ l₁ h e₁)
