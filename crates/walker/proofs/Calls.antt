-- What a call's code gives, by phase, is what `whole_of` and `paused_of` say. Assumes nothing.
use mathlib.Core.Path.{◌≡◌, refl, sym, ap, ◌∙◌}
use mathlib.Core.Bool.{true, false}
use mathlib.Core.List.{List, []}
use Rattle.std.specs.Prelude.{Option, Some, None}
use Prim.Native.Nat.{ℕ}
use Rattle.walker.specs.Shape.{Outcome, answered_one, first64, number_of, go_of, kept_of, whole_of, paused_of}
use Rattle.walker.specs.declared.Phase.{Phase}
use Rattle.walker.specs.declared.Reason.{Reason}
use Rattle.walker.specs.declared.Walk.{Walk}
use Rattle.walker.proofs.Go.{go-paused}

-- an outcome by its parts, of which another says the same
pub retold : {x y : Outcome} {w : Walk} {e d n : ℕ} {o : List ℕ} → x ≡ y → (w ≡ x.walk) × ((e ≡ x.events) × ((d ≡ x.steps) × ((n ≡ x.number) × (o ≡ x.out)))) → (w ≡ y.walk) × ((e ≡ y.events) × ((d ≡ y.steps) × ((n ≡ y.number) × (o ≡ y.out))))
retold p h = (h.0 ∙ ap (λ (z : Outcome). z.walk) p, (h.1.0 ∙ ap (λ (z : Outcome). z.events) p, (h.1.1.0 ∙ ap (λ (z : Outcome). z.steps) p, (h.1.1.1.0 ∙ ap (λ (z : Outcome). z.number) p, h.1.1.1.1 ∙ ap (λ (z : Outcome). z.out) p))))

module _ (t k : List ℕ) (n : ℕ) (w : Walk) (o : List ℕ) where
  module _ (a : List ℕ) where
    pub whole-goes : (v : Walk) → v.at ≡ first64 w.at → v.returns ≡ w.returns → w.phase ≡ Phase.Going → go_of t k a false n v.at v.returns o 0 0 ≡ whole_of t k a n w o w.phase
    unfolding whole_of
    whole-goes v q r p = rw (p, q, r) refl

    pub whole-waits : w.phase ≡ Phase.Waiting → kept_of w o 21 ≡ whole_of t k a n w o w.phase
    unfolding whole_of
    whole-waits p = rw p refl

    pub whole-stops : (x : Reason) → w.phase ≡ Phase.Stopped x → kept_of w o (number_of x) ≡ whole_of t k a n w o w.phase
    unfolding whole_of
    whole-stops x p = sym (ap (whole_of t k a n w o) p)

  module _ (g : Option ℕ) where
    pub paused-goes : (b : List ℕ) (v : Walk) → v.at ≡ first64 w.at → v.returns ≡ w.returns → w.phase ≡ Phase.Going → g ≡ None → go_of t k b true n v.at v.returns o 0 0 ≡ paused_of t k g n w o w.phase
    unfolding paused_of
    paused-goes b v q r p e = rw (p, e, q, r) (go-paused t k b [] n (first64 w.at) w.returns o 0 0)

    pub paused-answers : (x : ℕ) (b : List ℕ) (v : Walk) → v.at ≡ answered_one (first64 w.at) x → v.returns ≡ w.returns → w.phase ≡ Phase.Waiting → g ≡ Some x → go_of t k b true n v.at v.returns o 0 0 ≡ paused_of t k g n w o w.phase
    unfolding paused_of
    paused-answers x b v q r p e = rw (p, e, q, r) (go-paused t k b [] n (answered_one (first64 w.at) x) w.returns o 0 0)

    pub paused-stops : (y : Reason) → w.phase ≡ Phase.Stopped y → g ≡ None → kept_of w o (number_of y) ≡ paused_of t k g n w o w.phase
    unfolding paused_of
    paused-stops y p e = rw e (sym (ap (paused_of t k None n w o) p))

    pub refused-going : (x : ℕ) → w.phase ≡ Phase.Going → g ≡ Some x → kept_of w o 21 ≡ paused_of t k g n w o w.phase
    unfolding paused_of
    refused-going x p e = rw (p, e) refl

    pub refused-waiting : w.phase ≡ Phase.Waiting → g ≡ None → kept_of w o 21 ≡ paused_of t k g n w o w.phase
    unfolding paused_of
    refused-waiting p e = rw (p, e) refl

    pub refused-stopped : (x : ℕ) (y : Reason) → w.phase ≡ Phase.Stopped y → g ≡ Some x → kept_of w o 21 ≡ paused_of t k g n w o w.phase
    unfolding paused_of
    refused-stopped x y p e = rw (p, e) refl
