-- What stands behind a taken table changes nothing: each step of a walk at a reachable location is the same with it and without it.
use mathlib.Core.List.{List, ◌++◌}
use mathlib.Core.Option.{none, some}
use mathlib.Core.Path.{◌≡◌, refl, sym, ap, ◌∙◌}
use Prim.Native.Nat.{ℕ, zero, suc, ◌+◌}
use Rattle.agreement.proofs.Lists.{resume, run-resume}
use Rattle.agreement.specs.Demand.{Listed, begin, then_call}
use Rattle.events.specs.Events.{Event}
use Rattle.figure.proofs.More.{Alike, alike-out, alike, step-alike}
use Rattle.loading.specs.Reach.{Taken}
use Rattle.machine.specs.Call.{Mode, whole, paused, Turn, over, further, turn, run, call_in, call_walk}
use Rattle.machine.specs.Step.{Next, step}
use Rattle.machine.specs.Walk.{Phase, going, waiting, stopped, Walk, with_answer, at_rest}
use Rattle.safety.proofs.Steps.{Stands, Fine, step-fine, Turned, turn-right, rests, takes-answer, led}
use Rattle.safety.specs.Promise.{BehindNothing}

module _ (T more tokens : List ℕ) (good : Taken T) where
  step_same : (w : Walk) → Stands T w → step (T ++ more) tokens w ≡ step T tokens w
  unfolding Fine
  step_same w s = go (step T tokens w) (step (T ++ more) tokens w) (step-alike T more tokens w) (step-fine T tokens good w s)
    where
      go : (x y : Next) → Alike x y → Fine T tokens good x → y ≡ x
      go x y alike-out f = absurd f
      go x y alike f = refl

  run-same : (b : ℕ) (m : Mode) (room n : ℕ) (w : Walk) → Stands T w → run (T ++ more) tokens b m room n w ≡ run T tokens b m room n w
  unfolding run resume Turned
  run-same zero m room n w s = refl
  run-same (suc b) m room n w s =
      run-resume (T ++ more) tokens b m room n w ∙ ap (λ (x : Next). resume (T ++ more) tokens b m n (turn m room n w x)) (step_same w s)
      ∙ go (turn m room n w (step T tokens w)) (turn-right T tokens good m room n w (step T tokens w) s (step-fine T tokens good w s)) (λ left v h. run-same b m left (n + 1) v h)
      ∙ sym (run-resume T tokens b m room n w)
    where
      go : (t : Turn) → Turned T tokens good t → ((left : ℕ) (v : Walk) → Stands T v → run (T ++ more) tokens b m left (n + 1) v ≡ run T tokens b m left (n + 1) v)
          → resume (T ++ more) tokens b m n t ≡ resume T tokens b m n t
      go (over c) h i = refl
      go (further left v) h i = i left v h

  call_in-same : (p : Phase) (m : Mode) (budget room : ℕ) (w : Walk) → Stands T w → call_in (T ++ more) tokens p m budget room w ≡ call_in T tokens p m budget room w
  unfolding call_in
  call_in-same going (whole answers) budget room w s = run-same budget (whole answers) room 0 (at_rest w) (rests T tokens good s)
  call_in-same going (paused none) budget room w s = run-same budget (paused none) room 0 (at_rest w) (rests T tokens good s)
  call_in-same going (paused (some x)) budget room w s = refl
  call_in-same waiting (whole answers) budget room w s = refl
  call_in-same waiting (paused none) budget room w s = refl
  call_in-same waiting (paused (some x)) budget room w s = run-same budget (paused none) room 0 (with_answer x (at_rest w)) (takes-answer T tokens good x (rests T tokens good s))
  call_in-same (stopped r) (whole answers) budget room w s = refl
  call_in-same (stopped r) (paused none) budget room w s = refl
  call_in-same (stopped r) (paused (some x)) budget room w s = refl

  pub call_same : (m : Mode) (budget room : ℕ) (w : Walk) → Stands T w → call_walk (T ++ more) tokens m budget room w ≡ call_walk T tokens m budget room w
  unfolding call_walk
  call_same m budget room w s = call_in-same w.phase m budget room w s

  module _ (answers : List ℕ) (allowance : ℕ) where
    with_more : {w : Walk} {es : List Event} {n : ℕ} {ns : List ℕ} → Listed T tokens answers allowance w es n ns → Listed (T ++ more) tokens answers allowance w es n ns
    with_more begin = begin
    with_more (then_call {w = w} l m budget room a) = rw (← call_same m budget room w (led T tokens good allowance l).walk) (then_call (with_more l) m budget room a)

    without : {w : Walk} {es : List Event} {n : ℕ} {ns : List ℕ} → Listed (T ++ more) tokens answers allowance w es n ns → Listed T tokens answers allowance w es n ns
    without begin = begin
    without (then_call {w = w} l m budget room a) = let h = without l in rw (call_same m budget room w (led T tokens good allowance h).walk) (then_call h m budget room a)

pub behind-nothing : BehindNothing
behind-nothing T more good tokens answers allowance = record { with_more = with_more T more tokens good answers allowance; without = without T more tokens good answers allowance }
