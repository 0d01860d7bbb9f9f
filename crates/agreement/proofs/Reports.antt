-- "Refusals apart, only 35 and 36 leave the walk going on": what each call's number says of its walk, for any table and any walk.
use mathlib.Core.Bool.{Bool, true, false}
use mathlib.Core.List.{List, ◌∷◌}
use mathlib.Core.Logic.{◌⊎◌, inl, inr}
use mathlib.Core.Option.{Option, none, some}
use mathlib.Core.Path.{◌≡◌, refl, sym, ap, ◌∙◌}
use Prim.Native.Nat.{ℕ, zero, suc, ◌+◌, ◌-◌, ◌≤◌}
use native.Mathlib.Omega.{arith}
use lib.Dec.{ltb}
use Rattle.std.specs.Prelude.{if◌then◌else◌}
use Rattle.events.specs.Events.{Event, Reason, finished, differs, missing, unlabelled, deep, unanswered, outside, reason_number, answer}
use Rattle.machine.proofs.Form.{reason-back}
use Rattle.machine.specs.Call.{Mode, whole, paused, Called, ends, ends_for, writing, Turn, over, further, takes, hands_out, turn, run, call_in, call_walk}
use Rattle.machine.specs.Form.{reason_of}
use Rattle.machine.specs.Step.{Next}
use Rattle.machine.specs.Walk
use Rattle.machine.specs.Walk.{Phase, going, waiting, stopped, Walk, with_answer, at_rest}
use Rattle.agreement.specs.Demand.{ListedFrom, then_call}
use Rattle.agreement.specs.Reports.{Reports, refused, full, spent, handed_out, ended}
use Rattle.agreement.proofs.Lists.{After, after-outside, after_stop, after-goes, after-tells, after-asks, step_after, resume, run-resume}

-- 35 and 36 are told of a walk that goes on, and of no other
never : (k : ℕ) → (k ≡ 35) ⊎ (k ≡ 36) → (r : Reason) → reason_number r ≡ k → ⊥
unfolding reason_number
never k (inl d) finished e = omega (arith, d, e)
never k (inl d) differs e = omega (arith, d, e)
never k (inl d) missing e = omega (arith, d, e)
never k (inl d) unlabelled e = omega (arith, d, e)
never k (inl d) deep e = omega (arith, d, e)
never k (inl d) unanswered e = omega (arith, d, e)
never k (inl d) outside e = omega (arith, d, e)
never k (inr d) finished e = omega (arith, d, e)
never k (inr d) differs e = omega (arith, d, e)
never k (inr d) missing e = omega (arith, d, e)
never k (inr d) unlabelled e = omega (arith, d, e)
never k (inr d) deep e = omega (arith, d, e)
never k (inr d) unanswered e = omega (arith, d, e)
never k (inr d) outside e = omega (arith, d, e)

pub goes_on : {k : ℕ} {p : Phase} → Reports k p → (k ≡ 35) ⊎ (k ≡ 36) → p ≡ going
goes_on refused (inl e) = absurd (omega (arith, e))
goes_on refused (inr e) = absurd (omega (arith, e))
goes_on full d = refl
goes_on spent d = refl
goes_on handed_out (inl e) = absurd (omega (arith, e))
goes_on handed_out (inr e) = absurd (omega (arith, e))
goes_on (ended r) d = absurd (never (reason_number r) d r refl)

in-this : {k : ℕ} {p q : Phase} → p ≡ q → Reports k q → Reports k p
in-this e h = rw e h

abbrev Tells : Called → Type 0
Tells c = Reports c.number c.walk.phase

stops-for : (r : Reason) (n : ℕ) (w : Walk) → Tells (ends_for r n w)
unfolding ends_for ends Walk.opened
stops-for r n w = ended r

module _ (T tokens : List ℕ) where
  module _ (b : ℕ) (m : Mode) (n : ℕ) (rest : (room : ℕ) (v : Walk) → v.phase ≡ going → Tells (run T tokens b m room (n + 1) v)) where
    if-tells : (t : Bool) (x y : Turn) → Tells (resume T tokens b m n x) → Tells (resume T tokens b m n y) → Tells (resume T tokens b m n (if t then x else y))
    if-tells true x y p q = p
    if-tells false x y p q = q

    takes-tells : (o : Option ℕ) (room : ℕ) (w : Walk) (e : Event) (v : Walk) → Tells (resume T tokens b m n (takes o room n w e v))
    unfolding takes resume Walk.opened
    takes-tells none room w e v = stops-for unanswered (n + 1) w
    takes-tells (some x) room w e v = rest (room - 3) (with_answer x (writing e v)) refl

    hands-tells : (m' : Mode) (room : ℕ) (w : Walk) (e : Event) (v : Walk) → Tells (resume T tokens b m n (hands_out m' room n w e v))
    unfolding hands_out resume ends Walk.opened
    hands-tells (whole given) room w e v = takes-tells (answer given w.io) room w e v
    hands-tells (paused x) room w e v = handed_out

    full-tells : (w : Walk) → w.phase ≡ going → Tells (ends 35 n w)
    unfolding ends Walk.opened
    full-tells w g = in-this g full

    turn-tells : {nx : Next} (room : ℕ) (w : Walk) → After w nx → w.phase ≡ going → Tells (resume T tokens b m n (turn m room n w nx))
    unfolding turn resume writing Walk.opened
    turn-tells room w after-outside g = stops-for outside n w
    turn-tells room w (after_stop r o) g = stops-for r (n + 1) w
    turn-tells room w (after-goes v k) g = rest room v (k.phase ∙ g)
    turn-tells room w (after-tells e v c k) g =
        if-tells (ltb room 3) (over (ends 35 n w)) (further (room - 3) (writing e v)) (full-tells w g) (rest (room - 3) (writing e v) (k.phase ∙ g))
    turn-tells room w (after-asks e v c past k) g =
        if-tells (ltb room 3) (over (ends 35 n w)) (hands_out m room n w e v) (full-tells w g) (hands-tells m room w e v)

  run-tells : (b : ℕ) (m : Mode) (room n : ℕ) (w : Walk) → w.phase ≡ going → Tells (run T tokens b m room n w)
  unfolding run ends Walk.opened
  run-tells zero m room n w g = in-this g spent
  run-tells (suc b) m room n w g =
      rw (run-resume T tokens b m room n w) (turn-tells b m n (λ room v. run-tells b m room (n + 1) v) room w (step_after T tokens w) g)

  call-tells : (p : Phase) (m : Mode) (budget room : ℕ) (w : Walk) → w.phase ≡ p → Tells (call_in T tokens p m budget room w)
  unfolding call_in Walk.opened
  call-tells going (whole given) budget room w g = run-tells budget (whole given) room 0 (at_rest w) g
  call-tells going (paused none) budget room w g = run-tells budget (paused none) room 0 (at_rest w) g
  call-tells going (paused (some x)) budget room w g = refused
  call-tells waiting (whole given) budget room w g = refused
  call-tells waiting (paused none) budget room w g = refused
  call-tells waiting (paused (some x)) budget room w g = run-tells budget (paused none) room 0 (with_answer x (at_rest w)) refl
  call-tells (stopped r) (whole given) budget room w g = in-this g (ended r)
  call-tells (stopped r) (paused none) budget room w g = in-this g (ended r)
  call-tells (stopped r) (paused (some x)) budget room w g = refused

  -- of every call
  pub reports : (m : Mode) (budget room : ℕ) (w : Walk) → Reports (call_walk T tokens m budget room w).number (call_walk T tokens m budget room w).walk.phase
  unfolding call_walk
  reports m budget room w = call-tells w.phase m budget room w refl

  -- of the last call of a list
  pub reports-last : {answers : List ℕ} {w₀ : Walk} {es₀ : List Event} {w : Walk} {es : List Event} {n number : ℕ} {ns : List ℕ}
      → ListedFrom T tokens answers w₀ es₀ w es n (number ∷ ns) → Reports number w.phase
  reports-last (then_call {w = w} l m budget room a) = reports m budget room w

-- A reason's number is no other's, nor 21, 22, 35 or 36

none-low : (r : Reason) (k : ℕ) → 1 ≤ k → k ≤ 29 → k ≡ reason_number r → ⊥
unfolding reason_number
none-low finished k h l e = omega arith
none-low differs k h l e = omega arith
none-low missing k h l e = omega arith
none-low unlabelled k h l e = omega arith
none-low deep k h l e = omega arith
none-low unanswered k h l e = omega arith
none-low outside k h l e = omega arith

none-high : (r : Reason) (k : ℕ) → 35 ≤ k → k ≤ 36 → k ≡ reason_number r → ⊥
unfolding reason_number
none-high finished k h l e = omega arith
none-high differs k h l e = omega arith
none-high missing k h l e = omega arith
none-high unlabelled k h l e = omega arith
none-high deep k h l e = omega arith
none-high unanswered k h l e = omega arith
none-high outside k h l e = omega arith

-- so a call that answers it has stopped the walk for that reason, or found it so
pub reports-stop : {k : ℕ} {p : Phase} (r : Reason) → Reports k p → k ≡ reason_number r → p ≡ stopped r
reports-stop r refused e = absurd (none-low r 21 (omega arith) (omega arith) e)
reports-stop r full e = absurd (none-high r 35 (omega arith) (omega arith) e)
reports-stop r spent e = absurd (none-high r 36 (omega arith) (omega arith) e)
reports-stop r handed_out e = absurd (none-low r 22 (omega arith) (omega arith) e)
reports-stop r (ended s) e = ap stopped (sym (reason-back s) ∙ ap reason_of e ∙ reason-back r)
