-- A call's loop is the walk's steps repeated: `repeats`. Assumes nothing.
use mathlib.Core.Path.{◌≡◌, refl, sym, ap, ◌∙◌}
use mathlib.Core.Bool.{Bool, true, false}
use mathlib.Core.List.{List, [], ◌∷◌}
use Prim.Native.Nat.{ℕ, zero, suc, ◌+◌, ◌*◌, ◌-◌, ◌≤◌, min}
use native.Mathlib.Omega.{arith}
use denote.Enum.Declared.{tag_of}
use lib.Dec.{eqb, leb}
use lib.ListN.{set}
use borrow.Author.Tests.{leb-true}
use types.Run.{OneOf, miss}
use Rattle.std.specs.Prelude.{if◌then◌else◌}
use Rattle.machine.specs.Bytes.{count, word_at}
use Rattle.machine.specs.Lengths.{lengths, length_of}
use Rattle.walker.specs.Shape.{size, put_event, ending_number, number_of, any_of, return_of, act_of, fetched_of, with_depth, first64, answered_one, step_of, go_of, whole_of, paused_of, Outcome}
use Rattle.walker.specs.Steps.{says, Holds, Ends, took_of, number_at, next_of, walk_step_of, turn_of, last_of, steps_of, Repeats}
use Rattle.walker.specs.declared.Ending.{Ending}
use Rattle.walker.specs.declared.Next.{Next}
use Rattle.walker.specs.declared.Phase.{Phase}
use Rattle.walker.specs.declared.Reason.{Reason}
use Rattle.walker.specs.declared.Registers.{Registers}
use Rattle.walker.specs.declared.Said.{Said}
use Rattle.walker.specs.declared.Walk.{Walk}
use Rattle.walker.proofs.Keeps.{Keeps, keeps}
use Rattle.walker.proofs.Laws.{here}
use Rattle.walker.specs.contracts.Next.{the_type}
use Rattle.walker.proofs.Go.{stepped, full, outside, stops, waits, on, tells, pushes}

abbrev going : Registers → List ℕ → Walk
going r rs = record { phase = Phase.Going; at = r; returns = rs }

-- registers that hold 64 return locations at most are read as they are
as-they-are : (r : Registers) → r.depth ≤ 64 → first64 r ≡ r
as-they-are r deep =
    let e : min r.depth 64 ≡ r.depth = omega arith in
    ap (with_depth r) e

module _ (t k a : List ℕ) (paused : Bool) where
  abbrev Same : ℕ → Type 0
  Same n = (r : Registers) (rs o : List ℕ) (e d : ℕ) → r.depth ≤ 64 → go_of t k a paused n r rs o e d ≡ steps_of t k a paused n (going r rs) o e d

  module _ (n : ℕ) (less : Same n) (r : Registers) (rs o : List ℕ) (e d : ℕ) where
    -- after a step that does x
    then-x : Next → Outcome
    then-x x = turn_of (steps_of t k a paused n) (took_of (going r rs) x) o e d

    one_more_lem : first64 r ≡ r → (x : Next) → stepped t k a paused r rs o e d ≡ x → steps_of t k a paused (suc n) (going r rs) o e d ≡ then-x x
    unfolding steps_of walk_step_of then-x
    one_more_lem f x s =
        ap (λ (q : Registers). turn_of (steps_of t k a paused n) (took_of (going q rs) (step_of rs t k a (count o - 3 * e) paused q)) o e d) f ∙ ap then-x s

    by-step : r.depth ≤ 64 → (x : Next) → stepped t k a paused r rs o e d ≡ x → Keeps (count o - 3 * e) r x → go_of t k a paused (suc n) r rs o e d ≡ then-x x
    unfolding then-x turn_of took_of ending_number number_of
    by-step deep Next.Full s h = full t k a paused r rs o e d (suc n) (omega arith) s
    by-step deep Next.Outside s h = outside t k a paused r rs o e d (suc n) (omega arith) s
    by-step deep (Next.Stop x) s h = stops t k a paused r rs o e d (suc n) x (omega arith) s
    by-step deep (Next.On v) s h = on t k a paused r rs o e d (suc n) n v (omega arith) s ∙ less v rs o e (d + 1) (omega (arith, deep, h.depth))
    by-step deep (Next.Tells v x) s h = tells t k a paused r rs o e d (suc n) n v x (omega arith) s ∙ less v rs (put_event o (3 * e) x) (e + 1) (d + 1) (omega (arith, deep, h.0.depth))
    by-step deep (Next.Push v l) s h = pushes t k a paused r rs o e d (suc n) n v l (omega arith) s ∙ less (with_depth v (v.depth + 1)) (set rs v.depth l) o e (d + 1) (omega (arith, h.1))
    by-step deep (Next.Waits v x) s h = waits t k a paused r rs o e d (suc n) v x (omega arith) s

  pub steps-go : (n : ℕ) → Same n
  unfolding go_of steps_of
  steps-go zero r rs o e d deep = refl
  steps-go (suc n) r rs o e d deep =
      let x = stepped t k a paused r rs o e d in
      by-step n (steps-go n) r rs o e d deep x refl (keeps (count o - 3 * e) r rs t k a paused) ∙ sym (one_more_lem n (steps-go n) r rs o e d (as-they-are r deep) x refl)

read-64 : (d : ℕ) → min d 64 ≤ 64
read-64 d = omega arith

pub repeats : (t k : List ℕ) (n : ℕ) (w : Walk) (o : List ℕ) → Repeats t k n w o
unfolding whole_of paused_of
repeats t k n w o = record {
  whole = λ a p. rw p (steps-go t k a false n (first64 w.at) w.returns o 0 0 (read-64 w.at.depth));
  paused = λ p. rw p (steps-go t k [] true n (first64 w.at) w.returns o 0 0 (read-64 w.at.depth));
  answer = λ x p. rw p (steps-go t k [] true n (answered_one (first64 w.at) x) w.returns o 0 0 (read-64 w.at.depth));
}

-- The instructions that `Walk::next` does by the walk's own methods

picked : (b i : Bool) (x m : ℕ) → (if b then 0 else if i then x else 0) ≡ suc m → (b ≡ false) × ((i ≡ true) × (x ≡ suc m))
picked true i x m e = absurd (omega (arith, e))
picked false true x m e = (refl, (refl, e))
picked false false x m e = absurd (omega (arith, e))

module _ (t : List ℕ) where
  found : (l m : ℕ) → number_at t l ≡ suc m → (eqb l 0 ≡ false) × ((leb l (size t) ≡ true) × (word_at t (l - 1) ≡ suc m))
  unfolding number_at
  found l m e = picked (eqb l 0) (leb l (size t)) (word_at t (l - 1)) m e

  pub inside-at : (l m : ℕ) → number_at t l ≡ suc m → l ≤ size t
  inside-at l m e = leb-true l (size t) (found l m e).1.0

  module _ (rs k a : List ℕ) (room : ℕ) (q : Bool) (r : Registers) where
    pub step-any : number_at t r.location ≡ 4 → step_of rs t k a room q r ≡ any_of k r
    unfolding step_of fetched_of act_of lengths length_of
    step-any e =
        let f = found r.location 3 e in
        rw (f.0, f.1.0, f.1.1, here (leb-true r.location (size t) f.1.0) refl) refl

    pub step-return : number_at t r.location ≡ 9 → step_of rs t k a room q r ≡ return_of rs t r
    unfolding step_of fetched_of act_of lengths length_of
    step-return e =
        let f = found r.location 8 e in
        rw (f.0, f.1.0, f.1.1, here (leb-true r.location (size t) f.1.0) refl) refl

-- a step pushes only below 64
holds : (room : ℕ) (r : Registers) (x : Next) → Keeps room r x → Holds x
holds room r Next.Full h = tt
holds room r Next.Outside h = tt
holds room r (Next.Stop x) h = tt
holds room r (Next.On v) h = tt
holds room r (Next.Tells v x) h = tt
holds room r (Next.Push v l) h = h.1
holds room r (Next.Waits v x) h = tt

pub step-holds : (rs t k a : List ℕ) (room : ℕ) (q : Bool) (r : Registers) → Holds (step_of rs t k a room q r)
step-holds rs t k a room q r = holds room r (step_of rs t k a room q r) (keeps room r rs t k a q)

-- The step that ends a call

-- the last arm of `last`
pub only-full : (room : ℕ) (x : Next) → Ends room x → OneOf (0 ∷ 3 ∷ 4 ∷ 5 ∷ []) (tag_of the_type x) → x ≡ Next.Full
only-full room Next.Full h k = refl
only-full room Next.Outside h k = absurd (miss (0 ∷ 3 ∷ 4 ∷ 5 ∷ []) _ tt k)
only-full room (Next.Stop y) h k = absurd (miss (0 ∷ 3 ∷ 4 ∷ 5 ∷ []) _ tt k)
only-full room (Next.On v) h k = absurd h
only-full room (Next.Tells v y) h k = absurd h
only-full room (Next.Push v l) h k = absurd h
only-full room (Next.Waits v y) h k = absurd (miss (0 ∷ 3 ∷ 4 ∷ 5 ∷ []) _ tt k)

pub last_as : (w : Walk) (o : List ℕ) (e d : ℕ) {x y : Next} → x ≡ y → last_of (took_of w y) o e d ≡ last_of (took_of w x) o e d
last_as w o e d p = ap (λ (z : Next). last_of (took_of w z) o e d) (sym p)

-- A step by the walk's phase

module _ (t k a : List ℕ) (room : ℕ) (q : Bool) (w : Walk) where
  pub step-goes : (v : Walk) → v.phase ≡ w.phase → v.at ≡ first64 w.at → v.returns ≡ w.returns → w.phase ≡ Phase.Going → next_of t k a room q v ≡ walk_step_of t k a room q w w.phase
  unfolding walk_step_of
  step-goes v p at rs g = ap (next_of t k a room q) (λ i. record { phase = p i; at = at i; returns = rs i }) ∙ sym (ap (walk_step_of t k a room q w) g)

  pub step_waits : w.phase ≡ Phase.Waiting → says w (Said.Undone Ending.Refused) ≡ walk_step_of t k a room q w w.phase
  unfolding walk_step_of
  step_waits g = sym (ap (walk_step_of t k a room q w) g)

  pub step-stops : (x : Reason) → w.phase ≡ Phase.Stopped x → says w (Said.Undone (Ending.Stopped x)) ≡ walk_step_of t k a room q w w.phase
  unfolding walk_step_of
  step-stops x g = sym (ap (walk_step_of t k a room q w) g)
