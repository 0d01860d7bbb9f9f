-- One turn of `go_of`, by what the step does, and what holds at the head of the loop of `go`. Assumes nothing.
use mathlib.Core.Path.{◌≡◌, refl, sym, ap, ◌∙◌, subst}
use mathlib.Core.Bool.{Bool, true}
use mathlib.Core.List.{List, [], ◌∷◌}
use Prim.Native.Nat.{ℕ, zero, suc, ◌+◌, ◌*◌, ◌-◌, ◌<◌, ◌≤◌}
use native.Mathlib.Omega.{arith}
use denote.Enum.Declared.{tag_of}
use lib.ListN.{length, set}
use types.Run.{OneOf, miss}
use Rattle.machine.specs.Bytes.{count}
use Rattle.walker.specs.Shape.{put_event, with_depth, ask_of, answer_of, operate_of, fetched_of, step_of, number_of, ending_number, go_of, ended, Outcome}
use Rattle.walker.specs.Steps.{Ends, took_of, turn_of, last_of}
use Rattle.walker.specs.declared.Event.{Event}
use Rattle.walker.specs.declared.Next.{Next}
use Rattle.walker.specs.declared.Phase.{Phase}
use Rattle.walker.specs.declared.Reason.{Reason}
use Rattle.walker.specs.declared.Registers.{Registers}
use Rattle.walker.proofs.Keeps.{Keeps, keeps}
use Rattle.walker.specs.contracts.Next.{the_type}

module _ (t k a : List ℕ) (paused : Bool) where
  pub spent : (n : ℕ) (r : Registers) (rs o : List ℕ) (e d : ℕ) → n ≡ 0 → go_of t k a paused n r rs o e d ≡ ended Phase.Going r rs o e d 36
  unfolding go_of
  spent n r rs o e d z = rw z refl

  module _ (r : Registers) (rs o : List ℕ) (e d : ℕ) where
    abbrev pub stepped : Next
    stepped = step_of rs t k a (count o - 3 * e) paused r

    pub full : (n : ℕ) → 0 < n → stepped ≡ Next.Full → go_of t k a paused n r rs o e d ≡ ended Phase.Going r rs o e d 35
    unfolding go_of
    full zero h s = absurd (omega arith)
    full (suc n) h s = rw (s, go_of) refl

    pub outside : (n : ℕ) → 0 < n → stepped ≡ Next.Outside → go_of t k a paused n r rs o e d ≡ ended (Phase.Stopped Reason.Outside) r rs o e d 37
    unfolding go_of
    outside zero h s = absurd (omega arith)
    outside (suc n) h s = rw (s, go_of) refl

    pub stops : (n : ℕ) (x : Reason) → 0 < n → stepped ≡ Next.Stop x → go_of t k a paused n r rs o e d ≡ ended (Phase.Stopped x) r rs o e (d + 1) (number_of x)
    unfolding go_of
    stops zero x h s = absurd (omega arith)
    stops (suc n) x h s = rw (s, go_of) refl

    pub waits : (n : ℕ) (v : Registers) (x : Event) → 0 < n → stepped ≡ Next.Waits v x → go_of t k a paused n r rs o e d ≡ ended Phase.Waiting v rs (put_event o (3 * e) x) (e + 1) (d + 1) 22
    unfolding go_of
    waits zero v x h s = absurd (omega arith)
    waits (suc n) v x h s = rw (s, go_of) refl

    pub on : (n m : ℕ) (v : Registers) → n ≡ m + 1 → stepped ≡ Next.On v → go_of t k a paused n r rs o e d ≡ go_of t k a paused m v rs o e (d + 1)
    unfolding go_of
    on zero m v h s = absurd (omega arith)
    on (suc n) m v h s = let q : n ≡ m = omega arith in rw (s, go_of) (ap (λ (j : ℕ). go_of t k a paused j v rs o e (d + 1)) q)

    pub tells : (n m : ℕ) (v : Registers) (x : Event) → n ≡ m + 1 → stepped ≡ Next.Tells v x → go_of t k a paused n r rs o e d ≡ go_of t k a paused m v rs (put_event o (3 * e) x) (e + 1) (d + 1)
    unfolding go_of
    tells zero m v x h s = absurd (omega arith)
    tells (suc n) m v x h s = let q : n ≡ m = omega arith in rw (s, go_of) (ap (λ (j : ℕ). go_of t k a paused j v rs (put_event o (3 * e) x) (e + 1) (d + 1)) q)

    pub pushes : (n m : ℕ) (v : Registers) (l : ℕ) → n ≡ m + 1 → stepped ≡ Next.Push v l → go_of t k a paused n r rs o e d ≡ go_of t k a paused m (with_depth v (v.depth + 1)) (set rs v.depth l) o e (d + 1)
    unfolding go_of
    pushes zero m v l h s = absurd (omega arith)
    pushes (suc n) m v l h s = let q : n ≡ m = omega arith in rw (s, go_of) (ap (λ (j : ℕ). go_of t k a paused j (with_depth v (v.depth + 1)) (set rs v.depth l) o e (d + 1)) q)

-- an outcome by its parts
pub parts : {x y : Outcome} → x ≡ y → (x.walk ≡ y.walk) × ((x.events ≡ y.events) × ((x.steps ≡ y.steps) × ((x.number ≡ y.number) × (x.out ≡ y.out))))
parts p = (ap (λ (z : Outcome). z.walk) p, (ap (λ (z : Outcome). z.events) p, (ap (λ (z : Outcome). z.steps) p, (ap (λ (z : Outcome). z.number) p, ap (λ (z : Outcome). z.out) p))))

-- what holds at the head of the loop of `go`
pub record Inv (t k a : List ℕ) (paused : Bool) (budget : ℕ) (r₀ : Registers) (rs₀ o₀ : List ℕ) (r : Registers) (rs o : List ℕ) (e d room : ℕ) : Type 0 where
  pub deep : r.depth ≤ 64
  pub left : 3 * e + room ≡ count o
  pub as_long : length o ≡ length o₀
  pub within : d ≤ budget
  pub same : go_of t k a paused (budget - d) r rs o e d ≡ go_of t k a paused budget r₀ rs₀ o₀ 0 0

pub inv-as : {t k a : List ℕ} {paused : Bool} {budget : ℕ} {r₀ : Registers} {rs₀ o₀ : List ℕ} {d : ℕ} {r₁ r₂ : Registers} {rs₁ rs₂ o₁ o₂ : List ℕ} {e₁ e₂ room₁ room₂ : ℕ}
    → r₂ ≡ r₁ → rs₂ ≡ rs₁ → o₂ ≡ o₁ → e₂ ≡ e₁ → room₂ ≡ room₁ → Inv t k a paused budget r₀ rs₀ o₀ r₁ rs₁ o₁ e₁ d room₁ → Inv t k a paused budget r₀ rs₀ o₀ r₂ rs₂ o₂ e₂ d room₂
inv-as p q s u v m = rw (p, q, s, u, v) m

-- after a step that goes on it holds again
module _ {t k a : List ℕ} {paused : Bool} {budget : ℕ} {r₀ : Registers} {rs₀ o₀ : List ℕ} {r : Registers} {rs o : List ℕ} {e d room : ℕ} (i : Inv t k a paused budget r₀ rs₀ o₀ r rs o e d room) (more : d < budget) where
  abbrev Again : Registers → List ℕ → List ℕ → ℕ → ℕ → Type 0
  Again v vs u f left = Inv t k a paused budget r₀ rs₀ o₀ v vs u f (d + 1) left

  -- the step that was taken is that of `go_of`
  told : {x : Next} → step_of rs t k a room paused r ≡ x → stepped t k a paused r rs o e d ≡ x
  told s =
      let q : count o - 3 * e ≡ room = omega (arith, i.left) in
      ap (λ (n : ℕ). step_of rs t k a n paused r) q ∙ s

  pub kept : {x : Next} → step_of rs t k a room paused r ≡ x → Keeps room r x
  kept s = subst (Keeps room r) s (keeps room r rs t k a paused)

  pub again-on : {v : Registers} → step_of rs t k a room paused r ≡ Next.On v → Again v rs o e room
  again-on {v} s = record { deep = omega (arith, i.deep, (kept s).depth); left = i.left; as_long = i.as_long; within = omega (arith, more); same = sym (on t k a paused r rs o e d (budget - d) (budget - (d + 1)) v (omega (arith, more)) (told s)) ∙ i.same }

  pub again-tells : {v : Registers} {x : Event} {u : List ℕ} → step_of rs t k a room paused r ≡ Next.Tells v x → u ≡ put_event o (3 * e) x → length u ≡ length o → Again v rs u (e + 1) (room - 3)
  unfolding count
  again-tells {v} {x} {u} s p q = record { deep = omega (arith, i.deep, (kept s).0.depth); left = omega (arith, (kept s).1, i.left, q); as_long = q ∙ i.as_long; within = omega (arith, more); same = ap (λ (y : List ℕ). go_of t k a paused (budget - (d + 1)) v rs y (e + 1) (d + 1)) p ∙ sym (tells t k a paused r rs o e d (budget - d) (budget - (d + 1)) v x (omega (arith, more)) (told s)) ∙ i.same }

  pub again-pushes : {v : Registers} {l : ℕ} → step_of rs t k a room paused r ≡ Next.Push v l → Again (with_depth v (v.depth + 1)) (set rs v.depth l) o e room
  again-pushes {v} {l} s = record { deep = omega (arith, (kept s).1); left = i.left; as_long = i.as_long; within = omega (arith, more); same = sym (pushes t k a paused r rs o e d (budget - d) (budget - (d + 1)) v l (omega (arith, more)) (told s)) ∙ i.same }

  -- any other step, of the loop's last arm, ends the call
  pub others : (x : Next) → step_of rs t k a room paused r ≡ x → OneOf (0 ∷ 1 ∷ 2 ∷ 6 ∷ []) (tag_of the_type x) → Ends (count o - 3 * e) x
  others Next.Full s h = tt
  others Next.Outside s h = tt
  others (Next.Stop y) s h = tt
  others (Next.On v) s h = miss (0 ∷ 1 ∷ 2 ∷ 6 ∷ []) _ tt h
  others (Next.Tells v y) s h = miss (0 ∷ 1 ∷ 2 ∷ 6 ∷ []) _ tt h
  others (Next.Push v l) s h = miss (0 ∷ 1 ∷ 2 ∷ 6 ∷ []) _ tt h
  others (Next.Waits v y) s h = omega (arith, kept s, i.left)

  pub ends : (x : Next) → step_of rs t k a room paused r ≡ x → Ends (count o - 3 * e) x → last_of (took_of (record { phase = Phase.Going; at = r; returns = rs }) x) o e d ≡ go_of t k a paused budget r₀ rs₀ o₀ 0 0
  unfolding turn_of took_of ending_number number_of
  ends Next.Full s h = sym (full t k a paused r rs o e d (budget - d) (omega (arith, more)) (told s)) ∙ i.same
  ends Next.Outside s h = sym (outside t k a paused r rs o e d (budget - d) (omega (arith, more)) (told s)) ∙ i.same
  ends (Next.Stop y) s h = sym (stops t k a paused r rs o e d (budget - d) y (omega (arith, more)) (told s)) ∙ i.same
  ends (Next.On v) s h = absurd h
  ends (Next.Tells v y) s h = absurd h
  ends (Next.Push v l) s h = absurd h
  ends (Next.Waits v y) s h = sym (waits t k a paused r rs o e d (budget - d) v y (omega (arith, more)) (told s)) ∙ i.same

-- A paused walk looks at no answers

pub step-paused : (rs t k a b : List ℕ) (room : ℕ) (r : Registers) → step_of rs t k a room true r ≡ step_of rs t k b room true r
unfolding step_of fetched_of operate_of answer_of ask_of
step-paused rs t k a b room r = refl

module _ (t k a b : List ℕ) (n : ℕ) (less : (r : Registers) (rs o : List ℕ) (e d : ℕ) → go_of t k a true n r rs o e d ≡ go_of t k b true n r rs o e d) (r : Registers) (rs o : List ℕ) (e d : ℕ) where
  by-step : (x : Next) → stepped t k a true r rs o e d ≡ x → stepped t k b true r rs o e d ≡ x → go_of t k a true (suc n) r rs o e d ≡ go_of t k b true (suc n) r rs o e d
  by-step Next.Full p q = full t k a true r rs o e d (suc n) (omega arith) p ∙ sym (full t k b true r rs o e d (suc n) (omega arith) q)
  by-step Next.Outside p q = outside t k a true r rs o e d (suc n) (omega arith) p ∙ sym (outside t k b true r rs o e d (suc n) (omega arith) q)
  by-step (Next.Stop x) p q = stops t k a true r rs o e d (suc n) x (omega arith) p ∙ sym (stops t k b true r rs o e d (suc n) x (omega arith) q)
  by-step (Next.On v) p q = on t k a true r rs o e d (suc n) n v (omega arith) p ∙ less v rs o e (d + 1) ∙ sym (on t k b true r rs o e d (suc n) n v (omega arith) q)
  by-step (Next.Tells v x) p q = tells t k a true r rs o e d (suc n) n v x (omega arith) p ∙ less v rs (put_event o (3 * e) x) (e + 1) (d + 1) ∙ sym (tells t k b true r rs o e d (suc n) n v x (omega arith) q)
  by-step (Next.Push v l) p q = pushes t k a true r rs o e d (suc n) n v l (omega arith) p ∙ less (with_depth v (v.depth + 1)) (set rs v.depth l) o e (d + 1) ∙ sym (pushes t k b true r rs o e d (suc n) n v l (omega arith) q)
  by-step (Next.Waits v x) p q = waits t k a true r rs o e d (suc n) v x (omega arith) p ∙ sym (waits t k b true r rs o e d (suc n) v x (omega arith) q)

pub go-paused : (t k a b : List ℕ) (n : ℕ) (r : Registers) (rs o : List ℕ) (e d : ℕ) → go_of t k a true n r rs o e d ≡ go_of t k b true n r rs o e d
go-paused t k a b zero r rs o e d = spent t k a true 0 r rs o e d refl ∙ sym (spent t k b true 0 r rs o e d refl)
go-paused t k a b (suc n) r rs o e d = by-step t k a b n (λ v vs u f g. go-paused t k a b n v vs u f g) r rs o e d (stepped t k a true r rs o e d) refl (step-paused rs t k b a (count o - 3 * e) r)
