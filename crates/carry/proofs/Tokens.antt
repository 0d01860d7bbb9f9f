-- Of every single step over a table: tokens read never pass the last and never fall; the allowance falls by a repair alone.
use mathlib.Core.Bool.{Bool, true, false}
use mathlib.Core.List.{List, [], ◌∷◌}
use mathlib.Core.Option.{Option, none, some}
use mathlib.Core.Path.{◌≡◌, refl}
use Prim.Native.Nat.{ℕ, zero, suc, ◌+◌, ◌-◌, ◌*◌, ◌≤◌, ◌<◌}
use native.Mathlib.Omega.{arith}
use lib.Dec.{leb, ltb}
use lib.ListN.{length, get_elem?}
use Rattle.agreement.proofs.Single.{taking, done, one_in, one, runs}
use Rattle.base.specs.Bools.{never}
use Rattle.std.specs.Prelude.{if◌then◌else◌}
use Rattle.base.specs.Common.{given}
use Rattle.events.specs.Events as events
use Rattle.events.specs.Events.{Event, Reason, choices, Io, present, took, mends, spent, is, repair, differs, missing, deep}
use Rattle.machine.specs.Call.{writing}
use Rattle.machine.specs.Decode.{fetch, Instruction, invalid, jump, input, input_any, write, input_choice, call_rule, return, set_result, choice, end_choice, set_parameter, update, update_with, choose, choose_with, decode}
use Rattle.machine.specs.Step.{Next, goes_outside, stops, goes, tells, asks, go_to, seek_by, landed, branched, input_choosing, calling, returning, requiring, exec, step}
use Rattle.machine.specs.Walk
use Rattle.machine.specs.Walk.{Phase, going, waiting, stopped, Walk, moved, with_returns, with_result, with_io}

below : (ts : List ℕ) (i : ℕ) → given (get_elem? ts i) ≡ true → i < length ts
below [] i e = never e
below (t ∷ ts) zero e = omega arith
below (t ∷ ts) (suc i) e = omega (arith, below ts i e)

is-given : (t : ℕ) (o : Option ℕ) → is t o ≡ true → given o ≡ true
unfolding is
is-given t none e = e
is-given t (some u) e = refl

module _ (T tokens : List ℕ) where
  -- v has read as much as w or more, and no more than there is if w has
  pub record Reads (w v : Walk) : Type 0 where
    pub onward : w.io.read ≤ v.io.read
    pub inside : w.io.read ≤ length tokens → v.io.read ≤ length tokens

  -- and holds the same allowance
  pub record Goes (w v : Walk) : Type 0 where
    pub reads : Reads w v
    pub allowance : v.io.allowance ≡ w.io.allowance

  -- or one less
  pub record Tells (w v : Walk) : Type 0 where
    pub reads : Reads w v
    pub allowance : w.io.allowance ≤ v.io.allowance + 1

  unfoldable pub Leaves : Walk → Next → Type 0
  Leaves w goes_outside = Unit {0}
  Leaves w (stops r) = Unit {0}
  Leaves w (goes v) = Goes w v
  Leaves w (tells e v) = Tells w v
  Leaves w (asks e v) = Goes w v

  same_reads : (w v : Walk) → v.io.read ≡ w.io.read → Reads w v
  same_reads w v e = record { onward = omega (arith, e); inside = λ h. omega (arith, e, h) }

  same_read : (w v : Walk) → v.io.read ≡ w.io.read → v.io.allowance ≡ w.io.allowance → Goes w v
  same_read w v e f = record { reads = same_reads w v e; allowance = f }

  told : (w v : Walk) → v.io.read ≡ w.io.read → w.io.allowance ≤ v.io.allowance + 1 → Tells w v
  told w v e f = record { reads = same_reads w v e; allowance = f }

  one-read : (w v : Walk) → given (present tokens w.io) ≡ true → v.io.read ≡ w.io.read + 1 → v.io.allowance ≡ w.io.allowance → Goes w v
  unfolding present
  one-read w v g e f = record { reads = record { onward = omega (arith, e); inside = λ h. omega (arith, e, below tokens w.io.read g) }; allowance = f }

  leaves-if : (w : Walk) (b : Bool) (x y : Next) → (b ≡ true → Leaves w x) → (b ≡ false → Leaves w y) → Leaves w (if b then x else y)
  leaves-if w true x y p q = p refl
  leaves-if w false x y p q = q refl

  go_to-leaves : (w : Walk) (l : ℕ) (v : Walk) → Goes w v → Leaves w (go_to T tokens l v)
  unfolding go_to Leaves moved
  go_to-leaves w l v r = leaves-if w (given (fetch T l)) (goes (moved l v)) goes_outside (λ _. record { reads = record { onward = r.reads.onward; inside = r.reads.inside }; allowance = r.allowance }) (λ _. tt)

  landed-leaves : (w : Walk) (o : Option ℕ) (d : ℕ) (v u : Walk) → Goes w v → Goes w u → Leaves w (landed T tokens o d v u)
  unfolding landed Leaves
  landed-leaves w none d v u r s = go_to-leaves w d u s
  landed-leaves w (some l) d v u r s = go (fetch T l)
    where
      go : (o : Option ℕ) → Leaves w (elim o as (λ _. Next) [ none ↦ goes_outside | some x ↦ go_to T tokens (l - x) v ])
      go none = tt
      go (some x) = go_to-leaves w (l - x) v r

  branched-leaves : (w : Walk) (n o : Option ℕ) (c : ℕ) (v u : Walk) → Goes w v → Goes w u → Leaves w (branched T tokens n o c v u)
  unfolding branched Leaves
  branched-leaves w none o c v u r s = tt
  branched-leaves w (some n) o c v u r s =
      leaves-if w (leb (c + 2 * n) (length T)) (landed T tokens (seek_by T tokens o n (c + 1)) (c + 1 + 2 * n) v u) goes_outside
      (λ _. landed-leaves w (seek_by T tokens o n (c + 1)) (c + 1 + 2 * n) v u r s) (λ _. tt)

  choosing-leaves : (w : Walk) (o : Option ℕ) (c : ℕ) → present tokens w.io ≡ o → Leaves w (input_choosing T tokens o c w)
  unfolding input_choosing Walk.opened events.opened
  choosing-leaves w none c e = branched-leaves w (fetch T c) none c w w (same_read w w refl refl) (same_read w w refl refl)
  choosing-leaves w (some t) c e =
      branched-leaves w (fetch T c) (some t) c (with_io (took w.io) (with_result t w)) (with_result t w) (one-read w _ (rw e) refl refl) (same_read w _ refl refl)

  calling-leaves : (w : Walk) (l : ℕ) → Leaves w (calling T tokens l w)
  unfolding calling Leaves Walk.opened
  calling-leaves w l =
      leaves-if w (given (fetch T l)) (if ltb (length w.returns) 64 then goes (moved l (with_returns ((w.location + 2) ∷ w.returns) w)) else stops deep) goes_outside
      (λ _. leaves-if w (ltb (length w.returns) 64) (goes (moved l (with_returns ((w.location + 2) ∷ w.returns) w))) (stops deep) (λ _. same_read w _ refl refl) (λ _. tt)) (λ _. tt)

  returning-leaves : (w : Walk) (rs : List ℕ) → Leaves w (returning T tokens rs w)
  unfolding returning Leaves with_returns
  returning-leaves w [] = tt
  returning-leaves w (l ∷ rs) = go_to-leaves w l (with_returns rs w) (same_read w _ refl refl)

  requiring-leaves : (w : Walk) (t : ℕ) (b : Bool) → (b ≡ true → given (present tokens w.io) ≡ true) → Leaves w (requiring T tokens t b w)
  unfolding requiring Leaves Walk.opened events.opened
  requiring-leaves w t true h = one-read w _ (h refl) refl refl
  requiring-leaves w t false h =
      leaves-if w (mends w.io) (tells (repair t) (moved (w.location + 2) (with_io (spent w.io) w))) (stops differs) (λ _. told w _ refl (omega arith)) (λ _. tt)

  exec-leaves : (w : Walk) (i : Instruction) → Leaves w (exec T tokens i w)
  unfolding exec Leaves Walk.opened events.opened
  exec-leaves w invalid = tt
  exec-leaves w (jump l) = go_to-leaves w l w (same_read w w refl refl)
  exec-leaves w (input t) = requiring-leaves w t (is t (present tokens w.io)) (λ e. is-given t (present tokens w.io) e)
  exec-leaves w input_any = leaves-if w (given (present tokens w.io)) _ (stops missing) (λ e. one-read w _ e refl refl) (λ _. tt)
  exec-leaves w (write e) = told w _ refl (omega arith)
  exec-leaves w (input_choice c) = choosing-leaves w (present tokens w.io) c refl
  exec-leaves w (call_rule l) = calling-leaves w l
  exec-leaves w return = returning-leaves w w.returns
  exec-leaves w (set_result v) = same_read w _ refl refl
  exec-leaves w (choice c) = branched-leaves w (fetch T c) (some w.result) c w w (same_read w w refl refl) (same_read w w refl refl)
  exec-leaves w end_choice = tt
  exec-leaves w (set_parameter v) = same_read w _ refl refl
  exec-leaves w (update op) = told w _ refl (omega arith)
  exec-leaves w (update_with op) = told w _ refl (omega arith)
  exec-leaves w (choose op) = same_read w _ refl refl
  exec-leaves w (choose_with op) = same_read w _ refl refl

  pub step-leaves : (w : Walk) → Leaves w (step T tokens w)
  unfolding step
  step-leaves w = exec-leaves w (decode T w.location)

  module _ (answers : List ℕ) where
    taking-reads : (o : Option ℕ) (e : Event) (v w : Walk) → Reads w v → Reads w (taking o e v w)
    unfolding taking writing Walk.opened events.opened
    taking-reads none e v w r = record { onward = omega arith; inside = λ h. h }
    taking-reads (some x) e v w r = record { onward = r.onward; inside = r.inside }

    done-reads : (nx : Next) (w : Walk) → Leaves w nx → Reads w (done T tokens answers nx w)
    unfolding done Leaves writing Walk.opened events.opened
    done-reads goes_outside w r = record { onward = omega arith; inside = λ h. h }
    done-reads (stops q) w r = record { onward = omega arith; inside = λ h. h }
    done-reads (goes v) w r = r.reads
    done-reads (tells e v) w r = record { onward = r.reads.onward; inside = r.reads.inside }
    done-reads (asks e v) w r = taking-reads (get_elem? answers (choices w.io.events)) e v w r.reads

    one-reads : (w : Walk) → Reads w (one T tokens answers w)
    unfolding one one_in
    one-reads w = go w.phase
      where
        go : (p : Phase) → Reads w (one_in T tokens answers p w)
        go going = done-reads (step T tokens w) w (step-leaves w)
        go waiting = same_reads w w refl
        go (stopped r) = same_reads w w refl

    pub runs-reads : (n : ℕ) (w : Walk) → Reads w (runs T tokens answers n w)
    unfolding runs
    runs-reads zero w = same_reads w w refl
    runs-reads (suc n) w =
        let a = one-reads w in
        let b = runs-reads n (one T tokens answers w) in
        record { onward = omega (arith, a.onward, b.onward); inside = λ h. b.inside (a.inside h) }
