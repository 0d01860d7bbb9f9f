-- "Then no walk of n tokens and repair allowance r, its calls as in demand 3, needs more than 65 × Q × (n + r + 1) steps."
use mathlib.Core.List.{List, [], ◌++◌, append-nil}
use mathlib.Core.Path.{◌≡◌, refl, ap, ◌∙◌}
use native.Mathlib.Omega.{arith}
use native.Mathlib.Nat.{mul_comm, mul-zero}
use Prim.Native.Nat.{ℕ, zero, suc, ◌+◌, ◌*◌, ◌≤◌, ◌<◌}
use lib.ListN.{length}
use Rattle.agreement.proofs.Agree.{agree-stop, never-outside}
use Rattle.agreement.proofs.BoundWalk.{finishes}
use Rattle.agreement.proofs.Lists.{going-stopped}
use Rattle.agreement.proofs.Single.{runs}
use Rattle.agreement.proofs.Theorem.{over-stops, suffices, steps-below}
use Rattle.events.specs.Events.{Reason, outside}
use Rattle.finishing.specs.Finishing.{Finishing}
use Rattle.machine.specs.Walk.{stopped, Walk, fresh}
use Rattle.program.specs.Accepted.{Accepted}
use Rattle.program.specs.Program.{Rule}
use Rattle.program.specs.Table.{table}
use Rattle.figure.specs.Figure.{Bounds}
use Rattle.figure.specs.Promise.{RuleStart, EnoughFor, StepsFor}
use Rattle.figure.proofs.Frames.{Called}
use Rattle.figure.proofs.More.{same-run}
use Rattle.figure.proofs.Needs.{needs}
use Rattle.figure.proofs.Spots.{called-rule}

-- a walk takes a step before it stops
some-step : (T tokens answers : List ℕ) (allowance n : ℕ) (r : Reason) → (runs T tokens answers n (fresh allowance)).phase ≡ stopped r → 0 < n
unfolding runs fresh
some-step T tokens answers allowance zero r e = absurd (going-stopped refl e)
some-step T tokens answers allowance (suc n) r e = omega arith

less : (k q t : ℕ) → 0 < k → k ≤ q + t * (65 * q) → k < 65 * q * (t + 1)
less k zero t h l = let z : t * 0 ≡ 0 = mul-zero t in absurd (omega (arith, l))
less k (suc q) t h l = let z : t * (65 * suc q) ≡ 65 * suc q * t = mul_comm t (65 * suc q) in omega arith

module _ (prog : List Rule) (a : Accepted prog) where
  called : {s : ℕ} → Called (table prog) s → RuleStart prog s
  called {s} c = called-rule prog [] a (rw (append-nil (table prog)) c)

  -- single steps stop, fewer than b of them
  record InTime (more tokens answers : List ℕ) (allowance b : ℕ) : Type 0 where
    steps : ℕ
    reason : Reason
    few : steps < b
    stop : (runs (table prog ++ more) tokens answers steps (fresh allowance)).phase ≡ stopped reason

  -- a walk that stops, and not with 37, stops in time
  from-stop : (q : ℕ) → Bounds (table prog) (RuleStart prog) q → (more tokens answers : List ℕ) (allowance k : ℕ) (r : Reason) → (r ≡ outside → ⊥)
      → (runs (table prog ++ []) tokens answers k (fresh allowance)).phase ≡ stopped r
      → InTime more tokens answers allowance (65 * q * (length tokens + allowance + 1))
  from-stop q b more tokens answers allowance k r inside e =
      let z : (runs (table prog) tokens answers k (fresh allowance)).phase ≡ stopped r = rw (append-nil (table prog)) at e in
      let n = needs (table prog) tokens answers q (record { most = λ c. b.most (called c) }) allowance k r z inside in
      record {
        steps = n.steps;
        reason = r;
        few = less n.steps q (length tokens + allowance) (some-step (table prog) tokens answers allowance n.steps r n.stop) n.few;
        stop = ap (λ (w : Walk). w.phase) (same-run (table prog) more tokens answers n.steps (fresh allowance) r n.stop inside) ∙ n.stop;
      }

  in-time : Finishing prog → (q : ℕ) → Bounds (table prog) (RuleStart prog) q → (more tokens answers : List ℕ) (allowance : ℕ)
      → InTime more tokens answers allowance (65 * q * (length tokens + allowance + 1))
  in-time f q b more tokens answers allowance =
      let o = finishes prog tokens answers allowance a f in
      let x = agree-stop prog [] tokens answers allowance a o.0 in
      let y = over-stops o.2 x.2 in
      from-stop q b more tokens answers allowance x.0 y.0 (λ e. never-outside x.2 (y.1 ∙ ap stopped e)) y.1

  pub enough : Finishing prog → (q : ℕ) → Bounds (table prog) (RuleStart prog) q → EnoughFor prog q
  enough f q b more tokens answers allowance =
      let t = in-time f q b more tokens answers allowance in
      suffices prog more tokens answers allowance a t.steps (65 * q * (length tokens + allowance + 1)) t.reason t.few t.stop

  pub steps : Finishing prog → (q : ℕ) → Bounds (table prog) (RuleStart prog) q → StepsFor prog q
  steps f q b more tokens answers allowance =
      let t = in-time f q b more tokens answers allowance in
      steps-below prog more tokens answers allowance a t.steps (65 * q * (length tokens + allowance + 1)) t.reason t.few t.stop
