-- A walk carried to a finishing program ends, within a budget that the program, the number of tokens and the allowance left give.
use mathlib.Core.Path.{◌≡◌, refl, sym, ap, ◌∙◌}
use mathlib.Core.List.{List, ◌++◌}
use Prim.Native.Nat.{ℕ, suc, ◌+◌, ◌*◌, ◌≤◌, ◌<◌}
use native.Mathlib.Nat.{le_refl}
use native.Mathlib.Omega.{arith}
use lib.ListN.{length}
use Rattle.agreement.proofs.Agree.{near, near_same, ahead}
use Rattle.agreement.proofs.Bound.{read_of, left_of, weigh, weighs, weigh_alts, Tame, Tames, TameAlts}
use Rattle.agreement.proofs.BoundRules.{total, total-le, tame-rule}
use Rattle.agreement.proofs.BoundWalk.{call_cost, all_rules, budget, Fits, fits-rule, fits-cycle, fits-alternative, fits-otherwise, fits-tame, fits-rest, Waits, waits-nil, waits-before, waits-choice, Good, good-on, good-choosing, over_by}
use Rattle.agreement.proofs.Laid.{program-laid}
use Rattle.agreement.proofs.Single.{runs}
use Rattle.agreement.proofs.Theorem.{over-stops, later}
use Rattle.base.specs.Tree.{choice, otherwise}
use Rattle.carry.proofs.After.{within-steps, runs-add}
use Rattle.carry.proofs.Found.{Spot}
use Rattle.carry.proofs.Tokens.{Leaves, step-leaves, runs-reads}
use Rattle.carry.specs.Places.{OneOf, this_one, that_one, Inside, in_start, in_rest, inside_cycle, in_labelled, inside_otherwise, PendingAt, no_pending, pending_at, choice_at, StandsAt, stands_on, stands_choosing, Within, at_start, behind_value, behind_parameter, at_default, behind_repair}
use Rattle.events.specs.Events as events
use Rattle.events.specs.Events.{Event, Reason, repair, Io}
use Rattle.finishing.specs.Finishing.{Finishing}
use Rattle.machine.specs.Call.{writing}
use Rattle.machine.specs.Step.{goes, tells, step}
use Rattle.machine.specs.Walk
use Rattle.machine.specs.Walk.{going, stopped, Walk}
use Rattle.ownwalk.specs.OwnWalk.{Context, Pending, Own}
use Rattle.program.specs.Accepted.{Accepted}
use Rattle.program.specs.Program.{Acts, Alts, Rule, body_of}
use Rattle.program.specs.Table.{place, table}

-- Places are no heavier than all rules

module _ (prog : List Rule) (ok : Accepted prog) (fin : Finishing prog) where
  one-tame : {al : Alts} {b : Acts} {d : ℕ} → OneOf al b d → TameAlts prog al → Tames prog b
  unfolding Tame
  one-tame this_one t = t.0
  one-tame (that_one o) t = one-tame o t.1

  one-weighs : {al : Alts} {b : Acts} {d : ℕ} (c : ℕ) → OneOf al b d → weighs c b ≤ weigh_alts c al
  unfolding weighs
  one-weighs c this_one = omega arith
  one-weighs c (that_one o) = omega (arith, one-weighs c o)

  inside-fits : (r : ℕ) → r < length prog → {q : Acts} {k : List Context} {o : ℕ} → Inside (body_of prog r) q k o → Fits prog q k
  unfolding all_rules Tame weighs
  inside-fits r h in_start =
      let l : weighs (call_cost prog) (body_of prog r) + 1 ≤ total (call_cost prog) prog + 1 = omega (arith, total-le (call_cost prog) prog r) in
      fits-rule (tame-rule prog ok fin r h) l
  inside-fits r h (in_rest i e) = fits-rest prog (inside-fits r h i)
  inside-fits r h (inside_cycle i) = let f = inside-fits r h i in fits-cycle (fits-tame prog f).0.1 (le_refl _) f
  inside-fits r h (in_labelled {s = s} {al = al} {ot = ot} {b = b} i m e) =
      let f = inside-fits r h i in
      let l : weighs (call_cost prog) b + 1 ≤ weigh (call_cost prog) (choice s al ot) = omega (arith, one-weighs (call_cost prog) m) in
      fits-alternative (choice s al ot) (one-tame m (fits-tame prog f).0.1) l f
  inside-fits r h (inside_otherwise {s = s} {al = al} {b = b} i e) =
      let f = inside-fits r h i in
      let l : weighs (call_cost prog) b + 1 ≤ weigh (call_cost prog) (choice s al (otherwise b)) = omega arith in
      fits-otherwise (choice s al (otherwise b)) (fits-tame prog f).0.2 l f

  pending-waits : {ps : List Pending} {rs : List ℕ} → PendingAt prog ps rs → Waits prog ps
  pending-waits no_pending = waits-nil
  pending-waits (pending_at r o h i e p) = waits-before (inside-fits r h i) (pending-waits p)
  pending-waits (choice_at s r o h i e p) = waits-choice s (inside-fits r h i) (pending-waits p)

  pending-length : {ps : List Pending} {rs : List ℕ} → PendingAt prog ps rs → length ps ≡ length rs
  pending-length no_pending = refl
  pending-length (pending_at r o h i e p) = ap suc (pending-length p)
  pending-length (choice_at s r o h i e p) = ap suc (pending-length p)

  stands_good : {s : Own} {w : Walk} (t : ℕ) → StandsAt prog s w → w.io.read ≤ t → length w.returns ≤ 64 → Good prog t s
  stands_good t (stands_on r o h i e p) hr hd = good-on (inside-fits r h i) (record { waits = pending-waits p; few = omega (arith, pending-length p, hd); within = hr })
  stands_good t (stands_choosing s r o h i e p) hr hd = good-choosing s (inside-fits r h i) (record { waits = pending-waits p; few = omega (arith, pending-length p, hd); within = hr })

  stands-io : {s : Own} {w : Walk} → StandsAt prog s w → (read_of s ≡ w.io.read) × (left_of s ≡ w.io.allowance)
  unfolding read_of left_of
  stands-io (stands_on r o h i e p) = (refl, refl)
  stands-io (stands_choosing s r o h i e p) = (refl, refl)

-- In the middle of a step at most one repair has been made, and no call or return

goes-allowance : (T tokens : List ℕ) (w v : Walk) → step T tokens w ≡ goes v → v.io.allowance ≡ w.io.allowance
unfolding Leaves
goes-allowance T tokens w v e =
    let h : Leaves T tokens w (goes v) = rw e at (step-leaves T tokens w) in
    h.allowance

tells-allowance : (T tokens : List ℕ) (w v : Walk) (x : Event) → step T tokens w ≡ tells x v → w.io.allowance ≤ v.io.allowance + 1
unfolding Leaves
tells-allowance T tokens w v x e =
    let h : Leaves T tokens w (tells x v) = rw e at (step-leaves T tokens w) in
    h.allowance

within-allowance : {T tokens : List ℕ} {at w : Walk} → Within T tokens at w → at.io.allowance ≤ w.io.allowance + 1
unfolding writing Walk.opened events.wrote
within-allowance at_start = omega arith
within-allowance (behind_value v d) = omega arith
within-allowance (behind_parameter v d) = omega arith
within-allowance {T} {tokens} {at} (at_default {w = w} d e) = let z = goes-allowance T tokens at w e in omega (arith, z)
within-allowance {T} {tokens} {at} (behind_repair {w = w} {v = v} t d e g f) =
    let z = goes-allowance T tokens at w e in
    let y = tells-allowance T tokens w v (repair t) f in
    omega (arith, z, y)

-- It ends

module _ (prog : List Rule) (ok : Accepted prog) (fin : Finishing prog) (more tokens answers : List ℕ) (w₁ : Walk) (spot : Spot prog (table prog ++ more) tokens w₁)
    (read_all : w₁.io.read ≤ length tokens) (deep : length w₁.returns ≤ 64) where
  abbrev T : List ℕ
  T = table prog ++ more

  pub ends-after : (left : ℕ) → w₁.io.allowance ≡ left
      → (r : Reason) × ((n : ℕ) → 3 * budget prog (length tokens + (left + 1)) ≤ n → (runs T tokens answers n w₁).phase ≡ stopped r)
  unfolding budget
  ends-after left e =
      let b = within-steps spot.within spot.goes_on in
      let rd = (runs-reads T tokens answers b.count spot.at).onward in
      let back : spot.at.io.read ≤ w₁.io.read = rw (b.leads answers) at rd in
      let g = stands_good prog ok fin (length tokens) spot.stands (omega (arith, back, read_all)) (rw spot.pending deep) in
      let io = stands-io prog ok fin spot.stands in
      let al = within-allowance spot.within in
      let a = over_by prog ok fin tokens answers (length tokens + (left + 1) + 1) spot.own g (omega (arith, io.0, io.1, al, e)) in
      let laid = program-laid prog more ok in
      let x = ahead T (place 1 prog) prog tokens answers laid a.steps spot.own spot.at spot.related in
      let y = over-stops a.over (near_same T (place 1 prog) prog tokens answers laid (near x.2)) in (
        y.0,
        λ n h.
            let z = later T tokens answers x.0 (b.count + n) spot.at y.0 (omega (arith, x.1, a.few, h)) y.1 in
            let f : runs T tokens answers (b.count + n) spot.at ≡ runs T tokens answers n w₁ = sym (runs-add T tokens answers b.count n spot.at) ∙ ap (runs T tokens answers n) (b.leads answers) in
            ap (λ (v : Walk). v.phase) (sym f) ∙ z,
      )
