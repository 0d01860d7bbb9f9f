-- Every walk over the table of an accepted program agrees with the rules' own walk.
use Prim.Native.Nat.{ℕ, zero, suc, ◌+◌, ◌*◌, ◌≤◌, ◌<◌}
use native.Mathlib.Omega.{arith}
use native.Mathlib.Nat.{zero-add, suc-add}
use mathlib.Core.Path.{◌≡◌, refl, ap, ◌∙◌}
use mathlib.Core.Bool.{true}
use mathlib.Core.List.{List, [], ◌++◌}
use lib.ListN.{length}
use Rattle.base.specs.Bools.{never}
use Rattle.events.specs.Events.{Reason, outside, Io}
use Rattle.machine.specs.Walk.{going, waiting, stopped, Walk, fresh}
use Rattle.ownwalk.specs.OwnWalk as rules
use Rattle.ownwalk.specs.OwnWalk.{Own, on, choosing, own, owns, own_start}
use Rattle.program.proofs.Places.{place-first}
use Rattle.program.specs.Accepted.{Accepted}
use Rattle.program.specs.Program.{Rule, rule_of, body_of}
use Rattle.program.specs.Table.{place, table}
use Rattle.agreement.specs.Demand.{events_of}
use Rattle.agreement.proofs.Single.{one, runs}
use Rattle.agreement.proofs.Lay.{going_at, inside, At, pend-nil, Rel, rel-on, rel-choosing, rel-stopped}
use Rattle.agreement.proofs.Laid.{program-laid}
use Rattle.agreement.proofs.Sim.{weight, Running, running-on, running-choosing, Move, no_step, one-step, two_steps, three-steps, move}

-- what both show: they go on, or have stopped for the same reason, with the same tokens read, answers used and events
pub data Same (s : Own) (w : Walk) : Type 0 where
  both-going : Running s w.io → w.phase ≡ going → Same s w
  both_stopped : (r : Reason) → (r ≡ outside → ⊥) → s ≡ rules.stopped r w.io → w.phase ≡ stopped r → Same s w

not-outside : (r : Reason) → inside r ≡ true → r ≡ outside → ⊥
not-outside r h e = let z : inside outside ≡ true = rw e at h in never z

-- What follows from it

unfoldable pub io_of : Own → Io
io_of (on q k ps io) = io
io_of (choosing v al o q k ps io) = io
io_of (rules.stopped r io) = io
io_of (rules.nowhere io) = io

running-io : {s : Own} {io : Io} → Running s io → io_of s ≡ io
unfolding io_of
running-io running-on = refl
running-io running-choosing = refl

pub same-io : {s : Own} {w : Walk} → Same s w → io_of s ≡ w.io
unfolding io_of
same-io (both-going h e) = running-io h
same-io (both_stopped r h e f) = ap io_of e

pub events-io : (s : Own) → events_of s ≡ (io_of s).events
unfolding events_of io_of
events-io (on q k ps io) = refl
events-io (choosing v al o q k ps io) = refl
events-io (rules.stopped r io) = refl
events-io (rules.nowhere io) = refl

pub same-events : {s : Own} {w : Walk} → Same s w → events_of s ≡ w.io.events
same-events {s} h = events-io s ∙ ap (λ (io : Io). io.events) (same-io h)

-- the walk over the table has stopped: so have the rules, for the same reason
pub same-stopped : {s : Own} {w : Walk} {r : Reason} → Same s w → w.phase ≡ stopped r → s ≡ rules.stopped r w.io
same-stopped (both-going h e) f = let z : ◌≡◌ {A = ℕ} 0 1 = cc in absurd (omega arith)
same-stopped (both_stopped r h e f) g = cc

-- the rules have stopped: so has the walk over the table, for the same reason
running-stopped : {s : Own} {r : Reason} {io io' : Io} → Running s io → s ≡ rules.stopped r io' → ⊥
running-stopped running-on e = let z : ◌≡◌ {A = ℕ} 0 1 = cc in omega arith
running-stopped running-choosing e = let z : ◌≡◌ {A = ℕ} 0 1 = cc in omega arith

pub stopped-same : {s : Own} {w : Walk} {r : Reason} {io : Io} → Same s w → s ≡ rules.stopped r io → w.phase ≡ stopped r
stopped-same (both-going h e) f = absurd (running-stopped h f)
stopped-same (both_stopped r h e f) g = cc

pub never-waiting : {s : Own} {w : Walk} → Same s w → w.phase ≡ waiting → ⊥
never-waiting (both-going h e) f = let z : ◌≡◌ {A = ℕ} 0 1 = cc in omega arith
never-waiting (both_stopped r h e g) f = let z : ◌≡◌ {A = ℕ} 0 1 = cc in omega arith

pub never-outside : {s : Own} {w : Walk} → Same s w → w.phase ≡ stopped outside → ⊥
never-outside (both-going h e) f = let z : ◌≡◌ {A = ℕ} 0 1 = cc in omega arith
never-outside (both_stopped r h e f) g = h cc

-- Steps of both

module _ (T : List ℕ) (start : ℕ → ℕ) (prog : List Rule) (tokens answers : List ℕ)
    (laid : (r : ℕ) → r < length prog → At T start prog (rule_of prog r).valued (body_of prog r) [] (start r)) where
  -- at the place of s; on the way through its next step, with one instruction or two to come; at the place of s but for a jump
  pub data Near (s : Own) (m : Walk) : Type 0 where
    near : Rel T start prog s m → Near s m
    half : (io : Io) (l : ℕ) (rs : List ℕ) (w p : ℕ) → Running s io → m ≡ going_at l rs w p io
        → Rel T start prog (own prog tokens answers s) (one T tokens answers m) → Near s m
    early : (io : Io) (l : ℕ) (rs : List ℕ) (w p : ℕ) (io' : Io) (l' : ℕ) → Running s io → m ≡ going_at l rs w p io
        → Running (own prog tokens answers s) io' → one T tokens answers m ≡ going_at l' rs w p io'
        → Rel T start prog (own prog tokens answers s) (one T tokens answers (going_at l' rs w p io')) → Near s m
    late : (io : Io) (l : ℕ) (rs : List ℕ) (w p : ℕ) → Running s io → m ≡ going_at l rs w p io → Rel T start prog s (one T tokens answers m) → Near s m

  pub near_same : {s : Own} {m : Walk} → Near s m → Same s m
  near_same (near (rel-on a p)) = both-going running-on refl
  near_same (near (rel-choosing a p)) = both-going running-choosing refl
  near_same (near (rel-stopped {r = r} h)) = both_stopped r (not-outside r h) refl refl
  near_same (half io l rs w p d e h) = rw e (both-going d refl)
  near_same (early io l rs w p io' l' d e d' e' h) = rw e (both-going d refl)
  near_same (late io l rs w p d e h) = rw e (both-going d refl)

  pub owns-add : (i j : ℕ) (s : Own) → owns prog tokens answers j (owns prog tokens answers i s) ≡ owns prog tokens answers (i + j) s
  unfolding owns
  owns-add zero j s = rw (zero-add j)
  owns-add (suc i) j s = rw (suc-add i j) (owns-add i j (own prog tokens answers s))

  -- an instruction is some steps of the rules
  pub after : (f : ℕ) (s : Own) (m : Walk) → weight s < f → Rel T start prog s m → (j : ℕ) × Near (owns prog tokens answers j s) (one T tokens answers m)
  unfolding owns
  after zero s m w h = absurd (omega arith)
  after (suc f) s m w h = go (λ t v h₁. after f t m v h₁) (move T start prog tokens answers laid h)
    where
      go : ((t : Own) → weight t < f → Rel T start prog t m → (j : ℕ) × Near (owns prog tokens answers j t) (one T tokens answers m))
          → Move T start prog tokens answers laid s m → (j : ℕ) × Near (owns prog tokens answers j s) (one T tokens answers m)
      go ih (no_step h₁ v) = let r = ih (own prog tokens answers s) (omega arith) h₁ in (suc r.0, r.1)
      go ih (one-step h₁) = (1, near h₁)
      go ih (two_steps io l rs w₁ p d e h₁) = (0, half io l rs w₁ p d e (rw e h₁))
      go ih (three-steps io l rs w₁ p io' l' d e d' e' h₁) = (0, early io l rs w₁ p io' l' d e d' (ap (one T tokens answers) e ∙ e') h₁)

  pub next : (s : Own) (m : Walk) → Near s m → (j : ℕ) × Near (owns prog tokens answers j s) (one T tokens answers m)
  unfolding owns
  next s m (near h) = after (suc (weight s)) s m (omega arith) h
  next s m (half io l rs w p d e h) = (1, near h)
  next s m (early io l rs w p io' l' d e d' e' h) = (1, late io' l' rs w p d' e' (rw e' h))
  next s m (late io l rs w p d e h) = (0, near h)

  pub all : (k : ℕ) (s : Own) (m : Walk) → Near s m → (j : ℕ) × Near (owns prog tokens answers j s) (runs T tokens answers k m)
  unfolding runs owns
  all zero s m h = (0, h)
  all (suc k) s m h =
      let a = next s m h in
      let b = all k (owns prog tokens answers a.0 s) (one T tokens answers m) a.1 in
      (a.0 + b.0, rw (owns-add a.0 b.0 s) at b.1)

  -- the rules' steps are at most three times as many instructions
  pub ahead : (j : ℕ) (s : Own) (m : Walk) → Rel T start prog s m
      → (k : ℕ) × (k ≤ 3 * j) × Rel T start prog (owns prog tokens answers j s) (runs T tokens answers k m)
  unfolding runs owns
  ahead zero s m h = (0, omega arith, h)
  ahead (suc j) s m h = go (λ m' h₁. ahead j (own prog tokens answers s) m' h₁) (move T start prog tokens answers laid h)
    where
      go : ((m' : Walk) → Rel T start prog (own prog tokens answers s) m'
          → (k : ℕ) × (k ≤ 3 * j) × Rel T start prog (owns prog tokens answers j (own prog tokens answers s)) (runs T tokens answers k m'))
          → Move T start prog tokens answers laid s m
          → (k : ℕ) × (k ≤ 3 * suc j) × Rel T start prog (owns prog tokens answers j (own prog tokens answers s)) (runs T tokens answers k m)
      go ih (no_step h₁ v) = let r = ih m h₁ in (r.0, omega arith, r.2)
      go ih (one-step h₁) = let r = ih (one T tokens answers m) h₁ in (suc r.0, omega arith, r.2)
      go ih (two_steps io l rs w p d e h₁) =
          let r = ih (one T tokens answers (going_at l rs w p io)) h₁ in
          (suc (suc r.0), omega arith, rw e r.2)
      go ih (three-steps io l rs w p io' l' d e d' e' h₁) =
          let r = ih (one T tokens answers (going_at l' rs w p io')) h₁ in
          (suc (suc (suc r.0)), omega arith, rw (e, e') r.2)

-- From the first rule's start

begin : (prog : List Rule) (more : List ℕ) (allowance : ℕ) → Accepted prog → Rel (table prog ++ more) (place 1 prog) prog (own_start prog allowance) (fresh allowance)
unfolding own_start fresh
begin prog more allowance a =
    let p = rw (place-first 1 prog, a.first) at (program-laid prog more a 0 a.some_rule) in
    rel-on p pend-nil

-- after any number of instructions both have read and written the same, and have stopped for the same reason or not
pub agree : (prog : List Rule) (more tokens answers : List ℕ) (allowance : ℕ) → Accepted prog → (k : ℕ)
    → (j : ℕ) × Same (owns prog tokens answers j (own_start prog allowance)) (runs (table prog ++ more) tokens answers k (fresh allowance))
agree prog more tokens answers allowance a k =
    let T = table prog ++ more in
    let laid = program-laid prog more a in
    let r = all T (place 1 prog) prog tokens answers laid k (own_start prog allowance) (fresh allowance) (near (begin prog more allowance a)) in
    (r.0, near_same T (place 1 prog) prog tokens answers laid r.1)

-- and so after any number of steps of the rules, with at most three times as many instructions
pub agree-stop : (prog : List Rule) (more tokens answers : List ℕ) (allowance : ℕ) → Accepted prog → (j : ℕ)
    → (k : ℕ) × (k ≤ 3 * j) × Same (owns prog tokens answers j (own_start prog allowance)) (runs (table prog ++ more) tokens answers k (fresh allowance))
agree-stop prog more tokens answers allowance a j =
    let T = table prog ++ more in
    let laid = program-laid prog more a in
    let r = ahead T (place 1 prog) prog tokens answers laid j (own_start prog allowance) (fresh allowance) (begin prog more allowance a) in
    (r.0, r.1, near_same T (place 1 prog) prog tokens answers laid (near r.2))
