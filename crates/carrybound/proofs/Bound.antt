-- "needs more than 65 × Q × (n + r + 1) steps", of a walk that stands anywhere in the rules of a table: the theorem of crate figure begins with a fresh walk. Up to the next
-- read, repair or stop a walk does at most as many steps as there are in the quiet paths of the rules that are in progress, and so again behind each read and repair.
use mathlib.Core.List.{List, [], ◌∷◌}
use mathlib.Core.Logic.{◌⊎◌, inl, inr}
use mathlib.Core.Option.{Option, none}
use mathlib.Core.Path.{◌≡◌, refl, sym, ap, ◌∙◌}
use native.Mathlib.Nat.{mul-le-mul_right}
use native.Mathlib.Omega.{arith}
use Prim.Native.Nat.{ℕ, zero, suc, ◌+◌, ◌-◌, ◌*◌, ◌≤◌, ◌<◌}
use lib.ListN.{length}
use Rattle.agreement.proofs.Lists.{going-stopped, one-going}
use Rattle.agreement.proofs.Single.{one_in, one, runs}
use Rattle.agreement.proofs.Theorem.{stays}
use Rattle.events.specs.Events.{Reason, outside}
use Rattle.figure.proofs.Steps.{left, Knows, knows-none, After, Sorted, goes-outside, stops-here, reads_here, goes_on, calls, returns, step-sort}
use Rattle.figure.specs.Figure.{Leads, leads_call, Reached, at_start, further, End, over, back, Quiet, quiet, Does, does_call_over, does_call, does_return, Bounds}
use Rattle.machine.specs.Decode.{Instruction, call_rule, return, decode}
use Rattle.machine.specs.Step.{step}
use Rattle.machine.specs.Walk.{Phase, going, waiting, stopped, Walk}

-- Where a walk is

module _ (T : List ℕ) (Start : ℕ → Type 0) where
  -- a location that is reachable in its rule
  pub data HereIn (l : ℕ) : Type 0 where
    is-here : {s : ℕ} → Start s → Reached T s l → HereIn l

  pub data AllHereIn : List ℕ → Type 0 where
    all_none : AllHereIn []
    all_more : {l : ℕ} {ls : List ℕ} → HereIn l → AllHereIn ls → AllHereIn (l ∷ ls)

  -- a location and return locations
  pub record PlacedIn (l : ℕ) (rs : List ℕ) : Type 0 where
    pub here : HereIn l
    pub behind : AllHereIn rs
    pub few : length rs ≤ 64

-- Starts from which only starts are called

module _ (T tokens answers : List ℕ) (Start : ℕ → Type 0) (closed : (s l m : ℕ) → Start s → Reached T s l → decode T l ≡ call_rule m → Start m) where
  abbrev At : ℕ → Walk → Walk
  At n w = runs T tokens answers n w

  abbrev Next : Walk → Walk
  Next w = one T tokens answers w

  sort : (w : Walk) → w.phase ≡ going → Sorted T tokens answers (decode T w.location) w (Next w)
  unfolding step
  sort w g = rw (one-going T tokens answers w g) (step-sort T tokens answers w g (decode T w.location))

  abbrev Here : ℕ → Type 0
  Here = HereIn T Start

  abbrev AllHere : List ℕ → Type 0
  AllHere = AllHereIn T Start

  abbrev Placed : ℕ → List ℕ → Type 0
  Placed = PlacedIn T Start

  here-leads : {l m : ℕ} → Here l → Leads T l (decode T l) m → Here m
  here-leads (is-here c r) h = is-here c (further r h)

  here-start : {l m : ℕ} → Here l → decode T l ≡ call_rule m → Here m
  here-start {l} {m} (is-here {s = s} c r) d = is-here (closed s l m c r d) at_start

  head-here : {l : ℕ} {ls rs : List ℕ} → rs ≡ l ∷ ls → AllHere rs → Here l × AllHere ls
  head-here e all_none = let z : ◌≡◌ {A = ℕ} 0 1 = cc in absurd (omega arith)
  head-here {l} {ls} e (all_more {l = l₁} {ls = ls₁} h t) =
      let p : l₁ ≡ l = cc in
      let q : ls₁ ≡ ls = cc in
      (rw p at h, rw q at t)

  on-placed : {l m : ℕ} {rs rs₁ : List ℕ} → Leads T l (decode T l) m → rs₁ ≡ rs → Placed l rs → Placed m rs₁
  on-placed d e p = record { here = here-leads p.here d; behind = rw e p.behind; few = rw e p.few }

  call-placed : {l m : ℕ} {rs rs₁ : List ℕ} → decode T l ≡ call_rule m → rs₁ ≡ (l + 2) ∷ rs → length rs < 64 → Placed l rs → Placed m rs₁
  call-placed {l} d e b p =
      let c : Leads T l (decode T l) (l + 2) = rw d leads_call in
      record { here = here-start p.here d; behind = rw e (all_more (here-leads p.here c) p.behind); few = rw e (omega arith) }

  back-placed : {l m : ℕ} {rs rs₁ : List ℕ} → rs ≡ m ∷ rs₁ → Placed l rs → Placed m rs₁
  back-placed e p = let z = head-here e p.behind in record { here = z.0; behind = z.1; few = omega (arith, p.few, ap length e) }

  -- a walk that goes on after a step is placed again
  step-placed : (w v : Walk) → Sorted T tokens answers (decode T w.location) w v → v.phase ≡ going → Placed w.location w.returns → Placed v.location v.returns
  step-placed w v (goes-outside h) g p = absurd (going-stopped g h)
  step-placed w v (stops-here r h l) g p = absurd (going-stopped g h)
  step-placed w v (reads_here g₁ a c l d) g p = on-placed l c p
  step-placed w v (goes_on g₁ a c l f) g p = on-placed l c p
  step-placed w v (calls g₁ a d c b) g p = call-placed d c b p
  step-placed w v (returns g₁ a d c f) g p = back-placed c p

  one_placed : (w : Walk) → (w.phase ≡ going → Placed w.location w.returns) → (Next w).phase ≡ going → Placed (Next w).location (Next w).returns
  unfolding one one_in
  one_placed w p g = go w.phase refl
    where
      go : (ph : Phase) → w.phase ≡ ph → Placed (Next w).location (Next w).returns
      go going e = step-placed w (Next w) (sort w e) g (p e)
      go waiting e = rw e (p (e ∙ (rw e at g)))
      go (stopped r) e = rw e (p (e ∙ (rw e at g)))

  pub runs-placed : (n : ℕ) (w : Walk) → (w.phase ≡ going → Placed w.location w.returns) → (At n w).phase ≡ going → Placed (At n w).location (At n w).returns
  unfolding runs
  runs-placed zero w p g = p g
  runs-placed (suc n) w p g = runs-placed n (Next w) (one_placed w p) g

  -- How long a stretch is

  mutual
    -- at most b steps are left up to the next read, repair or stop: whatever quiet path is taken from l, and, where it ends with a return, from the location behind the call
    data Rests : List ℕ → ℕ → Option ℕ → ℕ → Type 0 where
      rests-last : {l b : ℕ} {x : Option ℕ} → ((n : ℕ) (e : End) → Quiet T l x n e → n ≤ b) → Rests [] l x b
      rests-more : {m l b : ℕ} {rs : List ℕ} {x : Option ℕ} → ((n : ℕ) → Quiet T l x n over → n ≤ b)
          → ((n : ℕ) (y : Option ℕ) → Quiet T l x n (back y) → (v : ℕ) → Knows y v → Behind rs m v (b - n)) → Rests (m ∷ rs) l x b

    -- the same where the result is v, of which a path may know less
    data Behind : List ℕ → ℕ → ℕ → ℕ → Type 0 where
      behind-by : {rs : List ℕ} {m v b : ℕ} (z : Option ℕ) → Knows z v → Rests rs m z b → Behind rs m v b

  behind-as : {rs : List ℕ} {m v b c : ℕ} → ((z : Option ℕ) → Rests rs m z b → Rests rs m z c) → Behind rs m v b → Behind rs m v c
  behind-as f (behind-by z k h) = behind-by z k (f z h)

  wider : (rs : List ℕ) {l : ℕ} {x : Option ℕ} (b c : ℕ) → b ≤ c → Rests rs l x b → Rests rs l x c
  wider [] {l} {x} b c i (rests-last h) = rests-last {l = l} {b = c} {x = x} (λ n e p. omega (arith, h n e p))
  wider (m ∷ rs) {l} {x} b c i (rests-more h f) =
      rests-more {l = l} {b = c} {x = x} (λ n p. omega (arith, h n p)) (λ n y p v k. behind-as (λ z h₁. wider rs (b - n) (c - n) (omega arith) h₁) (f n y p v k))

  -- a path from m is a path from l with j steps more
  pub record Longer (l : ℕ) (x : Option ℕ) (k : ℕ) (e : End) : Type 0 where
    pub count : ℕ
    pub is : count ≡ k
    pub path : Quiet T l x count e

  through : {rs : List ℕ} {l m : ℕ} {x y : Option ℕ} (j b : ℕ) → ((n : ℕ) (e : End) → Quiet T m y n e → Longer l x (j + n) e) → Rests rs l x b → Rests rs m y (b - j)
  through j b f (rests-last h) = rests-last {b = b - j} (λ n e p. let q = f n e p in omega (arith, q.is, h q.count e q.path))
  through j b f (rests-more {rs = rs} h g) =
      rests-more {b = b - j} (λ n p. let q = f n over p in omega (arith, q.is, h q.count q.path))
      (λ n y p v k. let q = f n (back y) p in behind-as (λ z h₁. wider rs (b - q.count) (b - j - n) (omega (arith, q.is)) h₁) (g q.count y q.path v k))

  over-few : {rs : List ℕ} {l n b : ℕ} {x : Option ℕ} → Rests rs l x b → Quiet T l x n over → n ≤ b
  over-few {n = n} (rests-last h) p = h n over p
  over-few {n = n} (rests-more h g) p = h n p

  last-few : {rs : List ℕ} {l n b : ℕ} {x : Option ℕ} (e : End) → Rests rs l x b → Quiet T l x n e → (e ≡ over) ⊎ (rs ≡ []) → n ≤ b
  last-few e h p (inl z) = over-few h (rw z at p)
  last-few {n = n} e (rests-last h) p (inr z) = h n e p
  last-few e (rests-more h g) p (inr z) = let y : ◌≡◌ {A = ℕ} 0 1 = cc in absurd (omega arith)

  by-instruction : {l n : ℕ} {x : Option ℕ} {e : End} {i : Instruction} → decode T l ≡ i → Does T l x i n e → Quiet T l x n e
  by-instruction {l} {n} {x} {e} d h = let z : Does T l x (decode T l) n e = rw d h in quiet z

  -- behind a quiet step
  on-rests : {rs : List ℕ} {l m v b : ℕ} {x : Option ℕ} (a : After T tokens answers l x (decode T l) m v) → Rests rs l x b → Rests rs m a.known (b - 1)
  on-rests {b = b} a h = through 1 b (λ n e p. record { count = suc n; is = omega arith; path = quiet (a.onward n e p) }) h

  -- in a called rule
  call-rests : {rs : List ℕ} {l s b : ℕ} {x : Option ℕ} → decode T l ≡ call_rule s → Rests rs l x b → Rests ((l + 2) ∷ rs) s none (b - 1)
  call-rests {rs} {b = b} d h =
      rests-more {b = b - 1} (λ n p. let z = over-few h (by-instruction d (does_call_over p)) in omega arith)
      (λ n y p v k. behind-by y k (wider rs (b - suc n) (b - 1 - n) (omega arith)
      (through (suc n) b (λ n₁ e p₁. record { count = suc (n + n₁); is = omega arith; path = by-instruction d (does_call p p₁ refl) }) h)))

  -- behind a return
  back-rests : {rs : List ℕ} {l m v b : ℕ} {x : Option ℕ} → decode T l ≡ return → Knows x v → Rests (m ∷ rs) l x b → Behind rs m v (b - 1)
  back-rests {v = v} {x = x} d k (rests-more h g) = g 1 x (by-instruction d does_return) v k

  module _ (q : ℕ) (most : Bounds T Start q) where
    here-most : {l n : ℕ} {e : End} → Here l → Quiet T l none n e → n ≤ q
    here-most (is-here c r) p = most.most c r p

    -- at the start of a stretch: a quiet path for each rule that is in progress
    begins : {rs : List ℕ} {l : ℕ} → Here l → AllHere rs → Rests rs l none ((length rs + 1) * q)
    begins {l = l} h all_none = rests-last {l = l} {b = (length {A = ℕ} [] + 1) * q} {x = none} (λ n e p. omega (arith, here-most h p))
    begins {l = l₀} h (all_more {l = m} {ls = rs} h₁ a) =
        rests-more {l = l₀} {b = (length (m ∷ rs) + 1) * q} {x = none} (λ n p. omega (arith, here-most h p))
        (λ n y p v k. behind-by none knows-none (wider rs ((length rs + 1) * q) ((length (m ∷ rs) + 1) * q - n) (omega (arith, here-most h p)) (begins h₁ a)))

    -- How long a walk is

    -- the first stretch has at most b steps, and then t reads and repairs are left
    record Within (b t : ℕ) (r : Reason) (w : Walk) : Type 0 where
      first : ℕ
      some_first : 1 ≤ first
      few-first : first ≤ b
      steps : ℕ
      few : steps ≤ first + t * (65 * q)
      stop : (At steps w).phase ≡ stopped r

    one_more : {b t : ℕ} {r : Reason} (w : Walk) → Within (b - 1) t r (Next w) → Within b t r w
    unfolding runs
    one_more w h = record {
      first = suc h.first;
      some_first = omega arith;
      few-first = omega (arith, h.some_first, h.few-first);
      steps = suc h.steps;
      few = omega (arith, h.few);
      stop = h.stop;
    }

    read_more : {b c t : ℕ} {r : Reason} (w : Walk) → 1 ≤ b → c ≤ 65 * q → Within c t r (Next w) → Within b (suc t) r w
    unfolding runs
    read_more w i j h = record {
      first = 1;
      some_first = omega arith;
      few-first = i;
      steps = suc h.steps;
      few = omega (arith, h.few, h.few-first);
      stop = h.stop;
    }

    few-pending : (rs : List ℕ) → length rs ≤ 64 → (length rs + 1) * q ≤ 65 * q
    few-pending rs h = mul-le-mul_right q (omega arith)

    same-reason : {p : Phase} {r s : Reason} → p ≡ stopped r → p ≡ stopped s → s ≡ r
    same-reason e f = cc

    -- what is known of the walk after the next step
    abbrev Rest : Reason → Walk → Type 0
    Rest r v = (b t : ℕ) (x : Option ℕ) → v.phase ≡ going → Placed v.location v.returns → Knows x v.result → Rests v.returns v.location x b → left tokens v ≤ t → Within b t r v

    module _ (n b t : ℕ) (w : Walk) (x : Option ℕ) (r : Reason) (p : Placed w.location w.returns) (k : Knows x w.result) (h : Rests w.returns w.location x b)
        (l : left tokens w ≤ t) (i : r ≡ outside → ⊥) (e : (At n (Next w)).phase ≡ stopped r) (rest : Rest r (Next w)) where
      stops-now : (s : Reason) → (Next w).phase ≡ stopped s → 1 ≤ b → Within b t r w
      unfolding runs
      stops-now s d j = record {
        first = 1;
        some_first = omega arith;
        few-first = j;
        steps = 1;
        few = omega arith;
        stop = ap (λ (u : Walk). u.phase) (sym (stays T tokens answers n (Next w) s d)) ∙ e;
      }

      reads_now : (t₁ : ℕ) → left tokens w ≤ t₁ → (Next w).phase ≡ going → left tokens (Next w) < left tokens w → Placed (Next w).location (Next w).returns → 1 ≤ b → Within b t₁ r w
      reads_now zero l₁ g a p₁ j = absurd (omega (arith, l₁, a))
      reads_now (suc t₁) l₁ g a p₁ j =
          read_more w j (few-pending (Next w).returns p₁.few)
          (rest ((length (Next w).returns + 1) * q) t₁ none g p₁ knows-none (begins p₁.here p₁.behind) (omega (arith, l₁, a)))

      back-now : (Next w).phase ≡ going → left tokens (Next w) ≡ left tokens w → Placed (Next w).location (Next w).returns → (Next w).result ≡ w.result
          → Behind (Next w).returns (Next w).location w.result (b - 1) → Within b t r w
      back-now g a p₁ f (behind-by z k₁ h₁) = one_more w (rest (b - 1) t z g p₁ (rw f k₁) h₁ (omega (arith, a, l)))

      by-sort : Sorted T tokens answers (decode T w.location) w (Next w) → Within b t r w
      by-sort (goes-outside d) = absurd (i (same-reason d (ap (λ (u : Walk). u.phase) (sym (stays T tokens answers n (Next w) outside d)) ∙ e)))
      by-sort (stops-here s d f) = let z = f x in stops-now s d (last-few z.end h (quiet z.path) z.how)
      by-sort (reads_here g a c m d) = reads_now t l g a (on-placed m c p) (over-few h (quiet (d x)))
      by-sort (goes_on g a c m f) = let z = f x k in one_more w (rest (b - 1) t z.known g (on-placed m c p) z.true_of (rw c (on-rests z h)) (omega (arith, a, l)))
      by-sort (calls g a d c j) = one_more w (rest (b - 1) t none g (call-placed d c j p) knows-none (rw c (call-rests d h)) (omega (arith, a, l)))
      by-sort (returns g a d c f) = back-now g a (back-placed c p) f (back-rests d k (rw c at h))

    lasts : (n b t : ℕ) (w : Walk) (x : Option ℕ) (r : Reason) → w.phase ≡ going → Placed w.location w.returns → Knows x w.result → Rests w.returns w.location x b
        → left tokens w ≤ t → (r ≡ outside → ⊥) → (At n w).phase ≡ stopped r → Within b t r w
    unfolding runs
    lasts zero b t w x r g p k h l i e = absurd (going-stopped g e)
    lasts (suc n) b t w x r g p k h l i e =
        by-sort n b t w x r p k h l i e (λ b₁ t₁ x₁ g₁ p₁ k₁ h₁ l₁. lasts n b₁ t₁ (Next w) x₁ r g₁ p₁ k₁ h₁ l₁ i e) (sort w g)

    -- it stops within m steps, for that reason
    pub record Stops (m : ℕ) (r : Reason) (w : Walk) : Type 0 where
      pub steps : ℕ
      pub few : steps ≤ m
      pub stop : (At steps w).phase ≡ stopped r

    -- a walk that goes on, and stops, and not with 37, with at most t reads and repairs to come
    pub needs : (n t : ℕ) (w : Walk) (r : Reason) → w.phase ≡ going → Placed w.location w.returns → left tokens w ≤ t → (r ≡ outside → ⊥) → (At n w).phase ≡ stopped r
        → Stops (65 * q * (t + 1)) r w
    needs n t w r g p l i e =
        let h = lasts n ((length w.returns + 1) * q) t w none r g p knows-none (begins p.here p.behind) l i e in
        let f = few-pending w.returns p.few in
        record { steps = h.steps; few = omega (arith, h.few, h.few-first, f); stop = h.stop }
