-- A stretch of a walk between two reads or repairs is made of quiet paths, one for each rule that is in progress at its start.
use mathlib.Core.List.{List, [], ◌∷◌}
use mathlib.Core.Logic.{◌⊎◌, inl, inr}
use mathlib.Core.Option.{Option, none}
use mathlib.Core.Path.{◌≡◌, refl, sym, ap, ◌∙◌}
use native.Mathlib.Omega.{arith}
use Prim.Native.Nat.{ℕ, zero, suc, ◌+◌, ◌*◌, ◌≤◌, ◌<◌}
use lib.ListN.{length}
use Rattle.machine.specs.Decode.{Instruction, call_rule, return, decode}
use Rattle.machine.specs.Walk.{going, stopped, Walk}
use Rattle.events.specs.Events.{Reason}
use Rattle.figure.specs.Figure.{Leads, leads_call, Reached, at_start, further, End, over, back, Quiet, quiet, Does, does_call_over, does_call, does_return, Bounds}
use Rattle.figure.proofs.Steps.{left, Knows, knows-none, After, Last}

-- the starts of the rules that are in progress: the first rule's, and every one called from an instruction reachable in such a rule
pub data Called (T : List ℕ) : ℕ → Type 0 where
  called-first : Called T 1
  called-from : {s l m : ℕ} → Called T s → Reached T s l → decode T l ≡ call_rule m → Called T m

module _ (T tokens answers : List ℕ) where
  -- a location in such a rule
  pub data Here (l : ℕ) : Type 0 where
    is-here : {s : ℕ} → Called T s → Reached T s l → Here l

  pub data AllHere : List ℕ → Type 0 where
    all_none : AllHere []
    all_more : {l : ℕ} {ls : List ℕ} → Here l → AllHere ls → AllHere (l ∷ ls)

  -- where a walk can be
  pub record Placed (w : Walk) : Type 0 where
    pub here : Here w.location
    pub behind : AllHere w.returns
    pub few : length w.returns ≤ 64

  -- the last step of a stretch: it stops, reads or repairs
  pub data Ending (w v : Walk) : Type 0 where
    ending-stop : (r : Reason) → v.phase ≡ stopped r → ((x : Option ℕ) → Last T tokens answers w.location x (decode T w.location) w.returns) → Ending w v
    ending-read : v.phase ≡ going → left tokens v < left tokens w → v.returns ≡ w.returns → Leads T w.location (decode T w.location) v.location
        → ((x : Option ℕ) → Quiet T w.location x 1 over) → Ending w v

  -- a step before that
  pub data Quietly (w v : Walk) : Type 0 where
    quietly-on : left tokens v ≡ left tokens w → v.returns ≡ w.returns → Leads T w.location (decode T w.location) v.location
        → ((x : Option ℕ) → Knows x w.result → After T tokens answers w.location x (decode T w.location) v.location v.result) → Quietly w v
    quietly-call : left tokens v ≡ left tokens w → decode T w.location ≡ call_rule v.location → v.returns ≡ (w.location + 2) ∷ w.returns → length w.returns < 64 → Quietly w v
    quietly-back : left tokens v ≡ left tokens w → decode T w.location ≡ return → w.returns ≡ v.location ∷ v.returns → v.result ≡ w.result → Quietly w v

  -- n steps, the last of which stops, reads or repairs, and only that
  pub data Until : ℕ → Walk → Walk → Type 0 where
    until-last : {w v : Walk} → Ending w v → Until 1 w v
    until-more : {n : ℕ} {w u v : Walk} → Quietly w u → Until n u v → Until (suc n) w v

  -- from w, what is left of its own rule: all of the stretch; or a path to the rule's return, and the stretch goes on behind the call
  pub data Framed (n : ℕ) (w v : Walk) (x : Option ℕ) : Type 0 where
    inside : (e : End) → Quiet T w.location x n e → (e ≡ over) ⊎ (w.returns ≡ []) → Framed n w v x
    behind : (m k : ℕ) (u : Walk) (y : Option ℕ) → n ≡ m + k → Quiet T w.location x m (back y) → Knows y u.result → w.returns ≡ u.location ∷ u.returns → Until k u v → Framed n w v x

  by-instruction : {l n : ℕ} {x : Option ℕ} {e : End} {i : Instruction} → decode T l ≡ i → Does T l x i n e → Quiet T l x n e
  by-instruction {l} {n} {x} {e} d h =
      let z : Does T l x (decode T l) n e = rw d h in
      quiet z

  quiet-as : {l n m : ℕ} {x : Option ℕ} {e : End} → n ≡ m → Quiet T l x n e → Quiet T l x m e
  quiet-as e q = rw (← e) q

  knows_as : {x : Option ℕ} {u v : ℕ} → v ≡ u → Knows x u → Knows x v
  knows_as e k = rw e k

  quiet_at : {l m n : ℕ} {x : Option ℕ} {e : End} → l ≡ m → Quiet T l x n e → Quiet T m x n e
  quiet_at p q = rw (← p) q

  same_head : {a b : ℕ} {l m : List ℕ} → a ∷ l ≡ b ∷ m → a ≡ b
  same_head e = cc

  same-tail : {a b : ℕ} {l m : List ℕ} → a ∷ l ≡ b ∷ m → l ≡ m
  same-tail e = cc

  on-frame : {n : ℕ} {w u v : Walk} {x : Option ℕ} (a : After T tokens answers w.location x (decode T w.location) u.location u.result) → u.returns ≡ w.returns → Framed n u v a.known
      → Framed (suc n) w v x
  on-frame {n = n} a r (inside e q h) = inside e (quiet (a.onward n e q)) (elim h [ inl z ↦ inl z | inr z ↦ inr (sym r ∙ z) ])
  on-frame a r (behind m k u y e q kn rs t) = behind (suc m) k u y (omega arith) (quiet (a.onward m (back y) q)) kn (sym r ∙ rs) t

  -- behind the call, the path of the called rule being known
  call-frame : {n m k s : ℕ} {w u v : Walk} {x y : Option ℕ} → decode T w.location ≡ call_rule s → n ≡ m + k → Quiet T s none m (back y) → u.location ≡ w.location + 2 → u.returns ≡ w.returns
      → Framed k u v y → Framed (suc n) w v x
  call-frame {n = n} {m = m} {k = k} d c p l r (inside e q h) =
      let z : suc (m + k) ≡ suc n = omega arith in
      inside e (quiet-as z (by-instruction d (does_call p (quiet_at l q) refl))) (elim h [ inl z ↦ inl z | inr z ↦ inr (sym r ∙ z) ])
  call-frame {m = m} d c p l r (behind m₁ k₁ u₁ y₁ e q kn rs t) =
      behind (suc (m + m₁)) k₁ u₁ y₁ (omega arith) (by-instruction d (does_call p (quiet_at l q) refl)) kn (sym r ∙ rs) t

  frame : (f n : ℕ) (w v : Walk) → n ≤ f → Until n w v → (x : Option ℕ) → Knows x w.result → Framed n w v x
  frame zero n w v h (until-last e) x k = absurd (omega arith)
  frame zero n w v h (until-more s t) x k = absurd (omega arith)
  frame (suc f) n w v h (until-last (ending-stop r p l)) x k = let z = l x in inside z.end (quiet z.path) z.how
  frame (suc f) n w v h (until-last (ending-read g e r l p)) x k = inside over (p x) (inl refl)
  frame (suc f) n w v h (until-more {n = n₁} {u = u} (quietly-on e r l a) t) x k =
      let z = a x k in on-frame z r (frame f n₁ u v (omega arith) t z.known z.true_of)
  frame (suc f) n w v h (until-more {n = n₁} {u = u} (quietly-call e d r b) t) x k = go (frame f n₁ u v (omega arith) t none knows-none) (λ k₁ u₁ y₁ z t₁ kn. frame f k₁ u₁ v z t₁ y₁ kn)
    where
      go : Framed n₁ u v none → ((k₁ : ℕ) (u₁ : Walk) (y₁ : Option ℕ) → k₁ ≤ f → Until k₁ u₁ v → Knows y₁ u₁.result → Framed k₁ u₁ v y₁) → Framed (suc n₁) w v x
      go (inside e q (inl z)) ih = inside over (by-instruction d (does_call_over (rw z at q))) (inl refl)
      go (inside e q (inr z)) ih = let z₁ : ◌≡◌ {A = ℕ} 0 1 = cc in absurd (omega arith)
      go (behind m k₁ u₁ y₁ e q kn rs t₁) ih =
          let s = sym rs ∙ r in
          call-frame d e q (same_head s) (same-tail s) (ih k₁ u₁ y₁ (omega arith) t₁ kn)
  frame (suc f) n w v h (until-more {n = n₁} {u = u} (quietly-back e d r b) t) x k = behind 1 n₁ u x (omega arith) (by-instruction d does_return) (knows_as b k) r t

  -- Where the walk is

  here-leads : {l m : ℕ} → Here l → Leads T l (decode T l) m → Here m
  here-leads (is-here c r) h = is-here c (further r h)

  here-start : {l m : ℕ} → Here l → decode T l ≡ call_rule m → Here m
  here-start (is-here c r) d = is-here (called-from c r d) at_start

  head-here : {l : ℕ} {ls rs : List ℕ} → rs ≡ l ∷ ls → AllHere rs → Here l × AllHere ls
  head-here e all_none = let z : ◌≡◌ {A = ℕ} 0 1 = cc in absurd (omega arith)
  head-here {l} {ls} e (all_more {l = l₁} {ls = ls₁} h t) =
      let p : l₁ ≡ l = cc in
      let q : ls₁ ≡ ls = cc in
      (rw p at h, rw q at t)

  longer : {l : ℕ} {ls rs : List ℕ} → rs ≡ l ∷ ls → length rs ≡ suc (length ls)
  longer e = ap length e

  step-placed : {w v : Walk} → Quietly w v → Placed w → Placed v
  step-placed (quietly-on e r l a) p = record { here = here-leads p.here l; behind = rw r p.behind; few = rw r p.few }
  step-placed {w} {v} (quietly-call e d r b) p =
      let c : Leads T w.location (decode T w.location) (w.location + 2) = rw d leads_call in
      record { here = here-start p.here d; behind = rw r (all_more (here-leads p.here c) p.behind); few = rw r (omega arith) }
  step-placed (quietly-back e d r b) p = let z = head-here r p.behind in record { here = z.0; behind = z.1; few = omega (arith, p.few, longer r) }

  -- a stretch that does not stop reads or repairs
  pub data Ended (w v : Walk) : Type 0 where
    ended-stop : (r : Reason) → v.phase ≡ stopped r → Ended w v
    ended-read : v.phase ≡ going → left tokens v < left tokens w → Placed v → Ended w v

  from-before : {w u v : Walk} → left tokens u ≡ left tokens w → Ended u v → Ended w v
  from-before e (ended-stop r p) = ended-stop r p
  from-before e (ended-read g r p) = ended-read g (omega arith) p

  quiet-reads : {w v : Walk} → Quietly w v → left tokens v ≡ left tokens w
  quiet-reads (quietly-on e r l a) = e
  quiet-reads (quietly-call e d r b) = e
  quiet-reads (quietly-back e d r b) = e

  pub until-ended : {n : ℕ} {w v : Walk} → Until n w v → Placed w → Ended w v
  until-ended (until-last (ending-stop r p l)) pl = ended-stop r p
  until-ended (until-last (ending-read g e r l p)) pl = ended-read g e (record { here = here-leads pl.here l; behind = rw r pl.behind; few = rw r pl.few })
  until-ended (until-more s t) pl = from-before (quiet-reads s) (until-ended t (step-placed s pl))

  -- The rules in progress, one after the other

  module _ (q : ℕ) (most : Bounds T (Called T) q) where
    here-most : {l n : ℕ} {e : End} → Here l → Quiet T l none n e → n ≤ q
    here-most (is-here c r) p = most.most c r p

    one_more : (m k a b q : ℕ) → m ≤ q → k ≤ (a + 1) * q → b ≡ suc a → m + k ≤ (b + 1) * q
    one_more m k a b q h i e = rw e (omega arith)

    once : (n a : ℕ) → n ≤ q → n ≤ (a + 1) * q
    once n a h = omega arith

    pub stretch : (d n : ℕ) (w v : Walk) → length w.returns ≤ d → Until n w v → Here w.location → AllHere w.returns → n ≤ (length w.returns + 1) * q
    stretch zero n w v h t a b = go (frame n n w v (omega arith) t none knows-none)
      where
        go : Framed n w v none → n ≤ (length w.returns + 1) * q
        go (inside e p x) = once n (length w.returns) (here-most a p)
        go (behind m k u y e p kn rs t₁) = absurd (omega (arith, longer rs))
    stretch (suc d) n w v h t a b = go (frame n n w v (omega arith) t none knows-none) (λ k u. stretch d k u v)
      where
        go : Framed n w v none → ((k : ℕ) (u : Walk) → length u.returns ≤ d → Until k u v → Here u.location → AllHere u.returns → k ≤ (length u.returns + 1) * q)
            → n ≤ (length w.returns + 1) * q
        go (inside e p x) ih = once n (length w.returns) (here-most a p)
        go (behind m k u y e p kn rs t₁) ih =
            let z = head-here rs b in
            let l = longer rs in
            rw e (one_more m k (length u.returns) (length w.returns) q (here-most a p) (ih k u (omega arith) t₁ z.0 z.1) l)
