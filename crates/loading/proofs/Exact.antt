-- `reached` and `taken` are `Reachable` and `Taken`.
use mathlib.Core.Bool.{Bool, true, false, ◌&&◌, not}
use mathlib.Core.List.{List, [], ◌∷◌}
use mathlib.Core.Logic.{inl, inr}
use mathlib.Core.Option.{Option, none, some}
use mathlib.Core.Path.{◌≡◌, refl, sym, ap, ◌∙◌, subst}
use Prim.Native.Nat.{ℕ, zero, suc, ◌+◌, ◌<◌, ◌≤◌}
use native.Mathlib.Decide.{dec_le}
use native.Mathlib.Omega.{arith}
use lib.Dec.{eqb}
use lib.ListN.{length}
use borrow.Author.Tests.{eqb-true, eqb-false, ne_eqb, not-true}
use Rattle.base.specs.Bools.{never, and, both, split}
use Rattle.std.specs.Prelude.{if◌then◌else◌}
use Rattle.base.specs.Common.{member, given}
use Rattle.machine.specs.Decode.{fetch}
use Rattle.loading.specs.Reach.{bad, gives37, Reachable, at_start, Taken}
use Rattle.loading.specs.Taking.{ways, unseen, next_from, grown, reached, inside, sound, all_sound, taken}
use Rattle.loading.proofs.Members.{member-head, member-tail, member-cons, fetch-inside, outside-invalid}
use Rattle.loading.proofs.Ways.{ByWays, from_start, by_way, way, by-ways}

-- How many of the locations 1 to k are not among the seen

unfoldable missing : ℕ → List ℕ → ℕ
missing zero seen = 0
missing (suc k) seen = (if member (suc k) seen then 0 else 1) + missing k seen

missing-same : (k m : ℕ) (seen : List ℕ) → k < m → missing k (m ∷ seen) ≡ missing k seen
unfolding missing
missing-same zero m seen h = refl
missing-same (suc k) m seen h = let e = ne_eqb (suc k) m (λ q. omega arith) in rw (e, missing-same k m seen (omega arith))

-- at most k + 1 and not k + 1
lower : (x k : ℕ) → x ≤ suc k → (x ≡ suc k → ⊥) → x ≤ k
lower x k h ne = elim (dec_le x k) [ yes t ↦ t | no f ↦ absurd (ne (omega arith)) ]

missing-less : (k m : ℕ) (seen : List ℕ) → 1 ≤ m → m ≤ k → member m seen ≡ false → suc (missing k (m ∷ seen)) ≡ missing k seen
unfolding missing
missing-less zero m seen l u n = absurd (omega arith)
missing-less (suc k) m seen l u n = split (eqb (suc k) m) here (λ e. there e (missing-less k m seen l (lower m k u (λ z. eqb-false (suc k) m e (sym z))) n))
  where
    here : eqb (suc k) m ≡ true → suc (missing (suc k) (m ∷ seen)) ≡ missing (suc k) seen
    here e =
        let q = eqb-true (suc k) m e in
        let d : member (suc k) seen ≡ false = rw q n in
        let s = missing-same k m seen (omega arith) in
        rw (e, d, s) (omega arith)

    there : eqb (suc k) m ≡ false → suc (missing k (m ∷ seen)) ≡ missing k seen → suc (missing (suc k) (m ∷ seen)) ≡ missing (suc k) seen
    there e i = rw e (omega arith)

missing-none : (k : ℕ) (seen : List ℕ) → missing k seen ≡ 0 → (m : ℕ) → 1 ≤ m → m ≤ k → member m seen ≡ true
unfolding missing
missing-none zero seen e m l u = absurd (omega arith)
missing-none (suc k) seen e m l u =
    split (eqb m (suc k)) here (λ q. missing-none k seen (rest (member (suc k) seen) e) m l (lower m k u (eqb-false m (suc k) q)))
  where
    now-seen : (t : Bool) → (if t then 0 else 1) + missing k seen ≡ 0 → t ≡ true
    now-seen true z = refl
    now-seen false z = absurd (omega arith)

    rest : (t : Bool) → (if t then 0 else 1) + missing k seen ≡ 0 → missing k seen ≡ 0
    rest true z = omega arith
    rest false z = absurd (omega arith)

    here : eqb m (suc k) ≡ true → member m seen ≡ true
    here q = let z = eqb-true m (suc k) q in rw z (now-seen (member (suc k) seen) e)

module _ (T : List ℕ) where
  -- What is found next

  pub record Found (seen : List ℕ) (m : ℕ) : Type 0 where
    pub there : given (fetch T m) ≡ true
    pub new : member m seen ≡ false

  unseen-is : (seen ms : List ℕ) (m : ℕ) → unseen T seen ms ≡ some m → Found seen m × (member m ms ≡ true)
  unfolding unseen
  unseen-is seen [] m e = let z : ◌≡◌ {A = ℕ} 0 1 = cc in absurd (omega arith)
  unseen-is seen (x ∷ ms) m e = go (given (fetch T x)) (member x seen) refl refl e (unseen-is seen ms m)
    where
      later : Found seen m × (member m ms ≡ true) → Found seen m × (member m (x ∷ ms) ≡ true)
      later r = (r.0, member-tail m x ms r.1)

      go : (a b : Bool) → given (fetch T x) ≡ a → member x seen ≡ b → (if a && not b then some x else unseen T seen ms) ≡ some m
          → (unseen T seen ms ≡ some m → Found seen m × (member m ms ≡ true)) → Found seen m × (member m (x ∷ ms) ≡ true)
      go true false f g d i = let q : x ≡ m = cc in subst (λ (p : ℕ). Found seen p × (member p (x ∷ ms) ≡ true)) q (record { there = f; new = g }, member-head x ms)
      go true true f g d i = later (i d)
      go false b f g d i = later (i d)

  unseen-none : (seen ms : List ℕ) → unseen T seen ms ≡ none → (m : ℕ) → member m ms ≡ true → given (fetch T m) ≡ true → member m seen ≡ true
  unfolding unseen
  unseen-none seen [] e m h g = never h
  unseen-none seen (x ∷ ms) e m h g = go (given (fetch T x)) (member x seen) refl refl e (λ d. unseen-none seen ms d m)
    where
      on : (b : Bool) → member x seen ≡ b → (given (fetch T x) ≡ true → b ≡ true) → (member m ms ≡ true → given (fetch T m) ≡ true → member m seen ≡ true) → member m seen ≡ true
      on b f k i = elim (member-cons m x ms h) [ inl q ↦ rw q (f ∙ k (rw (← q) g)) | inr t ↦ i t g ]

      go : (a b : Bool) → given (fetch T x) ≡ a → member x seen ≡ b → (if a && not b then some x else unseen T seen ms) ≡ none
          → (unseen T seen ms ≡ none → member m ms ≡ true → given (fetch T m) ≡ true → member m seen ≡ true) → member m seen ≡ true
      go true false f k d i = let z : ◌≡◌ {A = ℕ} 0 1 = cc in absurd (omega arith)
      go true true f k d i = on true k (λ _. refl) (i d)
      go false b f k d i = on b k (λ w. never (sym f ∙ w)) (i d)

  -- a way leads to m from one of the locations
  pub record Led (ls : List ℕ) (m : ℕ) : Type 0 where
    pub from : ℕ
    pub among : member from ls ≡ true
    pub way : member m (ways T from) ≡ true

  next-is : (seen ls : List ℕ) (m : ℕ) → next_from T seen ls ≡ some m → Found seen m × Led ls m
  unfolding next_from
  next-is seen [] m e = let z : ◌≡◌ {A = ℕ} 0 1 = cc in absurd (omega arith)
  next-is seen (l ∷ ls) m e = go (unseen T seen (ways T l)) refl e (next-is seen ls m)
    where
      go : (o : Option ℕ) → unseen T seen (ways T l) ≡ o → elim o [ none ↦ next_from T seen ls | some x ↦ some x ] ≡ some m
          → (next_from T seen ls ≡ some m → Found seen m × Led ls m) → Found seen m × Led (l ∷ ls) m
      go none f d i =
          let r = i d in
          (r.0, record { from = r.1.from; among = member-tail r.1.from l ls r.1.among; way = r.1.way })
      go (some x) f d i =
          let q : x ≡ m = cc in
          let r = unseen-is seen (ways T l) m (f ∙ ap some q) in
          (r.0, record { from = l; among = member-head l ls; way = r.1 })

  next-none : (seen ls : List ℕ) → next_from T seen ls ≡ none
      → (l m : ℕ) → member l ls ≡ true → member m (ways T l) ≡ true → given (fetch T m) ≡ true → member m seen ≡ true
  unfolding next_from
  next-none seen [] e l m h w g = never h
  next-none seen (x ∷ ls) e l m h w g = go (unseen T seen (ways T x)) refl e (λ d t. next-none seen ls d l m t w g)
    where
      go : (o : Option ℕ) → unseen T seen (ways T x) ≡ o → ◌≡◌ {A = Option ℕ} (elim o [ none ↦ next_from T seen ls | some y ↦ some y ]) none
          → (next_from T seen ls ≡ none → member l ls ≡ true → member m seen ≡ true) → member m seen ≡ true
      go none f d i = elim (member-cons l x ls h) [ inl q ↦ unseen-none seen (ways T x) f m (rw q at w) g | inr t ↦ i d t ]
      go (some y) f d i = let z : ◌≡◌ {A = ℕ} 0 1 = cc in absurd (omega arith)

  -- The set that has grown

  -- all are reachable
  abbrev AllReach : List ℕ → Type 0
  AllReach seen = (l : ℕ) → member l seen ≡ true → Reachable T l

  -- every way inside the table leads to one of them
  abbrev Closed : List ℕ → Type 0
  Closed seen = (l m : ℕ) → member l seen ≡ true → member m (ways T l) ≡ true → given (fetch T m) ≡ true → member m seen ≡ true

  one_more : (seen : List ℕ) (m : ℕ) → AllReach seen → Led seen m → AllReach (m ∷ seen)
  one_more seen m a d l h = elim (member-cons l m seen h) [ inl q ↦ rw q (way T (a d.from d.among) d.way) | inr t ↦ a l t ]

  grown-reach : (n : ℕ) (seen : List ℕ) → AllReach seen → AllReach (grown T n seen)
  unfolding grown
  grown-reach zero seen a = a
  grown-reach (suc n) seen a = go (next_from T seen seen) refl (λ m. grown-reach n (m ∷ seen))
    where
      go : (o : Option ℕ) → next_from T seen seen ≡ o → ((m : ℕ) → AllReach (m ∷ seen) → AllReach (grown T n (m ∷ seen)))
          → AllReach (elim o [ none ↦ seen | some m ↦ grown T n (m ∷ seen) ])
      go none e i = a
      go (some m) e i = i m (one_more seen m a (next-is seen seen m e).1)

  grown-keeps : (n : ℕ) (seen : List ℕ) (l : ℕ) → member l seen ≡ true → member l (grown T n seen) ≡ true
  unfolding grown
  grown-keeps zero seen l h = h
  grown-keeps (suc n) seen l h = go (next_from T seen seen) (λ m. grown-keeps n (m ∷ seen) l (member-tail l m seen h))
    where
      go : (o : Option ℕ) → ((m : ℕ) → member l (grown T n (m ∷ seen)) ≡ true) → member l (elim o [ none ↦ seen | some m ↦ grown T n (m ∷ seen) ]) ≡ true
      go none i = h
      go (some m) i = i m

  grown-closed : (n : ℕ) (seen : List ℕ) → missing (length T) seen ≤ n → Closed (grown T n seen)
  unfolding grown
  grown-closed zero seen h = λ l m s w g. let r = fetch-inside T m g in missing-none (length T) seen (omega arith) m r.0 r.1
  grown-closed (suc n) seen h = go (next_from T seen seen) refl (λ m. grown-closed n (m ∷ seen))
    where
      go : (o : Option ℕ) → next_from T seen seen ≡ o → ((m : ℕ) → missing (length T) (m ∷ seen) ≤ n → Closed (grown T n (m ∷ seen)))
          → Closed (elim o [ none ↦ seen | some m ↦ grown T n (m ∷ seen) ])
      go none e i = next-none seen seen e
      go (some m) e i =
          let f = (next-is seen seen m e).0 in
          let r = fetch-inside T m f.there in
          let d = missing-less (length T) m seen r.0 r.1 f.new in
          i m (omega arith)

  missing-most : (k : ℕ) (seen : List ℕ) → missing k seen ≤ k
  unfolding missing
  missing-most zero seen = omega arith
  missing-most (suc k) seen = go (member (suc k) seen) (missing-most k seen)
    where
      go : (t : Bool) → missing k seen ≤ k → (if t then 0 else 1) + missing k seen ≤ suc k
      go true h = omega arith
      go false h = omega arith

  pub reached-reach : AllReach (reached T)
  unfolding reached
  reached-reach = grown-reach (length T) (1 ∷ []) first
    where
      first : AllReach (1 ∷ [])
      first l h = elim (member-cons l 1 [] h) [ inl q ↦ rw q at_start | inr t ↦ never t ]

  reached-start : member 1 (reached T) ≡ true
  unfolding reached
  reached-start = grown-keeps (length T) (1 ∷ []) 1 (member-head 1 [])

  reached-closed : Closed (reached T)
  unfolding reached
  reached-closed = grown-closed (length T) (1 ∷ []) (missing-most (length T) (1 ∷ []))

  -- The test

  inside-all : (ms : List ℕ) → inside T ms ≡ true → (m : ℕ) → member m ms ≡ true → given (fetch T m) ≡ true
  unfolding inside
  inside-all [] e m h = never h
  inside-all (x ∷ ms) e m h =
      let r = and (given (fetch T x)) (inside T ms) e in
      elim (member-cons m x ms h) [ inl q ↦ rw q r.0 | inr t ↦ inside-all ms r.1 m t ]

  all-inside : (ms : List ℕ) → ((m : ℕ) → member m ms ≡ true → given (fetch T m) ≡ true) → inside T ms ≡ true
  unfolding inside
  all-inside [] f = refl
  all-inside (x ∷ ms) f = both (given (fetch T x)) (inside T ms) (f x (member-head x ms)) (all-inside ms (λ m h. f m (member-tail m x ms h)))

  sound-all : (ls : List ℕ) → all_sound T ls ≡ true → (l : ℕ) → member l ls ≡ true → sound T l ≡ true
  unfolding all_sound
  sound-all [] e l h = never h
  sound-all (x ∷ ls) e l h =
      let r = and (sound T x) (all_sound T ls) e in
      elim (member-cons l x ls h) [ inl q ↦ rw q r.0 | inr t ↦ sound-all ls r.1 l t ]

  all_sound_lem : (ls : List ℕ) → ((l : ℕ) → member l ls ≡ true → sound T l ≡ true) → all_sound T ls ≡ true
  unfolding all_sound
  all_sound_lem [] f = refl
  all_sound_lem (x ∷ ls) f = both (sound T x) (all_sound T ls) (f x (member-head x ls)) (all_sound_lem ls (λ l h. f l (member-tail l x ls h)))

  false-not : (b : Bool) → b ≡ false → not b ≡ true
  false-not true e = sym e
  false-not false e = refl

  taken-sound : taken T ≡ true → (l : ℕ) → member l (reached T) ≡ true → sound T l ≡ true
  unfolding taken
  taken-sound e = sound-all (reached T) e

  -- where the table is taken, what can be reached is `reached`
  ways-reached : taken T ≡ true → {l : ℕ} → ByWays T l → member l (reached T) ≡ true
  unfolding sound
  ways-reached e from_start = reached-start
  ways-reached e (by_way {l = l} {m = m} r w) =
      let h = ways-reached e r in
      let s = and (not (gives37 T l)) (inside T (ways T l)) (taken-sound e l h) in
      reached-closed l m h w (inside-all (ways T l) s.1 m w)

  pub reach-reached : taken T ≡ true → {l : ℕ} → Reachable T l → member l (reached T) ≡ true
  reach-reached e r = ways-reached e (by-ways T r)

  pub taken-Taken : taken T ≡ true → Taken T
  unfolding sound
  taken-Taken e l r =
      let s = and (not (gives37 T l)) (inside T (ways T l)) (taken-sound e l (reach-reached e r)) in
      not-true (gives37 T l) s.0

  pub good-there : (l : ℕ) → gives37 T l ≡ false → given (fetch T l) ≡ true
  unfolding gives37 bad
  good-there l e = go (given (fetch T l)) refl
    where
      go : (b : Bool) → given (fetch T l) ≡ b → b ≡ true
      go true f = refl
      go false f = let d = outside-invalid T l f in sym (rw d at e)

  pub Taken-taken : Taken T → taken T ≡ true
  unfolding taken sound
  Taken-taken h = all_sound_lem (reached T) (λ l s.
      let r = reached-reach l s in
      both (not (gives37 T l)) (inside T (ways T l)) (false-not (gives37 T l) (h l r))
      (all-inside (ways T l) (λ m w. good-there m (h m (way T r w)))))
