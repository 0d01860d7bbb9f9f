-- The loop over the row: at its end the marked locations are closed under the ways, and so they are the reachable ones.
use mathlib.Core.Bool.{Bool, true, false, ◌&&◌, not}
use mathlib.Core.List.{List, [], ◌∷◌}
use mathlib.Core.Logic.{◌⊎◌, inl, inr}
use mathlib.Core.Path.{◌≡◌, refl, sym, ap, ◌∙◌, subst}
use Prim.Native.Nat.{ℕ, zero, suc, ◌+◌, ◌-◌, ◌<◌, ◌≤◌}
use native.Mathlib.Decide.{dec_lt}
use native.Mathlib.Omega.{arith}
use lib.Dec.{eqb, leb}
use lib.ListN.{length, get_or, set, replicate, length-replicate, get_or-replicate, get_or-eq_default}
use lib.Seq.{get_or-set_same, get_or-set_other}
use borrow.Author.Tests.{eqb-true, eqb-false, leb-true, le-leb}
use Rattle.base.specs.Bools.{never, and, split}
use Rattle.std.specs.Prelude.{if◌then◌else◌}
use Rattle.base.specs.Common.{member}
use Rattle.loading.specs.Reach.{gives37, Reachable, at_start, Taken}
use Rattle.loading.specs.Taking.{ways, reached, taken}
use Rattle.loading.proofs.Exact.{reached-reach, reach-reached, taken-Taken, Taken-taken, good-there}
use Rattle.loading.proofs.Members.{member-head, member-tail, member-cons, fetch-inside}
use Rattle.loading.proofs.Ways.{ByWays, from_start, by_way, way, by-ways}
use Rattle.loader.proofs.Laws.{Worked, room, mark-new}
use Rattle.loader.specs.Marking.{Work, work, mark_of, marks_of, failed, visit_of, zeros, Kept, Ready, Tells}

-- location m is marked
pub record Flag (seen : List ℕ) (m : ℕ) : Type 0 where
  pub from : 1 ≤ m
  pub set_there : eqb (get_or seen (m - 1) 0) 0 ≡ false

-- it stands in the row before the place n
pub record Row (order : List ℕ) (n m : ℕ) : Type 0 where
  pub at : ℕ
  pub low : at < n
  pub is : get_or order at 0 ≡ m

-- after so many visits
pub record Going (T : List ℕ) (head : ℕ) (w : Work) : Type 0 where
  pub ok : w.ok ≡ true
  pub kept : Kept (length T) w.tail w.seen w.order
  pub listed : (m : ℕ) → Flag w.seen m → Row w.order w.tail m
  pub inside : (i : ℕ) → i < w.tail → (1 ≤ get_or w.order i 0) × (get_or w.order i 0 ≤ length T)
  pub known : (i : ℕ) → i < w.tail → Reachable T (get_or w.order i 0)
  pub good : (i : ℕ) → i < head → gives37 T (get_or w.order i 0) ≡ false
  pub closed : (i : ℕ) → i < head → (m : ℕ) → member m (ways T (get_or w.order i 0)) ≡ true → Flag w.seen m

-- what more marks keep
pub record More (w v : Work) : Type 0 where
  pub flags : (m : ℕ) → Flag w.seen m → Flag v.seen m
  pub row : (i : ℕ) → i < w.tail → get_or v.order i 0 ≡ get_or w.order i 0
  pub longer : w.tail ≤ v.tail

more-then : (u v w : Work) → More u v → More v w → More u w
more-then u v w a b = record {
  flags = λ m f. b.flags m (a.flags m f);
  row = λ i h. b.row i (omega (arith, a.longer)) ∙ a.row i h;
  longer = omega (arith, a.longer, b.longer);
}

-- Flags

flag-new : (seen : List ℕ) (m : ℕ) → 1 ≤ m → m - 1 < length seen → Flag (set seen (m - 1) 1) m
flag-new seen m a b = record { from = a; set_there = rw (get_or-set_same seen (m - 1) 1 0 b) }

flag-keeps : (seen : List ℕ) (k m : ℕ) → k < length seen → Flag seen m → Flag (set seen k 1) m
flag-keeps seen k m b f = record { from = f.from; set_there = go }
  where
    go : eqb (get_or (set seen k 1) (m - 1) 0) 0 ≡ false
    go = split (eqb (m - 1) k)
        (λ t. let z = eqb-true (m - 1) k t in rw (z, get_or-set_same seen k 1 0 b))
        (λ t. rw (get_or-set_other seen k (m - 1) 1 0 (eqb-false (m - 1) k t)) f.set_there)

flag-either : (seen : List ℕ) (k m : ℕ) → Flag (set seen k 1) m → (m - 1 ≡ k) ⊎ Flag seen m
flag-either seen k m f = split (eqb (m - 1) k)
    (λ t. inl (eqb-true (m - 1) k t))
    (λ t. inr (record { from = f.from; set_there = rw (get_or-set_other seen k (m - 1) 1 0 (eqb-false (m - 1) k t)) at f.set_there }))

less : (a b : ℕ) → a < b + 1 → (a ≡ b → ⊥) → a < b
less a b p q = elim (dec_lt a b) [ yes t ↦ t | no n ↦ absurd (q (omega arith)) ]

-- One location more

module _ (T : List ℕ) (head : ℕ) where
  record Step (w v : Work) (m : ℕ) : Type 0 where
    going : Going T head v
    more : More w v
    flag : Flag v.seen m

  old-step : (w : Work) (m : ℕ) → Going T head w → 1 ≤ m → eqb (get_or w.seen (m - 1) 0) 0 ≡ false
      → Step w (work true w.tail w.seen w.order) m
  old-step w m g a f = record {
    going = record { ok = refl; kept = g.kept; listed = g.listed; inside = g.inside; known = g.known; good = g.good; closed = g.closed };
    more = record { flags = λ k x. x; row = λ i h. refl; longer = omega arith };
    flag = record { from = a; set_there = f };
  }

  new-step : (w : Work) (m : ℕ) → Going T head w → head ≤ w.tail → 1 ≤ m → m ≤ length T → Reachable T m
      → Kept (length T) (w.tail + 1) (set w.seen (m - 1) 1) (set w.order w.tail m) → w.tail < 4096
      → Step w (work true (w.tail + 1) (set w.seen (m - 1) 1) (set w.order w.tail m)) m
  new-step w m g h a b r k t = record {
    going = record {
      ok = refl;
      kept = k;
      listed = λ n f. elim (flag-either w.seen (m - 1) n f) [
        | inl e ↦ record { at = w.tail; low = omega arith; is = last ∙ equal n f.from e }
        | inr d ↦ before n (g.listed n d)
      ];
      inside = λ i u. split (eqb i w.tail)
          (λ e. let z = eqb-true i w.tail e in rw (z, last) (a, b))
          (λ e. let ne = eqb-false i w.tail e in rw (other i ne) (g.inside i (less i w.tail u ne)));
      known = λ i u. split (eqb i w.tail)
          (λ e. let z = eqb-true i w.tail e in rw (z, last) r)
          (λ e. let ne = eqb-false i w.tail e in rw (other i ne) (g.known i (less i w.tail u ne)));
      good = λ i u. rw (other i (λ e. omega arith)) (g.good i u);
      closed = λ i u n x. flag-keeps w.seen (m - 1) n fits (g.closed i u n (rw (other i (λ e. omega arith)) at x));
    };
    more = record {
      flags = λ n f. flag-keeps w.seen (m - 1) n fits f;
      row = λ i u. other i (λ e. omega arith);
      longer = omega arith;
    };
    flag = flag-new w.seen m a fits;
  }
    where
      fits : m - 1 < length w.seen
      fits = omega (arith, g.kept.small, g.kept.flags)

      last : get_or (set w.order w.tail m) w.tail 0 ≡ m
      last = get_or-set_same w.order w.tail m 0 (omega (arith, g.kept.row))

      other : (i : ℕ) → (i ≡ w.tail → ⊥) → get_or (set w.order w.tail m) i 0 ≡ get_or w.order i 0
      other i ne = get_or-set_other w.order w.tail i m 0 ne

      equal : (n : ℕ) → 1 ≤ n → n - 1 ≡ m - 1 → m ≡ n
      equal n p e = omega arith

      before : (n : ℕ) → Row w.order w.tail n → Row (set w.order w.tail m) (w.tail + 1) n
      before n x = record { at = x.at; low = omega (arith, x.low); is = other x.at (λ e. omega (arith, x.low)) ∙ x.is }

  mark-step : (w : Work) (m : ℕ) → Going T head w → head ≤ w.tail → Reachable T m → (mark_of (length T) m w).ok ≡ true → Step w (mark_of (length T) m w) m
  unfolding mark_of
  mark-step w m g h r e = go (leb 1 m && leb m (length T)) refl (eqb (get_or w.seen (m - 1) 0) 0) refl e
    where
      new : Work
      new = work true (w.tail + 1) (set w.seen (m - 1) 1) (set w.order w.tail m)

      go : (t : Bool) → (leb 1 m && leb m (length T)) ≡ t → (f : Bool) → eqb (get_or w.seen (m - 1) 0) 0 ≡ f
          → (if t then (if f then work true (w.tail + 1) (set w.seen (m - 1) 1) (set w.order w.tail m) else work true w.tail w.seen w.order) else work false w.tail w.seen w.order).ok ≡ true
          → Step w (if t then (if f then work true (w.tail + 1) (set w.seen (m - 1) 1) (set w.order w.tail m) else work true w.tail w.seen w.order) else work false w.tail w.seen w.order) m
      go false x f y d = never d
      go true x false y d = old-step w m g (leb-true 1 m (and (leb 1 m) (leb m (length T)) x).0) y
      go true x true y d =
          let p = and (leb 1 m) (leb m (length T)) x in
          let a = leb-true 1 m p.0 in
          let b = leb-true m (length T) p.1 in
          let z = eqb-true (get_or w.seen (m - 1) 0) 0 y in
          new-step w m g h a b r (mark-new g.kept m (λ q. omega arith) b z).kept (room g.kept m (λ q. omega arith) b z)

  record Steps (w v : Work) (ms : List ℕ) : Type 0 where
    going : Going T head v
    more : More w v
    flags : (m : ℕ) → member m ms ≡ true → Flag v.seen m

  marks-steps : (ms : List ℕ) (w : Work) → Going T head w → head ≤ w.tail → ((m : ℕ) → member m ms ≡ true → Reachable T m)
      → (marks_of (length T) ms w).ok ≡ true → Steps w (marks_of (length T) ms w) ms
  unfolding marks_of
  marks-steps [] w g h r e = record { going = g; more = record { flags = λ k x. x; row = λ i u. refl; longer = omega arith }; flags = λ m x. never x }
  marks-steps (m ∷ ms) w g h r e =
      go (mark_of (length T) m w).ok refl e (λ d s. marks-steps ms (mark_of (length T) m w) s.going (omega (arith, s.more.longer)) (λ n x. r n (member-tail n m ms x)) d)
    where
      n₀ : Work
      n₀ = mark_of (length T) m w

      go : (t : Bool) → (mark_of (length T) m w).ok ≡ t → (if t then marks_of (length T) ms (mark_of (length T) m w) else mark_of (length T) m w).ok ≡ true
          → ((marks_of (length T) ms (mark_of (length T) m w)).ok ≡ true → Step w (mark_of (length T) m w) m → Steps (mark_of (length T) m w) (marks_of (length T) ms (mark_of (length T) m w)) ms)
          → Steps w (if t then marks_of (length T) ms (mark_of (length T) m w) else mark_of (length T) m w) (m ∷ ms)
      go false x d i = never (sym x ∙ d)
      go true x d i =
          let s = mark-step w m g h (r m (member-head m ms)) x in
          let a = i d s in
          record {
            going = a.going;
            more = more-then w (mark_of (length T) m w) (marks_of (length T) ms (mark_of (length T) m w)) s.more a.more;
            flags = λ n y. elim (member-cons n m ms y) [ inl q ↦ rw q (a.more.flags m s.flag) | inr q ↦ a.flags n q ];
          }

-- a mark fails outside the table only
mark-fails : (size m : ℕ) (w : Work) → (mark_of size m w).ok ≡ false → (leb 1 m && leb m size) ≡ false
unfolding mark_of
mark-fails size m w e = go (leb 1 m && leb m size) (eqb (get_or w.seen (m - 1) 0) 0) e
  where
    go : (t f : Bool) → (if t then (if f then work true (w.tail + 1) (set w.seen (m - 1) 1) (set w.order w.tail m) else work true w.tail w.seen w.order) else work false w.tail w.seen w.order).ok ≡ false → t ≡ false
    go true true d = d
    go true false d = d
    go false f d = refl

-- one of the locations is outside
record Out (size : ℕ) (ms : List ℕ) : Type 0 where
  which : ℕ
  among : member which ms ≡ true
  out : (leb 1 which && leb which size) ≡ false

marks-fail : (size : ℕ) (ms : List ℕ) (w : Work) → w.ok ≡ true → (marks_of size ms w).ok ≡ false → Out size ms
unfolding marks_of
marks-fail size [] w o e = never (sym e ∙ o)
marks-fail size (m ∷ ms) w o e = go (mark_of size m w).ok refl e (marks-fail size ms (mark_of size m w))
  where
    go : (t : Bool) → (mark_of size m w).ok ≡ t → (if t then marks_of size ms (mark_of size m w) else mark_of size m w).ok ≡ false
        → ((mark_of size m w).ok ≡ true → (marks_of size ms (mark_of size m w)).ok ≡ false → Out size ms) → Out size (m ∷ ms)
    go true x d i = let r = i x d in record { which = r.which; among = member-tail r.which m ms r.among; out = r.out }
    go false x d i = record { which = m; among = member-head m ms; out = mark-fails size m w x }

not-outside : (T : List ℕ) (m : ℕ) → Taken T → Reachable T m → (leb 1 m && leb m (length T)) ≡ false → ⊥
not-outside T m h r e =
    let p = fetch-inside T m (good-there T m (h m r)) in
    never (sym e ∙ rw (le-leb 1 m p.0) (le-leb m (length T) p.1))

-- A visit

module _ (T : List ℕ) (head : ℕ) (w : Work) (g : Going T head w) (h : head < w.tail) where
  pub visit-on : (visit_of T (get_or w.order head 0) w).ok ≡ true → Going T (head + 1) (visit_of T (get_or w.order head 0) w) × More w (visit_of T (get_or w.order head 0) w)
  unfolding visit_of failed
  visit-on e = go (gives37 T l) refl e
    where
      l : ℕ
      l = get_or w.order head 0

      go : (t : Bool) → gives37 T (get_or w.order head 0) ≡ t → (if t then failed w else marks_of (length T) (ways T (get_or w.order head 0)) w).ok ≡ true
          → Going T (head + 1) (if t then failed w else marks_of (length T) (ways T (get_or w.order head 0)) w) × More w (if t then failed w else marks_of (length T) (ways T (get_or w.order head 0)) w)
      go true x d = never d
      go false x d =
          let a = marks-steps T head (ways T (get_or w.order head 0)) w g (omega arith) (λ m y. way T (g.known head h) y) d in
          let v = marks_of (length T) (ways T (get_or w.order head 0)) w in
          let same-l : get_or v.order head 0 ≡ get_or w.order head 0 = a.more.row head h in (
            record {
              ok = a.going.ok;
              kept = a.going.kept;
              listed = a.going.listed;
              inside = a.going.inside;
              known = a.going.known;
              good = λ i u. split (eqb i head)
                  (λ q. let z = eqb-true i head q in rw (z, same-l) x)
                  (λ q. a.going.good i (less i head u (eqb-false i head q)));
              closed = λ i u m y. split (eqb i head)
                  (λ q. let z = eqb-true i head q in a.flags m (rw (z, same-l) at y))
                  (λ q. a.going.closed i (less i head u (eqb-false i head q)) m y);
            },
            a.more,
          )

  pub visit-fails : (visit_of T (get_or w.order head 0) w).ok ≡ false → taken T ≡ false
  unfolding visit_of failed
  visit-fails e = go (taken T) refl
    where
      no : Taken T → (t : Bool) → gives37 T (get_or w.order head 0) ≡ t → (if t then failed w else marks_of (length T) (ways T (get_or w.order head 0)) w).ok ≡ false → ⊥
      no k true x d = never (sym (k (get_or w.order head 0) (g.known head h)) ∙ x)
      no k false x d =
          let o = marks-fail (length T) (ways T (get_or w.order head 0)) w g.ok d in
          not-outside T o.which k (way T (g.known head h) o.among) o.out

      go : (t : Bool) → taken T ≡ t → t ≡ false
      go false x = refl
      go true x = absurd (no (taken-Taken T x) (gives37 T (get_or w.order head 0)) refl e)

-- The end

module _ (T : List ℕ) (head : ℕ) (w : Work) (g : Going T head w) (s : Flag w.seen 1) (h : w.tail ≤ head) where
  ways-flag : {l : ℕ} → ByWays T l → Flag w.seen l
  ways-flag from_start = s
  ways-flag (by_way {l = l} {m = m} r y) =
      let x = g.listed l (ways-flag r) in
      let i = x.is in
      g.closed x.at (omega (arith, x.low)) m (rw i y)

  reach-flag : {l : ℕ} → Reachable T l → Flag w.seen l
  reach-flag r = ways-flag (by-ways T r)

  all-good : Taken T
  all-good l r =
      let x = g.listed l (reach-flag r) in
      rw x.is at (g.good x.at (omega (arith, x.low)))

  flag-reach : {l : ℕ} → Flag w.seen l → Reachable T l
  flag-reach {l} f = let x = g.listed l f in rw x.is at (g.known x.at x.low)

  pub end-tells : Tells T true w.seen
  end-tells = record { answer = sym t; flags = λ _ i u. go i (member (suc i) (reached T)) refl }
    where
      t : taken T ≡ true
      t = Taken-taken T all-good

      back : (i : ℕ) → suc i - 1 ≡ i
      back i = omega arith

      go : (i : ℕ) (b : Bool) → member (suc i) (reached T) ≡ b → eqb (get_or w.seen i 0) 0 ≡ not b
      go i true x = let f = reach-flag (reached-reach T (suc i) x) in rw (back i) at f.set_there
      go i false x = inner (eqb (get_or w.seen i 0) 0) refl
        where
          inner : (b : Bool) → eqb (get_or w.seen i 0) 0 ≡ b → b ≡ true
          inner true y = refl
          inner false y =
              let f : Flag w.seen (suc i) = record { from = omega arith; set_there = rw (back i) y } in
              sym x ∙ reach-reached T t (flag-reach f)

-- The start

zeros-replicate : (n : ℕ) → zeros (replicate n 0) ≡ n
unfolding zeros
zeros-replicate zero = refl
zeros-replicate (suc n) = let r = zeros-replicate n in omega arith

pub kept-start : (T order : List ℕ) → length T ≤ 4096 → length order ≡ 4096 → Kept (length T) 0 (replicate 4096 0) order
kept-start T order a b = record { small = a; flags = length-replicate {A = ℕ} 4096 0; row = b; counted = let z = zeros-replicate 4096 in omega arith }

no_flag : (m : ℕ) → Flag (replicate 4096 0) m → ⊥
no_flag m f = elim (dec_lt (m - 1) 4096) [
  | yes u ↦ (let z : false ≡ true = sym f.set_there ∙ rw (get_or-replicate {A = ℕ} 4096 (m - 1) 0 0 u) in never z)
  | no u ↦ (
      let q = length-replicate {A = ℕ} 4096 0 in
      let p : length (replicate {A = ℕ} 4096 0) ≤ m - 1 = omega arith in
      let d : get_or (replicate {A = ℕ} 4096 0) (m - 1) 0 ≡ 0 = get_or-eq_default (replicate 4096 0) 0 p in
      let z : false ≡ true = sym f.set_there ∙ rw d in
      never z)
]

start-going : (T order : List ℕ) → length T ≤ 4096 → length order ≡ 4096 → Going T 0 (work true 0 (replicate 4096 0) order)
start-going T order a b = record {
  ok = refl;
  kept = kept-start T order a b;
  listed = λ m f. absurd (no_flag m f);
  inside = λ i u. absurd (omega arith);
  known = λ i u. absurd (omega arith);
  good = λ i u. absurd (omega arith);
  closed = λ i u. absurd (omega arith);
}

pub first_on : (T order : List ℕ) → length T ≤ 4096 → length order ≡ 4096 → (mark_of (length T) 1 (work true 0 (replicate 4096 0) order)).ok ≡ true
    → Going T 0 (mark_of (length T) 1 (work true 0 (replicate 4096 0) order)) × Flag (mark_of (length T) 1 (work true 0 (replicate 4096 0) order)).seen 1
first_on T order a b e =
    let s = mark-step T 0 (work true 0 (replicate 4096 0) order) 1 (start-going T order a b) (omega arith) at_start e in
    (s.going, s.flag)

pub first-fails : (T order : List ℕ) → (mark_of (length T) 1 (work true 0 (replicate 4096 0) order)).ok ≡ false → taken T ≡ false
first-fails T order e = go (taken T) refl
  where
    go : (t : Bool) → taken T ≡ t → t ≡ false
    go false x = refl
    go true x = absurd (not-outside T 1 (taken-Taken T x) at_start (mark-fails (length T) 1 (work true 0 (replicate 4096 0) order) e))

-- The loop of `reach`

pub record Loop (T : List ℕ) (size head tail : ℕ) (seen order : List ℕ) : Type 0 where
  pub size_is : size ≡ length T
  pub head-low : head ≤ tail
  pub going : Going T head (work true tail seen order)
  pub start : Flag seen 1

tells-false : (T seen : List ℕ) → taken T ≡ false → Tells T false seen
tells-false T seen t = record { answer = sym t; flags = λ e. never e }

-- what a function has left, as the definition's
left : (size size' : ℕ) (w v : Work) {ok : Bool} {tail : ℕ} {seen order : List ℕ} → Worked size w ok tail seen order → w ≡ v → work ok tail seen order ≡ v
left size size' w v m e = m.is ∙ e

module _ (T seen₀ order₀ : List ℕ) (size : ℕ) (z : size ≡ length T) (a : length T ≤ 4096) (b : length order₀ ≡ 4096) (c : seen₀ ≡ replicate 4096 0) where
  begun : mark_of size 1 (work true 0 seen₀ order₀) ≡ mark_of (length T) 1 (work true 0 (replicate 4096 0) order₀)
  begun = ap (λ (s : ℕ). mark_of s 1 (work true 0 seen₀ order₀)) z ∙ ap (λ (x : List ℕ). mark_of (length T) 1 (work true 0 x order₀)) c

  pub loop-kept : Kept size 0 seen₀ order₀
  loop-kept = rw (z, c) (kept-start T order₀ a b)

  pub loop-start : {ok : Bool} {tail : ℕ} {seen order : List ℕ} → Worked size (mark_of size 1 (work true 0 seen₀ order₀)) ok tail seen order → ok ≡ true → Loop T size 0 tail seen order
  loop-start {ok} {tail} {seen} {order} m t =
      let e : work ok tail seen order ≡ mark_of (length T) 1 (work true 0 (replicate 4096 0) order₀) = m.is ∙ begun in
      let f = first_on T order₀ a b (ap (λ (w : Work). w.ok) (sym e) ∙ t) in
      let g : Going T 0 (work ok tail seen order) = subst (λ (w : Work). Going T 0 w) (sym e) f.0 in
      record {
        size_is = z;
        head-low = omega arith;
        going = subst (λ (o : Bool). Going T 0 (work o tail seen order)) t g;
        start = subst (λ (w : Work). Flag w.seen 1) (sym e) f.1;
      }

  pub loop-none : {ok : Bool} {tail : ℕ} {seen order : List ℕ} → Worked size (mark_of size 1 (work true 0 seen₀ order₀)) ok tail seen order → ok ≡ false → Tells T false seen
  loop-none {ok} {tail} {seen} {order} m t =
      tells-false T seen (first-fails T order₀ (ap (λ (w : Work). w.ok) (sym (m.is ∙ begun)) ∙ t))

module _ {T : List ℕ} {size head tail : ℕ} {seen order : List ℕ} (k : Loop T size head tail seen order) where
  pub loop-low : tail ≤ 4096
  loop-low = omega (arith, k.going.kept.counted)

  pub loop-row : length order ≡ 4096
  loop-row = k.going.kept.row

  pub loop-flags : length seen ≡ 4096
  loop-flags = k.going.kept.flags

  pub loop-end : tail ≤ head → Tells T true seen
  loop-end h = end-tells T head (work true tail seen order) k.going k.start h

  module _ (l : ℕ) (e : l ≡ get_or order head 0) (h : head < tail) where
    pub loop-ready : Ready T l size tail seen order
    loop-ready =
        let i = k.going.inside head h in
        let z = k.size_is in
        record {
          kept = rw z k.going.kept;
          size_is = z;
          first = rw e i.0;
          last = rw (e, z) i.1;
        }

    module _ {ok : Bool} {tail' : ℕ} {seen' order' : List ℕ} (m : Worked size (visit_of T l (work true tail seen order)) ok tail' seen' order') where
      same-work : work ok tail' seen' order' ≡ visit_of T (get_or order head 0) (work true tail seen order)
      same-work = m.is ∙ ap (λ (x : ℕ). visit_of T x (work true tail seen order)) e

      pub loop-fails : ok ≡ false → Tells T false seen'
      loop-fails t = tells-false T seen' (visit-fails T head (work true tail seen order) k.going h (ap (λ (w : Work). w.ok) (sym same-work) ∙ t))

      pub loop-next : ok ≡ true → Loop T size (head + 1) tail' seen' order'
      loop-next t =
          let r = visit-on T head (work true tail seen order) k.going h (ap (λ (w : Work). w.ok) (sym same-work) ∙ t) in
          let g : Going T (head + 1) (work ok tail' seen' order') = subst (λ (w : Work). Going T (head + 1) w) (sym same-work) r.0 in
          let o : More (work true tail seen order) (work ok tail' seen' order') = subst (λ (w : Work). More (work true tail seen order) w) (sym same-work) r.1 in
          record {
            size_is = k.size_is;
            head-low = omega (arith, o.longer);
            going = subst (λ (b : Bool). Going T (head + 1) (work b tail' seen' order')) t g;
            start = o.flags 1 k.start;
          }
