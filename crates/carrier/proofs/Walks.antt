-- Laws of a walk carried place by place, for `carry_walk`.
use mathlib.Core.Bool.{Bool, true, false}
use mathlib.Core.List.{List, reverse}
use mathlib.Core.Option.{Option, none, some}
use mathlib.Core.Path.{◌≡◌, refl, sym, ap, ◌∙◌}
use Prim.Native.Nat.{ℕ, zero, suc, ◌+◌, ◌-◌, ◌<◌, ◌≤◌, min}
use native.Mathlib.Decide.{dec_lt}
use native.Mathlib.Omega.{arith}
use lib.ListN.{length, get_or, take, set, length-set}
use lib.Seq.{get_or-set_same, get_or-set_other}
use Rattle.std.specs.Prelude.{Some, None, if◌then◌else◌}
use Rattle.carry.proofs.Lists.{some_inj, none-some}
use Rattle.carry.specs.Carry.{Source, Place, place_of, number_of, name_of, same_words, in_rule, carried_at, carry_place, beside, carry_places, carried, put_at}
use Rattle.machine.specs.Walk.{moved, with_returns}
use Rattle.program.proofs.Places.{place-from}
use Rattle.program.specs.Table.{place}
use Rattle.walker.proofs.LinkWords.{pop-returns, clip-returns}
use Rattle.walker.specs.View as view
use Rattle.walker.specs.declared.Walk.{Walk}
use Rattle.carrier.proofs.Linked.{or_no, place-held}
use Rattle.carrier.specs.Held.{place_held}
use Rattle.carrier.specs.Walks.{Stands, carried_by, CarriesWalk}

-- Places of a list

module _ (p q : Source) where
  -- a carried place is no 0
  above : (l l' : ℕ) → carry_place p q l ≡ some l' → 1 ≤ l'
  unfolding carry_place carried_at in_rule
  above l l' e = outer (place_of p.rules l) e
    where
      inner : (at : Place) (s : ℕ) (t : Bool) → (if t then some (place 1 q.rules s + at.offset) else none) ≡ some l' → 1 ≤ l'
      inner at s true d = omega (arith, some_inj d, place-from 1 q.rules s)
      inner at s false d = none-some d

      middle : (at : Place) (o : Option ℕ) → in_rule p q at o ≡ some l' → 1 ≤ l'
      middle at none d = none-some d
      middle at (some s) d = inner at s (same_words p q at.rule s) d

      outer : (o : Option Place) → carried_at p q o ≡ some l' → 1 ≤ l'
      outer none d = none-some d
      outer (some at) d = middle at (number_of (name_of p.names at.rule) 0 q.names) d

  -- the newest of d return locations stands first
  all-places : (d : ℕ) (rs vs : List ℕ) → d ≤ length rs → length vs ≡ length rs → ((k : ℕ) → k < d → carry_place p q (get_or rs k 0) ≡ some (get_or vs k 0))
      → carry_places p q (reverse (take d rs)) ≡ some (reverse (take d vs))
  unfolding carry_places beside
  all-places zero rs vs h e f = refl
  all-places (suc d) rs vs h e f =
      let z : suc d - 1 ≡ d = omega arith in
      rw (pop-returns rs (suc d) (omega arith) h, pop-returns vs (suc d) (omega arith) (omega (arith, e, h)), z, f d (omega arith), all-places d rs vs (omega arith) e (λ k l. f k (omega arith))) refl

  no-places : (d : ℕ) (rs : List ℕ) (k : ℕ) → d ≤ length rs → k < d → carry_place p q (get_or rs k 0) ≡ none → carry_places p q (reverse (take d rs)) ≡ none
  unfolding carry_places beside
  no-places zero rs k h l f = absurd (omega arith)
  no-places (suc d) rs k h l f =
      let z : suc d - 1 ≡ d = omega arith in
      rw (pop-returns rs (suc d) (omega arith) h, z) (elim (dec_lt k d) [
        | yes x ↦ rw (no-places d rs k (omega arith) x f) (lost (carry_place p q (get_or rs d 0)))
        | no x ↦ let y : k ≡ d = omega arith in rw (rw y at f) refl
      ])
    where
      lost : (o : Option ℕ) → beside o none ≡ none
      lost none = refl
      lost (some x) = refl

-- The loop

-- the first i of the return locations are carried, each to a place; the others are as they were
pub record Moving (to : ℕ → ℕ) (held : ℕ) (from returns : List ℕ) (i : ℕ) : Type 0 where
  pub low : i ≤ held
  pub long : length returns ≡ length from
  pub done : (k : ℕ) → k < i → (get_or returns k 0 ≡ to (get_or from k 0)) × (get_or returns k 0 ≡ 0 → ⊥)
  pub left : (k : ℕ) → i ≤ k → get_or returns k 0 ≡ get_or from k 0

pub moving-first : {to : ℕ → ℕ} {held : ℕ} {from : List ℕ} → Moving to held from from 0
moving-first = record { low = omega arith; long = refl; done = λ k l. absurd (omega arith); left = λ k l. refl }

pub moving-next : {to : ℕ → ℕ} {held : ℕ} {from returns : List ℕ} {i : ℕ} (x l : ℕ) → Moving to held from returns i → i < held → held ≤ length from → x ≡ get_or returns i 0 → l ≡ to x → (l ≡ 0 → ⊥)
    → Moving to held from (set returns i l) (i + 1)
moving-next {to} {held} {from} {returns} {i} x l m h few d e n = record {
  low = omega arith;
  long = length-set returns i l ∙ m.long;
  done = at;
  left = λ k z. get_or-set_other returns i k l 0 (λ y. omega (arith, y, z)) ∙ m.left k (omega arith);
}
  where
    here : get_or (set returns i l) i 0 ≡ l
    here = get_or-set_same returns i l 0 (omega (arith, h, few, m.long))

    at : (k : ℕ) → k < i + 1 → (get_or (set returns i l) k 0 ≡ to (get_or from k 0)) × (get_or (set returns i l) k 0 ≡ 0 → ⊥)
    at k z = elim (dec_lt k i) [
      | yes y ↦ rw (get_or-set_other returns i k l 0 (λ w. omega (arith, w, y))) (m.done k y)
      | no y ↦ let w : k ≡ i = omega arith in rw (w, here) (e ∙ ap to (d ∙ m.left i (omega arith)), n)
    ]

-- What the code returns

module _ (a b old sheet new other : List ℕ) (walk : Walk) where
  abbrev To : ℕ → ℕ
  To = place_held a b old sheet new other

  module _ {p q : Source} (s : Stands old sheet a p) (t : Stands new other b q) where
    by_rows : (l : ℕ) → To l ≡ or_no 0 (carry_place p q l)
    by_rows l =
        place-held old sheet p s.rows new other q t.rows s.accepts t.accepts s.distinct t.distinct s.named t.named a s.more b t.more s.words t.words l

    found : (l x : ℕ) → x ≡ To l → (x ≡ 0 → ⊥) → carry_place p q l ≡ some x
    unfolding or_no
    found l x e n = go (carry_place p q l) refl
      where
        go : (o : Option ℕ) → carry_place p q l ≡ o → o ≡ some x
        go none d = absurd (n (e ∙ by_rows l ∙ ap (or_no 0) d))
        go (some y) d = ap some (sym (e ∙ by_rows l ∙ ap (or_no 0) d))

    gone : (l x : ℕ) → x ≡ To l → x ≡ 0 → carry_place p q l ≡ none
    unfolding or_no
    gone l x e z = go (carry_place p q l) refl
      where
        go : (o : Option ℕ) → carry_place p q l ≡ o → o ≡ none
        go none d = refl
        go (some y) d = let w : x ≡ y = e ∙ by_rows l ∙ ap (or_no 0) d in absurd (omega (arith, above p q l y d, w, z))

  -- the location becomes no place
  pub location-gone : (x : ℕ) → x ≡ To walk.at.location → x ≡ 0 → CarriesWalk a b old sheet new other walk None
  unfolding carried_by put_at
  location-gone x e z = record { location = tt; is = λ s t. rw (gone s t walk.at.location x e z) refl }

  -- a return location becomes none
  pub return-gone : {returns : List ℕ} {i : ℕ} (held x y l : ℕ) → length walk.returns ≡ 64 → held ≡ min walk.at.depth 64 → x ≡ To walk.at.location → (x ≡ 0 → ⊥) → Moving To held walk.returns returns i → i < held
      → y ≡ get_or returns i 0 → l ≡ To y → l ≡ 0 → CarriesWalk a b old sheet new other walk None
  unfolding carried_by put_at view.walk_of view.walk_in
  return-gone {returns} {i} held x y l n h e nz m k d f z = record { location = tt; is = it }
    where
      it : {p q : Source} → Stands old sheet a p → Stands new other b q
          → carried_by None ≡ put_at (view.walk_of walk) (carry_place p q walk.at.location) (carry_places p q (view.walk_of walk).returns)
      it {p} {q} s t =
          let w : l ≡ To (get_or walk.returns i 0) = f ∙ ap To (d ∙ m.left i (omega arith)) in
          let u : carry_places p q (reverse (take (min walk.at.depth 64) walk.returns)) ≡ none = no-places p q (min walk.at.depth 64) walk.returns i (omega (arith, n)) (omega (arith, k, h)) (gone s t (get_or walk.returns i 0) l w z) in
          rw (found s t walk.at.location x e nz, rw (clip-returns walk.returns walk.at.depth n) at u) refl

  -- each becomes one
  pub all-carried : {returns : List ℕ} {i : ℕ} (held x : ℕ) → length walk.returns ≡ 64 → held ≡ min walk.at.depth 64 → x ≡ To walk.at.location → x < 65536 → (x ≡ 0 → ⊥)
      → Moving To held walk.returns returns i → held ≤ i
      → CarriesWalk a b old sheet new other walk (Some (record {
        phase = walk.phase;
        at = record {
          location = x;
          depth = walk.at.depth;
          result = walk.at.result;
          parameter = walk.at.parameter;
          read = walk.at.read;
          used = walk.at.used;
          allowance = walk.at.allowance;
        };
        returns = returns;
      }))
  unfolding carried_by put_at view.walk_of view.walk_in moved with_returns
  all-carried {returns} {i} held x n h e fits nz m k = record { location = fits; is = it }
    where
      it : {p q : Source} → Stands old sheet a p → Stands new other b q
          → carried (record {
            phase = view.phase_of walk.phase;
            location = x;
            returns = reverse (take walk.at.depth returns);
            result = (view.walk_of walk).result;
            parameter = (view.walk_of walk).parameter;
            io = (view.walk_of walk).io;
          }) ≡ put_at (view.walk_of walk) (carry_place p q walk.at.location) (carry_places p q (view.walk_of walk).returns)
      it {p} {q} s t =
          let d = min walk.at.depth 64 in
          let u : carry_places p q (reverse (take d walk.returns)) ≡ some (reverse (take d returns)) =
          all-places p q d walk.returns returns (omega (arith, n)) m.long (λ j l. let o = m.done j (omega (arith, l, h, k)) in found s t (get_or walk.returns j 0) (get_or returns j 0) o.0 o.1) in
          rw (found s t walk.at.location x e nz, rw (clip-returns walk.returns walk.at.depth n, clip-returns returns walk.at.depth (m.long ∙ n)) at u) refl
