-- The tally of the entries: how many have each byte value, and the token of the first of these.
use mathlib.Core.Bool.{Bool, true, false, ◌&&◌}
use mathlib.Core.List.{List}
use mathlib.Core.Path.{◌≡◌, refl, ap, ◌∙◌}
use Prim.Native.Nat.{ℕ, ◌+◌, ◌*◌, ◌/◌, ◌<◌, ◌≤◌}
use native.Mathlib.Decide.{dec_lt}
use native.Mathlib.Omega.{arith}
use lib.Dec.{eqb, leb}
use lib.ListN.{length, get_or, set, length-set}
use lib.Seq.{get_or-set_same, get_or-set_other}
use borrow.Author.Tests.{eqb-true, eqb-false, le-leb, lt-leb}
use Rattle.base.proofs.Laws.{above_zero}
use Rattle.base.specs.Bools.{split}
use Rattle.filtering.specs.Filter.{entries, has, holders, doubled, missing, token_of}
use Rattle.filter.specs.Working.{entry_at, turned, lowest_doubled, lowest_missing, Counts, Sofar, Tallied, Mapped}
use Rattle.filter.proofs.Laws.{drop-entries, drop-none, low_same}

-- Whether entry i has a byte

module _ (s : List ℕ) (i x : ℕ) where
  pub in_entry : get_or s (4 * i) 0 ≤ x → x ≤ get_or s (4 * i + 1) 0 → has x (entry_at s i) ≡ true
  unfolding has entry_at
  in_entry p q = rw (le-leb (get_or s (4 * i) 0) x p, le-leb x (get_or s (4 * i + 1) 0) q)

  pub before-entry : x < get_or s (4 * i) 0 → has x (entry_at s i) ≡ false
  unfolding has entry_at
  before-entry p = rw (lt-leb (get_or s (4 * i) 0) x p)

  pub behind-entry : get_or s (4 * i + 1) 0 < x → has x (entry_at s i) ≡ false
  unfolding has entry_at
  behind-entry q = go (leb (get_or s (4 * i) 0) x) (lt-leb x (get_or s (4 * i + 1) 0) q)
    where
      go : (t : Bool) {u : Bool} → u ≡ false → (t && u) ≡ false
      go true e = e
      go false e = refl

-- One byte

module _ (s : List ℕ) (i x : ℕ) (h : i < length s / 4) where
  -- the entry does not have it
  pub sofar-on : (k t : ℕ) → has x (entry_at s i) ≡ false → Sofar s i x k t → Sofar s (i + 1) x k t
  unfolding holders token_of
  sofar-on k t n p =
      let c = rw (drop-entries s i h, n) at p.count in
      record { few = omega (arith, p.few); count = omega (arith, c); none_yet = λ z. (rw (drop-entries s i h, n) at (p.none_yet z)); found = p.found }

  -- the first entry that has it
  pub sofar-first : (k t token : ℕ) → turned token ≡ (entry_at s i).token → has x (entry_at s i) ≡ true → k ≡ 0 → Sofar s i x k t → Sofar s (i + 1) x (k + 1) token
  unfolding holders token_of
  sofar-first k t token g n z p =
      let c = rw (drop-entries s i h, n) at p.count in
      let d = rw (drop-entries s i h, n) at (p.none_yet z) in
      record { few = omega (arith, p.few); count = omega (arith, c); none_yet = λ y. absurd (omega (arith, y)); found = λ y. g ∙ d }

  -- a later one
  pub sofar-later : (k t : ℕ) → has x (entry_at s i) ≡ true → (k ≡ 0 → ⊥) → Sofar s i x k t → Sofar s (i + 1) x (k + 1) t
  unfolding holders
  sofar-later k t n z p =
      let c = rw (drop-entries s i h, n) at p.count in
      record { few = omega (arith, p.few); count = omega (arith, c); none_yet = λ y. absurd (omega (arith, y)); found = λ y. p.found (above_zero k z) }

-- what `tally_byte` leaves
pub counts-later : (b token : ℕ) (held map : List ℕ) → (get_or held b 0 ≡ 0 → ⊥) → Counts b token held map (set held b (get_or held b 0 + 1)) map
counts-later b token held map n = record { count = refl; first = λ z. absurd (n z); later = λ z. refl }

pub counts-first : (b token : ℕ) (held map : List ℕ) → get_or held b 0 ≡ 0 → Counts b token held map (set held b (get_or held b 0 + 1)) (set map b token)
counts-first b token held map z = record { count = refl; first = λ e. refl; later = λ n. absurd (n z) }

-- One entry

-- the bytes below b with entry i, those from b on without it
pub record Partly (s : List ℕ) (i b : ℕ) (held map : List ℕ) : Type 0 where
  pub held_size : length held ≡ 256
  pub map_size : length map ≡ 256
  pub with_it : (x : ℕ) → x < b → x < 256 → Sofar s (i + 1) x (get_or held x 0) (get_or map x 0)
  pub without : (x : ℕ) → b ≤ x → x < 256 → Sofar s i x (get_or held x 0) (get_or map x 0)

module _ (s : List ℕ) (i : ℕ) (h : i < length s / 4) where
  pub partly-start : (b : ℕ) (held map : List ℕ) → b ≡ get_or s (4 * i) 0 → Tallied s i held map → Partly s i b held map
  partly-start b held map e p = record {
    held_size = p.held_size;
    map_size = p.map_size;
    with_it = λ x u v. sofar-on s i x h (get_or held x 0) (get_or map x 0) (before-entry s i x (omega arith)) (p.each x v);
    without = λ x u v. p.each x v;
  }

  pub partly-end : (b : ℕ) (held map : List ℕ) → get_or s (4 * i + 1) 0 < b → Partly s i b held map → Tallied s (i + 1) held map
  partly-end b held map u p = record {
    held_size = p.held_size;
    map_size = p.map_size;
    each = λ x v. elim (dec_lt x b) [
      | yes w ↦ p.with_it x w v
      | no w ↦ sofar-on s i x h (get_or held x 0) (get_or map x 0) (behind-entry s i x (omega arith)) (p.without x (omega arith) v)
    ];
  }

  module _ (b : ℕ) (held map held' map' : List ℕ) (low : get_or s (4 * i) 0 ≤ b) (high : b ≤ get_or s (4 * i + 1) 0) (u : b < 256) (token : ℕ) (t : turned token ≡ (entry_at s i).token) where
    -- the byte b itself
    here : Partly s i b held map → Counts b token held map held' map' → Sofar s (i + 1) b (get_or held' b 0) (get_or map' b 0)
    here p c = split (eqb (get_or held b 0) 0) (λ q. first (eqb-true (get_or held b 0) 0 q)) (λ q. later (eqb-false (get_or held b 0) 0 q))
      where
        held-is : get_or held' b 0 ≡ get_or held b 0 + 1
        held-is = ap (λ (l : List ℕ). get_or l b 0) c.count ∙ get_or-set_same held b (get_or held b 0 + 1) 0 (omega (arith, p.held_size))

        first : get_or held b 0 ≡ 0 → Sofar s (i + 1) b (get_or held' b 0) (get_or map' b 0)
        first z =
            let m : get_or map' b 0 ≡ token = ap (λ (l : List ℕ). get_or l b 0) (c.first z) ∙ get_or-set_same map b token 0 (omega (arith, p.map_size)) in
            rw (held-is, m) (sofar-first s i b h (get_or held b 0) (get_or map b 0) token t (in_entry s i b low high) z (p.without b (omega arith) u))

        later : (get_or held b 0 ≡ 0 → ⊥) → Sofar s (i + 1) b (get_or held' b 0) (get_or map' b 0)
        later z =
            let m : get_or map' b 0 ≡ get_or map b 0 = ap (λ (l : List ℕ). get_or l b 0) (c.later z) in
            rw (held-is, m) (sofar-later s i b h (get_or held b 0) (get_or map b 0) (in_entry s i b low high) z (p.without b (omega arith) u))

    -- another byte
    held_kept : Counts b token held map held' map' → (x : ℕ) → (x ≡ b → ⊥) → get_or held' x 0 ≡ get_or held x 0
    held_kept c x n = ap (λ (l : List ℕ). get_or l x 0) c.count ∙ get_or-set_other held b x (get_or held b 0 + 1) 0 n

    map-kept : Counts b token held map held' map' → (x : ℕ) → (x ≡ b → ⊥) → get_or map' x 0 ≡ get_or map x 0
    map-kept c x n = split (eqb (get_or held b 0) 0)
        (λ q. ap (λ (l : List ℕ). get_or l x 0) (c.first (eqb-true (get_or held b 0) 0 q)) ∙ get_or-set_other map b x token 0 n)
        (λ q. ap (λ (l : List ℕ). get_or l x 0) (c.later (eqb-false (get_or held b 0) 0 q)))

    map-long : Partly s i b held map → Counts b token held map held' map' → length map' ≡ 256
    map-long p c = split (eqb (get_or held b 0) 0) (λ q. ap length (c.first (eqb-true (get_or held b 0) 0 q)) ∙ length-set map b token ∙ p.map_size)
        (λ q. ap length (c.later (eqb-false (get_or held b 0) 0 q)) ∙ p.map_size)

    pub partly-next : Partly s i b held map → Counts b token held map held' map' → Partly s i (b + 1) held' map'
    partly-next p c = record {
      held_size = ap length c.count ∙ length-set held b (get_or held b 0 + 1) ∙ p.held_size;
      map_size = map-long p c;
      with_it = λ x v w. split (eqb x b) (λ q. let z = eqb-true x b q in rw z (here p c))
          (λ q. let n = eqb-false x b q in rw (held_kept c x n, map-kept c x n) (p.with_it x (less x b v n) w));
      without = λ x v w. let n : x ≡ b → ⊥ = λ z. omega (arith, z) in rw (held_kept c x n, map-kept c x n) (p.without x (omega arith) w);
    }
      where
        less : (x y : ℕ) → x < y + 1 → (x ≡ y → ⊥) → x < y
        less x y p q = elim (dec_lt x y) [ yes t ↦ t | no n ↦ absurd (q (omega arith)) ]

-- All entries

pub tally-start : (s held map : List ℕ) → length held ≡ 256 → length map ≡ 256 → ((x : ℕ) → get_or held x 0 ≡ 0) → Tallied s 0 held map
tally-start s held map a b z = record {
  held_size = a;
  map_size = b;
  each = λ x u. record { few = omega (arith, z x); count = omega (arith, z x); none_yet = λ e. refl; found = λ e. absurd (omega (arith, z x)) };
}

pub tally-end : (s : List ℕ) (n i : ℕ) (held map : List ℕ) → i ≤ n → n ≤ i → Tallied s i held map → Tallied s n held map
tally-end s n i held map a b p = let e : n ≡ i = omega arith in rw e p

module _ (s : List ℕ) (n : ℕ) (e : n ≡ length s / 4) (held map : List ℕ) (p : Tallied s n held map) where
  -- the count is the entries'
  count-is : (x : ℕ) → x < 256 → get_or held x 0 ≡ holders x (entries s)
  unfolding holders
  count-is x u = let c = rw (drop-none s n (omega arith)) at (p.each x u).count in omega (arith, c)

  pub doubled-is : lowest_doubled held ≡ doubled (entries s)
  unfolding lowest_doubled doubled
  doubled-is = low_same (λ b. leb 2 (get_or held b 0)) (λ b. leb 2 (holders b (entries s))) 256 0 (λ x u. ap (leb 2) (count-is x (omega arith)))

  pub missing-is : lowest_missing held ≡ missing (entries s)
  unfolding lowest_missing missing
  missing-is = low_same (λ b. eqb (get_or held b 0) 0) (λ b. eqb (holders b (entries s)) 0) 256 0 (λ x u. ap (λ (k : ℕ). eqb k 0) (count-is x (omega arith)))

  -- where each byte value is held, the map has their tokens
  pub map_is : ((x : ℕ) → x < 256 → 1 ≤ holders x (entries s)) → Mapped (entries s) map
  map_is all = record { size = p.map_size; tokens = λ x u. (p.each x u).found (omega (arith, all x u, count-is x u)) }
