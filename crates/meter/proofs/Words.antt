-- Reading the table and the rules' starts.
use mathlib.Core.Bool.{Bool, true, false}
use mathlib.Core.List.{List, [], ◌∷◌}
use mathlib.Core.Option.{Option, none, some}
use mathlib.Core.Path.{◌≡◌, refl, sym, ap, ◌∙◌}
use native.Mathlib.Decide.{dec_lt}
use native.Mathlib.Numerals.{add-one}
use native.Mathlib.Omega.{arith}
use Prim.Native.Nat.{ℕ, zero, suc, ◌+◌, ◌*◌, ◌-◌, ◌≤◌, ◌<◌}
use lib.Dec.{eqb, ltb}
use lib.ListN.{length, get_or, get_or-eq_default}
use borrow.Author.Tests.{eqb-true, eq-eqb, ne_eqb, lt-ltb, le-ltb, ltb-true, ltb-false}
use Rattle.std.specs.List.Sorted.{IsNonDecreasingBy, IsPartitionedBy, IsPartitionPoint}
use Rattle.std.proofs.lemmas.List.Sorted.{IsPartitionedBy-ltb}
use Rattle.base.specs.Bools.{never}
use Rattle.std.specs.Prelude.{if◌then◌else◌}
use Rattle.base.specs.Common.{given}
use Rattle.events.specs.Events.{is}
use Rattle.loading.proofs.Members.{inside-fetch}
use Rattle.machine.specs.Decode.{fetch}
use Rattle.figure.specs.Figure.{label_at, label_by, back_from, way_among, way_of, way_out}
use Rattle.meter.specs.Shaped.{Rising, Between, index_of, start_of, end_of, Fits}

pub end-next : (size r : ℕ) (S : List ℕ) → r + 1 < length S → get_or S (r + 1) 0 ≡ end_of size S r
unfolding end_of
end-next size r S h = rw (lt-ltb (r + 1) (length S) h) refl

pub end-last : (size r : ℕ) (S : List ℕ) → length S ≤ r + 1 → size + 1 ≡ end_of size S r
unfolding end_of
end-last size r S h = rw (le-ltb (r + 1) (length S) h) refl

-- inside a list it does not matter what stands for none
with_default : (xs : List ℕ) (k d : ℕ) → k < length xs → get_or xs k d ≡ get_or xs k 0
with_default [] k d u = absurd (omega arith)
with_default (x ∷ xs) zero d u = refl
with_default (x ∷ xs) (suc k) d u = with_default xs k d (omega arith)

-- both, where a word is read with what stands for none
pub end-read : (size r : ℕ) (S : List ℕ) → get_or S (r + 1) (size + 1) ≡ end_of size S r
end-read size r S = elim (dec_lt (r + 1) (length S)) [
  | yes h ↦ with_default S (r + 1) (size + 1) h ∙ end-next size r S h
  | no h ↦ get_or-eq_default S (size + 1) (omega arith) ∙ end-last size r S (omega arith)
]

-- a search for the rules that start before s
rising-from : {S : List ℕ} → Rising S → IsNonDecreasingBy (λ (y : ℕ). y) S
rising-from {S} u i j d h l = elim (dec_lt i j) [
  | yes k ↦ (let r = u.rising k l in omega (arith, with_default S i d (omega arith), with_default S j d l))
  | no k ↦ (let e : i ≡ j = omega arith in rw e (omega arith))
]

pub rising-partitioned : {S : List ℕ} → Rising S → (s : ℕ) → IsPartitionedBy (λ (y : ℕ). ltb y s) S
rising-partitioned {S} u s = IsPartitionedBy-ltb (λ (y : ℕ). y) S s (rising-from u)

pub point-between : {S : List ℕ} {s i : ℕ} → i ≤ length S → IsPartitionPoint (λ (y : ℕ). ltb y s ≡ true) (λ (y : ℕ). ltb y s ≡ false) S i → Between S s i i
point-between {S} {s} h p = record {
  order = omega arith;
  inside = h;
  before = λ q l. ltb-true (get_or S q 0) s (p.0 q 0 (omega arith) l);
  behind = λ q k l. ltb-false (get_or S q 0) s (p.1 q 0 k l);
}

-- the first that starts at s
index-first : (S : List ℕ) (s r : ℕ) → r < length S → ((q : ℕ) → q < r → start_of S q < s) → start_of S r ≡ s → r ≡ index_of S s
unfolding index_of
index-first [] s r h f e = absurd (omega arith)
index-first (t ∷ ts) s zero h f e = rw (eq-eqb t s e) refl
index-first (t ∷ ts) s (suc r) h f e =
    let n : t < s = f 0 (omega arith) in
    rw (ne_eqb t s (λ z. omega arith)) (ap suc (index-first ts s r (omega arith) (λ q z. f (suc q) (omega arith)) e))

index-none : (S : List ℕ) (s : ℕ) → ((q : ℕ) → q < length S → start_of S q ≡ s → ⊥) → length S ≡ index_of S s
unfolding index_of
index-none [] s f = refl
index-none (t ∷ ts) s f = rw (ne_eqb t s (f 0 (omega arith))) (ap suc (index-none ts s (λ q z. f (suc q) (omega arith))))

pub rule_found : {S : List ℕ} {s r : ℕ} → Between S s r r → r < length S → start_of S r ≡ s → r ≡ index_of S s
rule_found {S} {s} {r} b h e = index-first S s r h b.before e

pub rule-missing : {S : List ℕ} {s r : ℕ} → Rising S → Between S s r r → (r < length S → start_of S r ≡ s → ⊥) → length S ≡ index_of S s
rule-missing {S} {s} {r} u b n = index-none S s each
  where
    each : (q : ℕ) → q < length S → start_of S q ≡ s → ⊥
    each q z e = elim (dec_lt q r) [
      | yes y ↦ omega (arith, b.before q y)
      | no y ↦ elim (dec_lt r q) [
        | yes x ↦ omega (arith, u.rising x z, b.behind r (omega arith) (omega arith))
        | no x ↦ let w : q ≡ r = omega arith in n (omega arith) (rw w at e)
      ]
    ]

pub rule-past : {S : List ℕ} {s r : ℕ} → Rising S → Between S s r r → length S ≤ r → r ≡ index_of S s
rule-past {S} {s} {r} u b h = let e : r ≡ length S = omega (arith, b.inside) in e ∙ rule-missing u b (λ z. absurd (omega arith))

-- a search for a label, at the i-th
pub record Seeking (T : List ℕ) (c v n i : ℕ) : Type 0 where
  pub inside : i ≤ n
  pub is_count : fetch T c ≡ some n
  pub low : 1 ≤ c
  pub fits : c + 2 * n ≤ length T
  pub short : length T ≤ 4096
  pub on : way_out T c (some v) ≡ way_among T c n (label_at T v (n - i) (c + 1 + 2 * i))

pub one-count : {T : List ℕ} {c n : ℕ} (f : Fits T c) → fetch T c ≡ some n → f.count ≡ n
one-count {n = n} f e = let z : some f.count ≡ some n = sym f.is_count ∙ e in cc

pub seek-first : {T : List ℕ} {c n : ℕ} (v : ℕ) → length T ≤ 4096 → Fits T c → fetch T c ≡ some n → Seeking T c v n 0
unfolding way_out way_of label_by
seek-first {T} {c} {n} v s f e =
    let z = one-count f e in
    record { inside = omega arith; is_count = e; low = f.low; fits = omega (arith, f.fits); short = s; on = rw (e, plus-nothing c, minus-nothing n) refl }
  where
    plus-nothing : (c : ℕ) → c + 1 + 2 * 0 ≡ c + 1
    plus-nothing c = omega arith

    minus-nothing : (n : ℕ) → n - 0 ≡ n
    minus-nothing n = omega arith

at_label : (T : List ℕ) (v n i l : ℕ) → i < n → label_at T v (n - i) l ≡ (if is v (fetch T l) then some (l + 1) else label_at T v (n - (i + 1)) (l + 2))
unfolding label_at
at_label T v n i l h = let e : n - i ≡ suc (n - (i + 1)) = omega arith in rw e refl

pub seek_found : {T : List ℕ} {c v n i a x r : ℕ} → Seeking T c v n i → i < n → fetch T (c + 1 + 2 * i) ≡ some a → a ≡ v → fetch T (c + 1 + 2 * i + 1) ≡ some x → r ≡ c + 1 + 2 * i + 1 - x → r ≡ way_out T c (some v)
unfolding is way_among back_from
seek_found {T} {c} {v} {n} {i} {a} {x} k h f e g z =
    let y : label_at T v (n - i) (c + 1 + 2 * i) ≡ some (c + 1 + 2 * i + 1) = rw (at_label T v n i (c + 1 + 2 * i) h, f, eq-eqb v a (sym e)) refl in
    let w : way_among T c n (label_at T v (n - i) (c + 1 + 2 * i)) ≡ c + 1 + 2 * i + 1 - x = rw (y, g) refl in
    z ∙ sym (k.on ∙ w)

pub seek-next : {T : List ℕ} {c v n i a : ℕ} → Seeking T c v n i → i < n → fetch T (c + 1 + 2 * i) ≡ some a → (a ≡ v → ⊥) → Seeking T c v n (i + 1)
unfolding is
seek-next {T} {c} {v} {n} {i} {a} k h f e =
    let q : c + 1 + 2 * i + 2 ≡ c + 1 + 2 * (i + 1) = omega arith in
    let y : label_at T v (n - i) (c + 1 + 2 * i) ≡ label_at T v (n - (i + 1)) (c + 1 + 2 * (i + 1)) = rw (at_label T v n i (c + 1 + 2 * i) h, f, ne_eqb v a (λ z. e (sym z)), q) refl in
    record { inside = omega arith; is_count = k.is_count; low = k.low; fits = k.fits; short = k.short; on = k.on ∙ ap (way_among T c n) y }

pub seek-none : {T : List ℕ} {c v n i : ℕ} → Seeking T c v n i → n ≤ i → c + 1 + 2 * n ≡ way_out T c (some v)
unfolding label_at way_among
seek-none {T} {c} {v} {n} {i} k h =
    let e : n - i ≡ 0 = omega arith in
    let w : way_among T c n (label_at T v (n - i) (c + 1 + 2 * i)) ≡ c + 1 + 2 * n = rw e refl in
    sym (k.on ∙ w)

-- one of the labels before the i-th is v, or the search comes there
data Met (T : List ℕ) (c v n i : ℕ) : Type 0 where
  met : (j : ℕ) → j < i → fetch T (c + 1 + 2 * j) ≡ some v → Met T c v n i
  unmet : Seeking T c v n i → Met T c v n i

seeks : {T : List ℕ} {c v n : ℕ} (i : ℕ) → i ≤ n → Seeking T c v n 0 → Met T c v n i
seeks zero h k = unmet k
seeks {T} {c} {v} {n} (suc i) h k = go (seeks i (omega arith) k)
  where
    at_next : Seeking T c v n i → (o : Option ℕ) → fetch T (c + 1 + 2 * i) ≡ o → Met T c v n (suc i)
    at_next k none f =
        let y : given (fetch T (c + 1 + 2 * i)) ≡ true = inside-fetch T (c + 1 + 2 * i) (omega arith) (omega (arith, k.fits)) in
        let z : ◌≡◌ {A = Bool} false true = rw f at y in
        never z
    at_next k (some a) f = pick (eqb a v) refl
      where
        pick : (t : Bool) → eqb a v ≡ t → Met T c v n (suc i)
        pick true y = let q = eqb-true a v y in met i (omega arith) (f ∙ ap some q)
        pick false y = unmet (rw (← add-one i) (seek-next k h f (λ q. never (sym y ∙ eq-eqb a v q))))

    go : Met T c v n i → Met T c v n (suc i)
    go (met j l f) = met j (omega arith) f
    go (unmet k) = at_next k (fetch T (c + 1 + 2 * i)) refl

-- a value is one of the labels, or goes to the default
pub data Labelled (T : List ℕ) (c n v : ℕ) : Type 0 where
  labelled : (j : ℕ) → j < n → fetch T (c + 1 + 2 * j) ≡ some v → Labelled T c n v
  unlabelled : way_out T c (some v) ≡ c + 1 + 2 * n → Labelled T c n v

pub label-cases : {T : List ℕ} {c n : ℕ} (v : ℕ) → length T ≤ 4096 → Fits T c → fetch T c ≡ some n → Labelled T c n v
label-cases {T} {c} {n} v s f e = go (seeks n (omega arith) (seek-first v s f e))
  where
    go : Met T c v n n → Labelled T c n v
    go (met j l g) = labelled j l g
    go (unmet k) = unlabelled (sym (seek-none k (omega arith)))

-- a label goes the way that stands beside it, or one before it is the same
pub data FirstOr (T : List ℕ) (c i a way : ℕ) : Type 0 where
  is-first : way_out T c (some a) ≡ way → FirstOr T c i a way
  repeats : (j : ℕ) → j < i → fetch T (c + 1 + 2 * j) ≡ some a → FirstOr T c i a way

pub label-way : {T : List ℕ} {c n i a x : ℕ} → length T ≤ 4096 → Fits T c → fetch T c ≡ some n → i < n → fetch T (c + 1 + 2 * i) ≡ some a → fetch T (c + 1 + 2 * i + 1) ≡ some x → FirstOr T c i a (c + 1 + 2 * i + 1 - x)
label-way {T} {c} {n} {i} {a} {x} s f e h g z = go (seeks i (omega arith) (seek-first a s f e))
  where
    go : Met T c a n i → FirstOr T c i a (c + 1 + 2 * i + 1 - x)
    go (met j l y) = repeats j l y
    go (unmet k) = is-first (sym (seek_found k h g refl z refl))

pub default-way : (T : List ℕ) (c : ℕ) {n : ℕ} → fetch T c ≡ some n → way_out T c none ≡ c + 1 + 2 * n
unfolding way_out way_of label_by way_among
default-way T c e = rw e refl
