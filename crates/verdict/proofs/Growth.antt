-- Laws of what is known and grows.
use Prim.Native.Nat.{ℕ, zero, suc, ◌+◌, ◌-◌, ◌*◌, ◌<◌, ◌≤◌}
use mathlib.Core.Path.{◌≡◌, refl, sym, ap, ◌∙◌}
use mathlib.Core.Logic.{◌⊎◌, inl, inr}
use mathlib.Core.Bool.{Bool, true, false, not, ◌||◌, ◌&&◌}
use mathlib.Core.List.{List}
use native.Mathlib.Omega.{arith}
use native.Mathlib.Decide.{dec_lt}
use lib.Dec.{eqb}
use lib.ListN.{length, get_or, set, length-set}
use lib.Seq.{get_or-set_same, get_or-set_other}
use borrow.Author.Tests.{eq-eqb, ne_eqb, eqb-true, not-false}
use Rattle.base.specs.Bools.{never, and, both, split}
use Rattle.finishing.proofs.Rounds.{last, one_more}
use Rattle.finishing.proofs.Exact.{below-same, below_true, true_below}
use Rattle.verdict.specs.Told.{member, some_in, known_in, alike, Same, Grows, Widens, outside, Joined, NotedTold, Marked, NotesTold, sought, Asked, GatheredTold}
use Rattle.verdict.specs.declared.Rules.{Rules}
use Rattle.verdict.specs.declared.Learnt.{Learnt}

-- Facts
pub grows_self : (l : List ℕ) (m : ℕ) → 2 * m ≤ length l → Grows l m l m
grows_self l m h = record { sized = refl; more = omega arith; room = h; kept = λ i b. refl; apart = λ a. a }

pub grows-trans : (a b c : List ℕ) (m n k : ℕ) → Grows a m b n → Grows b n c k → Grows a m c k
grows-trans a b c m n k g h = record {
  sized = h.sized ∙ g.sized;
  more = omega (arith, g.more, h.more);
  room = h.room;
  kept = λ i l. h.kept i (omega (arith, g.more)) ∙ g.kept i l;
  apart = λ x. h.apart (g.apart x);
}

pub some-here : (facts : List ℕ) (m r v i : ℕ) → i < m → get_or facts (2 * i) 0 ≡ r → get_or facts (2 * i + 1) 0 ≡ v → some_in facts m r (λ u. eqb u v) ≡ true
unfolding some_in
some-here facts m r v i l d e = below_true m (λ i. eqb (get_or facts (2 * i) 0) r && eqb (get_or facts (2 * i + 1) 0) v) i l
    (both (eqb (get_or facts (2 * i) 0) r) (eqb (get_or facts (2 * i + 1) 0) v) (eq-eqb (get_or facts (2 * i) 0) r d) (eq-eqb (get_or facts (2 * i + 1) 0) v e))

-- one of the facts
pub record Fact (facts : List ℕ) (m r v : ℕ) : Type 0 where
  pub index : ℕ
  pub below : index < m
  pub rule : get_or facts (2 * index) 0 ≡ r
  pub value : get_or facts (2 * index + 1) 0 ≡ v

pub here-some : (facts : List ℕ) (m r v : ℕ) → some_in facts m r (λ u. eqb u v) ≡ true → Fact facts m r v
unfolding some_in
here-some facts m r v e =
    let x = true_below m (λ i. eqb (get_or facts (2 * i) 0) r && eqb (get_or facts (2 * i + 1) 0) v) e in
    let y = and (eqb (get_or facts (2 * x.0) 0) r) (eqb (get_or facts (2 * x.0 + 1) 0) v) x.2 in
    record { index = x.0; below = x.1; rule = eqb-true (get_or facts (2 * x.0) 0) r y.0; value = eqb-true (get_or facts (2 * x.0 + 1) 0) v y.1 }

pub some-kept : (old : List ℕ) (m : ℕ) (new : List ℕ) (k r v : ℕ) → Grows old m new k → some_in old m r (λ u. eqb u v) ≡ true → some_in new k r (λ u. eqb u v) ≡ true
some-kept old m new k r v g e =
    let f = here-some old m r v e in
    some-here new k r v f.index (omega (arith, f.below, g.more)) (g.kept (2 * f.index) (omega (arith, f.below)) ∙ f.rule) (g.kept (2 * f.index + 1) (omega (arith, f.below)) ∙ f.value)

known_kept : (ps : Rules) (old new : List ℕ) (m : ℕ) → ((i : ℕ) → i < 2 * m → get_or new i 0 ≡ get_or old i 0) → known_in ps old m ≡ known_in ps new m
unfolding known_in some_in
known_kept ps old new m h = λ i. record {
  passed = member ps;
  some_value = λ r p. below-same m (λ j. eqb (get_or old (2 * j) 0) r && p (get_or old (2 * j + 1) 0)) (λ j. eqb (get_or new (2 * j) 0) r && p (get_or new (2 * j + 1) 0))
      (λ j l. rw (h (2 * j) (omega arith), h (2 * j + 1) (omega arith)) refl) i;
}

pub known_same : (ps qs : Rules) (old new : List ℕ) (m k : ℕ) → qs ≡ ps → k ≡ m → ((i : ℕ) → i < 2 * m → get_or new i 0 ≡ get_or old i 0) → known_in ps old m ≡ known_in qs new k
known_same ps qs old new m k e d h = rw (e, d) (known_kept ps old new m h)

-- Sets: one rule more
module _ (f g : ℕ → Bool) (r : ℕ) where
  outside-less : (n : ℕ) → ((k : ℕ) → k < n → g k ≡ (eqb r k || f k)) → outside n g ≤ outside n f
  unfolding outside
  outside-less zero h = omega arith
  outside-less (suc n) h = rw (h n (omega arith)) (omega (arith, one_more (eqb r n) (f n), outside-less n (λ k l. h k (omega arith))))

  pub outside-falls : (n : ℕ) → ((k : ℕ) → k < n → g k ≡ (eqb r k || f k)) → r < n → f r ≡ false → outside n g < outside n f
  unfolding outside
  outside-falls zero h l e = absurd (omega arith)
  outside-falls (suc n) h l e = elim (last n r l) [
    | inl x ↦ rw (h n (omega arith)) (omega (arith, one_more (eqb r n) (f n), outside-falls n (λ k b. h k (omega arith)) x e))
    | inr x ↦
        let d : f n ≡ false = rw x at e in
        rw (h n (omega arith), d, eq-eqb r n x) (omega (arith, outside-less n (λ k b. h k (omega arith))))
  ]

-- What is known
pub widens-self : (k : Learnt) (l : List ℕ) → 2 * k.count ≤ length l → Widens k l k l
widens-self k l h = record { facts = grows_self l k.count h; sets = inl refl }

left : Rules → ℕ
left s = outside 128 (member s)

Set : Rules → Rules → Type 0
Set a b = (b ≡ a) ⊎ (outside 128 (member b) < outside 128 (member a))

sets-trans : (a b c : Rules) → Set a b → Set b c → Set a c
unfolding left Set
sets-trans a b c (inl e) (inl d) = inl (d ∙ e)
sets-trans a b c (inl e) (inr d) = inr (omega (arith, ap left e))
sets-trans a b c (inr e) (inl d) = inr (omega (arith, ap left d))
sets-trans a b c (inr e) (inr d) = inr (omega arith)

sets-mid : (a b c : Rules) → Set a b → Set b c → c ≡ a → (b ≡ a) × (c ≡ b)
unfolding left Set
sets-mid a b c (inl e) (inl d) q = (e, d)
sets-mid a b c (inl e) (inr d) q = absurd (omega (arith, ap left e, ap left q))
sets-mid a b c (inr e) (inl d) q = absurd (omega (arith, ap left d, ap left q))
sets-mid a b c (inr e) (inr d) q = absurd (omega (arith, ap left q))

pub widens-trans : (j t k : Learnt) (old mid new : List ℕ) → Widens j old t mid → Widens t mid k new → Widens j old k new
unfolding Set
widens-trans j t k old mid new a b = record {
  facts = grows-trans old mid new j.count t.count k.count a.facts b.facts;
  sets = sets-trans j.passed t.passed k.passed a.sets b.sets;
}

-- what brought nothing in the end brought nothing on the way
pub same_mid : (j t k : Learnt) (old mid new : List ℕ) → Widens j old t mid → Widens t mid k new → Same j k → Same j t × Same t k
unfolding Set
same_mid j t k old mid new a b s =
    let x = sets-mid j.passed t.passed k.passed a.sets b.sets s.passed in
    let m = a.facts.more in
    let n = b.facts.more in
    let q = s.count in
    (record { passed = x.0; count = omega (arith, m, n, q) }, record { passed = x.1; count = omega (arith, m, n, q) })

pub widens-known : (j k : Learnt) (old new : List ℕ) → Widens j old k new → Same j k → known_in j.passed old j.count ≡ known_in k.passed new k.count
widens-known j k old new w s = known_same j.passed k.passed old new j.count k.count s.passed s.count w.facts.kept

-- the same in both words and in number
pub alike_same : (j k : Learnt) → alike k j ≡ true → Same j k
unfolding alike
alike_same j k e =
    let x = and (eqb k.passed.lo j.passed.lo && eqb k.passed.hi j.passed.hi) (eqb k.count j.count) e in
    let y = and (eqb k.passed.lo j.passed.lo) (eqb k.passed.hi j.passed.hi) x.0 in
    let a : k.passed.lo ≡ j.passed.lo = eqb-true k.passed.lo j.passed.lo y.0 in
    let b : k.passed.hi ≡ j.passed.hi = eqb-true k.passed.hi j.passed.hi y.1 in
    record { passed = λ i. record { lo = a i; hi = b i }; count = eqb-true k.count j.count x.1 }

same_alike : (a b : Rules) (m n : ℕ) → b ≡ a → m ≡ n → ((eqb b.lo a.lo && eqb b.hi a.hi) && eqb n m) ≡ true
same_alike a b m n e d =
    both (eqb b.lo a.lo && eqb b.hi a.hi) (eqb n m)
    (both (eqb b.lo a.lo) (eqb b.hi a.hi) (eq-eqb b.lo a.lo (ap (λ (s : Rules). s.lo) e)) (eq-eqb b.hi a.hi (ap (λ (s : Rules). s.hi) e)))
    (eq-eqb n m (sym d))

-- more facts or fewer rules left
pub widens-falls : (j k : Learnt) (old new : List ℕ) (c : ℕ) → Widens j old k new → k.count ≤ c → alike k j ≡ false
    → outside 128 (member k.passed) + (c - k.count) < outside 128 (member j.passed) + (c - j.count)
unfolding alike
widens-falls j k old new c w h e = go w.sets
  where
    go : (k.passed ≡ j.passed) ⊎ (outside 128 (member k.passed) < outside 128 (member j.passed)) → outside 128 (member k.passed) + (c - k.count) < outside 128 (member j.passed) + (c - j.count)
    go (inl d) = elim (last k.count j.count (omega (arith, w.facts.more))) [
      | inl x ↦ omega (arith, ap (λ (s : Rules). outside 128 (member s)) d)
      | inr x ↦ let z : ◌≡◌ {A = Bool} false true = sym e ∙ same_alike j.passed k.passed j.count k.count d x in never z
    ]
    go (inr d) = omega (arith, w.facts.more)

pub widens-less : (j k : Learnt) (old new : List ℕ) (c : ℕ) → Widens j old k new → outside 128 (member k.passed) + (c - k.count) ≤ outside 128 (member j.passed) + (c - j.count)
widens-less j k old new c w = go w.sets
  where
    go : (k.passed ≡ j.passed) ⊎ (outside 128 (member k.passed) < outside 128 (member j.passed)) → outside 128 (member k.passed) + (c - k.count) ≤ outside 128 (member j.passed) + (c - j.count)
    go (inl d) = omega (arith, ap (λ (s : Rules). outside 128 (member s)) d, w.facts.more)
    go (inr d) = omega (arith, w.facts.more)

-- One fact more
pub noted-known : (old : List ℕ) (m r v : ℕ) → 2 * m ≤ length old → some_in old m r (λ u. eqb u v) ≡ true → NotedTold old m r v old m
noted-known old m r v h e = record { grows = grows_self old m h; each = λ i a b. absurd (omega arith); whole = λ x. e }

pub noted-full : (old : List ℕ) (m r v : ℕ) → 2 * m ≤ length old → length old - 2 * m < 2 → NotedTold old m r v old m
noted-full old m r v h l = record { grows = grows_self old m h; each = λ i a b. absurd (omega arith); whole = λ x. absurd (omega arith) }

pub noted_more : (old : List ℕ) (m r v : ℕ) → 2 * m + 1 < length old → some_in old m r (λ u. eqb u v) ≡ false → NotedTold old m r v (set (set old (2 * m) r) (2 * m + 1) v) (m + 1)
noted_more old m r v h e = record {
  grows = record {
    sized = sized;
    more = omega arith;
    room = omega (arith, sized);
    kept = kept;
    apart = λ a. record {
      differ = λ i j l b x y. elim (last m j (omega arith)) [
        | inl z ↦ a.differ i j l z (sym (kept (2 * i) (omega arith)) ∙ (x ∙ kept (2 * j) (omega arith))) (sym (kept (2 * i + 1) (omega arith)) ∙ (y ∙ kept (2 * j + 1) (omega arith)))
        | inr z ↦
            let x₁ : get_or new (2 * i) 0 ≡ r = x ∙ (ap (λ (n : ℕ). get_or new (2 * n) 0) z ∙ rule) in
            let y₁ : get_or new (2 * i + 1) 0 ≡ v = y ∙ (ap (λ (n : ℕ). get_or new (2 * n + 1) 0) z ∙ value) in
            let d = some-here old m r v i (omega arith) (sym (kept (2 * i) (omega arith)) ∙ x₁) (sym (kept (2 * i + 1) (omega arith)) ∙ y₁) in
            never (sym e ∙ d)
      ];
    };
  };
  each = λ i a b. let z : i ≡ m = omega arith in (ap (λ (n : ℕ). get_or new (2 * n) 0) z ∙ rule, ap (λ (n : ℕ). get_or new (2 * n + 1) 0) z ∙ value);
  whole = λ x. some-here new (m + 1) r v m (omega arith) rule value;
}
  where
    new : List ℕ
    new = set (set old (2 * m) r) (2 * m + 1) v

    sized : length new ≡ length old
    sized = length-set (set old (2 * m) r) (2 * m + 1) v ∙ length-set old (2 * m) r

    kept : (i : ℕ) → i < 2 * m → get_or new i 0 ≡ get_or old i 0
    kept i l = get_or-set_other (set old (2 * m) r) (2 * m + 1) i v 0 (λ z. omega arith) ∙ get_or-set_other old (2 * m) i r 0 (λ z. omega arith)

    rule : get_or new (2 * m) 0 ≡ r
    rule = get_or-set_other (set old (2 * m) r) (2 * m + 1) (2 * m) v 0 (λ z. omega arith) ∙ get_or-set_same old (2 * m) r 0 (omega arith)

    value : get_or new (2 * m + 1) 0 ≡ v
    value = get_or-set_same (set old (2 * m) r) (2 * m + 1) v 0 (omega (arith, length-set old (2 * m) r))

-- The facts of the values asked for
pub notes-start : (old : List ℕ) (m r : ℕ) (vs : List ℕ) (s : Rules) → 2 * m ≤ length old → NotesTold old m r vs 0 s old m
notes-start old m r vs s h = record { grows = grows_self old m h; each = λ i a b. absurd (omega arith); whole = λ x j l. absurd (omega arith) }

mark-more : {vs : List ℕ} {n : ℕ} {s : Rules} {v : ℕ} → Marked vs n s v → Marked vs (n + 1) s v
mark-more k = record { index = k.index; below = omega arith; there = k.there; its = k.its }

pub notes-off : (old : List ℕ) (m r : ℕ) (vs : List ℕ) (j : ℕ) (s : Rules) (new : List ℕ) (k : ℕ) → member s j ≡ false → NotesTold old m r vs j s new k → NotesTold old m r vs (j + 1) s new k
notes-off old m r vs j s new k e t = record {
  grows = t.grows;
  each = λ i a b. let x = t.each i a b in (x.0, mark-more x.1);
  whole = λ h i l d. elim (last j i (omega arith)) [
    | inl x ↦ t.whole h i x d
    | inr x ↦ let z : member s j ≡ true = rw x at d in never (sym e ∙ z)
  ];
}

pub notes-on : (old : List ℕ) (m r : ℕ) (vs : List ℕ) (j : ℕ) (s : Rules) (mid : List ℕ) (k : ℕ) (new : List ℕ) (n v : ℕ) → v ≡ get_or vs j 0 → member s j ≡ true
    → NotesTold old m r vs j s mid k → NotedTold mid k r v new n → NotesTold old m r vs (j + 1) s new n
notes-on old m r vs j s mid k new n v q e t u = record {
  grows = grows-trans old mid new m k n t.grows u.grows;
  each = λ i a b. elim (dec_lt i k) [
    | yes x ↦
        let y = t.each i a x in
        (u.grows.kept (2 * i) (omega arith) ∙ y.0, let w : get_or new (2 * i + 1) 0 ≡ get_or mid (2 * i + 1) 0 = u.grows.kept (2 * i + 1) (omega arith) in rw w (mark-more y.1))
    | no x ↦
        let y = u.each i (omega arith) b in
        (y.0, record { index = j; below = omega arith; there = e; its = sym q ∙ sym y.1 })
  ];
  whole = λ h i l d. elim (last j i (omega arith)) [
    | inl x ↦ some-kept mid k new n r (get_or vs i 0) u.grows (t.whole (omega (arith, u.grows.more, u.grows.sized)) i x d)
    | inr x ↦ let w : v ≡ get_or vs i 0 = rw x q in rw (← w) (u.whole h)
  ];
}

-- Values to ask for
pub seeks-yes : (cells : List ℕ) (i : ℕ) (facts : List ℕ) (m r v : ℕ) (b : Bool) → get_or cells i 0 ≡ 10 → v ≡ get_or cells (i + 1) 0 → b ≡ some_in facts m r (λ u. eqb u v) → not b ≡ sought cells i facts m r
unfolding sought
seeks-yes cells i facts m r v b e q d =
    let z : b ≡ some_in facts m r (λ u. eqb u (get_or cells (i + 1) 0)) = rw q at d in
    rw (eq-eqb (get_or cells i 0) 10 e, z) refl

pub seeks-no : (cells : List ℕ) (i : ℕ) (facts : List ℕ) (m r : ℕ) → (get_or cells i 0 ≡ 10 → ⊥) → false ≡ sought cells i facts m r
unfolding sought
seeks-no cells i facts m r n = rw (ne_eqb (get_or cells i 0) 10 n) refl

pub record Gathering (cells : List ℕ) (from : ℕ) (facts : List ℕ) (m r : ℕ) (vs : List ℕ) (n i : ℕ) : Type 0 where
  pub after : from ≤ i
  pub few : n ≤ length vs
  pub some : 0 < n → from < i
  pub all : (j : ℕ) → from ≤ j → j < i → get_or cells j 0 ≡ 10 → (some_in facts m r (λ u. eqb u (get_or cells (j + 1) 0)) ≡ true) ⊎ Asked vs n (get_or cells (j + 1) 0)

pub gather-start : (cells : List ℕ) (from : ℕ) (facts : List ℕ) (m r : ℕ) (vs : List ℕ) → Gathering cells from facts m r vs 0 from
gather-start cells from facts m r vs = record { after = omega arith; few = omega arith; some = λ x. absurd (omega arith); all = λ j a b. absurd (omega arith) }

not-sought : (cells : List ℕ) (i : ℕ) (facts : List ℕ) (m r : ℕ) → sought cells i facts m r ≡ false → get_or cells i 0 ≡ 10 → some_in facts m r (λ u. eqb u (get_or cells (i + 1) 0)) ≡ true
unfolding sought
not-sought cells i facts m r e d =
    let z : not (some_in facts m r (λ u. eqb u (get_or cells (i + 1) 0))) ≡ false = rw (eq-eqb (get_or cells i 0) 10 d) at e in
    not-false (some_in facts m r (λ u. eqb u (get_or cells (i + 1) 0))) z

pub gather-skip : (cells : List ℕ) (from : ℕ) (facts : List ℕ) (m r : ℕ) (vs : List ℕ) (n i : ℕ) → sought cells i facts m r ≡ false → Gathering cells from facts m r vs n i → Gathering cells from facts m r vs n (i + 1)
gather-skip cells from facts m r vs n i e g = record {
  after = omega (arith, g.after);
  few = g.few;
  some = λ x. omega (arith, g.after);
  all = λ j a b d. elim (last i j (omega arith)) [
    | inl x ↦ g.all j a x d
    | inr x ↦ inl (rw x (not-sought cells i facts m r e (rw x at d)))
  ];
}

ask-more : (u : ℕ) {vs : List ℕ} {n v : ℕ} → n < length vs → Asked vs n v → Asked (set vs n u) (n + 1) v
ask-more u {vs} {n} {v} h a = record { index = a.index; below = omega (arith, a.below); its = get_or-set_other vs n a.index u 0 (λ z. omega (arith, a.below)) ∙ a.its }

pub gather-more : (cells : List ℕ) (from : ℕ) (facts : List ℕ) (m r : ℕ) (vs : List ℕ) (n i v : ℕ) → n < length vs → v ≡ get_or cells (i + 1) 0 → Gathering cells from facts m r vs n i → Gathering cells from facts m r (set vs n v) (n + 1) (i + 1)
gather-more cells from facts m r vs n i v h q g = record {
  after = omega (arith, g.after);
  few = omega (arith, length-set vs n v);
  some = λ x. omega (arith, g.after);
  all = λ j a b d. elim (last i j (omega arith)) [
    | inl x ↦ elim (g.all j a x d) [ inl y ↦ inl y | inr y ↦ inr (ask-more v h y) ]
    | inr x ↦ inr (record { index = n; below = omega arith; its = get_or-set_same vs n v 0 h ∙ (q ∙ ap (λ (k : ℕ). get_or cells (k + 1) 0) (sym x)) })
  ];
}

pub gather-full : (cells : List ℕ) (from to : ℕ) (facts : List ℕ) (m r : ℕ) (vs : List ℕ) (n i : ℕ) → i < to → length vs ≤ n → 0 < length vs → Gathering cells from facts m r vs n i → GatheredTold cells from to facts m r vs (record { count = n; next = i })
gather-full cells from to facts m r vs n i h l p g = record { after = g.after; within = omega arith; further = λ x. g.some (omega arith); few = g.few; all = g.all }

pub gather-done : (cells : List ℕ) (from to : ℕ) (facts : List ℕ) (m r : ℕ) (vs : List ℕ) (n i : ℕ) → to ≤ i → i ≤ to → Gathering cells from facts m r vs n i → GatheredTold cells from to facts m r vs (record { count = n; next = i })
gather-done cells from to facts m r vs n i h l g = record { after = g.after; within = l; further = λ x. omega arith; few = g.few; all = g.all }

-- The rules passed
pub join-new : (ps : Rules) (r : ℕ) (on : Bool) (qs : Rules) → on ≡ true → member ps r ≡ false → ((k : ℕ) → k < 128 → member qs k ≡ (eqb r k || member ps k)) → Joined ps r on qs
join-new ps r on qs e n h = rw e (record { members = λ k l. h k l; grows = λ l. inr (outside-falls (member ps) (member qs) r 128 h l n) })

join-was : (ps : Rules) (r k : ℕ) → member ps r ≡ true → member ps k ≡ (eqb r k || member ps k)
join-was ps r k e = split (eqb r k) (λ x. let y : member ps k ≡ true = rw (← eqb-true r k x) e in rw (x, y) refl) (λ x. rw x refl)

pub join-old : (ps : Rules) (r : ℕ) (on : Bool) → member ps r ≡ true → Joined ps r on ps
join-old ps r true e = record { members = λ k l. join-was ps r k e; grows = λ l. inl refl }
join-old ps r false e = record { members = λ k l. refl; grows = λ l. inl refl }

pub join-off : (ps : Rules) (r : ℕ) (on : Bool) → on ≡ false → Joined ps r on ps
join-off ps r on e = rw e (record { members = λ k l. refl; grows = λ l. inl refl })
