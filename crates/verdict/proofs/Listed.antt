-- Laws of values and labels in a row.
use Prim.Native.Nat.{ℕ, zero, suc, ◌+◌, ◌-◌, ◌*◌, ◌<◌, ◌≤◌}
use mathlib.Core.Path.{◌≡◌, refl, sym, ap, ◌∙◌}
use mathlib.Core.Bool.{Bool, true, false, ◌||◌, ◌&&◌}
use mathlib.Core.List.{List, [], ◌∷◌, ◌++◌, append-nil, append_assoc}
use native.Mathlib.Omega.{arith}
use native.Mathlib.Numerals.{add-one}
use lib.Dec.{eqb}
use lib.ListN.{length, take, drop, get_or, set, length-drop}
use lib.Seq.{drop-cons, get_or-drop, take-suc, take-suc-set}
use borrow.Author.Tests.{eq-eqb, ne_eqb, eqb-true, eqb-false}
use Rattle.base.specs.Bools.{split}
use Rattle.base.proofs.Laws.{neither}
use Rattle.std.specs.Prelude.{if◌then◌else◌}
use Rattle.base.specs.Common.{member}
use Rattle.finishing.specs.Test.{some_below}
use Rattle.finishing.proofs.Rounds.{last}
use mathlib.Core.Logic.{inl, inr}
use Rattle.verdict.specs.Told.{some_in, Collected}

unroll : (cells : List ℕ) (i to : ℕ) → i < to → to ≤ length cells → take (to - i) (drop i cells) ≡ get_or cells i 0 ∷ take (to - (i + 1)) (drop (i + 1) cells)
unroll cells i to h l =
    let e : to - i ≡ suc (to - (i + 1)) = omega arith in
    rw (e, drop-cons cells i 0 (omega arith), add-one) refl

pub listed_next : (cells : List ℕ) (v i to : ℕ) → i < to → to ≤ length cells → (get_or cells i 0 ≡ v → ⊥) → member v (take (to - i) (drop i cells)) ≡ member v (take (to - (i + 1)) (drop (i + 1) cells))
listed_next cells v i to h l n = rw (unroll cells i to h l, ne_eqb v (get_or cells i 0) (λ e. n (sym e))) refl

pub listed_here : (cells : List ℕ) (v i to : ℕ) → i < to → to ≤ length cells → get_or cells i 0 ≡ v → member v (take (to - i) (drop i cells)) ≡ true
listed_here cells v i to h l e = rw (unroll cells i to h l, eq-eqb v (get_or cells i 0) (sym e)) refl

pub listed-end : (cells : List ℕ) (v i to : ℕ) → to ≤ i → member v (take (to - i) (drop i cells)) ≡ false
listed-end cells v i to h =
    let e : to - i ≡ 0 = omega arith in
    rw e refl

-- one label more
pub collect-next : (cells old new : List ℕ) (from n i k : ℕ) → from ≤ i → i < length cells → k < length new → take k new ≡ take n old ++ take (i - from) (drop from cells)
    → take (k + 1) (set new k (get_or cells i 0)) ≡ take n old ++ take (i + 1 - from) (drop from cells)
collect-next cells old new from n i k f h l q =
    let x = get_or cells i 0 in
    let d : i - from < length (drop from cells) = omega (arith, length-drop from cells) in
    let e : i + 1 - from ≡ suc (i - from) = omega arith in
    let g : get_or (drop from cells) (i - from) 0 ≡ x = get_or-drop from cells (i - from) 0 ∙ ap (λ (j : ℕ). get_or cells j 0) (omega arith) in
    let b : take (suc (i - from)) (drop from cells) ≡ take (i - from) (drop from cells) ++ (x ∷ []) = take-suc (drop from cells) (i - from) 0 d ∙ ap (λ (y : ℕ). take (i - from) (drop from cells) ++ (y ∷ [])) g in
    ap (λ (j : ℕ). take j (set new k x)) (add-one k)
    ∙ (take-suc-set new k x l
    ∙ (ap (λ (l : List ℕ). l ++ (x ∷ [])) q
    ∙ (append_assoc (take n old) (take (i - from) (drop from cells)) (x ∷ [])
    ∙ ap (λ (l : List ℕ). take n old ++ l) (sym (ap (λ (j : ℕ). take j (drop from cells)) e ∙ b)))))

pub collect-start : (cells old : List ℕ) (from n : ℕ) → take n old ≡ take n old ++ take (from - from) (drop from cells)
collect-start cells old from n =
    let e : from - from ≡ 0 = omega arith in
    rw e (sym (append-nil (take n old)))

pub collect-done : (cells old new : List ℕ) (from to n i k : ℕ) → to ≤ i → i ≤ to → k ≡ n + (i - from) → take k new ≡ take n old ++ take (i - from) (drop from cells) → Collected cells from to old n new k
collect-done cells old new from to n i k h l e q =
    let d : i ≡ to = omega arith in
    record { all = λ r. (rw d at e, rw d at q) }

pub collect-full : (cells old new : List ℕ) (from to n i k : ℕ) → from ≤ i → i < to → length old ≤ k → k ≡ n + (i - from) → Collected cells from to old n new k
collect-full cells old new from to n i k f h l e = record { all = λ r. absurd (omega arith) }

-- Facts with one of two properties
either-fact : (m : ℕ) (a p q : ℕ → Bool) → some_below m (λ i. a i && (if p i then true else q i)) ≡ (some_below m (λ i. a i && p i) || some_below m (λ i. a i && q i))
unfolding some_below
either-fact zero a p q = refl
either-fact (suc m) a p q = rw (either-fact m a p q) (go (a m) (p m) (q m) (some_below m (λ i. a i && p i)) (some_below m (λ i. a i && q i)))
  where
    go : (a p q b c : Bool) → ((a && (if p then true else q)) || (b || c)) ≡ (((a && p) || b) || ((a && q) || c))
    go true true q b c = refl
    go true false true true c = refl
    go true false true false c = refl
    go true false false b c = refl
    go false p q b c = refl

pub open-split : (cells : List ℕ) (facts : List ℕ) (m r i to : ℕ) → i < to → to ≤ length cells
    → some_in facts m r (λ v. member v (take (to - i) (drop i cells))) ≡ (some_in facts m r (λ u. eqb u (get_or cells i 0)) || some_in facts m r (λ v. member v (take (to - (i + 1)) (drop (i + 1) cells))))
unfolding some_in
open-split cells facts m r i to h l =
    rw (unroll cells i to h l) (either-fact m (λ j. eqb (get_or facts (2 * j) 0) r) (λ j. eqb (get_or facts (2 * j + 1) 0) (get_or cells i 0)) (λ j. member (get_or facts (2 * j + 1) 0) (take (to - (i + 1)) (drop (i + 1) cells))))

none_of : (m : ℕ) (a : ℕ → Bool) → some_below m (λ j. a j && false) ≡ false
unfolding some_below
none_of zero a = refl
none_of (suc m) a = rw (none_of m a) (go (a m))
  where
    go : (b : Bool) → ((b && false) || false) ≡ false
    go true = refl
    go false = refl

pub open-end : (cells : List ℕ) (facts : List ℕ) (m r i to : ℕ) → to ≤ i → some_in facts m r (λ v. member v (take (to - i) (drop i cells))) ≡ false
unfolding some_in
open-end cells facts m r i to h =
    let e : to - i ≡ 0 = omega arith in
    rw e (none_of m (λ j. eqb (get_or facts (2 * j) 0) r))

-- one place more of which a property does not hold
pub neither-one : (f : ℕ → Bool) (b : Bool) (j : ℕ) → (b ≡ false → (i : ℕ) → i < j → f i ≡ false) → (b || f j) ≡ false → (i : ℕ) → i < j + 1 → f i ≡ false
neither-one f b j h e i l = elim (last j i (omega arith)) [ inl x ↦ h (neither b (f j) e).0 i x | inr x ↦ rw x (neither b (f j) e).1 ]

-- facts as numbers: two are the same where rule and value are
pub packed-same : (a b r v p q : ℕ) → p ≡ a + 65536 * b → a < 65536 → q ≡ r + 65536 * v → r < 65536 → eqb p q ≡ (eqb a r && eqb b v)
packed-same a b r v p q e h f l = split (eqb a r)
    (λ t. split (eqb b v)
    (λ u. rw (t, u) (eq-eqb p q (omega (arith, e, f, eqb-true a r t, eqb-true b v u))))
    (λ u. rw (t, u) (ne_eqb p q (λ d. eqb-false b v u (omega (arith, e, f, d, eqb-true a r t))))))
    (λ t. rw t (ne_eqb p q (λ d. eqb-false a r t (omega (arith, e, f, d, h, l)))))
