-- The starts and sorts of the rules, put one by one.
use mathlib.Core.List.{List, [], ◌∷◌, ◌++◌}
use mathlib.Core.Logic.{◌⊎◌, inl, inr}
use mathlib.Core.Option.{Option}
use mathlib.Core.Path.{◌≡◌, refl, sym, ap, ◌∙◌}
use native.Mathlib.Omega.{arith}
use Prim.Native.Nat.{ℕ, suc, ◌+◌, ◌<◌, ◌≤◌, min}
use lib.ListN.{length, get_or, drop, set, length-set}
use lib.Seq.{get_or-set_same, get_or-set_other}
use Rattle.base.proofs.Laws.{lt-or-le}
use Rattle.base.specs.Common.{given}
use Rattle.cells.specs.Cells.{sort_of}
use Rattle.linkage.specs.Placed.{cells_before, sort_at, Placed, Put}
use Rattle.linkchecks.proofs.Finding.{GivesAt, stands-rule}
use Rattle.linkchecks.proofs.Walking.{Heads, heads, still-none}
use Rattle.linkchecks.specs.Row.{Item}
use Rattle.linkchecks.specs.Walk.{Stands}
use Rattle.linkchecks.specs.declared.Cursor.{Cursor}
use Rattle.objects.specs.View.{Name, RuleView, View, rule_words}

-- The sort of a rule, by what its words tell of its type

pub sort-outside : {words : List ℕ} {o : Option Name} {g end : ℕ} → GivesAt words o g → end ≡ length words → end ≤ g → 0 ≡ sort_of (given o)
sort-outside x e l = let i = x.inside in absurd (omega (arith, i, e, l))

pub sort-none : {words : List ℕ} {o : Option Name} {g n : ℕ} → GivesAt words o g → n ≡ get_or words g 0 → n ≡ 0 → 0 ≡ sort_of (given o)
unfolding sort_of
sort-none x e z = sym (ap (λ (o : Option Name). sort_of (given o)) (x.absent (sym e ∙ z)))

pub sort-some : {words : List ℕ} {o : Option Name} {g n : ℕ} → GivesAt words o g → n ≡ get_or words g 0 → (n ≡ 0 → ⊥) → 1 ≡ sort_of (given o)
unfolding sort_of
sort-some x e z = let y = x.present (λ d. z (e ∙ d)) in sym (ap (λ (o : Option Name). sort_of (given o)) y.1.0)

-- What is put where there is room

pub put-length : (xs : List ℕ) {xs' : List ℕ} (k x : ℕ) → xs' ≡ set xs k x → length xs' ≡ length xs
put-length xs k x e = ap length e ∙ length-set xs k x

pub puts : {xs xs' : List ℕ} {k x : ℕ} → xs' ≡ set xs k x → Put xs k x xs'
puts {xs} {xs'} {k} {x} e = record {
  same = put-length xs k x e;
  there = λ l. ap (λ ys. get_or ys k 0) e ∙ get_or-set_same xs k x 0 l;
  kept = λ j n. ap (λ ys. get_or ys j 0) e ∙ get_or-set_other xs k j x 0 n;
}

-- Rule by rule

eq-or-below : (j k : ℕ) → j < k + 1 → (j ≡ k) ⊎ (j < k)
eq-or-below j k l = go (lt-or-le j k)
  where
    go : (j < k) ⊎ (k ≤ j) → (j ≡ k) ⊎ (j < k)
    go (inl b) = inr b
    go (inr b) = inl (omega arith)

module _ (common words : List ℕ) (vs : List View) (row₀ : List Item) where
  -- k rules are placed; c cells stand before the rule at the cursor, or 65,535
  pub record Placing (starts sorts : List ℕ) (cursor : Cursor) (k c : ℕ) : Type 0 where
    pub row : List Item
    pub stands : Stands common words vs cursor row
    pub count : k + length row ≡ length row₀
    pub sums : (j : ℕ) → min 65535 (c + cells_before row j) ≡ min 65535 (cells_before row₀ (k + j))
    pub kinds : (j : ℕ) → sort_at row j ≡ sort_at row₀ (k + j)
    pub done : Placed row₀ k starts sorts

  pub placing-first : {starts sorts : List ℕ} {cursor : Cursor} → Stands common words vs cursor row₀ → Placing starts sorts cursor 0 0
  placing-first s = record {
    row = row₀;
    stands = s;
    count = omega arith;
    sums = λ j. let z : 0 + j ≡ j = omega arith in let y : 0 + cells_before row₀ j ≡ cells_before row₀ j = omega arith in ap (min 65535) y ∙ ap (λ i. min 65535 (cells_before row₀ i)) (sym z);
    kinds = λ j. let z : 0 + j ≡ j = omega arith in ap (sort_at row₀) (sym z);
    done = record { starts_are = λ j l m h. absurd (omega (arith, l)); sorts_are = λ j l m. absurd (omega (arith, l)) };
  }

  placed-more : {starts sorts starts₁ sorts₁ : List ℕ} {k c sort : ℕ} → Placed row₀ k starts sorts → (cells_before row₀ k < 65535 → c ≡ cells_before row₀ k) → sort ≡ sort_at row₀ k
      → Put starts k c starts₁ → Put sorts k sort sorts₁ → Placed row₀ (k + 1) starts₁ sorts₁
  placed-more {starts} {sorts} {starts₁} {sorts₁} {k} {c} {sort} d e f x y = record { starts_are = starts_are; sorts_are = sorts_are }
    where
      starts_are : (j : ℕ) → j < k + 1 → j < length starts₁ → cells_before row₀ j < 65535 → get_or starts₁ j 0 ≡ cells_before row₀ j
      starts_are j l m h = go (eq-or-below j k l)
        where
          go : (j ≡ k) ⊎ (j < k) → get_or starts₁ j 0 ≡ cells_before row₀ j
          go (inl z) = let n = x.same in ap (λ i. get_or starts₁ i 0) z ∙ x.there (omega (arith, z, m, n)) ∙ e (rw (← z) h) ∙ ap (cells_before row₀) (sym z)
          go (inr b) = let n = x.same in x.kept j (λ z. omega (arith, z, b)) ∙ d.starts_are j b (omega (arith, m, n)) h

      sorts_are : (j : ℕ) → j < k + 1 → j < length sorts₁ → get_or sorts₁ j 0 ≡ sort_at row₀ j
      sorts_are j l m = go (eq-or-below j k l)
        where
          go : (j ≡ k) ⊎ (j < k) → get_or sorts₁ j 0 ≡ sort_at row₀ j
          go (inl z) = let n = y.same in ap (λ i. get_or sorts₁ i 0) z ∙ y.there (omega (arith, z, m, n)) ∙ f ∙ ap (sort_at row₀) (sym z)
          go (inr b) = let n = y.same in y.kept j (λ z. omega (arith, z, b)) ∙ d.sorts_are j b (omega (arith, m, n))

  pub placing-next : {starts sorts starts₁ sorts₁ : List ℕ} {cursor r : Cursor} {k c c₁ size sort : ℕ} → Placing starts sorts cursor k c → cursor.at < length words → c ≤ 65535
      → ((v : RuleView) (t : List ℕ) → drop cursor.at words ≡ rule_words v ++ t → size ≡ length v.cells) → ((v : RuleView) (t : List ℕ) → drop cursor.at words ≡ rule_words v ++ t → sort ≡ sort_of (given v.gives))
      → Put starts k c starts₁ → Put sorts k sort sorts₁ → c₁ ≡ min (c + size) 65535 → ((x : Item) (row : List Item) → Stands common words vs cursor (x ∷ row) → Stands common words vs r row)
      → Placing starts₁ sorts₁ r (k + 1) c₁
  unfolding cells_before sort_at
  placing-next {starts} {sorts} {starts₁} {sorts₁} {cursor} {r} {k} {c} {c₁} {size} {sort} p l b f g x y e n =
      let h : Heads common words vs (λ (row : List Item). row) p.row cursor = heads (record { row = p.row; stands = p.stands; is = refl }) l in
      let w = stands-rule h.stands in
      let z = f h.first.rule w.0 w.1 in
      let s = g h.first.rule w.0 w.1 in
      let m : k + suc (length h.later) ≡ length row₀ = ap (λ (row : List Item). k + length row) (sym h.is) ∙ p.count in
      let sums : (j : ℕ) → min 65535 (c + cells_before (h.first ∷ h.later) j) ≡ min 65535 (cells_before row₀ (k + j)) = λ j. ap (λ (row : List Item). min 65535 (c + cells_before row j)) (sym h.is) ∙ p.sums j in
      let kinds : (j : ℕ) → sort_at (h.first ∷ h.later) j ≡ sort_at row₀ (k + j) = λ j. ap (λ (row : List Item). sort_at row j) (sym h.is) ∙ p.kinds j in
      let k0 : k + 0 ≡ k = omega arith in
      let s0 = sums 0 in
      record {
        row = h.later;
        stands = n h.first h.later h.stands;
        count = omega (arith, m);
        sums = λ j.
            let q = sums (suc j) in
            let i : k + suc j ≡ k + 1 + j = omega arith in
            let a : min 65535 (c₁ + cells_before h.later j) ≡ min 65535 (c + (length h.first.rule.cells + cells_before h.later j)) = omega (arith, e, z) in
            a ∙ q ∙ ap (λ t. min 65535 (cells_before row₀ t)) i;
        kinds = λ j. let i : k + suc j ≡ k + 1 + j = omega arith in kinds (suc j) ∙ ap (sort_at row₀) i;
        done = placed-more p.done (λ t. let q : min 65535 (c + 0) ≡ min 65535 (cells_before row₀ k) = s0 ∙ ap (λ i. min 65535 (cells_before row₀ i)) k0 in omega (arith, q, t, b)) (s ∙ kinds 0 ∙ ap (sort_at row₀) k0) x y;
      }

  pub placing-end : {starts sorts : List ℕ} {cursor : Cursor} {k c : ℕ} → Placing starts sorts cursor k c → length words ≤ cursor.at → (k ≡ length row₀) × Placed row₀ k starts sorts
  placing-end p l =
      let e : p.row ≡ [] = still-none {f = λ (row : List Item). row} (record { row = p.row; stands = p.stands; is = refl }) l in
      let n = ap length e in
      let m = p.count in
      (omega (arith, m, n), p.done)
