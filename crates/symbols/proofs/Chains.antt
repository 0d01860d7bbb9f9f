-- A search along a chain finds what a search through the whole row finds.
use mathlib.Core.Bool.{Bool, true, false}
use mathlib.Core.List.{List, [], ◌∷◌}
use mathlib.Core.Logic.{◌⊎◌, inl, inr}
use mathlib.Core.Path.{◌≡◌, sym, ap, ◌∙◌}
use Prim.Native.Nat.{ℕ, zero, suc, ◌+◌, ◌-◌, ◌*◌, ◌/◌, ◌≤◌, ◌<◌}
use native.Mathlib.Omega.{arith}
use Rattle.base.proofs.Laws.{is_false, lt-or-le}
use Rattle.declarations.specs.Decls.{Decl}
use Rattle.symbols.proofs.Searches.{Search, From, hit, miss, end}
use Rattle.symbols.specs.Index.{Chain, chain_end, chain_node, Among, here, later, link_at}
use Rattle.symbols.specs.Rows.{decl_at, held}

-- no row of a chain is below its first
pub data AtLeast (lo : ℕ) : List ℕ → Type 0 where
  least-none : AtLeast lo []
  least_more : {j : ℕ} {is : List ℕ} → lo ≤ j → AtLeast lo is → AtLeast lo (j ∷ is)

at_least : {lo i : ℕ} {is : List ℕ} → AtLeast lo is → Among i is → lo ≤ i
at_least (least_more h t) (here e) = omega (arith, h, e)
at_least (least_more h t) (later a) = at_least t a
at_least {lo = lo} {i = i} least-none x3 = elim x3 [ ]

weaker : {lo hi : ℕ} {is : List ℕ} → lo ≤ hi → AtLeast hi is → AtLeast lo is
weaker h least-none = least-none
weaker h (least_more {j = j} g t) = least_more {j = j} (omega (arith, h, g)) (weaker h t)

-- nodes rise, so rows do not fall
pub chain-least : {rows : List ℕ} {p : ℕ} {is : List ℕ} (lo : ℕ) → Chain rows p is → (p ≡ 0) ⊎ (2 * lo < p) → AtLeast lo is
chain-least lo (chain_end e) h = least-none
chain-least {rows} {p} lo (chain_node {k = k} e u q c) h = least_more (first h) (chain-least lo c (next q h))
  where
    first : (p ≡ 0) ⊎ (2 * lo < p) → lo ≤ k / 2
    first (inl z) = absurd (omega (arith, z, e))
    first (inr z) = omega (arith, z, e)

    next : (link_at rows k ≡ 0) ⊎ (p < link_at rows k) → (p ≡ 0) ⊎ (2 * lo < p) → (link_at rows k ≡ 0) ⊎ (2 * lo < link_at rows k)
    next (inl z) h₁ = inl z
    next (inr z) (inl y) = absurd (omega (arith, y, e))
    next (inr z) (inr y) = inr (omega (arith, z, y))

module _ {X : Type 0} {F : ℕ → List Decl → X} {t : Decl → Bool} {h : ℕ → Decl → X} {z : X} (s : Search F t h z) (text rows : List ℕ) where
  -- rows that the test does not hold of are passed
  pub skips : (n lo d : ℕ) → ((j : ℕ) → lo ≤ j → j < lo + d → j < n → t (decl_at text rows j) ≡ false) → From F text rows lo n ≡ From F text rows (lo + d) n
  skips n lo zero f = let e : lo ≡ lo + 0 = omega arith in ap (λ (k : ℕ). From F text rows k n) e
  skips n lo (suc d) f = go (lt-or-le lo n) (skips n (lo + 1) d (λ j l m x. f j (omega (arith, l)) (omega (arith, m)) x))
    where
      go : (lo < n) ⊎ (n ≤ lo) → From F text rows (lo + 1) n ≡ From F text rows (lo + 1 + d) n → From F text rows lo n ≡ From F text rows (lo + suc d) n
      go (inl l) rest = let e : lo + 1 + d ≡ lo + suc d = omega arith in miss s text rows lo n l (f lo (omega arith) (omega arith) l) ∙ rest ∙ ap (λ (k : ℕ). From F text rows k n) e
      go (inr l) rest = end s text rows lo n l ∙ sym (end s text rows (lo + suc d) n (omega (arith, l)))

  -- what is known while a chain is followed: the rows before lo do not pass the test, and a row from lo on that does is among those still to come
  pub record Following (n lo : ℕ) (is : List ℕ) : Type 0 where
    pub sofar : F 0 (held text rows n) ≡ From F text rows lo n
    pub left : (j : ℕ) → lo ≤ j → j < n → t (decl_at text rows j) ≡ true → Among j is

  -- up to the next row of the chain
  pub to-node : {n lo i : ℕ} {is : List ℕ} → lo ≤ i → AtLeast i is → Following n lo is → Following n i is
  to-node {n} {lo} {i} {is} l a f = record {
    sofar = f.sofar ∙ (skips n lo (i - lo) (λ j x y m. is_false (t (decl_at text rows j)) (λ q. absurd (omega (arith, at_least a (f.left j x m q), y, l)))) ∙ ap (λ (k : ℕ). From F text rows k n) e);
    left = λ j x m q. f.left j (omega (arith, x, l)) m q;
  }
    where
      e : lo + (i - lo) ≡ i
      e = omega (arith, l)

  -- the chain is done, or has left the rows
  pub no_more : {n lo : ℕ} {is : List ℕ} → AtLeast n is → Following n lo is → F 0 (held text rows n) ≡ z
  no_more {n} {lo} {is} a f = f.sofar ∙ (skips n lo n (λ j x y m. is_false (t (decl_at text rows j)) (λ q. absurd (omega (arith, at_least a (f.left j x m q), m)))) ∙ end s text rows (lo + n) n (omega arith))

  pub found_at : {n i : ℕ} {is : List ℕ} → i < n → Following n i is → t (decl_at text rows i) ≡ true → F 0 (held text rows n) ≡ h i (decl_at text rows i)
  found_at {n} {i} l f e = f.sofar ∙ hit s text rows i n l e

  -- the row itself may come once more, by its other word
  pub not_at : {n i : ℕ} {is : List ℕ} → Following n i (i ∷ is) → t (decl_at text rows i) ≡ false → Following n i is
  not_at {n} {i} {is} f e = record { sofar = f.sofar; left = λ j x m q. behind j q (f.left j x m q) }
    where
      behind : (j : ℕ) → t (decl_at text rows j) ≡ true → Among j (i ∷ is) → Among j is
      behind j q (here d) = absurd (both (sym (ap (λ (k : ℕ). t (decl_at text rows k)) d ∙ e) ∙ q))
        where
          both : false ≡ true → ⊥
          both z = let y : ◌≡◌ {A = ℕ} 0 1 = cc in omega (arith, y)
      behind j q (later a) = a
