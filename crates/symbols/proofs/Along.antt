-- The code's way along a chain: from a node to the next, until a row passes the test, or the rows or the chain end.
use mathlib.Core.Bool.{Bool, true, false, ◌&&◌, ◌||◌}
use mathlib.Core.List.{List}
use mathlib.Core.Logic.{◌⊎◌, inl, inr}
use mathlib.Core.Option.{Option, none, some}
use mathlib.Core.Path.{◌≡◌, refl, sym, ap, ◌∙◌}
use Prim.Native.Nat.{ℕ, zero, suc, ◌+◌, ◌-◌, ◌*◌, ◌/◌, ◌≤◌, ◌<◌}
use lib.Dec.{eqb}
use borrow.Author.Tests.{eqb-true, lt-ltb, le-ltb}
use native.Mathlib.Omega.{arith}
use Rattle.std.specs.Prelude.{Option as Answer, Some, None, IfSome, unwrap_or}
use Rattle.base.proofs.Laws.{same-eq}
use Rattle.base.specs.Bools.{never}
use Rattle.base.specs.Common.{same}
use Rattle.declarations.specs.Decls.{Decl, feeds}
use Rattle.names.specs.Known.{is_word}
use Rattle.symbols.proofs.Chains.{least-none, least_more, Following, chain-least, to-node, no_more, found_at, not_at}
use Rattle.symbols.proofs.Searches.{Search, start}
use Rattle.symbols.specs.Index.{Chain, chain_end, chain_node, Among, head_at, link_at, next_of, seed_of, bucket_of, key_of, node_of, Indexed}
use Rattle.symbols.specs.Rows.{decl_at, held}
use Rattle.symbols.specs.Search.{serves, knows, named}
use Rattle.words.specs.Words.{Word}

-- nodes

next_up : (rows : List ℕ) (p q : ℕ) → q ≡ link_at rows (p - 1) → p < q → q ≡ next_of rows p
unfolding next_of
next_up rows p q e l = rw (lt-ltb p (link_at rows (p - 1)) (omega (arith, e, l))) e

next-end : (rows : List ℕ) (p q : ℕ) → q ≡ link_at rows (p - 1) → q ≤ p → 0 ≡ next_of rows p
unfolding next_of
next-end rows p q e l = rw (le-ltb p (link_at rows (p - 1)) (omega (arith, e, l))) refl

link-of : (rows : List ℕ) (k : ℕ) → link_at rows k ≡ link_at rows (k + 1 - 1)
link-of rows k = let d : k ≡ k + 1 - 1 = omega arith in ap (link_at rows) d

-- the node that the code goes on to
pub node-up : (rows : List ℕ) (k q : ℕ) → q ≡ link_at rows k → k + 1 < q → node_of (Some (q - 1)) ≡ next_of rows (k + 1)
node-up rows k q e l = let d : suc (q - 1) ≡ q = omega (arith, l) in d ∙ next_up rows (k + 1) q (e ∙ link-of rows k) l

pub node-end : (rows : List ℕ) (k q : ℕ) → q ≡ link_at rows k → q ≤ k + 1 → node_of None ≡ next_of rows (k + 1)
node-end rows k q e l = next-end rows (k + 1) q (e ∙ link-of rows k) l

-- nodes run out
abbrev pub nodes_left : Answer ℕ → ℕ
nodes_left node = 65536 - unwrap_or node 65536

pub nodes-fewer : {node : Answer ℕ} (next : Answer ℕ) {k : ℕ} → node ≡ Some k → IfSome node (λ k. k < 65535) → IfSome next (λ q. (k < q) × (q < 65535)) → nodes_left next < nodes_left node
nodes-fewer next {k = k} e l u = rw e (go next (rw e at l) u) where
  go : (next : Answer ℕ) → k < 65535 → IfSome next (λ q. (k < q) × (q < 65535)) → nodes_left next < 65536 - k
  go None l u = omega (arith, l)
  go (Some q) l u = omega (arith, l, u.0, u.1)

pub nodes-most : (first : Answer ℕ) → 0 + nodes_left first ≤ 65536
nodes-most first = omega arith

pub node-low : (k : ℕ) (next : Answer ℕ) → IfSome next (λ q. (k < q) × (q < 65535)) → IfSome next (λ q. q < 65535)
node-low k None u = tt
node-low k (Some q) u = u.1

-- along a chain it is the link
next-link : (rows : List ℕ) (p k : ℕ) → p ≡ suc k → (link_at rows k ≡ 0) ⊎ (p < link_at rows k) → link_at rows k ≡ next_of rows p
next-link rows p k e q = go q
  where
    same-link : link_at rows k ≡ link_at rows (p - 1)
    same-link = let d : k ≡ p - 1 = omega (arith, e) in ap (link_at rows) d

    go : (link_at rows k ≡ 0) ⊎ (p < link_at rows k) → link_at rows k ≡ next_of rows p
    go (inl z) = z ∙ next-end rows p (link_at rows k) same-link (omega (arith, z))
    go (inr z) = next_up rows p (link_at rows k) same-link z

some_or_none : (p : ℕ) → (p ≡ 0) ⊎ (0 < p)
some_or_none zero = inl refl
some_or_none (suc p) = inr (omega arith)

module _ {X : Type 0} {F : ℕ → List Decl → X} {t : Decl → Bool} {h : ℕ → Decl → X} {z : X} (s : Search F t h z) (text rows : List ℕ) (n : ℕ) where
  -- the search stands at the node p: the rows before lo do not pass the test, and one that does is met from here on
  pub record Along (p : ℕ) : Type 0 where
    pub lo : ℕ
    pub rest : List ℕ
    pub chain : Chain rows p rest
    pub ahead : (p ≡ 0) ⊎ (2 * lo < p)
    pub following : Following s text rows n lo rest

  pub along-start : (b p : ℕ) (f : Indexed text rows n) → b < 511 → p ≡ head_at rows b → ((j : ℕ) → j < n → t (decl_at text rows j) ≡ true → Among j (f.chain b)) → Along p
  along-start b p f l e g = record {
    lo = 0;
    rest = f.chain b;
    chain = rw e (f.follows b l);
    ahead = some_or_none p;
    following = record { sofar = start s text rows n; left = λ j x m q. g j m q };
  }

  pub along-end : {p : ℕ} → p ≡ 0 → Along p → F 0 (held text rows n) ≡ z
  along-end {p} e a = go a.chain a.following
    where
      go : {is : List ℕ} → Chain rows p is → Following s text rows n a.lo is → F 0 (held text rows n) ≡ z
      go (chain_end d) f = no_more s text rows least-none f
      go (chain_node d u q c) f = absurd (omega (arith, d, e))

  -- the row of the node is past the rows
  pub along-past : {p k : ℕ} → p ≡ suc k → n ≤ k / 2 → Along p → F 0 (held text rows n) ≡ z
  along-past {p} {k} d l a = no_more s text rows (chain-least n a.chain (inr high)) a.following
    where
      high : 2 * n < p
      high = omega (arith, l, d)

  pub along-hit : {p k : ℕ} → p ≡ suc k → k / 2 < n → t (decl_at text rows (k / 2)) ≡ true → Along p → F 0 (held text rows n) ≡ h (k / 2) (decl_at text rows (k / 2))
  along-hit {p} {k} d l e a = found_at s text rows l (to-node s text rows (low a.ahead) (chain-least (k / 2) a.chain (inr high)) a.following) e
    where
      high : 2 * (k / 2) < p
      high = omega (arith, d)

      low : (p ≡ 0) ⊎ (2 * a.lo < p) → a.lo ≤ k / 2
      low (inl y) = absurd (omega (arith, y, d))
      low (inr y) = omega (arith, y, d)

  pub along-miss : {p q j : ℕ} → p ≡ suc j → t (decl_at text rows (j / 2)) ≡ false → q ≡ next_of rows (j + 1) → Along p → Along q
  along-miss {p} {q} {j} d e f₁ a = go a.chain a.following
    where
      g : q ≡ next_of rows p
      g = let i : j + 1 ≡ p = omega (arith, d) in f₁ ∙ ap (next_of rows) i

      low : (k : ℕ) → p ≡ suc k → (p ≡ 0) ⊎ (2 * a.lo < p) → a.lo ≤ k / 2
      low k c (inl y) = absurd (omega (arith, y, c))
      low k c (inr y) = omega (arith, y, c)

      go : {is : List ℕ} → Chain rows p is → Following s text rows n a.lo is → Along q
      go (chain_end c) f = absurd (omega (arith, d, c))
      go (chain_node {k = k} {is = is} c u w more) f = record {
        lo = k / 2;
        rest = is;
        chain = rw (g ∙ sym (next-link rows p k c w)) more;
        ahead = rw (g ∙ sym (next-link rows p k c w)) (up w);
        following = not_at s text rows (to-node s text rows (low k c a.ahead) (least_more (omega arith) (chain-least (k / 2) more (up w))) f) (ap (λ (i : ℕ). t (decl_at text rows i)) own ∙ e);
      }
        where
          own : k / 2 ≡ j / 2
          own = omega (arith, c, d)

          up : (link_at rows k ≡ 0) ⊎ (p < link_at rows k) → (link_at rows k ≡ 0) ⊎ (2 * (k / 2) < link_at rows k)
          up (inl y) = inl y
          up (inr y) = inr (omega (arith, y, c))

-- a row that passes a test is in the chain of the word

-- a declaration and the class that it feeds begin with one number
same-seed : (c d : ℕ) → serves c d ≡ true → seed_of c ≡ seed_of d
unfolding serves seed_of
same-seed c d e = go (eqb d c) refl (eqb d 3) refl (eqb c 1) refl (eqb c 2) refl e
  where
    go : (own : Bool) → eqb d c ≡ own → (both : Bool) → eqb d 3 ≡ both → (input : Bool) → eqb c 1 ≡ input → (output : Bool) → eqb c 2 ≡ output
        → (own || (both && (input || output))) ≡ true → seed_of c ≡ seed_of d
    go true p both q input r output t z = ap seed_of (sym (eqb-true d c p))
    go false p true q true r output t z = rw (eqb-true d 3 q, eqb-true c 1 r) refl
    go false p true q false r true t z = rw (eqb-true d 3 q, eqb-true c 2 t) refl
    go false p true q false r false t z = never z
    go false p false q input r output t z = never z

module _ {text rows : List ℕ} {n : ℕ} (f : Indexed text rows n) (w : List ℕ) (j : ℕ) (l : j < n) (c : ℕ) where
  -- the chain of the word in the class c
  abbrev InChain : Type 0
  InChain = Among j (f.chain (bucket_of (key_of rows) c w))

  alike : (v : List ℕ) → serves c (decl_at text rows j).class ≡ true → w ≡ v → bucket_of (key_of rows) c w ≡ bucket_of (key_of rows) (decl_at text rows j).class v
  unfolding bucket_of
  alike v s e = rw (e, same-seed c (decl_at text rows j).class s) refl

  by-own-name : serves c (decl_at text rows j).class ≡ true → same w (decl_at text rows j).name.text ≡ true → InChain
  by-own-name s e = rw (alike (decl_at text rows j).name.text s (same-eq w (decl_at text rows j).name.text e)) (f.names j l)

  by-second : serves c (decl_at text rows j).class ≡ true → is_word w (decl_at text rows j).second ≡ true → InChain
  unfolding is_word
  by-second s e = go (decl_at text rows j).second refl e
    where
      go : (o : Option Word) → (decl_at text rows j).second ≡ o → is_word w o ≡ true → InChain
      go none p q = never q
      go (some v) p q = rw (alike v.text s (same-eq w v.text q)) (f.seconds j v l p)

  pub known_among : knows c w (decl_at text rows j) ≡ true → InChain
  unfolding knows feeds serves
  known_among e = go (feeds c (decl_at text rows j)) refl (same w (decl_at text rows j).name.text) refl e
    where
      go : (s : Bool) → feeds c (decl_at text rows j) ≡ s → (a : Bool) → same w (decl_at text rows j).name.text ≡ a → (s && (a || is_word w (decl_at text rows j).second)) ≡ true → InChain
      go true p true q z = by-own-name p q
      go true p false q z = by-second p z
      go false p a q z = never z

  pub named-among : named c w (decl_at text rows j) ≡ true → InChain
  unfolding named serves
  named-among e = go (eqb (decl_at text rows j).class c) refl e
    where
      go : (s : Bool) → eqb (decl_at text rows j).class c ≡ s → (s && same w (decl_at text rows j).name.text) ≡ true → InChain
      go true p z = by-own-name (rw p refl) z
      go false p z = never z
