-- The names of the rules before one, by the row of declarations.
use mathlib.Core.Bool.{Bool, true, false, ◌&&◌, ◌||◌}
use mathlib.Core.List.{List, [], ◌∷◌, ◌++◌}
use mathlib.Core.Option.{some}
use mathlib.Core.Path.{◌≡◌, refl, sym, ap, ◌∙◌}
use Prim.Native.Nat.{ℕ, zero, suc, ◌+◌, ◌≤◌}
use lib.Dec.{eqb, ltb}
use lib.ListN.{length, drop}
use lib.Seq.{drop-append_seam}
use native.Mathlib.Omega.{arith}
use borrow.Author.Tests.{eq-eqb, ne_eqb, lt-ltb, le-ltb}
use Rattle.std.specs.Prelude.{if◌then◌else◌}
use Rattle.base.specs.Common.{same}
use Rattle.builder.specs.Row.{Sofar}
use Rattle.declarations.specs.Decls.{Decl, of_operation, of_type, of_operators, of_rule, index_of, entry_decls, operation_decls, section_decls, sections_decls, rule_decls, decls_of}
use Rattle.names.specs.Understand.{is_one, is_first}
use Rattle.symbols.specs.Rows.{number_of}
use Rattle.syntax.specs.Written.{Entry, Operation, Section, inputs, outputs, both, errors, values, operations, operators, Rule, Program}

-- no rule is among them
data Free : List Decl → Type 0 where
  none_free : Free []
  more-free : {d : Decl} {ds : List Decl} → (d.class ≡ 7 → ⊥) → Free ds → Free (d ∷ ds)

free-append : (xs ys : List Decl) → Free xs → Free ys → Free (xs ++ ys)
free-append [] ys a b = b
free-append (x ∷ xs) ys (more-free n a) b = more-free n (free-append xs ys a b)

entries-free : (c : ℕ) (es : List Entry) → (c ≡ 7 → ⊥) → Free (entry_decls c es)
unfolding entry_decls
entries-free c [] n = none_free
entries-free c (e ∷ es) n = more-free n (entries-free c es n)

operations-free : (os : List Operation) → Free (operation_decls os)
unfolding operation_decls
operations-free [] = none_free
operations-free (o ∷ os) = more-free {d = of_operation o} (λ z. omega (arith, z)) (operations-free os)

section-free : (i : ℕ) (s : Section) → Free (section_decls i s)
unfolding section_decls
section-free i (inputs es) = entries-free 1 es (λ z. omega (arith, z))
section-free i (outputs es) = entries-free 2 es (λ z. omega (arith, z))
section-free i (both es) = entries-free 3 es (λ z. omega (arith, z))
section-free i (errors es) = entries-free 4 es (λ z. omega (arith, z))
section-free i (values w es) = more-free {d = of_type w} (λ z. omega (arith, z)) (entries-free (8 + i) es (λ z. omega (arith, z)))
section-free i (operations os) = operations-free os
section-free i (operators w os) = more-free {d = of_operators w os} (λ z. omega (arith, z)) none_free

sections-free : (i : ℕ) (ss : List Section) → Free (sections_decls i ss)
unfolding sections_decls
sections-free i [] = none_free
sections-free i (s ∷ ss) = free-append (section_decls i s) (sections_decls (i + length (section_decls i s)) ss) (section-free i s) (sections-free (i + length (section_decls i s)) ss)

-- a declaration found from i on is not before i
found-on : (w : List ℕ) (i : ℕ) (ds : List Decl) → i + length ds ≤ 65536 → i ≤ number_of (index_of 7 w i ds)
unfolding index_of
found-on w i [] h = omega (arith, h)
found-on w i (d ∷ ds) h = go (eqb d.class 7 && same w d.name.text) (found-on w (suc i) ds (omega (arith, h)))
  where
    go : (b : Bool) → suc i ≤ number_of (index_of 7 w (suc i) ds) → i ≤ number_of (if b then some i else index_of 7 w (suc i) ds)
    go true q = omega arith
    go false q = omega (arith, q)

-- no rule is found among those that are none
free-before : (w : List ℕ) (i : ℕ) (xs ys : List Decl) → Free xs → i + length (xs ++ ys) ≤ 65536 → i + length xs ≤ number_of (index_of 7 w i (xs ++ ys))
unfolding index_of
free-before w i [] ys f h = omega (arith, found-on w i ys h)
free-before w i (d ∷ xs) ys (more-free n f) h = rw (ne_eqb d.class 7 n) (omega (arith, free-before w (suc i) xs ys f (omega (arith, h))))

no-cons : {A : Type 0} {x : A} {xs : List A} → [] ≡ x ∷ xs → ⊥
no-cons e = let z : ◌≡◌ {A = ℕ} 0 1 = cc in omega (arith, z)

head-is : {A : Type 0} {x y : A} {xs ys : List A} → (x ∷ xs) ≡ (y ∷ ys) → x ≡ y
head-is e = cc

or-true : (b : Bool) → (b || true) ≡ true
or-true true = refl
or-true false = refl

tail-is : (m : ℕ) (ds : List Decl) (d : Decl) (rest : List Decl) → drop m ds ≡ d ∷ rest → drop (suc m) ds ≡ rest
tail-is zero [] d rest e = absurd (no-cons e)
tail-is zero (x ∷ ds) d rest e = cc
tail-is (suc m) [] d rest e = absurd (no-cons e)
tail-is (suc m) (x ∷ ds) d rest e = tail-is m ds d rest e

-- one rule more: its name, or one before
one_more : (w : List ℕ) (i m : ℕ) (ds rest : List Decl) (d : Decl) → drop m ds ≡ d ∷ rest → d.class ≡ 7 → i + length ds ≤ 65536
    → (same w d.name.text || ltb (number_of (index_of 7 w i ds)) (i + m)) ≡ ltb (number_of (index_of 7 w i ds)) (i + suc m)
unfolding index_of
one_more w i zero [] rest d e k h = absurd (no-cons e)
one_more w i (suc m) [] rest d e k h = absurd (no-cons e)
one_more w i zero (x ∷ ds) rest d e k h =
    let c : eqb x.class 7 ≡ true = eq-eqb x.class 7 (ap (λ (y : Decl). y.class) (head-is e) ∙ k) in
    let s : same w d.name.text ≡ same w x.name.text = ap (λ (y : Decl). same w y.name.text) (sym (head-is e)) in
    rw (s, c) (go (same w x.name.text) (found-on w (suc i) ds (omega (arith, h))))
  where
    go : (b : Bool) → suc i ≤ number_of (index_of 7 w (suc i) ds)
        → (b || ltb (number_of (if b then some i else index_of 7 w (suc i) ds)) (i + 0)) ≡ ltb (number_of (if b then some i else index_of 7 w (suc i) ds)) (i + 1)
    go true q = sym (lt-ltb i (i + 1) (omega arith))
    go false q = le-ltb (number_of (index_of 7 w (suc i) ds)) (i + 0) (omega (arith, q)) ∙ sym (le-ltb (number_of (index_of 7 w (suc i) ds)) (i + 1) (omega (arith, q)))
one_more w i (suc m) (x ∷ ds) rest d e k h = go (eqb x.class 7 && same w x.name.text) (one_more w (suc i) m ds rest d e k (omega (arith, h)))
  where
    go : (b : Bool) → (same w d.name.text || ltb (number_of (index_of 7 w (suc i) ds)) (suc i + m)) ≡ ltb (number_of (index_of 7 w (suc i) ds)) (suc i + suc m)
        → (same w d.name.text || ltb (number_of (if b then some i else index_of 7 w (suc i) ds)) (i + suc m)) ≡ ltb (number_of (if b then some i else index_of 7 w (suc i) ds)) (i + suc (suc m))
    go true q = ap (λ t. same w d.name.text || t) (lt-ltb i (i + suc m) (omega arith)) ∙ or-true (same w d.name.text) ∙ sym (lt-ltb i (i + suc (suc m)) (omega arith))
    go false q =
        let a : suc i + m ≡ i + suc m = omega arith in
        let b : suc i + suc m ≡ i + suc (suc m) = omega arith in
        ap (λ t. same w d.name.text || ltb (number_of (index_of 7 w (suc i) ds)) t) (sym a) ∙ q ∙ ap (λ t. ltb (number_of (index_of 7 w (suc i) ds)) t) b

-- before the first rule
pub sofar-start : (p : Program) (first : ℕ) → first ≡ length (sections_decls 0 p.sections) → length (decls_of p) ≤ 512 → Sofar (decls_of p) first 0 [] p.rules
unfolding decls_of is_first is_one
sofar-start p first e short =
    let xs = sections_decls 0 p.sections in
    let ys = rule_decls 0 p.rules in
    let z : first + 0 ≡ length xs = omega (arith, e) in
    record {
      start = refl;
      names = λ w. sym (le-ltb (number_of (index_of 7 w 0 (xs ++ ys))) (first + 0) (omega (arith, e, free-before w 0 xs ys (sections-free 0 p.sections) (omega (arith, short)))));
      left = ap (λ k. drop k (xs ++ ys)) z ∙ drop-append_seam xs ys;
    }

-- after one more
pub sofar-more : (ds : List Decl) (first k : ℕ) (seen : List (List ℕ)) (r : Rule) (rest : List Rule) → length ds ≤ 512 → Sofar ds first k seen (r ∷ rest)
    → Sofar ds first (k + 1) (r.rule.text ∷ seen) rest
unfolding is_first is_one rule_decls
sofar-more ds first k seen r rest short s = record {
  start = sym (ne_eqb (k + 1) 0 (λ z. omega (arith, z)));
  names = λ w.
      ap (λ t. same w r.rule.text || t) (s.names w)
      ∙ ap (λ t. same w r.rule.text || ltb (number_of (index_of 7 w 0 ds)) t) (plain (first + k))
      ∙ one_more w 0 (first + k) ds (rule_decls (suc k) rest) (of_rule k r) s.left refl (omega (arith, short))
      ∙ ap (λ t. ltb (number_of (index_of 7 w 0 ds)) t) (place first k);
  left = ap (λ t. drop t ds) (one first k) ∙ tail-is (first + k) ds (of_rule k r) (rule_decls (suc k) rest) s.left ∙ ap (λ t. rule_decls t rest) (next k);
}
  where
    plain : (a : ℕ) → a ≡ 0 + a
    plain a = omega arith

    place : (a b : ℕ) → 0 + suc (a + b) ≡ a + (b + 1)
    place a b = omega arith

    one : (a b : ℕ) → a + (b + 1) ≡ suc (a + b)
    one a b = omega arith

    next : (b : ℕ) → suc b ≡ b + 1
    next b = omega arith
