-- Where pairs and objects stand in the words.
use mathlib.Core.List.{List, ◌∷◌, ◌++◌, append_assoc}
use mathlib.Core.Path.{◌≡◌, refl, sym, ap, ◌∙◌}
use native.Mathlib.Nat.{div-add-mod'}
use native.Mathlib.Omega.{arith}
use Prim.Native.Nat.{ℕ, ◌+◌, ◌*◌, ◌/◌, ◌%◌, ◌≤◌}
use lib.ListN.{length, get_or, drop, length-drop, length-append}
use lib.Seq.{get_or-drop, drop-drop, drop_at}
use Rattle.linkpairs.specs.Standing.{PairAt}
use Rattle.names.specs.Uses.{Use}
use Rattle.objects.proofs.EndsLong.{packed-length}
use Rattle.std.specs.Prelude.{Option, Some, None, IsSomeAnd}
use Rattle.objects.proofs.Looked.{name-at, ends-took, not-none}
use Rattle.objects.proofs.Views.{name-exact, pair-exact, pairs-length, object-words}
use Rattle.objects.specs.Places.{Ends, NameAt}
use Rattle.objects.specs.View as view
use Rattle.objects.specs.Take.{took}
use Rattle.objects.specs.View.{name_of, pair_of, pairs_of, view_of, name_words, all, pair_words, rule_words, body_words, view_words, a_name, a_pair}
use Rattle.parts.specs.Form.{packed, object_words, first_pair}
use Rattle.parts.specs.Objects.{Object}

-- A pair

module _ (words : List ℕ) (p : ℕ) (u : Use) (x : PairAt words p u) where
  here : drop p words ≡ u.sign.start ∷ length u.sign.text ∷ (name_words (name_of u.section) ++ (name_words (name_of u.operand) ++ x.rest))
  unfolding pair_words pair_of
  here = x.is ∙ ap (λ (ws : List ℕ). u.sign.start ∷ length u.sign.text ∷ ws) (append_assoc (name_words (name_of u.section)) (name_words (name_of u.operand)) x.rest)

  pub pair_inside : p + 2 ≤ length words
  pair_inside = let a = length-drop p words in let b = ap length here in omega (arith, a, b)

  behind : drop (p + 2) words ≡ name_words (name_of u.section) ++ (name_words (name_of u.operand) ++ x.rest)
  behind = sym (drop-drop 2 p words) ∙ ap (λ (ws : List ℕ). drop 2 ws) here

  pub sign-start : get_or words p 0 ≡ u.sign.start
  sign-start = let e : p + 0 ≡ p = omega arith in ap (λ (i : ℕ). get_or words i 0) (sym e) ∙ sym (get_or-drop p words 0 0) ∙ ap (λ (ws : List ℕ). get_or ws 0 0) here

  pub sign-size : get_or words (p + 1) 0 ≡ length u.sign.text
  sign-size = sym (get_or-drop p words 1 0) ∙ ap (λ (ws : List ℕ). get_or ws 1 0) here

  pub section-name : {r : ℕ} → r ≡ p + 2 → NameAt words r (name_of u.section)
  section-name {r} e = name-at words r (name_of u.section) (name_words (name_of u.operand) ++ x.rest) (ap (λ (i : ℕ). drop i words) e ∙ behind)

  operand-there : {s : ℕ} → s ≡ p + 2 → a_name (drop s words) ≡ took (name_of u.section) (name_words (name_of u.operand) ++ x.rest)
  operand-there e = ap a_name (ap (λ (i : ℕ). drop i words) e ∙ behind) ∙ name-exact.back (name_of u.section) tt (name_words (name_of u.operand) ++ x.rest)

  pub operand-name : {s : ℕ} → s ≡ p + 2 → (o : Option ℕ) → Ends a_name words s o → IsSomeAnd o (λ r. NameAt words r (name_of u.operand))
  operand-name e None y = not-none (name_of u.section) _ (operand-there e) y
  operand-name e (Some r) y = let z = ends-took (name_of u.section) (name_words (name_of u.operand) ++ x.rest) (operand-there e) y in name-at words r (name_of u.operand) x.rest (sym z.0)

-- the first of pairs, and those behind it
module _ (words : List ℕ) (at : ℕ) (u : Use) (us : List Use) (k : List ℕ) (e : drop at words ≡ all pair_words (pairs_of (u ∷ us)) ++ k) where
  first : drop at words ≡ pair_words (pair_of u) ++ (all pair_words (pairs_of us) ++ k)
  unfolding all pairs_of
  first = e ∙ append_assoc (pair_words (pair_of u)) (all pair_words (pairs_of us)) k

  pub first-pair : PairAt words at u
  first-pair = record { rest = all pair_words (pairs_of us) ++ k; is = first }

  pair-there : a_pair (drop at words) ≡ took (pair_of u) (all pair_words (pairs_of us) ++ k)
  pair-there = ap a_pair first ∙ pair-exact.back (pair_of u) tt (all pair_words (pairs_of us) ++ k)

  pub no-pair-off : Ends a_pair words at None → ⊥
  no-pair-off y = not-none (pair_of u) _ pair-there y

  pub later-pairs : {r : ℕ} → Ends a_pair words at (Some r) → (all pair_words (pairs_of us) ++ k ≡ drop r words) × (r ≤ length words)
  later-pairs y = ends-took (pair_of u) (all pair_words (pairs_of us) ++ k) pair-there y

-- An object

module _ (words : List ℕ) (at : ℕ) (common : List ℕ) (size : ℕ) (o : Object) (k : List ℕ) (e : drop at words ≡ object_words common size o ++ k) where
  abbrev v : view.View
  v = view_of size o

  object : drop at words ≡ view_words common v ++ k
  object = e ∙ ap (λ (ws : List ℕ). ws ++ k) (object-words common size o)

  pub common-size : get_or words (at + 3) 0 ≡ length common
  unfolding view_words body_words
  common-size = sym (get_or-drop at words 3 0) ∙ ap (λ (ws : List ℕ). get_or ws 3 0) object

  pub pair-count : get_or words (at + 6) 0 ≡ length o.uses
  unfolding view_words body_words view_of
  pair-count = sym (get_or-drop at words 6 0) ∙ ap (λ (ws : List ℕ). get_or ws 6 0) object ∙ pairs-length o.uses

  abbrev rules : List ℕ
  rules = all rule_words (view.rules_of o.aims (first_pair o) o.rules)

  in-common : drop (at + 7) words ≡ packed common ++ (all pair_words (pairs_of o.uses) ++ (rules ++ k))
  unfolding view_words body_words view_of
  in-common = sym (drop-drop 7 at words) ∙ ap (λ (ws : List ℕ). drop 7 ws) object
      ∙ append_assoc (packed common) (all pair_words (pairs_of o.uses) ++ rules) k ∙ ap (λ (ws : List ℕ). packed common ++ ws) (append_assoc (all pair_words (pairs_of o.uses)) rules k)

  pub pairs-at : {r n : ℕ} → n ≡ get_or words (at + 3) 0 → r ≡ at + (7 + n / 2 + n % 2) → (more : List ℕ) × (drop r words ≡ all pair_words (pairs_of o.uses) ++ more)
  pairs-at {r} {n} f g =
      let m = n / 2 + n % 2 in
      let h : length (packed common) ≡ m = packed-length common ∙ ap (λ (i : ℕ). i / 2 + i % 2) (sym (f ∙ common-size)) in
      let q : r ≡ (at + 7) + m = omega (arith, g) in
      (rules ++ k, ap (λ (i : ℕ). drop i words) q ∙ sym (drop-drop m (at + 7) words) ∙ ap (λ (ws : List ℕ). drop m ws) in-common ∙ drop_at (packed common) (all pair_words (pairs_of o.uses) ++ (rules ++ k)) m h)

  seven : at ≤ length words → at + 7 ≤ length words
  unfolding view_words body_words
  seven i = let a = ap length object in let b = length-drop at words in omega (arith, a, b, i)

  abbrev body-length : ℕ
  body-length = length (body_words common v)

  high : get_or words (at + 1) 0 ≡ body-length / 65536
  unfolding view_words
  high = sym (get_or-drop at words 1 0) ∙ ap (λ (ws : List ℕ). get_or ws 1 0) object

  low : get_or words (at + 2) 0 ≡ body-length % 65536
  unfolding view_words
  low = sym (get_or-drop at words 2 0) ∙ ap (λ (ws : List ℕ). get_or ws 2 0) object

  body : drop (at + 3) words ≡ body_words common v ++ k
  unfolding view_words
  body = sym (drop-drop 3 at words) ∙ ap (λ (ws : List ℕ). drop 3 ws) object

  object-size : {m : ℕ} → m ≡ 3 + 65536 * get_or words (at + 1) 0 + get_or words (at + 2) 0 → m ≡ 3 + body-length
  object-size f = let d = div-add-mod' body-length 65536 in let a = high in let b = low in omega (arith, f, d, a, b)

  pub object-inside : (m : ℕ) → m ≡ 3 + 65536 * get_or words (at + 1) 0 + get_or words (at + 2) 0 → at ≤ length words → at + m ≤ length words
  object-inside m f i = let s = object-size f in let a = length-drop (at + 3) words in let b = ap length body in let c = length-append (body_words common v) k in let d = seven i in omega (arith, s, a, b, c, d, i)

  pub behind-object : {r : ℕ} (m : ℕ) → m ≡ 3 + 65536 * get_or words (at + 1) 0 + get_or words (at + 2) 0 → r ≡ at + m → drop r words ≡ k
  behind-object {r} m f g =
      let s = object-size f in
      let q : r ≡ (at + 3) + body-length = omega (arith, g, s) in
      ap (λ (i : ℕ). drop i words) q ∙ sym (drop-drop body-length (at + 3) words) ∙ ap (λ (ws : List ℕ). drop body-length ws) body ∙ drop_at (body_words common v) k body-length refl

  pub pairs_inside : {n : ℕ} → n ≡ get_or words (at + 3) 0 → at ≤ length words → at + (7 + n / 2 + n % 2) ≤ length words
  pairs_inside {n} f i =
      let h : length (packed common) ≡ n / 2 + n % 2 = packed-length common ∙ ap (λ (i : ℕ). i / 2 + i % 2) (sym (f ∙ common-size)) in
      let a = length-drop (at + 7) words in
      let b = ap length in-common in
      let c = length-append (packed common) (all pair_words (pairs_of o.uses) ++ (rules ++ k)) in
      let d = seven i in
      omega (arith, h, a, b, c, d, i)
