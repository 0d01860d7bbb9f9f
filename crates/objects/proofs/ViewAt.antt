-- An object at a place: where its pairs and its rules stand, and how many there are.
use mathlib.Core.Bool.{Bool, true, false}
use mathlib.Core.List.{List, [], ◌∷◌, ◌++◌, append_assoc}
use mathlib.Core.Path.{◌≡◌, refl, sym, ap, ◌∙◌}
use native.Mathlib.Omega.{arith}
use Prim.Native.Nat.{ℕ, ◌+◌, ◌/◌, ◌%◌, ◌≤◌}
use lib.ListN.{length, get_or, drop, length-append, length-drop}
use lib.Seq.{drop-drop, get_or-drop, drop-append_seam}
use Rattle.names.specs.Known.{Names}
use Rattle.parts.specs.Form.{packed}
use Rattle.syntax.specs.Texts.{Head}
use Rattle.objects.proofs.EndsLong.{packed-length}
use Rattle.std.specs.Prelude.{Some, None}
use Rattle.objects.proofs.Looked.{ends-took, not-none}
use Rattle.objects.proofs.TakeLaws.{times-exact}
use Rattle.objects.proofs.Views.{pair-exact, rule-exact}
use Rattle.objects.specs.Order.{rule_in_order}
use Rattle.objects.specs.Places.{Ends, PartsAt}
use Rattle.objects.specs.Take.{took, times}
use Rattle.objects.specs.View.{RuleView, View, all, pair_words, rule_words, body_words, view_words, a_pair, a_rule}
use Rattle.objects.specs.Whole.{every, is_some, pair_in_order, view_in_order}

-- the words before the pairs
abbrev pub head_of : List ℕ → ℕ
head_of common = length common / 2 + length common % 2 + 7

pub record ViewAt (words common : List ℕ) (v : View) (at : ℕ) : Type 0 where
  pub inside : at + head_of common ≤ length words
  pub rule-count : get_or words (at + 5) 0 ≡ length v.rules
  pub pair-count : get_or words (at + 6) 0 ≡ length v.pairs
  pub there : Ends (times (length v.pairs) a_pair) words (at + head_of common) None → ⊥
  pub parts : (r : ℕ) → Ends (times (length v.pairs) a_pair) words (at + head_of common) (Some r) → (r ≤ length words) × PartsAt words (at + head_of common) (length v.pairs) r (length v.rules) v

pub view-at : (words common : List ℕ) (v : View) (at : ℕ) (k : List ℕ) → drop at words ≡ view_words common v ++ k → ViewAt words common v at
unfolding view_words body_words
view-at words common v at k e = record {
  inside = inside;
  rule-count = sym (get_or-drop at words 5 0) ∙ ap (λ (ws : List ℕ). get_or ws 5 0) e;
  pair-count = sym (get_or-drop at words 6 0) ∙ ap (λ (ws : List ℕ). get_or ws 6 0) e;
  there = λ y. not-none v.pairs (rs ++ k) pairs_there y;
  parts = parts;
}
  where
    ps : List ℕ
    ps = all pair_words v.pairs

    rs : List ℕ
    rs = all rule_words v.rules

    behind : drop (at + 7) words ≡ packed common ++ (ps ++ (rs ++ k))
    behind = sym (drop-drop 7 at words) ∙ ap (λ (ws : List ℕ). drop 7 ws) e ∙ append_assoc (packed common) (ps ++ rs) k ∙ ap (λ ws. packed common ++ ws) (append_assoc ps rs k)

    place : at + 7 + length (packed common) ≡ at + head_of common
    place = let l = packed-length common in omega (arith, l)

    inside : at + head_of common ≤ length words
    inside =
        let a = length-drop at words in
        let b = ap length e in
        let c = length-append (packed common ++ (ps ++ rs)) k in
        let d = length-append (packed common) (ps ++ rs) in
        let l = packed-length common in
        omega (arith, a, b, c, d, l)

    pairs_here : drop (at + head_of common) words ≡ ps ++ (rs ++ k)
    pairs_here =
        ap (λ n. drop n words) (sym place) ∙ sym (drop-drop (length (packed common)) (at + 7) words) ∙ ap (λ (ws : List ℕ). drop (length (packed common)) ws) behind
        ∙ drop-append_seam (packed common) (ps ++ (rs ++ k))

    pairs_there : times (length v.pairs) a_pair (drop (at + head_of common) words) ≡ took v.pairs (rs ++ k)
    pairs_there = ap (times (length v.pairs) a_pair) pairs_here ∙ (times-exact pair-exact (length v.pairs)).back v.pairs refl (rs ++ k)

    parts : (r : ℕ) → Ends (times (length v.pairs) a_pair) words (at + head_of common) (Some r) → (r ≤ length words) × PartsAt words (at + head_of common) (length v.pairs) r (length v.rules) v
    parts r y =
        let z = ends-took v.pairs (rs ++ k) pairs_there y in (
          z.1,
          record {
            between = rs ++ k;
            behind = k;
            pairs_there = pairs_there;
            rules_there = ap (times (length v.rules) a_rule) (sym z.0) ∙ (times-exact rule-exact (length v.rules)).back v.rules refl k;
          },
        )

-- the same by numbers that the code has
pub parts-by : {words common : List ℕ} {v : View} {at : ℕ} → ViewAt words common v at → (place pairs rules r : ℕ) → place ≡ at + head_of common → pairs ≡ get_or words (at + 6) 0 → rules ≡ get_or words (at + 5) 0
    → Ends (times pairs a_pair) words place (Some r) → (r ≤ length words) × PartsAt words place pairs r rules v
parts-by x place pairs rules r d e f y = rw (d, e ∙ x.pair-count, f ∙ x.rule-count) (x.parts r (rw (d, e ∙ x.pair-count) at y))

pub pairs-there : {words common : List ℕ} {v : View} {at : ℕ} → ViewAt words common v at → (place pairs : ℕ) → place ≡ at + head_of common → pairs ≡ get_or words (at + 6) 0
    → Ends (times pairs a_pair) words place None → ⊥
pairs-there x place pairs d e y = x.there (rw (d, e ∙ x.pair-count) at y)

module _ (hs : List Head) (n : Names) (v : View) where
  no-rule-of : (rs : List RuleView) → length rs ≡ 0 → is_some rs ≡ false
  unfolding is_some
  no-rule-of [] e = refl
  no-rule-of (r ∷ rs) e = absurd (omega (arith, e))

  a-rule-of : (rs : List RuleView) → (length rs ≡ 0 → ⊥) → is_some rs ≡ true
  unfolding is_some
  a-rule-of [] f = absurd (f refl)
  a-rule-of (r ∷ rs) f = refl

  pub no-rule : length v.rules ≡ 0 → false ≡ view_in_order hs n v
  unfolding view_in_order
  no-rule e = rw (no-rule-of v.rules e)

  pub a-pair-fails : (length v.rules ≡ 0 → ⊥) → (b : Bool) → b ≡ every (pair_in_order hs n v.rules) v.pairs → b ≡ false → false ≡ view_in_order hs n v
  unfolding view_in_order
  a-pair-fails f b e t = rw (a-rule-of v.rules f, ← e, t)

  pub rules-decide : (length v.rules ≡ 0 → ⊥) → (b : Bool) → b ≡ every (pair_in_order hs n v.rules) v.pairs → b ≡ true → (r : Bool) → r ≡ every (rule_in_order hs v.pairs) v.rules → r ≡ view_in_order hs n v
  unfolding view_in_order
  rules-decide f b e t r h = rw (a-rule-of v.rules f, ← e, t) h
