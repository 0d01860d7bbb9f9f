-- The cursor goes from rule to rule: what is left of the row where it stands.
use mathlib.Core.List.{List, [], ◌∷◌, ◌++◌, append_assoc}
use mathlib.Core.Path.{◌≡◌, refl, sym, ap, ◌∙◌}
use native.Mathlib.Omega.{arith}
use Prim.Native.Nat.{ℕ, suc, ◌+◌, ◌-◌, ◌/◌, ◌%◌, ◌<◌, ◌≤◌}
use lib.ListN.{length, get_or, drop, length-append, length-drop, drop_of_length-le}
use lib.Seq.{drop-drop, get_or-drop, drop-append_seam}
use Rattle.acceptance.proofs.Shape.{Each, NotEmpty}
use Rattle.objects.proofs.EndsLong.{packed-length, ahead}
use Rattle.base.specs.Bools as bools
use Rattle.std.specs.Prelude.{Some, None}
use Rattle.objects.proofs.Looked.{ends-took, not-none}
use Rattle.objects.proofs.TakeLaws.{Exact, times-exact}
use Rattle.objects.proofs.Views.{pair-exact, rule-exact}
use Rattle.objects.specs.Places.{EndsAt, Ends}
use Rattle.objects.specs.Take.{Taken, took, missing, Taker, times}
use Rattle.objects.specs.View.{RuleView, View, all, name_words, pair_words, rule_words, body_words, view_words, a_pair, a_rule}
use Rattle.parts.specs.Form.{packed}
use Rattle.linkchecks.specs.Row.{Item, in_text, row_from, last_size}
use Rattle.linkchecks.specs.Walk.{Ruled, Viewed, Before, Stands}
use Rattle.linkchecks.specs.declared.Cursor.{Cursor}

pub no-cons {ℓ} : {A : Type 0} {B : Type ℓ} {x : A} {xs : List A} → x ∷ xs ≡ [] → B
no-cons e = let z = ap length e in absurd (omega (arith, z))

-- what is written of some words stands before itself
pub before-end : {A : Type 0} {m : Taker A} {w : A → List ℕ} {P : A → Type 0} {words : List ℕ} {at r : ℕ} → Exact m w P → ((a : A) → 1 ≤ length (w a)) → Ends m words at (Some r) → at ≤ length words → at < r
unfolding EndsAt
before-end {A} {m} {w} {P} {words} {at} {r} x f y l = go (m (drop at words)) refl y.is
  where
    go : (t : Taken A) → m (drop at words) ≡ t → EndsAt words t (Some r) → at < r
    go (took a rest) d e =
        let z = ap length (x.forth (drop at words) a rest d).0 in
        let n = length-append (w a) rest in
        let s = f a in
        let k = ap length e.0 in
        let i = length-drop at words in
        let j = length-drop r words in
        let h = e.1 in
        omega (arith, z, n, s, k, i, j, h, l)
    go missing d e = bools.never (sym e)

pub rule-some : (r : RuleView) → 1 ≤ length (rule_words r)
unfolding rule_words name_words
rule-some r = omega arith

-- a rule takes words
pub rule-ahead : {words : List ℕ} {at r : ℕ} → Ends a_rule words at (Some r) → at ≤ length words → at < r
rule-ahead y l = before-end rule-exact rule-some y l

pub pairs-ahead : (n : ℕ) {words : List ℕ} {at r : ℕ} → Ends (times n a_pair) words at (Some r) → at ≤ length words → at ≤ r
pairs-ahead n y l = ahead (times-exact pair-exact n) y l

all_none : (words : List ℕ) (at : ℕ) → length words ≤ at → drop at words ≡ []
all_none words at l = drop_of_length-le words l

no_words : (words : List ℕ) (at : ℕ) → at < length words → drop at words ≡ [] → ⊥
no_words words at l e = let a = length-drop at words in let b = ap length e in omega (arith, a, b, l)

abbrev pub first_pair_at : List ℕ → ℕ → ℕ
first_pair_at common at = at + 7 + length common / 2 + length common % 2

abbrev all_views : List ℕ → List View → List ℕ
all_views common us = all (view_words common) us

-- what stands behind the pairs of the first
abbrev behind_pairs : List ℕ → View → List View → List ℕ
behind_pairs common v left = all rule_words v.rules ++ all_views common left

module _ (common words : List ℕ) (vs : List View) where
  record Header (at : ℕ) (v : View) (more : List ℕ) : Type 0 where
    pub long : first_pair_at common at ≤ length words
    pub size : get_or words (at + 4) 0 ≡ v.size
    pub rules : get_or words (at + 5) 0 ≡ length v.rules
    pub pairs : get_or words (at + 6) 0 ≡ length v.pairs
    pub behind : drop (first_pair_at common at) words ≡ all pair_words v.pairs ++ (all rule_words v.rules ++ more)

  -- the place behind the pairs
  pub record Entered (c : Cursor) (left : List View) (size rules r : ℕ) : Type 0 where
    pub stands : size ≡ get_or words (c.at + 4) 0 → rules ≡ get_or words (c.at + 5) 0
        → Stands common words vs (record { text = c.text + 1; size = size; at = r; left = rules }) (row_from (suc c.text) left)

  pub record Steps (c : Cursor) (x : Item) (row : List Item) : Type 0 where
    pub later : List RuleView
    pub views : List View
    pub here : drop c.at words ≡ rule_words x.rule ++ (all rule_words later ++ all_views common views)
    pub text_is : x.text ≡ c.text
    pub as_many : c.left ≡ suc (length later)
    pub ruled : Each Ruled views
    pub count : c.text + length views ≡ length vs
    pub last : last_size c.size views ≡ last_size 0 vs
    pub are : row ≡ in_text c.text later ++ row_from (suc c.text) views

  -- A row that decides: where the cursor stands, the answer b is what f says of the row left

  pub record Still {B : Type 0} (f : List Item → B) (b : B) (c : Cursor) : Type 0 where
    pub row : List Item
    pub stands : Stands common words vs c row
    pub is : b ≡ f row

  pub record Heads {B : Type 0} (f : List Item → B) (b : B) (c : Cursor) : Type 0 where
    pub first : Item
    pub later : List Item
    pub stands : Stands common words vs c (first ∷ later)
    pub is : b ≡ f (first ∷ later)

-- an object takes words
views-long : (common : List ℕ) (vs : List View) → length vs ≤ length (all_views common vs)
unfolding all view_words
views-long common [] = omega arith
views-long common (v ∷ vs) = let a = length-append (view_words common v) (all_views common vs) in let b = views-long common vs in omega (arith, a, b)

pub views-few : {common words : List ℕ} {vs : List View} → Viewed common words vs → length vs ≤ length words
views-few {common} {words} {vs} v = let a = views-long common vs in let b = ap length v.are in omega (arith, a, b)

module _ {common words : List ℕ} {vs : List View} where
  header : (at : ℕ) (v : View) (more : List ℕ) → drop at words ≡ view_words common v ++ more → Header common words vs at v more
  unfolding view_words body_words
  header at v more e = record {
    long = let a = length-drop at words in let b = ap length e in let d = length-append (packed common) (content ++ more) in let s = ap length joined in omega (arith, a, b, d, s, size₁);
    size = sym (get_or-drop at words 4 0) ∙ ap (λ (ws : List ℕ). get_or ws 4 0) e;
    rules = sym (get_or-drop at words 5 0) ∙ ap (λ (ws : List ℕ). get_or ws 5 0) e;
    pairs = sym (get_or-drop at words 6 0) ∙ ap (λ (ws : List ℕ). get_or ws 6 0) e;
    behind = ap (λ i. drop i words) place ∙ sym (drop-drop (length (packed common)) (at + 7) words) ∙ ap (λ (ws : List ℕ). drop (length (packed common)) ws) seventh
        ∙ drop-append_seam (packed common) (content ++ more) ∙ append_assoc (all pair_words v.pairs) (all rule_words v.rules) more;
  }
    where
      content : List ℕ
      content = all pair_words v.pairs ++ all rule_words v.rules

      size₁ : length (packed common) ≡ length common / 2 + length common % 2
      size₁ = packed-length common

      place : first_pair_at common at ≡ at + 7 + length (packed common)
      place = omega (arith, size₁)

      joined : (packed common ++ content) ++ more ≡ packed common ++ (content ++ more)
      joined = append_assoc (packed common) content more

      seventh : drop (at + 7) words ≡ packed common ++ (content ++ more)
      seventh = sym (drop-drop 7 at words) ∙ ap (λ (ws : List ℕ). drop 7 ws) e ∙ joined

  -- at the end of the words nothing is left
  pub over : (text size at : ℕ) → length words ≤ at → text ≡ length vs → size ≡ last_size 0 vs → Stands common words vs (record { text = text; size = size; at = at; left = 0 }) []
  unfolding all in_text row_from last_size Each
  over text size at l e d = record { rules = []; views = []; here = all_none words at l; as_many = refl; settled = λ _. refl; ruled = tt; count = omega (arith, e); last = d; are = refl }

  -- fewer words than an object has before its pairs
  pub enters_none : (c : Cursor) (left : List View) (end : ℕ) → Before common words vs c left → length words < first_pair_at common c.at → end ≡ length words
      → Stands common words vs (record { text = c.text; size = c.size; at = end; left = 0 }) (row_from (suc c.text) left)
  unfolding all row_from last_size
  enters_none c [] end x l n = let k = x.count in over c.text c.size end (omega (arith, n)) (omega (arith, k)) x.last
  enters_none c (v ∷ left) end x l n = let y = (header c.at v (all_views common left) x.here).long in absurd (omega (arith, y, l))

  pairs-taken : (at : ℕ) (v : View) (left : List View) (n : ℕ) → Header common words vs at v (all_views common left) → n ≡ get_or words (at + 6) 0
      → times n a_pair (drop (first_pair_at common at) words) ≡ took v.pairs (behind_pairs common v left)
  pairs-taken at v left n h d =
      ap (λ i. times i a_pair (drop (first_pair_at common at) words)) (d ∙ h.pairs) ∙ ap (times (length v.pairs) a_pair) h.behind ∙ (times-exact pair-exact (length v.pairs)).back v.pairs refl (behind_pairs common v left)

  pub enters-there : (c : Cursor) (left : List View) (n : ℕ) → Before common words vs c left → first_pair_at common c.at ≤ length words → n ≡ get_or words (c.at + 6) 0
      → Ends (times n a_pair) words (first_pair_at common c.at) None → ⊥
  unfolding all
  enters-there c [] n x l d y = no_words words c.at (omega (arith, l)) x.here
  enters-there c (v ∷ left) n x l d y = not-none v.pairs (behind_pairs common v left) (pairs-taken c.at v left n (header c.at v (all_views common left) x.here) d) y

  pub enters : (c : Cursor) (left : List View) (n size rules r : ℕ) → Before common words vs c left → first_pair_at common c.at ≤ length words → n ≡ get_or words (c.at + 6) 0
      → Ends (times n a_pair) words (first_pair_at common c.at) (Some r) → Entered common words vs c left size rules r
  unfolding all row_from last_size Each NotEmpty
  enters c [] n size rules r x l d y = absurd (no_words words c.at (omega (arith, l)) x.here)
  enters c (v ∷ left) n size rules r x l d y = record { stands = stands }
    where
      h : Header common words vs c.at v (all_views common left)
      h = header c.at v (all_views common left) x.here

      behind : (behind_pairs common v left ≡ drop r words) × (r ≤ length words)
      behind = ends-took v.pairs (behind_pairs common v left) (pairs-taken c.at v left n h d) y

      some_rule : (rs : List RuleView) → NotEmpty rs → 1 ≤ length rs
      some_rule [] n = absurd n
      some_rule (r ∷ rs) n = omega arith

      one : c.text + 1 ≡ suc c.text
      one = omega arith

      stands : size ≡ get_or words (c.at + 4) 0 → rules ≡ get_or words (c.at + 5) 0
          → Stands common words vs (record { text = c.text + 1; size = size; at = r; left = rules }) (row_from (suc c.text) (v ∷ left))
      stands ds dr =
          let k = x.count in
          let m = dr ∙ h.rules in
          let s = some_rule v.rules x.ruled.0 in
          record {
            rules = v.rules;
            views = left;
            here = sym behind.0;
            as_many = sym m;
            settled = λ e. absurd (omega (arith, e, m, s));
            ruled = x.ruled.1;
            count = omega (arith, k);
            last = ap (λ i. last_size i left) (ds ∙ h.size) ∙ x.last;
            are = ap (λ i. in_text i v.rules ++ row_from (suc i) left) (sym one);
          }

  -- At a rule

  pub steps : {c : Cursor} {x : Item} {row : List Item} → Stands common words vs c (x ∷ row) → Steps common words vs c x row
  unfolding in_text row_from all
  steps {c} {x} {row} s = go s.rules s.here s.as_many s.are
    where
      none_here : (views : List View) → views ≡ [] → x ∷ row ≡ in_text c.text [] ++ row_from (suc c.text) views → ⊥
      none_here views e d = no-cons (d ∙ ap (row_from (suc c.text)) e)

      go : (rs : List RuleView) → drop c.at words ≡ all rule_words rs ++ all_views common s.views → length rs ≡ c.left → x ∷ row ≡ in_text c.text rs ++ row_from (suc c.text) s.views → Steps common words vs c x row
      go [] e l d = absurd (none_here s.views (s.settled (sym l)) d)
      go (r ∷ rs) e l d =
          let p : x ≡ record { text = c.text; rule = r } = cc in
          let q : row ≡ in_text c.text rs ++ row_from (suc c.text) s.views = cc in
          record {
            later = rs;
            views = s.views;
            here = e ∙ append_assoc (rule_words r) (all rule_words rs) (all_views common s.views) ∙ ap (λ (y : Item). rule_words y.rule ++ (all rule_words rs ++ all_views common s.views)) (sym p);
            text_is = ap (λ (y : Item). y.text) p;
            as_many = sym l;
            ruled = s.ruled;
            count = s.count;
            last = s.last;
            are = q;
          }

  module _ {c : Cursor} {x : Item} {row : List Item} (s : Steps common words vs c x row) where
    abbrev tail : List ℕ
    tail = all rule_words s.later ++ all_views common s.views

    rule-there : a_rule (drop c.at words) ≡ took x.rule tail
    rule-there = ap a_rule s.here ∙ rule-exact.back x.rule tt tail

    pub rule-ends : Ends a_rule words c.at None → ⊥
    rule-ends y = not-none x.rule tail rule-there y

  module _ {c : Cursor} {x : Item} {row : List Item} (s : Steps common words vs c x row) {at : ℕ} (y : Ends a_rule words c.at (Some at)) where
    behind-rule : (tail s ≡ drop at words) × (at ≤ length words)
    behind-rule = ends-took x.rule (tail s) (rule-there s) y

    -- the last of all
    pub next-over : (end : ℕ) → end ≡ length words → length words ≤ at → Stands common words vs (record { text = c.text; size = c.size; at = end; left = 0 }) row
    unfolding all in_text row_from last_size view_words
    next-over end n l = go s.later s.views (sym (all_none words at l) ∙ sym behind-rule.0) s.are s.count s.last
      where
        go : (rs : List RuleView) (left : List View) → [] ≡ all rule_words rs ++ all_views common left → row ≡ in_text c.text rs ++ row_from (suc c.text) left → c.text + length left ≡ length vs
            → last_size c.size left ≡ last_size 0 vs → Stands common words vs (record { text = c.text; size = c.size; at = end; left = 0 }) row
        go [] [] e d k f = rw d (over c.text c.size end (omega (arith, n)) (omega (arith, k)) f)
        go [] (v ∷ left) e d k f = no-cons (sym e)
        go (r ∷ rs) left e d k f =
            let a = ap length e in
            let b = rule-some r in
            let g = length-append (rule_words r ++ all rule_words rs) (all_views common left) in
            let h = length-append (rule_words r) (all rule_words rs) in
            absurd (omega (arith, a, b, g, h))

    -- another of the same object
    pub next_here : 1 < c.left → Stands common words vs (record { text = c.text; size = c.size; at = at; left = c.left - 1 }) row
    next_here l =
        let m = s.as_many in
        record {
          rules = s.later;
          views = s.views;
          here = sym behind-rule.0;
          as_many = omega (arith, m);
          settled = λ e. absurd (omega (arith, e, l));
          ruled = s.ruled;
          count = s.count;
          last = s.last;
          are = s.are;
        }

    -- the first of the next object
    pub next-object : (r : Cursor) → (c.left ≤ 1)
        → ((left : List View) → Before common words vs (record { text = c.text; size = c.size; at = at; left = 0 }) left → Stands common words vs r (row_from (suc c.text) left)) → Stands common words vs r row
    unfolding in_text all
    next-object r l h = let m = s.as_many in go s.later (omega (arith, m, l)) s.are behind-rule.0
      where
        go : (rs : List RuleView) → length rs ≡ 0 → row ≡ in_text c.text rs ++ row_from (suc c.text) s.views → all rule_words rs ++ all_views common s.views ≡ drop at words → Stands common words vs r row
        go [] n d e = rw d (h s.views (record { here = sym e; ruled = s.ruled; count = s.count; last = s.last }))
        go (q ∷ rs) n d e = absurd (omega (arith, n))

  stands-none : {c : Cursor} {row : List Item} → Stands common words vs c row → length words ≤ c.at → row ≡ []
  stands-none {c} {row} s l = go row s
    where
      go : (row : List Item) → Stands common words vs c row → row ≡ []
      go [] s = refl
      go (x ∷ row) s =
          let h = steps s in
          let a = ap length (sym (all_none words c.at l) ∙ h.here) in
          let b = rule-some x.rule in
          let d = length-append (rule_words x.rule) (all rule_words h.later ++ all_views common h.views) in
          absurd (omega (arith, a, b, d))

  -- at the end all is known
  pub ended : {c : Cursor} {row : List Item} → Stands common words vs c row → length words ≤ c.at → (c.text ≡ length vs) × (c.size ≡ last_size 0 vs)
  unfolding all last_size view_words
  ended {c} s l = go s.rules s.views (sym (all_none words c.at l) ∙ s.here) s.count s.last
    where
      go : (rs : List RuleView) (left : List View) → [] ≡ all rule_words rs ++ all_views common left → c.text + length left ≡ length vs → last_size c.size left ≡ last_size 0 vs → (c.text ≡ length vs) × (c.size ≡ last_size 0 vs)
      go [] [] e k f = (omega (arith, k), f)
      go [] (v ∷ left) e k f = no-cons (sym e)
      go (r ∷ rs) left e k f =
          let a = ap length e in
          let b = rule-some r in
          let g = length-append (rule_words r ++ all rule_words rs) (all_views common left) in
          let h = length-append (rule_words r) (all rule_words rs) in
          absurd (omega (arith, a, b, g, h))

  stands-some : {c : Cursor} → Stands common words vs c [] → c.at < length words → ⊥
  unfolding all in_text
  stands-some {c} s l = go s.rules s.here s.as_many s.are
    where
      none_here : (views : List View) → views ≡ [] → drop c.at words ≡ all rule_words [] ++ all_views common views → ⊥
      none_here views d e = no_words words c.at l (e ∙ ap (all_views common) d)

      go : (rs : List RuleView) → drop c.at words ≡ all rule_words rs ++ all_views common s.views → length rs ≡ c.left → [] ≡ in_text c.text rs ++ row_from (suc c.text) s.views → ⊥
      go [] e n d = none_here s.views (s.settled (sym n)) e
      go (r ∷ rs) e n d = no-cons (sym d)

  pub heads : {B : Type 0} {f : List Item → B} {b : B} {c : Cursor} → Still common words vs f b c → c.at < length words → Heads common words vs f b c
  heads {B} {f} {b} {c} x l = go x.row x.stands x.is
    where
      go : (row : List Item) → Stands common words vs c row → b ≡ f row → Heads common words vs f b c
      go [] s e = absurd (stands-some s l)
      go (i ∷ row) s e = record { first = i; later = row; stands = s; is = e }

  pub still-none : {B : Type 0} {f : List Item → B} {b : B} {c : Cursor} → Still common words vs f b c → length words ≤ c.at → b ≡ f []
  still-none {f = f} x l = x.is ∙ ap f (stands-none x.stands l)

  pub begins : Viewed common words vs → Before common words vs (record { text = 0; size = 0; at = 0; left = 0 }) vs
  begins v = record { here = v.are; ruled = v.ruled; count = omega arith; last = refl }
