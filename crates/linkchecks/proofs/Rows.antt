-- The checks of linking over the row of all rules are those over objects.
use mathlib.Core.Bool.{Bool, true, false, ◌&&◌, ◌||◌, not}
use mathlib.Core.List.{List, [], ◌∷◌, ◌++◌, append_assoc}
use mathlib.Core.Option.{Option, none, some}
use mathlib.Core.Path.{◌≡◌, refl, sym, ap, ◌∙◌, subst}
use native.Mathlib.Omega.{arith}
use Prim.Native.Nat.{ℕ, zero, suc, ◌+◌, ◌-◌, ◌<◌, ◌≤◌}
use borrow.Author.Tests.{lt-ltb, le-ltb}
use lib.Dec.{ltb}
use lib.ListN.{length, length-append}
use Rattle.acceptance.proofs.Shape.{Each, NotEmpty}
use Rattle.base.specs.Common.{same, given}
use Rattle.std.specs.Prelude as code
use Rattle.names.specs.Known.{Names}
use Rattle.objects.proofs.Exact.{all-views}
use Rattle.objects.proofs.Marks.{or_right}
use Rattle.objects.proofs.Views.{rules-length}
use Rattle.objects.specs.View as view
use Rattle.objects.specs.View.{RuleView, View, name_of, names_of, option_of, rule_of, view_of, views_of, all}
use Rattle.parts.specs.Form.{AreObjects, last_length, first_pair}
use Rattle.parts.specs.Link as link
use Rattle.parts.specs.Link.{or◌else◌, found_if, rules_of, is_named, first_typed, listed_type, agrees, open_call, unlike, unlike_in, twice, twice_in, past_limit, past_limit_in}
use Rattle.parts.specs.Objects.{Aim, OpenRule, Object}
use Rattle.parts.specs.Sound.{Sound}
use Rattle.syntax.specs.Texts.{Head, Common}
use Rattle.words.specs.Words.{Word}
use Rattle.linkchecks.specs.Checks.{Finds, Shows}
use Rattle.linkchecks.specs.Row.{Item, in_text, row_from, last_size, Shown, shown_if, or_shown, first_shown, is_named_below, type_agrees, typed_first, past_row, open_name, unlike_rule, twice_rule}
use Rattle.linkchecks.specs.Walk.{Ruled, Viewed}
use Rattle.linkchecks.specs.declared.Found.{Found}
use Rattle.linkchecks.proofs.Finding.{shows-none}
use Rattle.linkchecks.proofs.Walking.{views-few}

-- Objects as views

ruled-views : (hs : List Head) (n : Names) (ns : List ℕ) (os : List Object) → Each (Sound hs n) os → Each Ruled (views_of ns os)
unfolding views_of Each view_of view.rules_of NotEmpty
ruled-views hs n [] os h = tt
ruled-views hs n (m ∷ ns) [] h = tt
ruled-views hs n (m ∷ ns) (o ∷ os) h = (not-empty o.rules h.0.some_rule, ruled-views hs n ns os h.1)
  where
    not-empty : (rs : List OpenRule) → NotEmpty rs → NotEmpty (view.rules_of o.aims (first_pair o) rs)
    not-empty [] e = absurd e
    not-empty (r ∷ rs) e = tt

pub viewed : {common : List ℕ} {c : Common} {n : Names} {words : List ℕ} (h : AreObjects common c n words) → Viewed common words (views_of h.lengths h.objects)
viewed {common} {c} {n} h = record { are = h.are ∙ all-views common h.lengths h.objects; ruled = ruled-views c.listed n h.lengths h.objects h.sound }

pub as-many-views : (ns : List ℕ) (os : List Object) → length ns ≡ length os → length (views_of ns os) ≡ length os
unfolding views_of
as-many-views [] [] e = refl
as-many-views [] (o ∷ os) e = absurd (omega (arith, e))
as-many-views (n ∷ ns) [] e = absurd (omega (arith, e))
as-many-views (n ∷ ns) (o ∷ os) e = ap suc (as-many-views ns os (omega (arith, e)))

pub few-objects : {common : List ℕ} {c : Common} {n : Names} {words : List ℕ} (h : AreObjects common c n words) → length h.objects < length words + 1
few-objects h = let a = views-few (viewed h) in let b = as-many-views h.lengths h.objects h.as_many in omega (arith, a, b)

last_of : (s : ℕ) (ns : List ℕ) (os : List Object) → length ns ≡ length os → last_size s (views_of ns os) ≡ last_length (s ∷ ns)
unfolding views_of last_size last_length view_of
last_of s [] os e = refl
last_of s (n ∷ ns) [] e = absurd (omega (arith, e))
last_of s (n ∷ ns) (o ∷ os) e = last_of n ns os (omega (arith, e))

pub last-is : (ns : List ℕ) (os : List Object) → length ns ≡ length os → last_size 0 (views_of ns os) ≡ last_length ns
unfolding last_length
last-is [] os e = last_of 0 [] os e
last-is (n ∷ ns) os e = last_of 0 (n ∷ ns) os e

-- The row

text-length : (i : ℕ) (rs : List RuleView) → length (in_text i rs) ≡ length rs
unfolding in_text
text-length i [] = refl
text-length i (r ∷ rs) = ap suc (text-length i rs)

abbrev rules_in : Object → List RuleView
rules_in o = view.rules_of o.aims (first_pair o) o.rules

pub row-length : (i : ℕ) (ns : List ℕ) (os : List Object) → length ns ≡ length os → length (row_from i (views_of ns os)) ≡ length (rules_of os)
unfolding views_of row_from rules_of view_of
row-length i [] [] e = refl
row-length i [] (o ∷ os) e = absurd (omega (arith, e))
row-length i (n ∷ ns) [] e = absurd (omega (arith, e))
row-length i (n ∷ ns) (o ∷ os) e =
    let a = length-append (in_text i (rules_in o)) (row_from (suc i) (views_of ns os)) in
    let b = length-append o.rules (rules_of os) in
    let d = text-length i (rules_in o) in
    let f = rules-length o.aims (first_pair o) o.rules in
    let g = row-length (suc i) ns os (omega (arith, e)) in
    omega (arith, a, b, d, f, g)

-- What is shown

unfoldable pub shown : Option link.Found → Option Shown
shown none = none
shown (some f) = some (record { text = f.text; name = name_of f.word })

finds : (o : Option link.Found) (r : code.Option Found) → Shows (shown o) r → Finds o r
unfolding shown Shows Finds name_of
finds none r x = x
finds (some f) r x = x

pub finds-by : (o : Option link.Found) (r : code.Option Found) (p : Option Shown) → shown o ≡ p → Shows p r → Finds o r
finds-by o r p e x = finds o r (subst (λ q. Shows q r) (sym e) x)

pub finds-none : (o : Option link.Found) → shown o ≡ none → Finds o code.None
finds-none o e = finds o code.None (shows-none (shown o) e)

shown-or : (a b : Option link.Found) → shown (or a else b) ≡ or_shown (shown a) (shown b)
unfolding shown or◌else◌ or_shown
shown-or none b = refl
shown-or (some f) b = refl

shown-if : (t : Bool) (i : ℕ) (w : Word) → shown (found_if t i w) ≡ shown_if t i (name_of w)
unfolding shown found_if shown_if
shown-if true i w = refl
shown-if false i w = refl

or_assoc : (a b c : Option Shown) → or_shown (or_shown a b) c ≡ or_shown a (or_shown b c)
unfolding or_shown
or_assoc none b c = refl
or_assoc (some s) b c = refl

first-append : {A : Type 0} (f : A → Option Shown) (xs ys : List A) → first_shown f (xs ++ ys) ≡ or_shown (first_shown f xs) (first_shown f ys)
unfolding first_shown or_shown
first-append f [] ys = refl
first-append f (x ∷ xs) ys = rw (first-append f xs ys) (sym (or_assoc (f x) (first_shown f xs) (first_shown f ys)))

given-option : (o : Option Word) → given (option_of o) ≡ given o
unfolding option_of
given-option none = refl
given-option (some w) = refl

pub first-typed-row : (ns : List ℕ) (os : List Object) → length ns ≡ length os → Each Ruled (views_of ns os) → shown (first_typed (rules_of os)) ≡ typed_first (row_from 1 (views_of ns os))
unfolding views_of view_of rules_of row_from first_typed typed_first Each in_text view.rules_of rule_of NotEmpty shown
first-typed-row [] [] e h = refl
first-typed-row [] (o ∷ os) e h = absurd (omega (arith, e))
first-typed-row (n ∷ ns) [] e h = absurd (omega (arith, e))
first-typed-row (n ∷ ns) (o ∷ os) e h = go o.rules h.0
  where
    go : (rs : List OpenRule) → NotEmpty (view.rules_of o.aims (first_pair o) rs) → shown (first_typed (rs ++ rules_of os)) ≡ typed_first (in_text 1 (view.rules_of o.aims (first_pair o) rs) ++ row_from 2 (views_of ns os))
    go [] d = absurd d
    go (r ∷ rs) d = shown-if (given r.gives) 1 r.name ∙ ap (λ t. shown_if t 1 (name_of r.name)) (sym (given-option r.gives))

-- Names

unfoldable is_named_any : List ℕ → List Item → Bool
is_named_any t [] = false
is_named_any t (x ∷ xs) = same t x.rule.name.text || is_named_any t xs

any_append : (t : List ℕ) (xs ys : List Item) → is_named_any t (xs ++ ys) ≡ (is_named_any t xs || is_named_any t ys)
unfolding is_named_any
any_append t [] ys = refl
any_append t (x ∷ xs) ys = rw (any_append t xs ys) (or_right (same t x.rule.name.text) (is_named_any t xs) (is_named_any t ys))

below-append : (b : ℕ) (t : List ℕ) (xs ys : List Item) → is_named_below b t (xs ++ ys) ≡ (is_named_below b t xs || is_named_below b t ys)
unfolding is_named_below
below-append b t [] ys = refl
below-append b t (x ∷ xs) ys = rw (below-append b t xs ys) (or_right (ltb x.text b && same t x.rule.name.text) (is_named_below b t xs) (is_named_below b t ys))

named-append : (t : List ℕ) (rs qs : List OpenRule) → is_named t (rs ++ qs) ≡ (is_named t rs || is_named t qs)
unfolding is_named
named-append t [] qs = refl
named-append t (r ∷ rs) qs = rw (named-append t rs qs) (or_right (same t r.name.text) (is_named t rs) (is_named t qs))

named-text : (t : List ℕ) (i : ℕ) (aims : List Aim) (first : ℕ) (rs : List OpenRule) → is_named t rs ≡ is_named_any t (in_text i (view.rules_of aims first rs))
unfolding is_named is_named_any in_text view.rules_of rule_of name_of
named-text t i aims first [] = refl
named-text t i aims first (r ∷ rs) = rw (named-text t i aims first rs)

named-row : (t : List ℕ) (i : ℕ) (ns : List ℕ) (os : List Object) → length ns ≡ length os → is_named t (rules_of os) ≡ is_named_any t (row_from i (views_of ns os))
unfolding views_of view_of row_from rules_of is_named is_named_any
named-row t i [] [] e = refl
named-row t i [] (o ∷ os) e = absurd (omega (arith, e))
named-row t i (n ∷ ns) [] e = absurd (omega (arith, e))
named-row t i (n ∷ ns) (o ∷ os) e =
    named-append t o.rules (rules_of os)
    ∙ ap (λ b. b || is_named t (rules_of os)) (named-text t i o.aims (first_pair o) o.rules)
    ∙ ap (λ b. is_named_any t (in_text i (rules_in o)) || b) (named-row t (suc i) ns os (omega (arith, e)))
    ∙ sym (any_append t (in_text i (rules_in o)) (row_from (suc i) (views_of ns os)))

-- the texts of a row: from i on, below b
pub record Between (i b : ℕ) (x : Item) : Type 0 where
  pub from : i ≤ x.text
  pub below : x.text < b

each_append : {A : Type 0} (P : A → Type 0) (xs ys : List A) → Each P xs → Each P ys → Each P (xs ++ ys)
unfolding Each
each_append P [] ys h g = g
each_append P (x ∷ xs) ys h g = (h.0, each_append P xs ys h.1 g)

text-between : (i b k : ℕ) (rs : List RuleView) → i ≤ k → k < b → Each (Between i b) (in_text k rs)
unfolding Each in_text
text-between i b k [] l m = tt
text-between i b k (r ∷ rs) l m = (record { from = l; below = m }, text-between i b k rs l m)

row-between : (i b k : ℕ) (vs : List View) → i ≤ k → k + length vs ≤ b → Each (Between i b) (row_from k vs)
unfolding Each row_from
row-between i b k [] l m = tt
row-between i b k (v ∷ vs) l m = each_append (Between i b) (in_text k v.rules) (row_from (suc k) vs) (text-between i b k v.rules l (omega (arith, m))) (row-between i b (suc k) vs (omega (arith, l)) (omega (arith, m)))

all-below : (i b : ℕ) (t : List ℕ) (xs : List Item) → Each (Between i b) xs → is_named_below b t xs ≡ is_named_any t xs
unfolding Each is_named_below is_named_any
all-below i b t [] h = refl
all-below i b t (x ∷ xs) h = rw (lt-ltb x.text b h.0.below, all-below i b t xs h.1)

none_below : (i b : ℕ) (t : List ℕ) (xs : List Item) → Each (Between i b) xs → is_named_below i t xs ≡ false
unfolding Each is_named_below
none_below i b t [] h = refl
none_below i b t (x ∷ xs) h = rw (le-ltb x.text i h.0.from, none_below i b t xs h.1)

-- 49

agrees-same : (o : Option Word) (t : Option (List ℕ)) → agrees o t ≡ type_agrees (option_of o) t
unfolding agrees type_agrees option_of name_of
agrees-same none none = refl
agrees-same none (some t) = refl
agrees-same (some w) none = refl
agrees-same (some w) (some t) = refl

module _ (hs : List Head) (rules : List OpenRule) (end : ℕ) (row : List Item) (same_names : (t : List ℕ) → is_named t rules ≡ is_named_below end t row) where
  calls-row : (i : ℕ) (ws : List Word) → shown (open_call hs rules i ws) ≡ first_shown (open_name end row i) (names_of ws)
  unfolding open_call first_shown open_name names_of name_of shown
  calls-row i [] = refl
  calls-row i (w ∷ ws) =
      shown-or (found_if (not (is_named w.text rules)) i w) (open_call hs rules i ws)
      ∙ ap (λ a. or_shown a (shown (open_call hs rules i ws))) (shown-if (not (is_named w.text rules)) i w ∙ ap (λ b. shown_if (not b) i (name_of w)) (same_names w.text))
      ∙ ap (or_shown (shown_if (not (is_named_below end w.text row)) i (name_of w))) (calls-row i ws)

  unlike-text : (i : ℕ) (aims : List Aim) (first : ℕ) (rs : List OpenRule) → shown (unlike hs rules i rs) ≡ first_shown (unlike_rule end row hs) (in_text i (view.rules_of aims first rs))
  unfolding unlike first_shown unlike_rule in_text view.rules_of rule_of shown name_of
  unlike-text i aims first [] = refl
  unlike-text i aims first (r ∷ rs) =
      let t = listed_type r.name.text hs in
      let a = found_if (not (agrees r.gives t)) i r.name in
      let b = open_call hs rules i r.calls in
      let d = unlike hs rules i rs in
      shown-or a (or b else d)
      ∙ ap (or_shown (shown a)) (shown-or b d)
      ∙ ap (λ x. or_shown x (or_shown (shown b) (shown d))) (shown-if (not (agrees r.gives t)) i r.name ∙ ap (λ x. shown_if (not x) i (name_of r.name)) (agrees-same r.gives t))
      ∙ ap (λ x. or_shown (shown_if (not (type_agrees (option_of r.gives) t)) i (name_of r.name)) (or_shown x (shown d))) (calls-row i r.calls)
      ∙ ap (λ x. or_shown (shown_if (not (type_agrees (option_of r.gives) t)) i (name_of r.name)) (or_shown (first_shown (open_name end row i) (names_of r.calls)) x)) (unlike-text i aims first rs)
      ∙ sym (or_assoc (shown_if (not (type_agrees (option_of r.gives) t)) i (name_of r.name)) (first_shown (open_name end row i) (names_of r.calls)) (first_shown (unlike_rule end row hs) (in_text i (view.rules_of aims first rs))))

  unlike-rows : (i : ℕ) (ns : List ℕ) (os : List Object) → length ns ≡ length os → shown (unlike_in hs rules i os) ≡ first_shown (unlike_rule end row hs) (row_from i (views_of ns os))
  unfolding unlike_in views_of view_of row_from first_shown shown
  unlike-rows i [] [] e = refl
  unlike-rows i [] (o ∷ os) e = absurd (omega (arith, e))
  unlike-rows i (n ∷ ns) [] e = absurd (omega (arith, e))
  unlike-rows i (n ∷ ns) (o ∷ os) e =
      shown-or (unlike hs rules i o.rules) (unlike_in hs rules (suc i) os)
      ∙ ap (λ x. or_shown x (shown (unlike_in hs rules (suc i) os))) (unlike-text i o.aims (first_pair o) o.rules)
      ∙ ap (or_shown (first_shown (unlike_rule end row hs) (in_text i (rules_in o)))) (unlike-rows (suc i) ns os (omega (arith, e)))
      ∙ sym (first-append (unlike_rule end row hs) (in_text i (rules_in o)) (row_from (suc i) (views_of ns os)))

-- every name of a row is below the number of its words
pub unlike-row : (hs : List Head) (end : ℕ) (ns : List ℕ) (os : List Object) → length ns ≡ length os → length os < end
    → shown (unlike_in hs (rules_of os) 1 os) ≡ first_shown (unlike_rule end (row_from 1 (views_of ns os)) hs) (row_from 1 (views_of ns os))
unlike-row hs end ns os e l =
    let m = as-many-views ns os e in
    unlike-rows hs (rules_of os) end (row_from 1 (views_of ns os))
    (λ t. named-row t 1 ns os e ∙ sym (all-below 1 end t (row_from 1 (views_of ns os)) (row-between 1 end 1 (views_of ns os) (omega arith) (omega (arith, m, l))))) 1 ns os e

-- 50

module _ (row : List Item) where
  twice-text : (before : List OpenRule) (i : ℕ) → ((t : List ℕ) → is_named t before ≡ is_named_below i t row) → (aims : List Aim) (first : ℕ) (rs : List OpenRule)
      → shown (twice before i rs) ≡ first_shown (twice_rule row) (in_text i (view.rules_of aims first rs))
  unfolding twice first_shown twice_rule in_text view.rules_of rule_of shown name_of
  twice-text before i h aims first [] = refl
  twice-text before i h aims first (r ∷ rs) =
      shown-or (found_if (is_named r.name.text before) i r.name) (twice before i rs)
      ∙ ap (λ x. or_shown x (shown (twice before i rs))) (shown-if (is_named r.name.text before) i r.name ∙ ap (λ b. shown_if b i (name_of r.name)) (h r.name.text))
      ∙ ap (or_shown (shown_if (is_named_below i r.name.text row) i (name_of r.name))) (twice-text before i h aims first rs)

  -- earlier: the row before the text i
  twice-rows : (before : List OpenRule) (i : ℕ) (earlier : List Item) (ns : List ℕ) (os : List Object) → length ns ≡ length os → row ≡ earlier ++ row_from i (views_of ns os) → Each (Between 0 i) earlier
      → ((t : List ℕ) → is_named t before ≡ is_named_any t earlier) → shown (twice_in before i os) ≡ first_shown (twice_rule row) (row_from i (views_of ns os))
  unfolding twice_in views_of view_of row_from first_shown shown Each
  twice-rows before i earlier [] [] e d h g = refl
  twice-rows before i earlier [] (o ∷ os) e d h g = absurd (omega (arith, e))
  twice-rows before i earlier (n ∷ ns) [] e d h g = absurd (omega (arith, e))
  twice-rows before i earlier (n ∷ ns) (o ∷ os) e d h g =
      let here = in_text i (rules_in o) in
      let more = row_from (suc i) (views_of ns os) in
      shown-or (twice before i o.rules) (twice_in (before ++ o.rules) (suc i) os)
      ∙ ap (λ x. or_shown x (shown (twice_in (before ++ o.rules) (suc i) os))) (twice-text before i named o.aims (first_pair o) o.rules)
      ∙ ap (or_shown (first_shown (twice_rule row) here))
      (twice-rows (before ++ o.rules) (suc i) (earlier ++ here) ns os (omega (arith, e)) (d ∙ sym (append_assoc earlier here more))
      (each_append (Between 0 (suc i)) earlier here (wider earlier h) (text-between 0 (suc i) i (rules_in o) (omega arith) (omega arith)))
      (λ t. named-append t before o.rules ∙ ap (λ b. b || is_named t o.rules) (g t) ∙ ap (λ b. is_named_any t earlier || b) (named-text t i o.aims (first_pair o) o.rules) ∙ sym (any_append t earlier here)))
      ∙ sym (first-append (twice_rule row) here more)
    where
      wider : (xs : List Item) → Each (Between 0 i) xs → Each (Between 0 (suc i)) xs
      wider [] x = tt
      wider (y ∷ xs) x = let b = x.0.below in (record { from = x.0.from; below = omega (arith, b) }, wider xs x.1)

      orf : (b : Bool) → (b || false) ≡ b
      orf true = refl
      orf false = refl

      named : (t : List ℕ) → is_named t before ≡ is_named_below i t row
      named t =
          g t ∙ sym (all-below 0 i t earlier h) ∙ sym (orf (is_named_below i t earlier))
          ∙ ap (λ b. is_named_below i t earlier || b) (sym (none_below i (i + length (views_of (n ∷ ns) (o ∷ os))) t (row_from i (views_of (n ∷ ns) (o ∷ os))) (row-between i (i + length (views_of (n ∷ ns) (o ∷ os))) i (views_of (n ∷ ns) (o ∷ os)) (omega arith) (omega arith))))
          ∙ sym (below-append i t earlier (row_from i (views_of (n ∷ ns) (o ∷ os)))) ∙ ap (is_named_below i t) (sym d)

pub twice-row : (ns : List ℕ) (os : List Object) → length ns ≡ length os → shown (twice_in [] 1 os) ≡ first_shown (twice_rule (row_from 1 (views_of ns os))) (row_from 1 (views_of ns os))
unfolding Each is_named is_named_any
twice-row ns os e = twice-rows (row_from 1 (views_of ns os)) [] 1 [] ns os e refl tt (λ t. refl)

-- 9

past-append : (left : ℕ) (xs ys : List Item) → past_row left (xs ++ ys) ≡ or_shown (past_row left xs) (past_row (left - length xs) ys)
unfolding past_row or_shown
past-append left [] ys = let z : left - 0 ≡ left = omega arith in ap (λ k. past_row k ys) (sym z)
past-append zero (x ∷ xs) ys = refl
past-append (suc left) (x ∷ xs) ys = let z : suc left - suc (length xs) ≡ left - length xs = omega arith in past-append left xs ys ∙ ap (λ k. or_shown (past_row left xs) (past_row k ys)) (sym z)

past-text : (left i : ℕ) (aims : List Aim) (first : ℕ) (rs : List OpenRule) → shown (past_limit left i rs) ≡ past_row left (in_text i (view.rules_of aims first rs))
unfolding past_limit past_row in_text view.rules_of rule_of shown name_of
past-text zero i aims first [] = refl
past-text (suc left) i aims first [] = refl
past-text zero i aims first (r ∷ rs) = refl
past-text (suc left) i aims first (r ∷ rs) = past-text left i aims first rs

pub past-rows : (left i : ℕ) (ns : List ℕ) (os : List Object) → length ns ≡ length os → shown (past_limit_in left i os) ≡ past_row left (row_from i (views_of ns os))
unfolding past_limit_in views_of view_of row_from past_row shown
past-rows left i [] [] e = refl
past-rows left i [] (o ∷ os) e = absurd (omega (arith, e))
past-rows left i (n ∷ ns) [] e = absurd (omega (arith, e))
past-rows left i (n ∷ ns) (o ∷ os) e =
    let size : length (in_text i (rules_in o)) ≡ length o.rules = text-length i (rules_in o) ∙ rules-length o.aims (first_pair o) o.rules in
    shown-or (past_limit left i o.rules) (past_limit_in (left - length o.rules) (suc i) os)
    ∙ ap (λ x. or_shown x (shown (past_limit_in (left - length o.rules) (suc i) os))) (past-text left i o.aims (first_pair o) o.rules)
    ∙ ap (or_shown (past_row left (in_text i (rules_in o)))) (past-rows (left - length o.rules) (suc i) ns os (omega (arith, e)) ∙ ap (λ k. past_row (left - k) (row_from (suc i) (views_of ns os))) (sym size))
    ∙ sym (past-append left (in_text i (rules_in o)) (row_from (suc i) (views_of ns os)))
