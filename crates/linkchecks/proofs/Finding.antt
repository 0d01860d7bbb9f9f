-- What stands at a rule: its name, its type, the names of its calls; and how a pass over the row goes on.
use mathlib.Core.Bool.{Bool, true, false, ◌&&◌, not}
use mathlib.Core.List.{List, [], ◌∷◌, ◌++◌, append_assoc}
use mathlib.Core.Option.{Option, none, some}
use mathlib.Core.Path.{◌≡◌, refl, sym, ap, ◌∙◌, subst}
use native.Mathlib.Omega.{arith}
use Prim.Native.Nat.{ℕ, zero, suc, ◌+◌, ◌-◌, ◌*◌, ◌/◌, ◌<◌, ◌≤◌}
use lib.Dec.{ltb}
use lib.ListN.{length, get_or, take, drop, length-drop}
use lib.Seq.{drop-drop, get_or-drop}
use Rattle.base.specs.Bools as bools
use Rattle.base.specs.Common.{same}
use Rattle.std.specs.Prelude as code
use Rattle.objects.proofs.Called.{gives-there}
use Rattle.objects.proofs.Looked.{ends-took, not-none, name-at}
use Rattle.objects.proofs.TakeLaws.{times-exact}
use Rattle.objects.proofs.Views.{name-exact}
use Rattle.objects.specs.Places.{Ends, NameAt, HeadsAt, text_at, type_at}
use Rattle.objects.specs.Take.{took, times}
use Rattle.objects.specs.View.{Name, RuleView, View, name_words, option_words, rule_words, all, a_name}
use Rattle.parts.specs.Link.{listed_type}
use Rattle.syntax.specs.Texts.{Head}
use Rattle.linkchecks.specs.Checks.{IsAt, Shows}
use Rattle.linkchecks.specs.Row.{Item, Shown, shown_if, or_shown, first_shown, is_named_below, type_agrees, line_of, typed_first, past_row, open_name, unlike_rule, twice_rule}
use Rattle.linkchecks.specs.Walk.{Stands}
use Rattle.linkchecks.specs.declared.Cursor.{Cursor}
use Rattle.linkchecks.specs.declared.Found.{Found}
use Rattle.linkchecks.proofs.Walking.{before-end, steps, Still, Heads, heads, still-none}

-- A name

pub found-is : (words : List ℕ) (text p start len : ℕ) (n : Name) (k : List ℕ) → drop p words ≡ name_words n ++ k → start ≡ get_or words p 0 → len ≡ get_or words (p + 1) 0
    → IsAt text n.start (length n.text) (record { text = text; start = start; len = len })
unfolding name_words
found-is words text p start len n k e s l = record { text_is = refl; start_is = s ∙ ap (λ i. get_or words i 0) (sym none_more) ∙ sym (get_or-drop p words 0 0) ∙ ap (λ (us : List ℕ). get_or us 0 0) e; len_is = l ∙ (name-at words p n k e).size }
  where
    none_more : p + 0 ≡ p
    none_more = omega arith

-- what is found there shows it
pub shows-some : {text : ℕ} (n : Name) (r : Found) → IsAt text n.start (length n.text) r → Shows (some (record { text = text; name = n })) (code.Some r)
unfolding Shows
shows-some n r h = h

name-some : (n : Name) → 1 ≤ length (name_words n)
unfolding name_words
name-some n = omega arith

pub name-ahead : {words : List ℕ} {at r : ℕ} → Ends a_name words at (code.Some r) → at ≤ length words → at < r
name-ahead y l = before-end name-exact name-some y l

-- A rule

-- the words behind its name
abbrev behind_name : RuleView → List ℕ → List ℕ
behind_name v k = (option_words v.gives ++ (length v.calls ∷ (all name_words v.calls ++ (length v.cells ∷ v.cells)))) ++ k

pub rule-name : (words : List ℕ) (at : ℕ) (v : RuleView) (k : List ℕ) → drop at words ≡ rule_words v ++ k → drop at words ≡ name_words v.name ++ behind_name v k
unfolding rule_words
rule-name words at v k e = e ∙ append_assoc (name_words v.name) (option_words v.gives ++ (length v.calls ∷ (all name_words v.calls ++ (length v.cells ∷ v.cells)))) k

pub rule-named : (words : List ℕ) (at : ℕ) (v : RuleView) (k : List ℕ) → drop at words ≡ rule_words v ++ k → NameAt words at v.name
rule-named words at v k e = name-at words at v.name (behind_name v k) (rule-name words at v k e)

-- its type, as the words at g tell it
pub record GivesAt (words : List ℕ) (o : Option Name) (g : ℕ) : Type 0 where
  pub inside : g < length words
  pub absent : get_or words g 0 ≡ 0 → o ≡ none
  pub present : (get_or words g 0 ≡ 0 → ⊥) → (n : Name) × ((o ≡ some n) × NameAt words (g + 1) n)

gives_of : (words : List ℕ) (o : Option Name) (g : ℕ) (k : List ℕ) → option_words o ++ k ≡ drop g words → GivesAt words o g
unfolding option_words
gives_of words o g k e = go o e
  where
    word : (x : ℕ) (ws : List ℕ) → x ∷ ws ≡ drop g words → (g < length words) × (get_or words g 0 ≡ x)
    word x ws d =
        let a = length-drop g words in
        let b = ap length d in
        let z : g + 0 ≡ g = omega arith in
        (omega (arith, a, b), ap (λ i. get_or words i 0) (sym z) ∙ sym (get_or-drop g words 0 0) ∙ ap (λ (us : List ℕ). get_or us 0 0) (sym d))

    go : (o : Option Name) → option_words o ++ k ≡ drop g words → GivesAt words o g
    go none d = let h = word 0 k d in record { inside = h.0; absent = λ _. refl; present = λ f. absurd (f h.1) }
    go (some n) d =
        let h = word 1 (name_words n ++ k) d in
        let b = h.1 in
        record {
          inside = h.0;
          absent = λ z. absurd (omega (arith, b, z));
          present = λ _. (n, (refl, name-at words (g + 1) n k (sym (drop-drop 1 g words) ∙ ap (λ (us : List ℕ). drop 1 us) (sym d))));
        }

pub gives_at : (words : List ℕ) (at g : ℕ) (v : RuleView) (k : List ℕ) → drop at words ≡ rule_words v ++ k → Ends a_name words at (code.Some g) → GivesAt words v.gives g
gives_at words at g v k e y =
    let z = ends-took v.name (behind_name v k) (ap a_name (rule-name words at v k e) ∙ name-exact.back v.name tt (behind_name v k)) y in
    let calls = length v.calls ∷ (all name_words v.calls ++ (length v.cells ∷ v.cells)) in
    gives_of words v.gives g (calls ++ k) (sym (append_assoc (option_words v.gives) calls k) ∙ z.0)

-- What a pass over the row shows

pub shows-none : (o : Option Shown) → o ≡ none → Shows o code.None
unfolding Shows
shows-none o e = rw e refl

shows_left : (a b : Option Shown) (r : code.Option Found) → Shows a r → code.is_some r ≡ true → Shows (or_shown a b) r
unfolding Shows or_shown
shows_left none b r x e = bools.never (rw x at e)
shows_left (some s) b r x e = x

shows-right : (a b : Option Shown) (r : code.Option Found) → Shows a r → code.is_some r ≡ false → or_shown a b ≡ b
unfolding Shows or_shown
shows-right none b r x e = refl
shows-right (some s) b (code.Some f) x e = bools.never (sym e)
shows-right (some s) b code.None x e = absurd x

-- the first rule has a type
pub record TypedIs (words : List ℕ) (row : List Item) (c : Cursor) : Type 0 where
  pub name : Name
  pub tail : List ℕ
  pub here : drop c.at words ≡ name_words name ++ tail
  pub is : typed_first row ≡ some (record { text = 1; name = name })

module _ {common words : List ℕ} {vs : List View} where
  -- the words of the rule at the cursor
  pub stands-rule : {c : Cursor} {x : Item} {row : List Item} → Stands common words vs c (x ∷ row) → (k : List ℕ) × (drop c.at words ≡ rule_words x.rule ++ k)
  stands-rule s = let h = steps s in (_, h.here)

  pub stands-named : {c : Cursor} {x : Item} {row : List Item} → Stands common words vs c (x ∷ row) → NameAt words c.at x.rule.name
  stands-named {c} {x} s = let h = stands-rule s in rule-named words c.at x.rule h.0 h.1

  pub stands-name : {c : Cursor} {x : Item} {row : List Item} → Stands common words vs c (x ∷ row) → (k : List ℕ) × (drop c.at words ≡ name_words x.rule.name ++ k)
  stands-name {c} {x} s = let h = stands-rule s in (_, rule-name words c.at x.rule h.0 h.1)

  pub stands-text : {c : Cursor} {x : Item} {row : List Item} → Stands common words vs c (x ∷ row) → x.text ≡ c.text
  stands-text s = (steps s).text_is

  module _ (f : Item → Option Shown) {b : Option Shown} {c : Cursor} where
    pub shown-here : (x : Heads common words vs (first_shown f) b c) (r : code.Option Found) → Shows (f x.first) r → code.is_some r ≡ true → Shows b r
    unfolding first_shown
    shown-here x r h e = subst (λ o. Shows o r) (sym x.is) (shows_left (f x.first) (first_shown f x.later) r h e)

    pub shown-later : (x : Heads common words vs (first_shown f) b c) (r : code.Option Found) → Shows (f x.first) r → code.is_some r ≡ false → (c₁ : Cursor) → Stands common words vs c₁ x.later
        → Still common words vs (first_shown f) b c₁
    unfolding first_shown
    shown-later x r h e c₁ s = record { row = x.later; stands = s; is = x.is ∙ shows-right (f x.first) (first_shown f x.later) r h e }

    pub shown-some : (x : Heads common words vs (first_shown f) b c) (r : code.Option Found) (s : Shown) → f x.first ≡ some s → Shows (some s) r → Shows b r
    unfolding first_shown or_shown
    shown-some x r s e h = subst (λ o. Shows o r) (sym (x.is ∙ ap (λ o. or_shown o (first_shown f x.later)) e)) h

    pub shown-passed : (x : Heads common words vs (first_shown f) b c) → f x.first ≡ none → (c₁ : Cursor) → Stands common words vs c₁ x.later → Still common words vs (first_shown f) b c₁
    unfolding first_shown or_shown
    shown-passed x e c₁ s = record { row = x.later; stands = s; is = x.is ∙ ap (λ o. or_shown o (first_shown f x.later)) e }

    pub shown-none : Still common words vs (first_shown f) b c → length words ≤ c.at → Shows b code.None
    unfolding first_shown
    shown-none x l = shows-none b (still-none x l)

  -- Names of rules

  module _ (below : ℕ) (t : List ℕ) {b : Bool} {c : Cursor} (x : Heads common words vs (is_named_below below t) b c) (r : Bool) (e : r ≡ (ltb c.text below && same t x.first.rule.name.text)) where
    pub named_here : r ≡ true → true ≡ b
    unfolding is_named_below
    named_here d = sym (x.is ∙ rw (stands-text x.stands, ← e, d))

    pub named-later : r ≡ false → (c₁ : Cursor) → Stands common words vs c₁ x.later → Still common words vs (is_named_below below t) b c₁
    unfolding is_named_below
    named-later d c₁ s = record { row = x.later; stands = s; is = x.is ∙ rw (stands-text x.stands, ← e, d) }

  pub named_none : (below : ℕ) (t : List ℕ) {b : Bool} {c : Cursor} → Still common words vs (is_named_below below t) b c → length words ≤ c.at → false ≡ b
  unfolding is_named_below
  named_none below t x l = sym (still-none x l)

  -- The first rule's type

  pub untyped : {c : Cursor} {row : List Item} → Stands common words vs c row → Ends a_name words c.at code.None → typed_first row ≡ none
  unfolding typed_first
  untyped {c} {row} s y = go row s
    where
      go : (row : List Item) → Stands common words vs c row → typed_first row ≡ none
      go [] s = refl
      go (x ∷ row) s = let h = stands-rule s in absurd (gives-there words c.at x.rule h.0 h.1 y)

  module _ {c : Cursor} {row : List Item} (s : Stands common words vs c row) {g : ℕ} (y : Ends a_name words c.at (code.Some g)) where
    pub typed-outside : length words ≤ g → typed_first row ≡ none
    unfolding typed_first
    typed-outside l = go row s
      where
        go : (row : List Item) → Stands common words vs c row → typed_first row ≡ none
        go [] s = refl
        go (x ∷ row) s = let h = stands-rule s in let i = (gives_at words c.at g x.rule h.0 h.1 y).inside in absurd (omega (arith, i, l))

    pub typed-not : get_or words g 0 ≡ 0 → typed_first row ≡ none
    unfolding typed_first shown_if
    typed-not z = go row s
      where
        go : (row : List Item) → Stands common words vs c row → typed_first row ≡ none
        go [] s = refl
        go (x ∷ row) s = let h = stands-rule s in rw ((gives_at words c.at g x.rule h.0 h.1 y).absent z)

    pub typed-is : g < length words → c.at ≤ length words → (get_or words g 0 ≡ 0 → ⊥) → TypedIs words row c
    unfolding typed_first shown_if
    typed-is l m z =
        let n = name-ahead y m in
        let x : Heads common words vs typed_first (typed_first row) c = heads (record { row = row; stands = s; is = refl }) (omega (arith, n, l)) in
        go x
      where
        go : Heads common words vs typed_first (typed_first row) c → TypedIs words row c
        go x =
            let h = stands-rule x.stands in
            let k = stands-name x.stands in
            let i = (gives_at words c.at g x.first.rule h.0 h.1 y).present z in
            record { name = x.first.rule.name; tail = k.0; here = k.1; is = x.is ∙ rw i.1.0 }

  -- The limit

  module _ (left : ℕ) {b : Option Shown} {c : Cursor} where
    pub limit-here : (i : ℕ) (x : Heads common words vs (past_row (left - i)) b c) (r : code.Option Found) → i ≡ left → Shows (some (record { text = c.text; name = x.first.rule.name })) r → Shows b r
    unfolding past_row
    limit-here i x r e h =
        let z : left - i ≡ 0 = omega (arith, e) in
        subst (λ o. Shows o r) (sym (x.is ∙ ap (λ k. past_row k (x.first ∷ x.later)) z ∙ ap (λ t. some (record { text = t; name = x.first.rule.name })) (stands-text x.stands))) h

    pub limit-later : (i : ℕ) (x : Heads common words vs (past_row (left - i)) b c) → i < left → (c₁ : Cursor) → Stands common words vs c₁ x.later → Still common words vs (past_row (left - (i + 1))) b c₁
    unfolding past_row
    limit-later i x l c₁ s = let z : left - i ≡ suc (left - (i + 1)) = omega (arith, l) in record { row = x.later; stands = s; is = x.is ∙ ap (λ k. past_row k (x.first ∷ x.later)) z }

    pub limit-none : (i : ℕ) → Still common words vs (past_row (left - i)) b c → length words ≤ c.at → b ≡ none
    unfolding past_row
    limit-none i x l = still-none x l ∙ none_of (left - i)
      where
        none_of : (k : ℕ) → past_row k [] ≡ none
        none_of zero = refl
        none_of (suc k) = refl

pub limit-start : (left : ℕ) (row : List Item) → past_row left row ≡ past_row (left - 0) row
limit-start left row = let z : left - 0 ≡ left = omega arith in ap (λ k. past_row k row) (sym z)

-- The list

line-near : (t : List ℕ) (hs : List Head) → line_of t hs ≤ length hs
unfolding line_of
line-near t [] = omega arith
line-near t (h ∷ hs) = go (line-near t hs) (same t h.rule.text) refl
  where
    go : line_of t hs ≤ length hs → (b : Bool) → same t h.rule.text ≡ b → line_of t (h ∷ hs) ≤ suc (length hs)
    go k true e = rw e (omega arith)
    go k false e = rw e (omega (arith, k))

listed-none : (t : List ℕ) (hs : List Head) → line_of t hs ≡ length hs → listed_type t hs ≡ none
unfolding line_of listed_type
listed-none t [] e = refl
listed-none t (h ∷ hs) e = go (λ d. listed-none t hs d) (same t h.rule.text) refl
  where
    go : (line_of t hs ≡ length hs → listed_type t hs ≡ none) → (b : Bool) → same t h.rule.text ≡ b → listed_type t (h ∷ hs) ≡ none
    go f true d = absurd (zero-not (rw d at e))
      where
        zero-not : 0 ≡ suc (length hs) → ⊥
        zero-not z = omega (arith, z)
    go f false d = rw d (f (less (rw d at e)))
      where
        less : suc (line_of t hs) ≡ suc (length hs) → line_of t hs ≡ length hs
        less z = omega (arith, z)

listed-some : (t : List ℕ) (hs : List Head) → line_of t hs < length hs → listed_type t hs ≡ some (type_at hs (line_of t hs))
unfolding line_of listed_type type_at
listed-some t [] l = absurd (omega (arith, l))
listed-some t (h ∷ hs) l = go (λ d. listed-some t hs d) (same t h.rule.text) refl
  where
    go : (line_of t hs < length hs → listed_type t hs ≡ some (type_at hs (line_of t hs))) → (b : Bool) → same t h.rule.text ≡ b → listed_type t (h ∷ hs) ≡ some (type_at (h ∷ hs) (line_of t (h ∷ hs)))
    go f true d = rw d
    go f false d = rw d (f (less (rw d at l)))
      where
        less : suc (line_of t hs) < suc (length hs) → line_of t hs < length hs
        less z = omega (arith, z)

-- a line passed has another name
pub line-none : (t : List ℕ) (hs : List Head) (i : ℕ) → length hs ≤ i → line_of t (drop i hs) ≡ 0
unfolding line_of
line-none t [] zero l = refl
line-none t [] (suc i) l = refl
line-none t (h ∷ hs) zero l = absurd (omega (arith, l))
line-none t (h ∷ hs) (suc i) l = line-none t hs i (omega (arith, l))

pub line-found : (t : List ℕ) (hs : List Head) (i : ℕ) → i < length hs → same t (text_at hs i) ≡ true → line_of t (drop i hs) ≡ 0
unfolding line_of text_at
line-found t [] i l e = absurd (omega (arith, l))
line-found t (h ∷ hs) zero l e = rw e
line-found t (h ∷ hs) (suc i) l e = line-found t hs i (omega (arith, l)) e

pub line-later : (t : List ℕ) (hs : List Head) (i : ℕ) → i < length hs → same t (text_at hs i) ≡ false → line_of t (drop i hs) ≡ suc (line_of t (drop (i + 1) hs))
unfolding line_of text_at
line-later t [] i l e = absurd (omega (arith, l))
line-later t (h ∷ hs) zero l e = rw e
line-later t (h ∷ hs) (suc i) l e =
    let d : suc i + 1 ≡ suc (i + 1) = omega arith in
    line-later t hs i (omega (arith, l)) e ∙ ap (λ j. suc (line_of t (drop j (h ∷ hs)))) (sym d)

module _ {common heads : List ℕ} {hs : List Head} (x : HeadsAt common heads hs) (o : Option Name) (t : List ℕ) where
  lines : length heads / 4 ≡ length hs
  lines = let m = x.as_many in omega (arith, m)

  pub untyped-agrees : (r : code.Option ℕ) (b : Bool) → code.is_some r ≡ not b → code.IfSome r (λ i. i < length heads / 4) → code.unwrap_or r (length heads / 4) ≡ line_of t hs → o ≡ none → b ≡ type_agrees o (listed_type t hs)
  unfolding type_agrees
  untyped-agrees code.None true e l d z = let m = lines in rw (z, listed-none t hs (omega (arith, d, m)))
  untyped-agrees (code.Some i) false e l d z = let m = lines in rw (z, listed-some t hs (omega (arith, d, l, m)))
  untyped-agrees code.None false e l d z = bools.never e
  untyped-agrees (code.Some i) true e l d z = bools.never (sym e)

  pub unlisted-not : (n : Name) (r : code.Option ℕ) → r ≡ code.None → code.unwrap_or r (length heads / 4) ≡ line_of t hs → o ≡ some n → false ≡ type_agrees o (listed_type t hs)
  unfolding type_agrees
  unlisted-not n r e d z = let m = lines in let k : length heads / 4 ≡ line_of t hs = rw e at d in rw (z, listed-none t hs (omega (arith, k, m)))

  pub typed-agrees : (n : Name) (line start size : ℕ) (b : Bool) → line < length heads / 4 → line ≡ line_of t hs → o ≡ some n → start ≡ get_or heads (4 * line + 2) 0 → size ≡ get_or heads (4 * line + 3) 0
      → (start + size ≤ length common → b ≡ same n.text (take size (drop start common))) → b ≡ type_agrees o (listed_type t hs)
  unfolding type_agrees
  typed-agrees n line start size b l d z ds dz h =
      let m = lines in
      let i : line < length hs = omega (arith, m, l) in
      let a = x.types_inside line i in
      h (omega (arith, a, ds, dz))
      ∙ ap (same n.text) (ap (λ k. take k (drop start common)) dz ∙ ap (λ k. take (get_or heads (4 * line + 3) 0) (drop k common)) ds ∙ sym (x.types line i))
      ∙ ap (λ k. same n.text (type_at hs k)) d
      ∙ rw (z, listed-some t hs (omega (arith, i, d)))

-- Names one behind the other, of which the first that f shows is sought

module _ (words : List ℕ) (f : Name → Option Shown) (b : Option Shown) (rest : List ℕ) where
  pub record Asking (m q : ℕ) : Type 0 where
    pub left : List Name
    pub taken : times m a_name (drop q words) ≡ took left rest
    pub is : b ≡ first_shown f left

  pub record Asks (m q : ℕ) : Type 0 where
    pub first : Name
    pub later : List Name
    pub tail : List ℕ
    pub here : drop q words ≡ name_words first ++ tail
    pub is : b ≡ or_shown (f first) (first_shown f later)
    pub there : Ends a_name words q code.None → ⊥
    pub behind : (r : ℕ) → Ends a_name words q (code.Some r) → (r ≤ length words) × (times m a_name (drop r words) ≡ took later rest)

module _ {words : List ℕ} {f : Name → Option Shown} {b : Option Shown} {rest : List ℕ} where
  pub asking : {m q : ℕ} (n at : ℕ) (ns : List Name) → m ≡ n → q ≡ at → times n a_name (drop at words) ≡ took ns rest → b ≡ first_shown f ns → Asking words f b rest m q
  asking n at ns d g e h = record { left = ns; taken = rw (d, g) e; is = h }

  pub asked-all : {m q : ℕ} → Asking words f b rest m q → m ≡ 0 → Shows b code.None
  unfolding first_shown
  asked-all {m} {q} x e = go x.left ((times-exact name-exact m).forth (drop q words) x.left rest x.taken).1 x.is
    where
      go : (ns : List Name) → length ns ≡ m → b ≡ first_shown f ns → Shows b code.None
      go [] l h = shows-none b h
      go (n ∷ ns) l h = absurd (omega (arith, l, e))

  asks-suc : {m q : ℕ} → Asking words f b rest (suc m) q → Asks words f b rest m q
  unfolding first_shown all
  asks-suc {m} {q} x =
      let y = (times-exact name-exact (suc m)).forth (drop q words) x.left rest x.taken in
      go x.left y.0 y.1 x.is
    where
      go : (ns : List Name) → drop q words ≡ all name_words ns ++ rest → length ns ≡ suc m → b ≡ first_shown f ns → Asks words f b rest m q
      go [] e l h = absurd (omega (arith, l))
      go (n ∷ ns) e l h =
          let more = all name_words ns ++ rest in
          let here : drop q words ≡ name_words n ++ more = e ∙ append_assoc (name_words n) (all name_words ns) rest in
          record {
            first = n;
            later = ns;
            tail = more;
            here = here;
            is = h;
            there = not-none n more (ap a_name here ∙ name-exact.back n tt more);
            behind = λ r y.
                let z = ends-took n more (ap a_name here ∙ name-exact.back n tt more) y in
                (z.1, ap (times m a_name) (sym z.0) ∙ (times-exact name-exact m).back ns (omega (arith, l)) rest);
          }

  pub asks : {m q : ℕ} (m₁ : ℕ) → Asking words f b rest m q → m ≡ suc m₁ → Asks words f b rest m₁ q
  asks m₁ x e = asks-suc (rw e at x)

  -- a name that no rule has, and one that a rule has
  pub asked_here : {m q : ℕ} (x : Asks words f b rest m q) (r : code.Option Found) (s : Shown) → f x.first ≡ some s → Shows (some s) r → Shows b r
  unfolding or_shown
  asked_here x r s e h = subst (λ o. Shows o r) (sym (x.is ∙ ap (λ o. or_shown o (first_shown f x.later)) e)) h

  pub asked-passed : {m q : ℕ} (x : Asks words f b rest m q) → f x.first ≡ none → (r : ℕ) → Ends a_name words q (code.Some r) → Asking words f b rest m r
  unfolding or_shown
  asked-passed x e r y = record { left = x.later; taken = (x.behind r y).1; is = x.is ∙ ap (λ o. or_shown o (first_shown f x.later)) e }

module _ (end : ℕ) (row : List Item) (i : ℕ) (n : Name) (t : Bool) (below : ℕ) (d : below ≡ end) (e : t ≡ is_named_below below n.text row) where
  pub open-some : t ≡ false → open_name end row i n ≡ some (record { text = i; name = n })
  unfolding open_name shown_if
  open-some z = rw (← d, ← e, z)

  pub open_none : t ≡ true → open_name end row i n ≡ none
  unfolding open_name shown_if
  open_none z = rw (← d, ← e, z)

-- A rule by the list, and its calls

module _ (end : ℕ) (row : List Item) (hs : List Head) (x : Item) (text : ℕ) (d : x.text ≡ text) (t : Bool) (e : t ≡ type_agrees x.rule.gives (listed_type x.rule.name.text hs)) (r : code.Option Found) where
  pub unlike-here : t ≡ false → Shows (some (record { text = text; name = x.rule.name })) r → Shows (unlike_rule end row hs x) r
  unfolding unlike_rule shown_if or_shown
  unlike-here z h = rw (← e, z, d) h

  pub unlike-calls : t ≡ true → Shows (first_shown (open_name end row text) x.rule.calls) r → Shows (unlike_rule end row hs x) r
  unfolding unlike_rule shown_if or_shown
  unlike-calls z h = rw (← e, z, d) h

module _ (row : List Item) (x : Item) (text : ℕ) (d : x.text ≡ text) (t : Bool) (e : t ≡ is_named_below text x.rule.name.text row) where
  pub twice-some : t ≡ true → twice_rule row x ≡ some (record { text = text; name = x.rule.name })
  unfolding twice_rule shown_if
  twice-some z = rw (d, ← e, z)

  pub twice-none : t ≡ false → twice_rule row x ≡ none
  unfolding twice_rule shown_if
  twice-none z = rw (d, ← e, z)
