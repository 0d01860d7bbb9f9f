-- The rules of all objects in one row, each with the number of its text, and the checks of linking over that row.
use Rattle.std.specs.Prelude.{Bool, true, false, ◌&&◌, ◌||◌, not, List, [], ◌∷◌, ◌++◌, ℕ, zero, suc, ltb, if◌then◌else◌}
use Rattle.std.proofs.Math.Option.{Option, none, some}
use Rattle.base.specs.Common.{same, given}
use Rattle.objects.specs.View.{Name, RuleView, View}
use Rattle.parts.specs.Link.{listed_type}
use Rattle.syntax.specs.Texts.{Head}

pub record Item : Type 0 where
  pub text : ℕ
  pub rule : RuleView

unfoldable pub in_text : ℕ → List RuleView → List Item
in_text i [] = []
in_text i (r ∷ rs) = record { text = i; rule = r } ∷ in_text i rs

-- of objects, the first of which is of text i
unfoldable pub row_from : ℕ → List View → List Item
row_from i [] = []
row_from i (v ∷ vs) = in_text i v.rules ++ row_from (suc i) vs

-- the part's size in the last object, s where there is none
unfoldable pub last_size : ℕ → List View → ℕ
last_size s [] = s
last_size s (v ∷ vs) = last_size v.size vs

-- a name, and the text that shows it
pub record Shown : Type 0 where
  pub text : ℕ
  pub name : Name

unfoldable pub shown_if : Bool → ℕ → Name → Option Shown
shown_if true i n = some (record { text = i; name = n })
shown_if false i n = none

-- what the first shows, else the second
unfoldable pub or_shown : Option Shown → Option Shown → Option Shown
or_shown none b = b
or_shown (some s) b = some s

unfoldable pub first_shown : {A : Type 0} → (A → Option Shown) → List A → Option Shown
first_shown f [] = none
first_shown f (a ∷ as') = or_shown (f a) (first_shown f as')

-- a rule of a text before the text `below` has the name
unfoldable pub is_named_below : ℕ → List ℕ → List Item → Bool
is_named_below below t [] = false
is_named_below below t (x ∷ xs) = (ltb x.text below && same t x.rule.name.text) || is_named_below below t xs

unfoldable pub type_agrees : Option Name → Option (List ℕ) → Bool
type_agrees none none = true
type_agrees none (some t) = false
type_agrees (some n) none = false
type_agrees (some n) (some t) = same n.text t

-- the list's line with the name, the number of lines where there is none
unfoldable pub line_of : List ℕ → List Head → ℕ
line_of t [] = 0
line_of t (h ∷ hs) = let later = suc (line_of t hs) in if same t h.rule.text then 0 else later

-- the first rule has a type
unfoldable pub typed_first : List Item → Option Shown
typed_first [] = none
typed_first (x ∷ xs) = shown_if (given x.rule.gives) 1 x.rule.name

-- the first rule past so many
unfoldable pub past_row : ℕ → List Item → Option Shown
past_row left [] = none
past_row zero (x ∷ xs) = some (record { text = x.text; name = x.rule.name })
past_row (suc left) (x ∷ xs) = past_row left xs

-- in a row of rules of texts before the text `end`
module _ (end : ℕ) (row : List Item) where
  -- a call of a name that no rule has
  unfoldable pub open_name : ℕ → Name → Option Shown
  open_name i n = shown_if (not (is_named_below end n.text row)) i n

  -- a rule of another sort or type than the list says, else its first such call
  unfoldable pub unlike_rule : List Head → Item → Option Shown
  unlike_rule hs x =
      or_shown (shown_if (not (type_agrees x.rule.gives (listed_type x.rule.name.text hs))) x.text x.rule.name)
      (first_shown (open_name x.text) x.rule.calls)

-- a rule whose name a text before its own has
unfoldable pub twice_rule : List Item → Item → Option Shown
twice_rule row x = shown_if (is_named_below x.text x.rule.name.text row) x.text x.rule.name

-- all of this file computes where this is unfolded
unfoldable pub opened : Unit {0}
unfolding in_text row_from last_size shown_if or_shown first_shown is_named_below type_agrees line_of typed_first past_row open_name unlike_rule twice_rule
opened = tt
