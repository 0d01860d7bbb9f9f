-- A cursor that goes over the words of objects from rule to rule: what is left of the row of rules where it stands.
use Rattle.std.specs.Prelude.{List, [], ◌++◌, ◌≡◌, ℕ, suc, ◌+◌, length, drop}
use Rattle.acceptance.proofs.Shape.{Each, NotEmpty}
use Rattle.objects.specs.View.{RuleView, View, all, rule_words, view_words}
use Rattle.linkchecks.specs.Row.{Item, in_text, row_from, last_size}
use Rattle.linkchecks.specs.declared.Cursor.{Cursor}

abbrev pub Ruled : View → Type 0
Ruled v = NotEmpty v.rules

-- the words are those of views, each with a rule
pub record Viewed (common words : List ℕ) (vs : List View) : Type 0 where
  pub are : words ≡ all (view_words common) vs
  pub ruled : Each Ruled vs

-- before an object or at the end of the words: these views are left
pub record Before (common words : List ℕ) (vs : List View) (c : Cursor) (left : List View) : Type 0 where
  pub here : drop c.at words ≡ all (view_words common) left
  pub ruled : Each Ruled left
  pub count : c.text + length left ≡ length vs
  pub last : last_size c.size left ≡ last_size 0 vs

-- at a rule or at the end of the words: this row is left
pub record Stands (common words : List ℕ) (vs : List View) (c : Cursor) (row : List Item) : Type 0 where
  pub rules : List RuleView
  pub views : List View
  pub here : drop c.at words ≡ all rule_words rules ++ all (view_words common) views
  pub as_many : length rules ≡ c.left
  pub settled : c.left ≡ 0 → views ≡ []
  pub ruled : Each Ruled views
  pub count : c.text + length views ≡ length vs
  pub last : last_size c.size views ≡ last_size 0 vs
  pub are : row ≡ in_text c.text rules ++ row_from (suc c.text) views
