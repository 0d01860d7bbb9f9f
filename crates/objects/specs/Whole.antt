-- Whether words are objects of a common part, one behind the other: "any other words are 40".
use Rattle.std.specs.Prelude.{Bool, true, false, ◌&&◌, not, List, [], ◌∷◌, ◌++◌, ◌≡◌, ℕ, zero, suc, ◌%◌, eqb, length, if◌then◌else◌}
use Rattle.std.proofs.Math.Option.{Option, none, some}
use Rattle.base.specs.Common.{given}
use Rattle.machine.specs.Bytes.{words_of}
use Rattle.names.specs.Known.{Names, find_operators}
use Rattle.names.specs.Understand.{is_one}
use Rattle.parts.specs.Form.{AreObjects}
use Rattle.syntax.specs.Texts.{Head, Common}
use Rattle.program.specs.Accepted.{Values}
use Rattle.objects.specs.Order.{is_listed, rule_in_order}
use Rattle.objects.specs.Take.{Taken, took, missing}
use Rattle.objects.specs.View.{Name, Pair, RuleView, View, views_of, a_view, views}

-- the names that the rules call, in text order
unfoldable pub calls_of : List RuleView → List Name
calls_of [] = []
calls_of (r ∷ rs) = r.calls ++ calls_of rs

unfoldable pub texts_of : List Name → List (List ℕ)
texts_of [] = []
texts_of (n ∷ ns) = n.text ∷ texts_of ns

unfoldable pub every : {A : Type 0} → (A → Bool) → List A → Bool
every f [] = true
every f (a ∷ as') = f a && every f as'

unfoldable pub is_some : {A : Type 0} → List A → Bool
is_some [] = false
is_some (a ∷ as') = true

module _ (hs : List Head) (n : Names) where
  -- the section is there; the operand rule is not on the list, and is called
  unfoldable pub pair_in_order : List RuleView → Pair → Bool
  pair_in_order rs p = given (find_operators p.section.text n.operators) && (not (is_listed hs p.operand) && is_one p.operand.text (texts_of (calls_of rs)))

  -- one rule or more; all pairs and all rules in order
  unfoldable pub view_in_order : View → Bool
  view_in_order v = is_some v.rules && (every (pair_in_order v.rules) v.pairs && every (rule_in_order hs v.pairs) v.rules)

  unfoldable pub all_in_order : Option (List View) → Bool
  all_in_order none = false
  all_in_order (some vs) = every view_in_order vs

  -- of the common part with these bytes
  unfoldable pub are_objects : List ℕ → List ℕ → Bool
  are_objects common words = all_in_order (views common (length words) words)

  -- how many objects stand in order before the first that does not; k is at least the number of the words
  unfoldable pub good_after : Taken View → (List ℕ → ℕ) → ℕ
  good_after (took v rest) more = if view_in_order v then suc (more rest) else 0
  good_after missing more = 0

  unfoldable pub good_views : List ℕ → ℕ → List ℕ → ℕ
  good_views common zero words = 0
  good_views common (suc k) words = good_after (a_view common words) (λ rest. good_views common k rest)

-- words of two bytes each, and no byte more
unfoldable pub evenly : List ℕ → Bool
evenly bytes = eqb (length bytes % 2) 0

-- The test is exact: words that are objects pass, words below 65,536 that pass are objects, and two readings of the same words have the same views

abbrev pub ObjectsPass : Type 0
ObjectsPass = (common : List ℕ) (c : Common) (n : Names) (words : List ℕ) → AreObjects common c n words → are_objects c.listed n common words ≡ true

abbrev pub PassObjects : Type 0
PassObjects = (common : List ℕ) (c : Common) (n : Names) (words : List ℕ) → Values words → are_objects c.listed n common words ≡ true → AreObjects common c n words

abbrev pub SameViews : Type 0
SameViews =
    (common : List ℕ) (c : Common) (n : Names) (words : List ℕ) (x y : AreObjects common c n words)
    → views_of x.lengths x.objects ≡ views_of y.lengths y.objects

-- what the answer of a test of bytes decides: they are words, and the words are objects; or they are not
pub record Decides (common : List ℕ) (c : Common) (n : Names) (bytes : List ℕ) (ok : Bool) : Type 0 where
  pub objects : ok ≡ true → AreObjects common c n (words_of bytes)
  pub words : ok ≡ true → length bytes % 2 ≡ 0
  pub no_objects : ok ≡ false → length bytes % 2 ≡ 0 → AreObjects common c n (words_of bytes) → ⊥

-- all of this file computes where this is unfolded
unfoldable pub opened : Unit {0}
unfolding calls_of texts_of every is_some pair_in_order view_in_order all_in_order are_objects good_after good_views evenly
opened = tt
