-- A rule where it stands in the words of its object, and the cells of rules closed one behind the other.
use Rattle.std.specs.Prelude.{List, [], ◌∷◌, ◌++◌, ◌≡◌, ℕ, ◌+◌, ◌≤◌, length, take, drop}
use Rattle.linkage.specs.declared.Body.{Body}
use Rattle.linkage.specs.declared.Uses.{Uses}
use Rattle.linker.specs.Close.{close_cells}
use Rattle.linker.specs.Place.{places_for, texts_from, texts_end}
use Rattle.objects.specs.View.{RuleView, rule_words}
use Rattle.objects.specs.Whole.{texts_of}

-- r tells of the rule v, before the words k
pub record IsBody (words : List ℕ) (v : RuleView) (k : List ℕ) (r : Body) : Type 0 where
  pub cells : take r.count (drop r.at words) ≡ v.cells
  pub calls : texts_from words r.calls.at r.calls.left ≡ texts_of v.calls
  pub behind : drop (r.at + r.count) words ≡ k

-- of the rule at a place, in an object with these pairs
pub record BodyAt (words : List ℕ) (at : ℕ) (uses : Uses) (r : Body) : Type 0 where
  pub inside : r.at + r.count ≤ length words
  pub names : texts_end words r.calls.at r.calls.left ≤ length words
  pub pairs : r.uses ≡ uses
  pub is : (v : RuleView) (k : List ℕ) → drop at words ≡ rule_words v ++ k → IsBody words v k r

-- the cells of rules, closed: by the lowest rules of the object's pairs and the names of all rules
unfoldable pub close_rules : (ℕ → ℕ) → List (List ℕ) → List RuleView → List ℕ
close_rules low names [] = []
close_rules low names (v ∷ vs) = close_cells low (places_for names (texts_of v.calls)) v.cells ++ close_rules low names vs

-- all of this file computes where this is unfolded
unfoldable pub opened : Unit {0}
unfolding close_rules
opened = tt
