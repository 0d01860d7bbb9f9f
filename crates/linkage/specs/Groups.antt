-- The rules of an object in the words, and those of all objects, closed one behind the other.
use Rattle.std.specs.Prelude.{true, List, ◌++◌, ◌≡◌, ℕ, ◌≤◌, length, drop}
use Rattle.acceptance.proofs.Shape.{Each}
use Rattle.cells.specs.Cells.{rules_cells}
use Rattle.linkage.specs.Bodies.{close_rules}
use Rattle.linkage.specs.Closing.{Lows}
use Rattle.linkage.specs.declared.Group.{Group}
use Rattle.linker.specs.Place.{texts_at, rule_texts}
use Rattle.linkpairs.specs.Standing.{Held}
use Rattle.names.specs.Known as known
use Rattle.names.specs.Uses.{Use}
use Rattle.objects.specs.View.{RuleView, View, all, pair_words, rule_words, view_words}
use Rattle.parts.specs.Form.{AreObjects}
use Rattle.parts.specs.Link.{rules_of, is_named, known_of, closed_in}
use Rattle.parts.specs.Objects.{OpenRule}
use Rattle.resolver.specs.Resolved.{Appends}
use Rattle.syntax.specs.Texts.{Common}

-- r tells of the rules and pairs of the view v, before the words k
pub record IsGroup (words : List ℕ) (v : View) (k : List ℕ) (r : Group) : Type 0 where
  pub pairs : (more : List ℕ) × (drop r.uses.at words ≡ all pair_words v.pairs ++ more)
  pub pairs_many : length v.pairs ≡ r.uses.count
  pub rules : drop r.at words ≡ all rule_words v.rules ++ k
  pub rules_many : length v.rules ≡ r.left

-- of the object at a place
pub record GroupAt (words : List ℕ) (at collected : ℕ) (r : Group) : Type 0 where
  pub inside : r.at ≤ length words
  pub pairs_inside : r.uses.at ≤ length words
  pub collects : r.uses.collected ≡ collected
  pub is : (common : List ℕ) (v : View) (k : List ℕ) → drop at words ≡ view_words common v ++ k → IsGroup words v k r

-- the rules of an object, closed behind `from` cells
abbrev pub ClosesGroup : List ℕ → List ℕ → List ℕ → List ℕ → Group → List ℕ → ℕ → List ℕ → ℕ → Type 0
ClosesGroup words names sites lowest g cs from cs' r =
    (low : ℕ → ℕ) → Lows words sites lowest g.uses low → (vs : List RuleView) (k : List ℕ) → drop g.at words ≡ all rule_words vs ++ k → length vs ≡ g.left
    → Appends cs from (close_rules low (texts_at words names) vs) cs' r

-- every call of the rule is of one of these rules
abbrev pub Calls : List OpenRule → OpenRule → Type 0
Calls rules r = Each (λ w. is_named w.text rules ≡ true) r.calls

-- the rules of all objects, closed
abbrev pub ClosesAll : List ℕ → List ℕ → List ℕ → List ℕ → ℕ → List ℕ → List ℕ → ℕ → Type 0
ClosesAll words names sites lowest collected cs cs' r =
    (common : List ℕ) (c : Common) (n : known.Names) (h : AreObjects common c n words) (own after : ℕ) (us : List Use) → Held words sites lowest n own collected after us
    → texts_at words names ≡ rule_texts (rules_of h.objects) → Each (Calls (rules_of h.objects)) (rules_of h.objects)
    → Appends cs 0 (rules_cells (closed_in n (known_of 0 (rules_of h.objects)) own us h.objects)) cs' r
