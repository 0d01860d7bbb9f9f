-- The whole program: sections in order, then the rules in order, each by its name, its type, its actions and its semicolon.
use Rattle.std.specs.Prelude.{Bool, true, false, ◌&&◌, ◌||◌, List, [], ◌∷◌, ◌++◌, ℕ, length}
use Rattle.base.specs.Common.{same, given}
use Rattle.names.specs.Declare.{declare_sections, known_rules}
use Rattle.names.specs.Known.{Checked, good, ◌>>=◌, fault_if, KnownRule, Names, find_operation, optional_type}
use Rattle.names.specs.Resolve.{acts_of}
use Rattle.names.specs.Uses.{pairs_of, made_for}
use Rattle.program.specs.Past.{past_all}
use Rattle.program.specs.Program as means
use Rattle.syntax.specs.Sections.{names_in_all}
use Rattle.syntax.specs.Written as written
use Rattle.syntax.specs.Written.{Program}
use Rattle.words.specs.Words.{Word}

unfoldable pub nobody : Names
nobody = record { inputs = []; outputs = []; errors = []; types = []; operations = []; operators = [] }

-- the rule's name stands among those before it
unfoldable pub is_one : List ℕ → List (List ℕ) → Bool
is_one w [] = false
is_one w (v ∷ vs) = same w v || is_one w vs

-- "rules and operations form one class"
unfoldable pub taken : Word → Names → List (List ℕ) → Bool
taken w n seen = given (find_operation w.text n.operations) || is_one w.text seen

unfoldable pub is_first : List (List ℕ) → Bool
is_first [] = true
is_first (v ∷ vs) = false

-- a rule after those named `seen`: "the first is a procedure rule", "first rule with a type (at its name)"; "8 choice rule reaches its
-- semicolon"
unfoldable pub rule_means : Program → Names → List KnownRule → List (List ℕ) → written.Rule → Checked means.Rule
rule_means p n rules seen r = do
  _ ← fault_if (taken r.rule n seen) 4 r.rule
  _ ← fault_if (is_first seen && given r.gives) 5 r.rule
  g ← optional_type p n.types r.gives
  b ← acts_of p n rules r.body (record { inside = false; gives = g })
  _ ← fault_if (given g && past_all b) 8 r.closing
  good (record { valued = given g; body = b })

unfoldable pub rules_mean : Program → Names → List KnownRule → List (List ℕ) → List written.Rule → Checked (List means.Rule)
rules_mean p n rules seen [] = good []
rules_mean p n rules seen (r ∷ rs) = do
  first ← rule_means p n rules seen r
  rest ← rules_mean p n rules (r.rule.text ∷ seen) rs
  good (first ∷ rest)

-- "then 3 to 8 likewise"; then the rules made for operators, "as if written after the last rule"
unfoldable pub understand : Program → Checked (List means.Rule)
understand p = do
  n ← declare_sections p p.sections nobody
  let known = known_rules 0 p.rules
  own ← rules_mean p n known [] p.rules
  made ← made_for n known (names_in_all p.sections) (length p.rules) (pairs_of p.rules)
  good (own ++ made)

-- all of this file computes where this is unfolded
unfoldable pub opened : Unit {0}
unfolding nobody is_one taken is_first rule_means rules_mean understand
opened = tt
