-- "for the table of an accepted program a second way takes them rule by rule".
use Rattle.std.specs.Prelude.{List, [], ◌∷◌, ℕ, ◌-◌, take, drop}
use Rattle.figures.specs.Figures.{sum}
use Rattle.program.specs.Program.{Rule, rule_of}
use Rattle.program.specs.Table.{size_rule, place}

-- the instructions done in rule r: over its own locations
unfoldable pub rule_total : List Rule → List ℕ → ℕ → ℕ
rule_total prog counts r = sum (take (size_rule (rule_of prog r)) (drop (place 1 prog r - 1) counts))

-- the totals of the rules one after the other
unfoldable pub rule_totals : List Rule → List ℕ → List ℕ
rule_totals [] counts = []
rule_totals (r ∷ rs) counts = sum (take (size_rule r) counts) ∷ rule_totals rs (drop (size_rule r) counts)

-- all of this file computes where this is unfolded
unfoldable pub opened : Unit {0}
unfolding rule_total rule_totals
opened = tt
