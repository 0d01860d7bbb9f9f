-- Lines: a rule is one, and so is each of a common part's list.
use mathlib.Core.List.{List, ◌++◌}
use mathlib.Core.Path.{◌≡◌, ap, ◌∙◌}
use Prim.Native.Nat.{ℕ}
use Rattle.collector.proofs.Skips.{body, stays}
use Rattle.collector.specs.Collecting.{LineIn, a_line, LinesIn, last_line, more_lines, ListIn, no_head, more_heads, to_semicolon}
use Rattle.grammar.specs.Derived.{Took, gives_some, RuleIn, one_rule, RulesIn, last_rule, more_rules}
use Rattle.syntax.specs.Reading.{peek}
use Rattle.syntax.specs.Written.{Rule}
use Rattle.words.specs.Words.{Word}

rule-line : {ws ws' : List Word} {r : Rule} → RuleIn ws ws' r → LineIn ws ws' r
rule-line (one_rule t u d b e) = a_line t u (body d b e)

pub rules-lines : {ws ws' : List Word} {rs : List Rule} → RulesIn ws ws' rs → LinesIn ws ws' rs
rules-lines (last_rule q m) = last_line (rule-line q) m
rules-lines (more_rules q m l) = more_lines (rule-line q) m (rules-lines l)

-- a line begins with a name
took-peek : {k : ℕ} {ws ws' : List Word} {w : Word} → Took k ws w ws' → (peek ws).kind ≡ k
unfolding peek
took-peek t = ap (λ (vs : List Word). (peek vs).kind) t.here ∙ t.kind

lines-peek : {ws ws' : List Word} {rs : List Rule} → LinesIn ws ws' rs → (peek ws).kind ≡ 257
lines-peek (last_line (a_line t u d) m) = took-peek t
lines-peek (more_lines (a_line t u d) m l) = took-peek t

-- its semicolon stands there
ends-here : {ws ws' : List Word} {semi : Word} → Took 59 ws semi ws' → Took 59 (to_semicolon ws) semi ws'
ends-here t = rw (stays t) t

-- the list of a common part, and rules behind it
pub list-lines : {ws ws₁ ws' : List Word} {hs rs : List Rule} → ListIn ws ws₁ hs → LinesIn ws₁ ws' rs → LinesIn ws ws' (hs ++ rs)
list-lines (no_head e) q = rw e at q
list-lines (more_heads t u g s l) q = let q' = list-lines l q in more_lines (a_line t (gives_some u g) (ends-here s)) (lines-peek q') q'
