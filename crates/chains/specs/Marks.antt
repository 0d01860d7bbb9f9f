-- The words of a table while it is written: what each of them is, or what it still waits for. "Forward jumps without their list".
use Rattle.std.specs.Prelude.{Bool, false, cond, List, [], ◌∷◌, ◌++◌, ℕ, ◌+◌, ◌*◌, eqb, length}
use Rattle.base.specs.Tree.{plain, cycle, choice, done, ◌▸◌, nil, alternative, absent, otherwise}
use Rattle.program.specs.Program.{Plain, match, any, emit, error, exit, call, back, give, update, update_with, Selector, by_token, by_rule, by_operation, by_operation_with, Act, Acts, Alts, Other, Rule}
use Rattle.program.specs.Table.{sizes, size_alts, count_labels, table_words, first_label, absent_words, choice_number, end_words}

-- what a word waits for: an exit for the end of its cycle, the jump_forward behind an alternative for the end of its choice (its instruction word until the
-- choice table has the alternative's labels), a choice for its choice table, a call for the location of its rule
pub data Target : Type 0 where
  outside : Target
  end : Target
  head : Target
  table : Target
  rule : ℕ → Target

pub data Mark : Type 0 where
  known : ℕ → Mark
  waiting : Target → Mark

unfoldable pub knowns : List ℕ → List Mark
knowns [] = []
knowns (w ∷ ws) = known w ∷ knowns ws

-- targets told apart
unfoldable pub number : Target → ℕ
number outside = 0
number end = 1
number head = 2
number table = 3
number (rule r) = r + 4

unfoldable pub waits : Target → Mark → Bool
waits t (known w) = false
waits t (waiting u) = eqb (number t) (number u)

-- the target of t is known: each word that waits for it gets its own, by how many words follow it
unfoldable pub filled : Target → (ℕ → ℕ) → List Mark → List Mark
filled t g [] = []
filled t g (m ∷ ms) = cond (waits t m) (known (g (length ms))) m ∷ filled t g ms

-- the target is the end of these words: a distance counts from the jump's own word
abbrev pub close : Target → List Mark → List Mark
close t ms = filled t (λ k. k + 1) ms

-- the choice table is written: each alternative is followed by a jump_forward
abbrev pub shut : List Mark → List Mark
shut ms = filled head (λ k. 1) ms

unfoldable pub plain_marks : Plain → List Mark
plain_marks (match t) = known 3 ∷ known t ∷ []
plain_marks any = known 4 ∷ []
plain_marks (emit t) = known 5 ∷ known t ∷ []
plain_marks (error t) = known 6 ∷ known t ∷ []
plain_marks exit = known 1 ∷ waiting outside ∷ []
plain_marks (call r) = known 8 ∷ waiting (rule r) ∷ []
plain_marks back = known 9 ∷ []
plain_marks (give v) = known 10 ∷ known v ∷ known 9 ∷ []
plain_marks (update op) = known op ∷ []
plain_marks (update_with op v) = known 13 ∷ known v ∷ known op ∷ []

unfoldable pub selector_marks : Selector → List Mark
selector_marks by_token = []
selector_marks (by_rule r) = known 8 ∷ waiting (rule r) ∷ []
selector_marks (by_operation op) = known op ∷ []
selector_marks (by_operation_with op v) = known 13 ∷ known v ∷ known op ∷ []

-- as `code` of the table, an action's words once it is written: its own cycles' exits and its own choices' ends are known
unfoldable mutual
  pub marks : Act → List Mark
  marks (plain p) = plain_marks p
  marks (cycle b) = close outside (marks_all b ++ (known 2 ∷ known (sizes b + 1) ∷ []))
  marks (choice s q o) =
      let default = absent_words s (first_label q) (size_alts q + (1 + 2 * count_labels q + 3)) in
      selector_marks s ++ (known (choice_number s) ∷ known (size_alts q + 1) ∷ close end (shut (marks_alts q)
      ++ (known (count_labels q) ∷ (knowns (table_words 1 q) ++ marks_other o default))))

  pub marks_all : Acts → List Mark
  marks_all done = []
  marks_all (a ▸ q) = marks a ++ marks_all q

  -- the alternatives while the choice's end is not known
  pub marks_alts : Alts → List Mark
  marks_alts nil = []
  marks_alts (alternative ls b q) = marks_all b ++ (waiting head ∷ waiting end ∷ marks_alts q)

  pub marks_other : Other → List ℕ → List Mark
  marks_other absent default = knowns default
  marks_other (otherwise b) default = marks_all b

-- a rule's words
unfoldable pub marks_rule : Rule → List Mark
marks_rule r = close outside (marks_all r.body) ++ knowns (end_words r.valued)

unfoldable pub marks_rules : List Rule → List Mark
marks_rules [] = []
marks_rules (r ∷ rs) = marks_rule r ++ marks_rules rs

-- the words, where an exit goes to `out` words behind them, an end to `rest` words behind them, and `start` gives the location of each rule
unfoldable pub solved : (ℕ → ℕ) → ℕ → ℕ → List Mark → List ℕ
solved start out rest [] = []
solved start out rest (known w ∷ ms) = w ∷ solved start out rest ms
solved start out rest (waiting outside ∷ ms) = (length ms + (out + 1)) ∷ solved start out rest ms
solved start out rest (waiting end ∷ ms) = (length ms + (rest + 1)) ∷ solved start out rest ms
solved start out rest (waiting head ∷ ms) = 1 ∷ solved start out rest ms
solved start out rest (waiting table ∷ ms) = 0 ∷ solved start out rest ms
solved start out rest (waiting (rule r) ∷ ms) = start r ∷ solved start out rest ms
