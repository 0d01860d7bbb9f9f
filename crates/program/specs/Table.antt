-- The table of a program: "Words of 16 bits, locations from 1". Every distance is a sum of sizes, so nothing is subtracted and
-- nothing is cut to 16 bits.
--
-- A picture: a rule, its words, and the sums. In locations: forward, the jump at l to t is `1, t - (l + 1)`; back, it is `2, (l + 1) - t`; the
-- choice at l with its table at c is `7, c - (l + 1)`; the label at l with its alternative at t is `v, (l + 1) - t`.
--
--     M: { [ | a: .o | b, c: > | *: ? ] } ;        a, b, c and o have the values 0, 1, 2 and 0
--
--      1   7  9     input_choice, its table at 2 + 9 = 11: size_alts + 1, and size_alts is (2 + 2) + (2 + 2)
--      3   5  0       .o
--      5   1 13       to the choice's end, 6 + 13 = 19: 1 + size_alts + rest, with 4 words of alternatives behind it and rest = 1 + 2 * 3 + 1
--      7   1 13       > past the cycle, 8 + 13 = 21: out + 1, and out is 2 + 0 + (rest + 2), the last 2 for the cycle's jump_back
--      9   1  9       to the choice's end, 10 + 9 = 19: 1 + 0 + rest
--     11   3        the choice table: three labels
--     12   0 10       a: back to 13 - 10 = 3: d + (p + 1), with d = 2 + (2 + 4) and p = 1
--     14   1  8       b: back to 15 - 8 = 7: d = 2 + (2 + 0), p = 3
--     16   2 10       c: back to 17 - 10 = 7: d = 4, p = 5
--     18   4        ? of otherwise
--     19   2 19     jump_back to 20 - 19 = 1: sizes + 1, the body having 18 words
--     21   9        return
--
-- Without otherwise `3 0 2 18` stands at 18: input of the first label, and back to its alternative, 21 - 18 = 3.
use Rattle.std.specs.Prelude.{Bool, true, false, List, [], ◌∷◌, ◌++◌, ℕ, zero, suc, ◌+◌, ◌*◌, length}
use Rattle.base.specs.Tree.{plain, cycle, choice, done, ◌▸◌, nil, alternative, absent, otherwise}
use Rattle.program.specs.Program.{Plain, match, any, emit, error, exit, call, back, give, update, update_with, Selector, by_token, by_rule, by_operation, by_operation_with, Act, Acts, Alts, Other, Rule}

-- Sizes

-- the words of a plain action: a parameter is set before its operation, a value before its return
unfoldable pub size_plain : Plain → ℕ
size_plain (match t) = 2
size_plain any = 1
size_plain (emit t) = 2
size_plain (error t) = 2
size_plain exit = 2
size_plain (call r) = 2
size_plain back = 1
size_plain (give v) = 3
size_plain (update op) = 1
size_plain (update_with op v) = 3

-- "before it the call, or the operation after its setParameter if any"
unfoldable pub size_selector : Selector → ℕ
size_selector by_token = 0
size_selector (by_rule r) = 2
size_selector (by_operation op) = 1
size_selector (by_operation_with op v) = 3

-- what stands where there is no otherwise: input and jump_back for an input choice, end_choice for others
unfoldable pub size_absent : Selector → ℕ
size_absent by_token = 4
size_absent (by_rule r) = 1
size_absent (by_operation op) = 1
size_absent (by_operation_with op v) = 1

unfoldable pub count_labels : Alts → ℕ
count_labels nil = 0
count_labels (alternative ls b q) = length ls + count_labels q

-- a choice: its instruction, the alternatives each with a jump_forward, the choice table, otherwise's actions
unfoldable mutual
  pub size : Act → ℕ
  size (plain p) = size_plain p
  size (cycle b) = sizes b + 2
  size (choice s q o) = size_selector s + (2 + size_alts q + (1 + 2 * count_labels q + size_other o (size_absent s)))

  pub sizes : Acts → ℕ
  sizes done = 0
  sizes (a ▸ q) = size a + sizes q

  pub size_alts : Alts → ℕ
  size_alts nil = 0
  size_alts (alternative ls b q) = sizes b + (2 + size_alts q)

  pub size_other : Other → ℕ → ℕ
  size_other absent n = n
  size_other (otherwise b) n = sizes b

-- The choice table

-- an alternative's labels, each with its backward distance; d words lie between the alternative's start and the choice table,
-- the next label stands p words into that
unfoldable pub label_words : ℕ → ℕ → List ℕ → List ℕ
label_words d p [] = []
label_words d p (v ∷ ls) = v ∷ (d + (p + 1)) ∷ label_words d (p + 2) ls

-- "label and backward distance for each label, in text order"
unfoldable pub table_words : ℕ → Alts → List ℕ
table_words p nil = []
table_words p (alternative ls b q) = label_words (sizes b + (2 + size_alts q)) p ls ++ table_words (p + 2 * length ls) q

unfoldable pub first_of : List ℕ → ℕ
first_of [] = 0
first_of (v ∷ ls) = v

unfoldable pub first_label : Alts → ℕ
first_label nil = 0
first_label (alternative ls b q) = first_of ls

-- "for an input choice, input of the first label and jumpBack to its alternative; for others, endChoice"; v is that label, d the
-- distance back
unfoldable pub absent_words : Selector → ℕ → ℕ → List ℕ
absent_words by_token v d = 3 ∷ v ∷ 2 ∷ d ∷ []
absent_words (by_rule r) v d = 12 ∷ []
absent_words (by_operation op) v d = 12 ∷ []
absent_words (by_operation_with op u) v d = 12 ∷ []

-- 7 input_choice, 11 choice
unfoldable pub choice_number : Selector → ℕ
choice_number by_token = 7
choice_number (by_rule r) = 11
choice_number (by_operation op) = 11
choice_number (by_operation_with op u) = 11

-- Words; `start` gives the location of each rule

module _ (start : ℕ → ℕ) where
  unfoldable pub selector_words : Selector → List ℕ
  selector_words by_token = []
  selector_words (by_rule r) = 8 ∷ start r ∷ []
  selector_words (by_operation op) = op ∷ []
  selector_words (by_operation_with op u) = 13 ∷ u ∷ op ∷ []

  -- `out`: an exit goes to so many words after the end of what holds it
  unfoldable pub plain_words : Plain → ℕ → List ℕ
  plain_words (match t) out = 3 ∷ t ∷ []
  plain_words any out = 4 ∷ []
  plain_words (emit t) out = 5 ∷ t ∷ []
  plain_words (error t) out = 6 ∷ t ∷ []
  plain_words exit out = 1 ∷ (out + 1) ∷ []
  plain_words (call r) out = 8 ∷ start r ∷ []
  plain_words back out = 9 ∷ []
  plain_words (give v) out = 10 ∷ v ∷ 9 ∷ []
  plain_words (update op) out = op ∷ []
  plain_words (update_with op v) out = 13 ∷ v ∷ op ∷ []

  -- "A cycle is its body and a jumpBack; `>` jumps forward past that."
  unfoldable mutual
    pub code : Act → ℕ → List ℕ
    code (plain p) out = plain_words p out
    code (cycle b) out = codes b 2 ++ (2 ∷ (sizes b + 1) ∷ [])
    code (choice s q o) out =
        let rest = 1 + 2 * count_labels q + size_other o (size_absent s) in
        let default = absent_words s (first_label q) (size_alts q + (1 + 2 * count_labels q + 3)) in
        selector_words s ++ (choice_number s ∷ (size_alts q + 1) ∷ (code_alts q out rest
        ++ (count_labels q ∷ (table_words 1 q ++ code_other o out default))))

    pub codes : Acts → ℕ → List ℕ
    codes done out = []
    codes (a ▸ q) out = code a (sizes q + out) ++ codes q out

    -- "the alternatives but otherwise in order, each followed by a jumpForward to the end"; `rest` words follow the last of them
    pub code_alts : Alts → ℕ → ℕ → List ℕ
    code_alts nil out rest = []
    code_alts (alternative ls b q) out rest = codes b (2 + size_alts q + (rest + out)) ++ (1 ∷ (1 + size_alts q + rest) ∷ code_alts q out rest)

    -- "then otherwise's actions"
    pub code_other : Other → ℕ → List ℕ → List ℕ
    code_other absent out default = default
    code_other (otherwise b) out default = codes b out

-- "A procedure rule ends in return; a choice rule has none but its `>>`"
unfoldable pub end_words : Bool → List ℕ
end_words true = []
end_words false = 9 ∷ []

unfoldable pub size_rule : Rule → ℕ
size_rule r = sizes r.body + length (end_words r.valued)

unfoldable pub size_rules : List Rule → ℕ
size_rules [] = 0
size_rules (r ∷ rs) = size_rule r + size_rules rs

unfoldable pub rules_words : (ℕ → ℕ) → List Rule → List ℕ
rules_words start [] = []
rules_words start (r ∷ rs) = codes start r.body 0 ++ (end_words r.valued ++ rules_words start rs)

-- the location of rule r, where the first of the rules stands at l
unfoldable pub place : ℕ → List Rule → ℕ → ℕ
place l [] r = l
place l (b ∷ bs) zero = l
place l (b ∷ bs) (suc r) = place (l + size_rule b) bs r

-- "Rules stand in text order from location 1."
unfoldable pub table : List Rule → List ℕ
table prog = rules_words (place 1 prog) prog

-- all of this file computes where this is unfolded
unfoldable pub opened : Unit {0}
unfolding size_plain size_selector size_absent count_labels size label_words table_words first_of first_label absent_words choice_number selector_words plain_words code end_words size_rule size_rules rules_words place table
opened = tt
