-- The rules stand one after the other, each inside the table.
use mathlib.Core.Path.{◌≡◌, refl, sym, ap, ◌∙◌}
use mathlib.Core.Bool.{Bool, true, false}
use mathlib.Core.List.{List, [], ◌∷◌, ◌++◌}
use Prim.Native.Nat.{ℕ, zero, suc, ◌+◌, ◌≤◌, ◌<◌}
use native.Mathlib.Omega.{arith}
use native.Mathlib.Nat.{zero-add, suc-add}
use lib.ListN.{length, drop}
use Rattle.base.specs.Bools.{never}
use Rattle.base.specs.Tree.{plain, cycle, choice, done, ◌▸◌}
use Rattle.program.specs.Program.{Plain, match, any, emit, error, exit, call, back, give, update, update_with, Act, Acts, Rule, rule_of, body_of}
use Rattle.program.specs.Past.{past_all}
use Rattle.program.specs.Table.{size_plain, size, sizes, codes, end_words, size_rule, size_rules, rules_words, place, table}
use Rattle.program.proofs.Lengths.{length-codes, length-table}

-- Where the rules stand

-- locations count from 1
pub place-from : (l : ℕ) (prog : List Rule) (r : ℕ) → l ≤ place l prog r
unfolding place
place-from l [] r = omega arith
place-from l (b ∷ bs) zero = omega arith
place-from l (b ∷ bs) (suc r) = omega (arith, place-from (l + size_rule b) bs r)

-- the first rule stands first
pub place-first : (l : ℕ) (prog : List Rule) → place l prog 0 ≡ l
unfolding place
place-first l [] = refl
place-first l (b ∷ bs) = refl

-- the next rule begins where this one ends
pub place-next : (l : ℕ) (prog : List Rule) (r : ℕ) → r < length prog → place l prog (suc r) ≡ place l prog r + size_rule (rule_of prog r)
unfolding place rule_of
place-next l [] r h = absurd (omega arith)
place-next l (b ∷ bs) zero h = place-first (l + size_rule b) bs
place-next l (b ∷ bs) (suc r) h = place-next (l + size_rule b) bs r (omega arith)

-- all that a rule is made of lies before the end of the rules
pub place-fits : (l : ℕ) (prog : List Rule) (r : ℕ) → r < length prog → place l prog r + size_rule (rule_of prog r) ≤ l + size_rules prog
unfolding place rule_of size_rules
place-fits l [] r h = absurd (omega arith)
place-fits l (b ∷ bs) zero h = omega arith
place-fits l (b ∷ bs) (suc r) h = omega (arith, place-fits (l + size_rule b) bs r (omega arith))

-- Every rule has a word

plain_word : (p : Plain) → 1 ≤ size_plain p
unfolding size_plain
plain_word (match t) = omega arith
plain_word any = omega arith
plain_word (emit t) = omega arith
plain_word (error t) = omega arith
plain_word exit = omega arith
plain_word (call r) = omega arith
plain_word back = omega arith
plain_word (give v) = omega arith
plain_word (update op) = omega arith
plain_word (update_with op v) = omega arith

-- an action is a word or more
pub action-word : (a : Act) → 1 ≤ size a
unfolding size
action-word (plain p) = plain_word p
action-word (cycle b) = omega arith
action-word (choice s q o) = omega arith

-- what does not go past itself is not empty
pub past_word : (q : Acts) → past_all q ≡ false → 1 ≤ sizes q
unfolding past_all sizes
past_word done e = never (sym e)
past_word (a ▸ q) e = omega (arith, action-word a)

-- "A choice rule may not reach its final semicolon"
abbrev pub NoneReachesEnd : List Rule → Type 0
NoneReachesEnd prog = (r : ℕ) → r < length prog → (rule_of prog r).valued ≡ true → past_all (body_of prog r) ≡ false

end-word : (v : Bool) (q : Acts) → (v ≡ true → past_all q ≡ false) → 1 ≤ sizes q + length (end_words v)
unfolding end_words
end-word true q f = omega (arith, past_word q (f refl))
end-word false q f = omega arith

pub rule-word : (prog : List Rule) → NoneReachesEnd prog → (r : ℕ) → r < length prog → 1 ≤ size_rule (rule_of prog r)
unfolding size_rule body_of
rule-word prog f r h = end-word (rule_of prog r).valued (rule_of prog r).body (f r h)

-- a rule's location is one of the table's
pub place_inside : (prog : List Rule) → NoneReachesEnd prog → (r : ℕ) → r < length prog → place 1 prog r ≤ length (table prog)
place_inside prog f r h = omega (arith, place-fits 1 prog r h, rule-word prog f r h, length-table prog)

-- The words at a rule's place are its own

place-shift : (l : ℕ) (prog : List Rule) (r : ℕ) → place l prog r ≡ l + place 0 prog r
unfolding place
place-shift l [] r = omega arith
place-shift l (b ∷ bs) zero = omega arith
place-shift l (b ∷ bs) (suc r) = omega (arith, place-shift (l + size_rule b) bs r, place-shift (0 + size_rule b) bs r)

drop-append : (a b : List ℕ) (k : ℕ) → drop (length a + k) (a ++ b) ≡ drop k b
drop-append [] b k = ap (λ (n : ℕ). drop n b) (zero-add k)
drop-append (x ∷ a) b k = ap (λ (n : ℕ). drop n (x ∷ (a ++ b))) (suc-add (length a) k) ∙ drop-append a b k

drop-rules : (start : ℕ → ℕ) (prog : List Rule) (r : ℕ) → r < length prog
    → drop (place 0 prog r) (rules_words start prog)
    ≡ codes start (body_of prog r) 0 ++ (end_words (rule_of prog r).valued ++ rules_words start (drop (suc r) prog))
unfolding place body_of rule_of rules_words size_rule
drop-rules start [] r h = absurd (omega arith)
drop-rules start (b ∷ bs) zero h = refl
drop-rules start (b ∷ bs) (suc r) h =
    let own = codes start b.body 0 in
    let end = end_words b.valued in
    let far : place (0 + size_rule b) bs r ≡ length own + (length end + place 0 bs r) = omega (arith, place-shift (0 + size_rule b) bs r, length-codes start b.body 0) in
    ap (λ (n : ℕ). drop n (own ++ (end ++ rules_words start bs))) far
    ∙ (drop-append own (end ++ rules_words start bs) (length end + place 0 bs r) ∙ (drop-append end (rules_words start bs) (place 0 bs r) ∙ drop-rules start bs r (omega arith)))

-- from the location of rule r on stand the words of rule r, then those of the rules after it
pub place-words : (prog : List Rule) (r l : ℕ) → r < length prog → place 1 prog r ≡ suc l
    → drop l (table prog) ≡ codes (place 1 prog) (body_of prog r) 0 ++ (end_words (rule_of prog r).valued ++ rules_words (place 1 prog) (drop (suc r) prog))
unfolding table
place-words prog r l h e =
    let same : l ≡ place 0 prog r = omega (arith, place-shift 1 prog r) in
    ap (λ (n : ℕ). drop n (rules_words (place 1 prog) prog)) same ∙ drop-rules (place 1 prog) prog r h
