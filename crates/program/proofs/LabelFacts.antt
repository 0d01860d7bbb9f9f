-- Labels that stand twice and labels that do not, by computing.
use mathlib.Core.Bool.{true, false, ◌&&◌, not}
use mathlib.Core.List.{List, [], ◌∷◌}
use Prim.Native.Nat.{ℕ}
use lib.Dec.{T}
use Rattle.base.specs.Tree.{plain, cycle, choice, done, ◌▸◌, nil, alternative, absent, otherwise}
use Rattle.program.specs.Labels
use Rattle.program.specs.Labels.{distinct_labels}
use Rattle.program.specs.Made
use Rattle.program.specs.Made.{levels_of, level_rules}
use Rattle.program.specs.Program.{any, by_token, by_rule, Act, Acts, Rule}
use Rattle.program.proofs.MadeFacts.{entry}

-- `M: ? ..;`
abbrev rules : Act → List Rule
rules a = record { valued = false; body = plain any ▸ a ▸ done } ∷ []

-- `[ | .., ..: | ..: .. | *: .. ]`: two labels, one, the actions of the second and of otherwise
abbrev three : ℕ → ℕ → ℕ → Acts → Acts → Act
three a b c x y = choice by_token (alternative (a ∷ b ∷ []) done (alternative (c ∷ []) x nil)) (otherwise y)

-- `{ [@R | 5: | 5: ] }`
abbrev twice : Acts
twice = cycle (choice (by_rule 0) (alternative (5 ∷ []) done (alternative (5 ∷ []) done nil)) absent ▸ done) ▸ done

-- an inner choice may have its outer one's labels, two choices in a row may have the same
pub labels-once : T (distinct_labels [] && distinct_labels (rules (three 0 1 2 (three 2 1 0 done done ▸ three 0 1 2 done done ▸ done) done)))
unfolding Labels.opened
labels-once = tt

-- one label, in an alternative, in two, in the first and the last; in an alternative's actions, in otherwise's, in a later rule
pub labels-twice : T (not (distinct_labels (rules (three 4 4 2 done done)))
    && not (distinct_labels (rules (three 1 4 4 done done)))
    && not (distinct_labels (rules (three 4 1 4 done done)))
    && not (distinct_labels (rules (three 0 1 2 twice done)))
    && not (distinct_labels (rules (three 0 1 2 done twice)))
    && not (distinct_labels (record { valued = false; body = done } ∷ rules (cycle twice))))
unfolding Labels.opened
labels-twice = tt

-- the rules made for operators: a token at two levels is no label twice in a choice, at one level it is
pub made_labels : T (distinct_labels (level_rules 2 1 (levels_of (entry 1 2 true 10 ∷ entry 2 2 true 10 ∷ entry 1 3 true 11 ∷ [])))
    && not (distinct_labels (level_rules 2 1 (levels_of (entry 1 2 true 10 ∷ entry 2 2 true 10 ∷ entry 1 2 true 11 ∷ [])))))
unfolding Labels.opened Made.opened
made_labels = tt
