-- The rules of operators, by computation: levels from a section's entries, and the words of a program that has them behind its own.
use mathlib.Core.Bool.{Bool, true, false, not, ◌&&◌}
use mathlib.Core.List.{List, [], ◌∷◌}
use Prim.Native.Nat.{ℕ}
use lib.Dec.{T}
use lib.ListN.{length, replicate}
use Rattle.base.specs.Common.{same}
use Rattle.base.specs.Tree.{plain, done, ◌▸◌}
use Rattle.program.specs.Made
use Rattle.program.specs.Made.{Operator, Level, levels_of, level_rules, crowded}
use Rattle.program.specs.Program.{match, call, Rule}
use Rattle.program.specs.Table
use Rattle.program.specs.Table.{table}

abbrev pub entry : ℕ → ℕ → Bool → ℕ → Operator
entry t l r o = record { token = t; level = l; right = r; emits = o }

-- minus 1 left 10, times 2 left 11, up 15 right 12, plus 1 left 13
pub entries : List Operator
entries = entry 1 1 false 10 ∷ entry 2 2 false 11 ∷ entry 3 15 true 12 ∷ entry 4 1 false 13 ∷ []

-- how many operators each level has
pub sizes : List Level → List ℕ
sizes [] = []
sizes (l ∷ ls) = length l.operators ∷ sizes ls

pub levels-used : T (same (sizes (levels_of entries)) (2 ∷ 1 ∷ 1 ∷ []))
unfolding sizes entries Made.opened
levels-used = tt

-- M: ^E @P; P: a; and the rules of levels 1, 2 and 15
pub prog : List Rule
prog = record { valued = false; body = plain (call 2) ▸ done } ∷ record { valued = false; body = plain (match 0) ▸ done } ∷ level_rules 2 1 (levels_of entries)

pub words_are : T (same (table prog)
    (8 ∷ 7 ∷ 9 ∷ 3 ∷ 0 ∷ 9
    ∷ 8 ∷ 33 ∷ 7 ∷ 13 ∷ 8 ∷ 33 ∷ 5 ∷ 10 ∷ 1 ∷ 14 ∷ 8 ∷ 33 ∷ 5 ∷ 13 ∷ 1 ∷ 8 ∷ 2 ∷ 1 ∷ 14 ∷ 4 ∷ 10 ∷ 1 ∷ 3 ∷ 2 ∷ 22 ∷ 9
    ∷ 8 ∷ 51 ∷ 7 ∷ 7 ∷ 8 ∷ 51 ∷ 5 ∷ 11 ∷ 1 ∷ 6 ∷ 1 ∷ 2 ∷ 8 ∷ 1 ∷ 3 ∷ 2 ∷ 14 ∷ 9
    ∷ 8 ∷ 4 ∷ 7 ∷ 7 ∷ 8 ∷ 51 ∷ 5 ∷ 12 ∷ 1 ∷ 4 ∷ 1 ∷ 3 ∷ 8 ∷ 9 ∷ []))
unfolding entries prog Made.opened Table.opened
words_are = tt

-- "64 labels a choice": 64 operators of a level are not too many; 65 are, at any level
abbrev pub level : ℕ → Level
level n = record { right = false; operators = replicate n (entry 1 1 false 10) }

pub crowds : T (not (crowded (level 1 ∷ level 64 ∷ [])) && crowded (level 65 ∷ []) && crowded (level 1 ∷ level 65 ∷ []))
unfolding Made.opened
crowds = tt
