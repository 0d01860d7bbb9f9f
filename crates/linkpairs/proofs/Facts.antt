-- Worked examples: pairs gathered in one pass over the uses of all objects.
use mathlib.Core.Bool.{false}
use mathlib.Core.List.{List, [], ◌∷◌}
use mathlib.Core.Path.{◌≡◌, refl}
use Prim.Native.Nat.{ℕ}
use Rattle.linkpairs.specs.Gather as gather
use Rattle.linkpairs.specs.Gather.{gathered, past, index_of}
use Rattle.names.specs.Known as known
use Rattle.names.specs.Known.{Names}
use Rattle.names.specs.Uses as uses
use Rattle.names.specs.Uses.{Use}
use Rattle.parts.specs.Link as link
use Rattle.program.specs.Made as made
use Rattle.words.specs.Words.{Word}

abbrev word : ℕ → List ℕ → Word
word at text = record { kind = 257; start = at; text = text }

-- `^s(a)`, its `^` standing at this place: the section s, 115, and an operand rule
abbrev use-at : ℕ → ℕ → Use
use-at at operand = record { sign = word at (94 ∷ []); section = word at (115 ∷ []); operand = word at (operand ∷ []) }

-- the section s has two levels
abbrev names : Names
names = record {
  inputs = [];
  outputs = [];
  errors = [];
  types = [];
  operations = [];
  operators = record { named = 115 ∷ []; levels = record { right = false; operators = [] } ∷ record { right = false; operators = [] } ∷ [] } ∷ [];
}

-- behind three rules: the pair that two objects use is gathered once, where it is first used, and two rules are made for each of the two pairs
fact-once : gather.gather names 10 3 [] (use-at 5 97 ∷ use-at 9 98 ∷ use-at 2 97 ∷ []) ≡ gathered 7 (use-at 5 97 ∷ use-at 9 98 ∷ [])
unfolding gather.opened uses.opened link.opened known.opened made.opened
fact-once = refl

-- 128 rules are the most: the second pair of 125 passes the limit
fact-past : gather.gather names 10 125 [] (use-at 5 97 ∷ use-at 2 97 ∷ use-at 9 98 ∷ []) ≡ past (use-at 9 98)
unfolding gather.opened uses.opened link.opened known.opened made.opened
fact-past = refl

fact-index : index_of (use-at 2 98) (use-at 5 97 ∷ use-at 9 98 ∷ []) ≡ 1
unfolding gather.opened uses.opened
fact-index = refl
