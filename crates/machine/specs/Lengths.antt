-- "The length of each instruction is fixed by its number: two words, or one for 4, 9, 12 and the operations."
use Rattle.std.specs.Prelude.{◌&&◌, ◌||◌, List, [], ◌∷◌, ℕ, ◌-◌, eqb, leb, get_or, if◌then◌else◌}

-- the rule
unfoldable pub length_rule : ℕ → ℕ
length_rule i = if eqb i 4 || eqb i 9 || eqb i 12 then 1 else 2

-- the lengths of instructions 1 to 13
unfoldable pub lengths : List ℕ
lengths = 2 ∷ 2 ∷ 2 ∷ 1 ∷ 2 ∷ 2 ∷ 2 ∷ 2 ∷ 1 ∷ 2 ∷ 2 ∷ 1 ∷ 2 ∷ []

-- an instruction 1 to 13, or an operation; 0 for "an instruction 0, 14 to 255 or above 1,279"
unfoldable pub length_of : ℕ → ℕ
length_of i = if leb 1 i && leb i 13 then get_or lengths (i - 1) 0 else if leb 256 i && leb i 1279 then 1 else 0

-- all of this file computes where this is unfolded
unfoldable pub opened : Unit {0}
unfolding length_rule lengths length_of
opened = tt
