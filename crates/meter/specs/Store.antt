-- How the numbers of a half are stored: 4,353 words of 32 bits, one for each, and behind them a bit for each, 137 words.
use Rattle.std.specs.Prelude.{Bool, List, [], ◌∷◌, ℕ, zero, suc, ◌+◌, ◌/◌, ◌%◌, eqb, length, get_or, if◌then◌else◌}
use Rattle.verdict.specs.Told.{bit}
use Rattle.meter.specs.Makes.{cap}

-- bit i % 32 of word 4,353 + i / 32 says that number i is the cap
unfoldable pub at_cap : List ℕ → ℕ → Bool
at_cap ws i = bit (get_or ws (4353 + i / 32) 0) (i % 32)

-- number i: the cap, or else word i
unfoldable pub number_in : List ℕ → ℕ → ℕ
number_in ws i = if at_cap ws i then cap else get_or ws i 0

-- n numbers from i on
unfoldable pub numbers_from : List ℕ → ℕ → ℕ → List ℕ
numbers_from ws i zero = []
numbers_from ws i (suc n) = number_in ws i ∷ numbers_from ws (i + 1) n

-- all of them
unfoldable pub numbers_of : List ℕ → List ℕ
numbers_of ws = numbers_from ws 0 4353

-- the first half that a function is lent: all of its words, or none where it is the first half that is raised
unfoldable pub called_numbers : List ℕ → List ℕ
called_numbers ws = if eqb (length ws) 4490 then numbers_of ws else []

-- all of this file computes where this is unfolded
unfoldable pub opened : Unit {0}
unfolding at_cap number_in numbers_from numbers_of called_numbers
opened = tt
