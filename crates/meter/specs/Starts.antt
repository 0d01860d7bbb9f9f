-- Where the rules of a program start, in order.
use Rattle.std.specs.Prelude.{List, [], ◌∷◌, ℕ, ◌+◌}
use Rattle.program.specs.Program.{Rule}
use Rattle.program.specs.Table.{size_rule}

-- the first of them at l
unfoldable pub starts_from : ℕ → List Rule → List ℕ
starts_from l [] = []
starts_from l (b ∷ bs) = l ∷ starts_from (l + size_rule b) bs

-- "Rules stand in text order from location 1."
abbrev pub starts_in : List Rule → List ℕ
starts_in prog = starts_from 1 prog
