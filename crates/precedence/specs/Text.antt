-- Operators in an accepted text.
use Rattle.std.specs.Prelude.{List, length}
use Rattle.names.specs.Known.{KnownRule, Names}
use Rattle.names.specs.Uses.{Use, pairs_of, lowest_of, levels_used, operand_of}
use Rattle.precedence.specs.Sums.{Apart, Stand}
use Rattle.program.specs.Program.{Rule}
use Rattle.syntax.specs.Written.{Program}

-- a use in the rules is a call of this place; there stand the rules of its section's levels over its operand rule, and no token is an operator of two
-- levels: what `Postfix` asks for
pub record Stands (p : Program) (n : Names) (rules : List KnownRule) (prog : List Rule) (u : Use) : Type 0 where
  pub stand : Stand prog (lowest_of n u (length p.rules) (pairs_of p.rules)) (operand_of rules u) (levels_used n u)
  pub apart : Apart (levels_used n u)
