-- The uses of operators as a plain loop over the words of the rules finds them: a `^`, the word behind it and the third behind it.
use Rattle.std.specs.Prelude.{List, [], ◌∷◌, eqb, if◌then◌else◌}
use Rattle.names.specs.Uses.{Use}
use Rattle.syntax.specs.Reading.{peek}
use Rattle.words.specs.Words.{Word}

-- the words behind the first
unfoldable pub behind : List Word → List Word
behind [] = []
behind (w ∷ ws) = ws

-- the use that a `^` before these words begins
unfoldable pub use_of : Word → List Word → Use
use_of w ws = record { sign = w; section = peek ws; operand = peek (behind (behind ws)) }

-- up to the word `end` (266); 94 is `^`
unfoldable pub marks : List Word → List Use
marks [] = []
marks (w ∷ ws) =
    let later = marks ws in
    let one : Use = use_of w ws in
    if eqb w.kind 266 then [] else if eqb w.kind 94 then one ∷ later else later

-- all of this file computes where this is unfolded
unfoldable pub opened : Unit {0}
unfolding behind use_of marks
opened = tt
