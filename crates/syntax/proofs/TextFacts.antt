-- Common parts and further parts that are read, and those where reading stops; `^` marks the start of the word at fault and is not in the text.
use mathlib.Core.Bool.{Bool, true, false, not, ◌&&◌}
use mathlib.Core.List.{List, [], ◌∷◌, ◌++◌}
use Prim.Native.Nat.{ℕ}
use lib.Dec.{T, eqb}
use lib.ListN.{length, replicate}
use Rattle.base.specs.Common.{bytes}
use Rattle.syntax.proofs.Facts.{reading, Line, agrees, times, fine, fine_of, at, at_of}
use Rattle.syntax.proofs.Marks.{mark_at, unmarked}
use Rattle.syntax.specs.Reading.{Read, got, fault}
use Rattle.syntax.specs.Texts
use Rattle.syntax.specs.Texts.{Common, too_long, read_common, read_part}

unfoldable pub commons_agree : List Line → Bool
commons_agree [] = true
commons_agree (l ∷ ls) = agrees (read_common l.text) l.outcome && commons_agree ls

-- parts where `left` names may be declared
unfoldable pub parts_agree : ℕ → List Line → Bool
parts_agree left [] = true
parts_agree left (l ∷ ls) = agrees (read_part left l.text) l.outcome && parts_agree left ls

-- "Sections go in one common part, then `rules`, `NAME >> type;` for every choice rule .., `end`"
pub commons : List Line
commons =
    fine "rules end"
    ∷ fine "rules\n% none\nend % x"
    ∷ fine "rules A>>t;end"
    ∷ fine "input: a; type t: x; rules A >> t; B >> t; A >> u; end"
    ∷ at "^" 2 0
    ∷ at "^end" 2 3
    ∷ at "input: a; ^end" 2 3
    ∷ at "rules^" 2 0
    ∷ at "rules ^input: a; end" 2 5
    ∷ at "rules ^'A' >> t; end" 2 3
    ∷ at "rules A ^t; end" 2 1
    ∷ at "rules A ^; end" 2 1
    ∷ at "rules A^: ; end" 2 1
    ∷ at "rules A ^> t; end" 2 1
    ∷ at "rules A >> ^; end" 2 1
    ∷ at "rules A >> ^'t'; end" 2 3
    ∷ at "rules A >> t ^end" 2 3
    ∷ at "rules A >> t^: ; end" 2 1
    ∷ at "rules A >> t; ^; end" 2 1
    ∷ at "rules A >> t; end ^B" 2 1
    ∷ at "rules A >> t; end ^end" 2 3
    ∷ at "rules A >> t; ^$ end" 1 1
    ∷ at "rules ^abcdefghijklmnopqrstuvwxyz1234567 t" 9 33
    ∷ at "rules A >> ^abcdefghijklmnopqrstuvwxyz1234567 t" 9 33
    ∷ []

-- "128 rules, 512 names": 9 at the first listed name past what the sections leave
pub crowds : List Line
crowds =
    fine_of (bytes "rules " ++ (times 128 "A>>t;" ++ bytes "end"))
    ∷ at_of (bytes "rules " ++ (times 128 "A>>t;" ++ bytes "^B $")) 9 1
    ∷ fine_of (bytes "type t:v;input:" ++ (times 509 "a " ++ bytes ";rules A>>t;end"))
    ∷ at_of (bytes "type t:v;input:" ++ (times 509 "a " ++ bytes ";rules A>>t;^B $")) 9 1
    ∷ []

pub commons-agree : T (commons_agree commons && commons_agree crowds)
unfolding reading Texts.opened agrees commons_agree mark_at unmarked times commons crowds
commons-agree = tt

-- "rules go, between `rules` and `end`, in up to 16 further parts": one or more in each, and no section
pub parts : List Line
parts =
    fine "rules M: ; end"
    ∷ fine "rules M >> t: ; N: ; end % x"
    ∷ at "^" 2 0
    ∷ at "rules ^end" 2 3
    ∷ at "^end" 2 3
    ∷ at "^input: a; rules M: ; end" 2 5
    ∷ at "rules M >> t^; end" 2 1
    ∷ at "rules M: ; ^" 2 0
    ∷ at "rules M: ; end ^N" 2 1
    ∷ at "rules M: ; N: ; ^O: ; end" 9 1
    ∷ at "rules M: ; N: ; ^$" 1 1
    ∷ []

pub parts-agree : T (parts_agree 2 parts && parts_agree 0 (at "rules ^M: ; end" 9 1 ∷ []) && parts_agree 512 (at_of (bytes "rules " ++ (times 128 "r:;" ++ bytes "^q $")) 9 1 ∷ []))
unfolding reading Texts.opened agrees parts_agree mark_at unmarked times parts
parts-agree = tt

-- the names that the sections leave, and the lines of the list, which is not counted among them
unfoldable pub tells : Read Common → ℕ → ℕ → Bool
tells (got c ws) left lines = eqb c.left left && eqb (length c.listed) lines
tells (fault n w) left lines = false

pub left-told : T (tells (read_common (bytes "rules end")) 512 0 && tells (read_common (bytes "input: a b; type t: x; rules A >> t; B >> t; C >> t; end")) 508 3)
unfolding reading Texts.opened tells
left-told = tt

-- "The byte limit counts for each part"
pub bytes-told : T (too_long (replicate 32769 32) && not (too_long (replicate 32768 32)))
unfolding Texts.opened
bytes-told = tt
