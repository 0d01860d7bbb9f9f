-- Operators sections and `^`: texts that are read, and those where reading stops. `~` marks the start of the word at fault and is not in the
-- text (`^` is a word here).
use mathlib.Core.List.{List, [], ◌∷◌}
use Prim.Native.Char.{code}
use Prim.Native.Nat.{ℕ}
use Prim.Native.String.{String}
use lib.Dec.{T}
use Rattle.base.specs.Common.{bytes}
use Rattle.syntax.proofs.Facts.{reading, stops, Line, agrees, all_agree, fine}
use Rattle.syntax.proofs.Marks.{mark_at, unmarked}
use Rattle.syntax.proofs.Trees.{Counted, counted, values_of, instructions_of, rankings_of, counts_in, counts, all_count, sections_of}

abbrev pub at : String → ℕ → ℕ → Line
at t n l = record { text = unmarked (code "~") (bytes t); outcome = stops n (mark_at (code "~") (bytes t)) l }

pub operators : List Line
operators =
    fine "operators E: p 1 left x; rules M: ^E @P; end"
    ∷ fine "operators E:'p'15right'x'q 1 left x;rules M:a^E@P;end"
    ∷ fine "operators operators: operators 1 left left right 2 right right; rules operators: ^operators @left; left: ; right: left; end"
    ∷ fine "input: operators left right; operators left: right 000015 right left; type operators: left right; mechanism operators: left; rules M: ; end"
    ∷ fine "operators E: p 00000000000000000000000000000000000001 left x; rules M: >> ^E @P { ^E @P > }; end"
    ∷ at "rules ~^M: ; end" 2 1
    ∷ at "operators ~: p 1 left x; rules M: ; end" 2 1
    ∷ at "operators ~'E': p 1 left x; rules M: ; end" 2 3
    ∷ at "operators ~input: p 1 left x; rules M: ; end" 2 5
    ∷ at "operators E ~p 1 left x; rules M: ; end" 2 1
    ∷ at "operators E: ~; rules M: ; end" 2 1
    ∷ at "operators E: p ~left x; rules M: ; end" 2 4
    ∷ at "operators E: p ~= 1 left x; rules M: ; end" 2 1
    ∷ at "operators E: p 1 ~x; rules M: ; end" 2 1
    ∷ at "operators E: p 1 ~'left' x; rules M: ; end" 2 6
    ∷ at "operators E: p 1 ~LEFT x; rules M: ; end" 2 4
    ∷ at "operators E: p 1 ~lefts x; rules M: ; end" 2 5
    ∷ at "operators E: p 1 ~input x; rules M: ; end" 2 5
    ∷ at "operators E: p 1 left~; rules M: ; end" 2 1
    ∷ at "operators E: p 1 left ~1 x; rules M: ; end" 2 1
    ∷ at "operators E: p 1 left x~, q 1 left x; rules M: ; end" 2 1
    ∷ at "operators E: p 1 left x ~2; rules M: ; end" 2 1
    ∷ at "operators E: p 1 left x ~rules M: ; end" 2 5
    ∷ at "~operator E: p 1 left x; rules M: ; end" 2 8
    ∷ at "~Operators E: p 1 left x; rules M: ; end" 2 9
    ∷ at "~'operators' E: p 1 left x; rules M: ; end" 2 11
    ∷ at "~left: p 1 left x; rules M: ; end" 2 4
    ∷ at "input ~operators E: p 1 left x; rules M: ; end" 2 9
    ∷ at "operators~" 2 0
    ∷ at "operators E: p 1~" 2 0
    ∷ at "operators E: p 1 ~+ left" 1 1
    ∷ at "rules M: ^~@P; end" 2 1
    ∷ at "rules M: ^~'E' @P; end" 2 3
    ∷ at "rules M: ^E ~P; end" 2 1
    ∷ at "rules M: ^E @~'P'; end" 2 3
    ∷ at "rules M: ^E @P~(x); end" 2 1
    ∷ at "rules M: ^~^E @P; end" 2 1
    ∷ at "rules M: [~^E @P | *: ]; end" 2 1
    ∷ at "rules M: [ | ~^E: ]; end" 2 1
    ∷ at "rules M: @~^E; end" 2 1
    ∷ at "rules M: ^E~" 2 0
    ∷ []

pub operators-read : T (all_agree operators)
unfolding reading agrees all_agree mark_at unmarked operators
operators-read = tt

-- "9 for a level outside 1 to 15", at the number; 32 bytes a name; a word that may not stand there is 2 whatever its length
pub limits : List Line
limits =
    at "operators E: p ~0 'left'" 9 1
    ∷ at "operators E: p ~000 left" 9 3
    ∷ at "operators E: p ~16 left" 9 2
    ∷ at "operators E: p ~65536 left" 9 5
    ∷ at "operators E: p ~99999999999999999999999999999999999 left" 9 35
    ∷ at "operators ~n23456789012345678901234567890123: 1" 9 33
    ∷ at "operators E: ~n23456789012345678901234567890123 0" 9 33
    ∷ at "operators E: p 1 left ~n23456789012345678901234567890123 0" 9 33
    ∷ at "operators E: p 1 ~n23456789012345678901234567890123 0" 2 33
    ∷ at "rules M: ^~n23456789012345678901234567890123 0" 9 33
    ∷ at "rules M: ^E @~n23456789012345678901234567890123 0" 9 33
    ∷ []

pub limits-read : T (all_agree limits)
unfolding reading agrees all_agree mark_at unmarked limits
limits-read = tt

-- levels and sides
pub levels : List Counted
levels =
    counted "operators E: p 1 left x q 015 right y left 7 left left; rules M: ; end" ((1 ∷ 0 ∷ 15 ∷ 1 ∷ 7 ∷ 0 ∷ []) ∷ [])
    ∷ counted "input: a; operators E: p 1 left x; input: b; rules M: ; end" ((0 ∷ []) ∷ (1 ∷ 0 ∷ []) ∷ (1 ∷ []) ∷ [])
    ∷ []

pub levels-counted : T (all_count levels)
unfolding reading values_of instructions_of rankings_of counts_in counts all_count sections_of levels
levels-counted = tt
