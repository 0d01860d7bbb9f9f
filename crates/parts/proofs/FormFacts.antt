-- Objects as words, worked out by hand.
use mathlib.Core.Bool.{Bool, false, ◌&&◌}
use mathlib.Core.List.{List, [], ◌∷◌}
use Prim.Native.Nat.{ℕ}
use lib.Dec.{T, eqb}
use Rattle.base.specs.Common.{bytes, same}
use Rattle.calls.specs.Renumber
use Rattle.cells.specs.Cells
use Rattle.names.specs.Declare
use Rattle.names.specs.Known
use Rattle.names.specs.Resolve
use Rattle.names.specs.Understand
use Rattle.names.specs.Uses
use Rattle.parts.specs.Form
use Rattle.parts.specs.Form.{Made, made, unmade, make_object}
use Rattle.parts.specs.Link
use Rattle.parts.specs.Objects
use Rattle.processor.specs.Process
use Rattle.program.specs.Made
use Rattle.program.specs.Past
use Rattle.program.specs.Program
use Rattle.syntax.specs.Actions
use Rattle.syntax.specs.Parse
use Rattle.syntax.specs.Reading
use Rattle.syntax.specs.Sections
use Rattle.syntax.specs.Texts
use Rattle.words.specs.Words

making : Unit {0}
unfolding Words.opened Reading.opened Actions.opened Sections.opened Parse.opened Known.opened Declare.opened Resolve.opened Understand.opened Uses.opened Made.opened Program.opened Past.opened Process.opened Texts.opened Objects.opened Link.opened Renumber.opened Cells.opened Form.opened
making = tt

are : Form.Made → List ℕ → Bool
are (made ws) us = same ws us
are (unmade n i p) us = false

is-not : Form.Made → ℕ → ℕ → ℕ → Bool
is-not (made ws) n i s = false
is-not (unmade m j p) n i s = eqb m n && eqb j i && eqb p.start s

-- `PO`, 21 words behind; 9 and 16 bytes, one rule, no pair; "rules end"; M at 6, no type; one call, N at 10; three cells: a call of a name, the end
one-call : T (are (make_object (bytes "rules end") (bytes "rules M: @N; end") 24)
    (20559 ∷ 0 ∷ 21 ∷ 9 ∷ 16 ∷ 1 ∷ 0 ∷ 29301 ∷ 27749 ∷ 29472 ∷ 25966 ∷ 25600 ∷ 6 ∷ 1 ∷ 77 ∷ 0 ∷ 1 ∷ 10 ∷ 1 ∷ 78 ∷ 3 ∷ 8 ∷ 0 ∷ 0 ∷ []))
unfolding making are
one-call = tt

-- a word less is 20 at the end of the part
too_short : T (is-not (make_object (bytes "rules end") (bytes "rules M: @N; end") 23) 20 1 16)
unfolding making is-not
too_short = tt

-- a part's fault is its own
faulty : T (is-not (make_object (bytes "rules end") (bytes "rules M: > ; end") 100) 7 1 9)
unfolding making is-not
faulty = tt

-- a choice by a listed rule, and a use of operators: the pair, its `^` at 25, the operand rule X at 29; in the cells 0 for the rule of a name, 1 for the first pair
sums : T (are (make_object (bytes "input: p; output: o; type t: y; operators E: p 1 left o; rules R >> t; end") (bytes "rules M: [@R | y: ? | *: ^E @X ]; end") 100)
    (20559 ∷ 0 ∷ 72 ∷ 74 ∷ 37 ∷ 1 ∷ 1
    ∷ 26990 ∷ 28789 ∷ 29754 ∷ 8304 ∷ 15136 ∷ 28533 ∷ 29808 ∷ 30068 ∷ 14880 ∷ 28475 ∷ 8308 ∷ 31088 ∷ 25888 ∷ 29754 ∷ 8313 ∷ 15136 ∷ 28528 ∷ 25970 ∷ 24948 ∷ 28530 ∷ 29472 ∷ 17722 ∷ 8304
    ∷ 8241 ∷ 8300 ∷ 25958 ∷ 29728 ∷ 28475 ∷ 8306 ∷ 30060 ∷ 25971 ∷ 8274 ∷ 8254 ∷ 15904 ∷ 29755 ∷ 8293 ∷ 28260
    ∷ 25 ∷ 1 ∷ 26 ∷ 1 ∷ 69 ∷ 29 ∷ 1 ∷ 88
    ∷ 6 ∷ 1 ∷ 77 ∷ 0 ∷ 2 ∷ 11 ∷ 1 ∷ 82 ∷ 29 ∷ 1 ∷ 88 ∷ 11 ∷ 11 ∷ 0 ∷ 65 ∷ 0 ∷ 4 ∷ 0 ∷ 13 ∷ 8 ∷ 1 ∷ 0 ∷ 0 ∷ []))
unfolding making are
sums = tt
