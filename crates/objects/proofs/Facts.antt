-- Objects read from their words, worked out by hand.
use mathlib.Core.Bool.{Bool, not}
use mathlib.Core.List.{List, [], ◌∷◌, ◌++◌}
use Prim.Native.Nat.{ℕ}
use lib.Dec.{eqb, T}
use lib.ListN.{length}
use Rattle.base.specs.Common.{bytes}
use Rattle.names.specs.Known
use Rattle.names.specs.Known.{Names}
use Rattle.names.specs.Understand
use Rattle.names.specs.Understand.{nobody}
use Rattle.parts.specs.Form
use Rattle.parts.specs.Link
use Rattle.syntax.specs.Texts.{Head}
use Rattle.objects.specs.Order
use Rattle.objects.specs.Take
use Rattle.objects.specs.View
use Rattle.objects.specs.Whole
use Rattle.objects.specs.Whole.{are_objects, good_views}

reading : Unit {0}
unfolding Known.opened Understand.opened Form.opened Link.opened Take.opened View.opened Order.opened Whole.opened
reading = tt

-- the common part has no section and no list
passes : List ℕ → Bool
passes words = are_objects [] nobody (bytes "rules end") words

-- `PO`, so many words behind, 9 and 16 bytes, one rule, no pair; "rules end"; M at 6
head : ℕ → List ℕ
head n = 20559 ∷ 0 ∷ n ∷ 9 ∷ 16 ∷ 1 ∷ 0 ∷ 29301 ∷ 27749 ∷ 29472 ∷ 25966 ∷ 25600 ∷ 6 ∷ 1 ∷ 77 ∷ []

-- no type; one call, N at 10; three cells: a call of a name, the end
one-call : T (passes (head 21 ++ (0 ∷ 1 ∷ 10 ∷ 1 ∷ 78 ∷ 3 ∷ 8 ∷ 0 ∷ 0 ∷ [])))
unfolding reading passes head
one-call = tt

-- two objects, one behind the other, and no object at all
two-objects : T (passes (head 21 ++ (0 ∷ 1 ∷ 10 ∷ 1 ∷ 78 ∷ 3 ∷ 8 ∷ 0 ∷ 0 ∷ (head 16 ++ (0 ∷ 0 ∷ 1 ∷ 0 ∷ [])))))
unfolding reading passes head
two-objects = tt

no-object : T (passes [])
unfolding reading passes
no-object = tt

-- a length that is not that of the words
wrong-length : T (not (passes (head 20 ++ (0 ∷ 1 ∷ 10 ∷ 1 ∷ 78 ∷ 3 ∷ 8 ∷ 0 ∷ 0 ∷ []))))
unfolding reading passes head
wrong-length = tt

-- a word too much
word-behind : T (not (passes (head 21 ++ (0 ∷ 1 ∷ 10 ∷ 1 ∷ 78 ∷ 3 ∷ 8 ∷ 0 ∷ 0 ∷ 0 ∷ []))))
unfolding reading passes head
word-behind = tt

-- a call of the first pair, where there is none
no-such-pair : T (not (passes (head 21 ++ (0 ∷ 1 ∷ 10 ∷ 1 ∷ 78 ∷ 3 ∷ 8 ∷ 1 ∷ 0 ∷ []))))
unfolding reading passes head
no-such-pair = tt

-- a name and no call
name-left : T (not (passes (head 19 ++ (0 ∷ 1 ∷ 10 ∷ 1 ∷ 78 ∷ 1 ∷ 0 ∷ []))))
unfolding reading passes head
name-left = tt

-- a call and no name
no_name : T (not (passes (head 18 ++ (0 ∷ 0 ∷ 3 ∷ 8 ∷ 0 ∷ 0 ∷ []))))
unfolding reading passes head
no_name = tt

-- `>` in a cycle, and outside
exit-inside : T (passes (head 19 ++ (0 ∷ 0 ∷ 4 ∷ 2 ∷ 1 ∷ 0 ∷ 0 ∷ [])))
unfolding reading passes head
exit-inside = tt

exit-outside : T (not (passes (head 17 ++ (0 ∷ 0 ∷ 2 ∷ 1 ∷ 0 ∷ []))))
unfolding reading passes head
exit-outside = tt

-- a choice by token: with a label and no otherwise, with no label, and with the cell of other choices
labelled : T (passes (head 21 ++ (0 ∷ 0 ∷ 6 ∷ 7 ∷ 65 ∷ 3 ∷ 0 ∷ 14 ∷ 0 ∷ [])))
unfolding reading passes head
labelled = tt

no_label : T (not (passes (head 18 ++ (0 ∷ 0 ∷ 3 ∷ 7 ∷ 14 ∷ 0 ∷ []))))
unfolding reading passes head
no_label = tt

other-end : T (not (passes (head 21 ++ (0 ∷ 0 ∷ 6 ∷ 7 ∷ 65 ∷ 3 ∷ 0 ∷ 12 ∷ 0 ∷ []))))
unfolding reading passes head
other-end = tt

-- a choice rule, of the type T at 12: it gives a value, or goes past its end
gives-value : T (passes (head 21 ++ (1 ∷ 12 ∷ 1 ∷ 84 ∷ 0 ∷ 3 ∷ 10 ∷ 5 ∷ 0 ∷ [])))
unfolding reading passes head
gives-value = tt

past-its-end : T (not (passes (head 20 ++ (1 ∷ 12 ∷ 1 ∷ 84 ∷ 0 ∷ 2 ∷ 4 ∷ 0 ∷ []))))
unfolding reading passes head
past-its-end = tt

-- how many objects are in order before one that is not: a second object of a word too much, and a second that calls a pair where there is none
good : List ℕ → ℕ
good words = good_views [] nobody (bytes "rules end") (length words) words

two_good : T (eqb (good (head 21 ++ (0 ∷ 1 ∷ 10 ∷ 1 ∷ 78 ∷ 3 ∷ 8 ∷ 0 ∷ 0 ∷ (head 16 ++ (0 ∷ 0 ∷ 1 ∷ 0 ∷ []))))) 2)
unfolding reading good head
two_good = tt

one-good : T (eqb (good (head 16 ++ (0 ∷ 0 ∷ 1 ∷ 0 ∷ (head 16 ++ (0 ∷ 0 ∷ 2 ∷ 0 ∷ []))))) 1)
unfolding reading good head
one-good = tt

then-no-pair : T (eqb (good (head 16 ++ (0 ∷ 0 ∷ 1 ∷ 0 ∷ (head 21 ++ (0 ∷ 1 ∷ 10 ∷ 1 ∷ 78 ∷ 3 ∷ 8 ∷ 1 ∷ 0 ∷ (head 16 ++ (0 ∷ 0 ∷ 1 ∷ 0 ∷ []))))))) 1)
unfolding reading good head
then-no-pair = tt

-- Pairs: a common part with a section of operators E, and with a list

sections : Names
sections = record { inputs = []; outputs = []; errors = []; types = []; operations = []; operators = record { named = bytes "E"; levels = [] } ∷ [] }

listed : List Head
listed = record { rule = record { kind = 257; start = 0; text = bytes "P" }; gives = record { kind = 257; start = 0; text = bytes "T" } } ∷ []

-- as above, with one pair: of a `^` at 20, of one byte, with E at 22 and the operand rule P at 24
paired : ℕ → List ℕ
paired n = 20559 ∷ 0 ∷ n ∷ 9 ∷ 16 ∷ 1 ∷ 1 ∷ 29301 ∷ 27749 ∷ 29472 ∷ 25966 ∷ 25600 ∷ 20 ∷ 1 ∷ 22 ∷ 1 ∷ 69 ∷ 24 ∷ 1 ∷ 80 ∷ 6 ∷ 1 ∷ 77 ∷ []

-- one call, of the rules of the pair
called : List ℕ
called = paired 29 ++ (0 ∷ 1 ∷ 24 ∷ 1 ∷ 80 ∷ 3 ∷ 8 ∷ 1 ∷ 0 ∷ [])

a_pair : T (are_objects [] sections (bytes "rules end") called)
unfolding reading sections paired called
a_pair = tt

-- no such section
no-such-section : T (not (passes called))
unfolding reading passes paired called
no-such-section = tt

-- the operand rule is on the list
operand-listed : T (not (are_objects listed sections (bytes "rules end") called))
unfolding reading sections listed paired called
operand-listed = tt

-- the operand rule is not called
operand-not-called : T (not (are_objects [] sections (bytes "rules end") (paired 24 ++ (0 ∷ 0 ∷ 1 ∷ 0 ∷ []))))
unfolding reading sections paired
operand-not-called = tt
