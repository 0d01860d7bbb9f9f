-- The row of declarations as the code keeps it: eight 16-bit numbers a declaration. Words are places of the text, a length 0 stands for no word.
use Rattle.std.specs.Prelude.{List, [], ◌∷◌, ◌≡◌, ℕ, zero, suc, ◌+◌, ◌*◌, eqb, get_or, take, drop, if◌then◌else◌}
use Rattle.std.proofs.Math.Option.{Option, none, some}
use Rattle.std.specs.Prelude.{Option as Answer, Some, None, Result, Ok, Err}
use Rattle.base.specs.Common.{given}
use Rattle.base.specs.Faults.{fault_number}
use Rattle.base.specs.declared.Fault.{Fault}
use Rattle.declarations.specs.Decls.{Decl, index_of, elsewhere_in, knowns_in}
use Rattle.names.specs.Known.{Checked, good, wrong, Known}
use Rattle.words.specs.Words.{Word}

-- a part of the text as a word
abbrev pub word_of : List ℕ → ℕ → ℕ → ℕ → Word
word_of text kind start len = record { kind = kind; start = start; text = take len (drop start text) }

unfoldable pub option_of : List ℕ → ℕ → ℕ → ℕ → Option Word
option_of text kind start len = if eqb len 0 then none else some (word_of text kind start len)

-- the second word is a string, an operation's is a name
unfoldable pub second_kind : ℕ → ℕ
second_kind class = if eqb class 6 then 257 else 259

-- declaration i
unfoldable pub decl_at : List ℕ → List ℕ → ℕ → Decl
decl_at text rows i = record {
  class = get_or rows (8 * i) 0;
  value = get_or rows (8 * i + 1) 0;
  name = word_of text 257 (get_or rows (8 * i + 2) 0) (get_or rows (8 * i + 3) 0);
  second = option_of text (second_kind (get_or rows (8 * i) 0)) (get_or rows (8 * i + 4) 0) (get_or rows (8 * i + 5) 0);
  third = option_of text 257 (get_or rows (8 * i + 6) 0) (get_or rows (8 * i + 7) 0);
}

-- n declarations from the i-th on
unfoldable pub held_from : List ℕ → List ℕ → ℕ → ℕ → List Decl
held_from text rows i zero = []
held_from text rows i (suc n) = decl_at text rows i ∷ held_from text rows (suc i) n

-- the first n declarations
unfoldable pub held : List ℕ → List ℕ → ℕ → List Decl
held text rows n = held_from text rows 0 n

-- what the code answers: a number that is there, or none
abbrev pub answer_of : Option ℕ → Answer ℕ
answer_of none = None
answer_of (some v) = Some v

-- the same in a row of numbers: a number that is there, or 65,536
abbrev pub number_of : Option ℕ → ℕ
number_of none = 65536
number_of (some v) = v

-- the first row of the class c that has the name
unfoldable pub row_in : ℕ → List Decl → Word → Checked ℕ
row_in c ds w = elim (index_of c w.text 0 ds) [ some i ↦ good i | none ↦ wrong (elsewhere_in ds w.text) w ]

-- the row of an operation of the name
abbrev pub operation_in : List Decl → Word → Checked ℕ
operation_in = row_in 6

-- the row of a section of operators of the name
abbrev pub operators_row : List Decl → Word → Checked ℕ
operators_row = row_in 600

-- the row of a rule of the name; "A name declared twice keeps its first meaning" (R10)
unfoldable pub rule_in : List Decl → Word → Checked ℕ
rule_in ds w =
    if given (index_of 6 w.text 0 ds) then wrong 5 w
    else elim (index_of 7 w.text 0 ds) [ some i ↦ good i | none ↦ wrong (elsewhere_in ds w.text) w ]

-- an answer of the code, a value or a fault, tells what a check gives; the word at fault is the one that was looked up
pub data Looks (r : Result ℕ Fault) : Checked ℕ → Type 0 where
  found : {v : ℕ} → r ≡ Ok v → Looks r (good v)
  missing : {n : ℕ} {f : Fault} {w : Word} → r ≡ Err f → fault_number f ≡ n → Looks r (wrong n w)

-- the members of the class, none for class 0
unfoldable pub gives_of : List Decl → ℕ → Option (List Known)
gives_of ds class = if eqb class 0 then none else some (knowns_in class ds)

-- all of this file computes where this is unfolded
unfoldable pub opened : Unit {0}
unfolding option_of second_kind decl_at held_from held row_in rule_in gives_of
opened = tt
