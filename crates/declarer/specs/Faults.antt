-- The parts of a check of the declarations, and what its answer tells.
use Rattle.std.specs.Prelude.{Bool, ◌||◌, List, [], ◌∷◌, ◌++◌, ◌≡◌, ℕ, length}
use Rattle.std.specs.Prelude.{Result, Ok, Err}
use Rattle.base.specs.Common.{given}
use Rattle.base.specs.Faults.{fault_number}
use Rattle.base.specs.declared.Refusal.{Refusal}
use Rattle.declarations.specs.Decls.{Decl, knowns_in, index_of, repeats_in, clashes_in, optional_in}
use Rattle.names.specs.Known.{Checked, good, wrong, ◌>>=◌, fault_if, Names, find, optional_type}
use Rattle.names.specs.Understand.{taken}
use Rattle.syntax.specs.Written.{Rule, Program}
use Rattle.words.specs.Words.{Word}

-- no fault, or a fault with the place and the length of its word
pub data Faults {A : Type 0} (fault at len : ℕ) : Checked A → Type 0 where
  clean : {a : A} → fault ≡ 0 → Faults fault at len (good a)
  faulty : {n : ℕ} {w : Word} → fault ≡ n → (n ≡ 0 → ⊥) → at ≡ w.start → len ≡ length w.text → Faults fault at len (wrong n w)

-- a result in numbers: 0, or the fault's number; the place and the length of its word

abbrev pub fault_of : {A : Type 0} → Result A Refusal → ℕ
fault_of (Ok a) = 0
fault_of (Err r) = fault_number r.fault

abbrev pub at_of : {A : Type 0} → Result A Refusal → ℕ
at_of (Ok a) = 0
at_of (Err r) = r.at

abbrev pub len_of : {A : Type 0} → Result A Refusal → ℕ
len_of (Ok a) = 0
len_of (Err r) = r.len

-- the result r tells what a check gives
abbrev pub Refuses : {A B : Type 0} → Result B Refusal → Checked A → Type 0
Refuses r m = Faults (fault_of r) (at_of r) (len_of r) m

-- an input token again
abbrev pub input_again : Decl → List Decl → Bool
input_again d before = repeats_in 1 d before || clashes_in d before

-- a token of input and output again
abbrev pub both_again : Decl → List Decl → Bool
both_again d before = repeats_in 1 d before || repeats_in 2 d before || clashes_in d before

-- an operation again, or after an input token
abbrev pub operation_again : Decl → List Decl → Bool
operation_again d before = given (index_of 6 d.name.text 0 before) || given (find d.name.text (knowns_in 1 before))

-- the types that an operation takes and gives
unfoldable pub types_in : List Decl → List Decl → Decl → Checked (Unit {0})
types_in ds before d = do
  _ ← optional_in ds before d.second
  _ ← optional_in ds before d.third
  good tt

-- a line of a common part's list whose name an operation has, or a line before it
abbrev pub line_again : Decl → List Decl → Bool
line_again d before = given (index_of 6 d.name.text 0 before) || given (index_of 7 d.name.text 0 before)

-- the fault of a line: its name, then its type
unfoldable pub line_fault : List Decl → List Decl → Decl → Checked (Unit {0})
line_fault ds before d = do
  _ ← fault_if (line_again d before) 4 d.name
  _ ← optional_in ds before d.third
  good tt

-- the first fault of the lines `rest` after `before`
unfoldable pub line_faults : List Decl → List Decl → List Decl → Checked (Unit {0})
line_faults ds before [] = good tt
line_faults ds before (d ∷ rest) = do
  _ ← line_fault ds before d
  line_faults ds (before ++ (d ∷ [])) rest

-- the lines by the names that are declared, after those named `seen`: a name once, and no operation's; its type declared
unfoldable pub lines_mean : Program → Names → List (List ℕ) → List Rule → Checked (Unit {0})
lines_mean p n seen [] = good tt
lines_mean p n seen (r ∷ rs) = do
  _ ← fault_if (taken r.rule n seen) 4 r.rule
  _ ← optional_type p n.types r.gives
  lines_mean p n (r.rule.text ∷ seen) rs
