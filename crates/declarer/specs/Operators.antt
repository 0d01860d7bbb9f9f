-- The checks of a section of operators in the code's order: each entry against the entries before it, as they are written.
use Rattle.std.specs.Prelude.{Bool, false, ◌&&◌, ◌||◌, not, List, [], ◌∷◌, ◌++◌, ◌≡◌, ℕ, zero, suc, ◌+◌, ◌*◌, ◌%◌, ◌<◌, eqb, length, get_or, take, if◌then◌else◌}
use Rattle.std.proofs.Math.Option.{Option, none, some}
use Rattle.std.specs.Prelude.{Option as Answer, Some, None, Result, Ok, Err}
use Rattle.base.specs.Faults.{fault_number}
use Rattle.base.specs.declared.Fault.{Fault}
use Rattle.declarations.specs.Decls.{Decl, knowns_in, declared_in, lookup_in}
use Rattle.grammar.specs.Derived.{OperatorsIn}
use Rattle.names.specs.Declare.{differ}
use Rattle.names.specs.Known.{Checked, good, ◌>>=◌, fault_if, find}
use Rattle.syntax.specs.Written.{Operator}
use Rattle.words.specs.Words.{Word, words_at}

-- an answer's fault in numbers, 0 for none
abbrev pub number_in : Result ℕ Fault → ℕ
number_in (Ok v) = 0
number_in (Err f) = fault_number f

-- two values that are there, and the same
unfoldable pub same_value : Option ℕ → Option ℕ → Bool
same_value none u = false
same_value (some v) none = false
same_value (some v) (some u) = eqb v u

-- 45 of the entry e, whose token has the value v, against the entry b
unfoldable pub against_one : List Decl → Option ℕ → Operator → Operator → Bool
against_one ds v e b = (eqb e.level b.level && differ e.right b.right) || same_value v (find b.token.text (knowns_in 1 ds))

unfoldable pub against : List Decl → Option ℕ → Operator → List Operator → Bool
against ds v e [] = false
against ds v e (b ∷ before) = against_one ds v e b || against ds v e before

-- the fault of the entry e
unfoldable pub entry_fault : List Decl → List Operator → Operator → Checked (Unit {0})
entry_fault ds before e = do
  _ ← fault_if (not (declared_in e.token.text ds)) 3 e.token
  _ ← fault_if (against ds (find e.token.text (knowns_in 1 ds)) e before) 45 e.token
  _ ← lookup_in ds 1 e.token
  _ ← lookup_in ds 2 e.emits
  good tt

unfoldable pub entries_fault : List Decl → List Operator → List Operator → Checked (Unit {0})
entries_fault ds before [] = good tt
entries_fault ds before (e ∷ es) = do
  _ ← entry_fault ds before e
  entries_fault ds (before ++ (e ∷ [])) es

-- what is left to hold the entry e against, of the first `count` of es: the first `left` of those from the place i on
pub record Left (ds : List Decl) (v : Option ℕ) (e : Operator) (text : List ℕ) (i left count : ℕ) (ws' : List Word) (es : List Operator) : Type 0 where
  pub rest : List Operator
  pub stand : OperatorsIn (words_at text i) ws' rest
  pub more : left < length rest
  pub same : against ds v e (take count es) ≡ against ds v e (take left rest)

-- `count` entries without a fault, and those from the place i on
pub record Passed (ds : List Decl) (text : List ℕ) (i count : ℕ) (ws' : List Word) (es : List Operator) : Type 0 where
  pub before : List Operator
  pub rest : List Operator
  pub whole : es ≡ before ++ rest
  pub size : length before ≡ count
  pub stand : OperatorsIn (words_at text i) ws' rest
  pub same : entries_fault ds [] es ≡ entries_fault ds before rest

-- The marks of a section's entries

-- from the i-th of the rows on, the first of k that has the value v
unfoldable pub slot_from : List ℕ → ℕ → ℕ → ℕ → Option ℕ
slot_from rows v i zero = none
slot_from rows v i (suc k) = if eqb (get_or rows (8 * i + 1) 0) v then some i else slot_from rows v (suc i) k

-- where a token is marked, by its value: at the first of n declarations that has it
unfoldable pub slot_of : List ℕ → ℕ → Option ℕ → Option ℕ
slot_of rows n none = none
slot_of rows n (some v) = slot_from rows v 0 n

-- where a side of a level is marked
unfoldable pub side_slot : ℕ → Bool → ℕ
side_slot level right = if right then 513 + 2 * (level % 16) else 512 + 2 * (level % 16)

-- an entry of that level and side, whose token has the value x, is marked
pub record MarkedAs (rows : List ℕ) (n : ℕ) (marks : List ℕ) (level : ℕ) (right : Bool) (x : Option ℕ) : Type 0 where
  pub side : get_or marks (side_slot level right) 0 ≡ 1
  pub token : (i : ℕ) → slot_of rows n x ≡ some i → get_or marks i 0 ≡ 1

-- a slot that is there and has no mark
abbrev pub is_free : List ℕ → Answer ℕ → Bool
is_free marks None = false
is_free marks (Some i) = eqb (get_or marks i 0) 0

-- the token has a slot, and no mark is there or of the other side
pub record Apart (rows : List ℕ) (n : ℕ) (marks : List ℕ) (level : ℕ) (right : Bool) (x : Option ℕ) : Type 0 where
  pub side : get_or marks (side_slot level (not right)) 0 ≡ 0
  pub slot : ℕ
  pub first : slot_of rows n x ≡ some slot
  pub free : get_or marks slot 0 ≡ 0

-- marks that were set are
pub record MarksKept (old new : List ℕ) : Type 0 where
  pub size : length new ≡ length old
  pub kept : (j : ℕ) → get_or old j 0 ≡ 1 → get_or new j 0 ≡ 1

-- all of these entries are marked
pub data AllMarked (ds : List Decl) (rows : List ℕ) (n : ℕ) (marks : List ℕ) : List Operator → Type 0 where
  none_marked : AllMarked ds rows n marks []
  more_marked : {b : Operator} {bs : List Operator} → MarkedAs rows n marks b.level b.right (find b.token.text (knowns_in 1 ds)) → AllMarked ds rows n marks bs → AllMarked ds rows n marks (b ∷ bs)

-- all of this file computes where this is unfolded
unfoldable pub opened : Unit {0}
unfolding same_value against_one against entry_fault entries_fault slot_from slot_of side_slot
opened = tt
