-- What the functions that read sections, rules and the program promise.
use Rattle.std.specs.Prelude.{◌≡◌, Bool, true, false, List, [], ◌∷◌, ℕ, ◌+◌, ◌-◌, ◌≤◌, ◌<◌, leb, length, if◌then◌else◌}
use Rattle.std.proofs.Math.Option.{Option, none, some}
use Prim.Native.Char.{code}
use Rattle.std.specs.Prelude.{Result, Ok, IfOk}
use Rattle.base.specs.declared.Refusal.{Refusal}
use Rattle.reader.specs.Answers.{Out, out, out_at, Brings, Reads, Moves, Yields}
use Rattle.reader.specs.declared.Added.{Added}
use Rattle.reader.specs.declared.Counted.{Counted}
use Rattle.reader.specs.declared.Entries.{Entries}
use Rattle.reader.specs.declared.Operations.{Operations}
use Rattle.reader.specs.declared.Ahead.{Ahead}
use Rattle.reader.specs.declared.Sectioned.{Sectioned}
use Rattle.reader.specs.declared.Seen.{Seen}
use Rattle.reader.specs.declared.State.{State}
use Rattle.reader.specs.declared.Valued.{Valued}
use Rattle.syntax.specs.Parse.{a_rule}
use Rattle.syntax.specs.Reading.{Read, got, fault, Reader, ◌>>=◌, ◌>>◌, pure, peek, expect, one_name, a_number}
use Rattle.syntax.specs.Sections.{an_entry, entries, of_kind, first_of, an_operation, some_operations, Sofar, next_of, instructions, after, Sections, some_sections}
use Rattle.syntax.specs.Written.{Entry, Operation, Section, outputs, errors, values}
use Rattle.words.specs.Words.{Word, words_at, value, end, last}

-- a name was read where one more may be declared
pub record OneName (text : List ℕ) (at left : ℕ) (r : Out) : Type 0 where
  pub yields : Yields (λ a. a ≡ peek (words_at text at)) text at at (λ _. one_name left) r
  pub some : r.fault ≡ 0 → 0 < left

-- Entries

-- r is the value of the digits, or both are past 65,535
pub record NumberOf (digits : List ℕ) (r : ℕ) : Type 0 where
  pub exact : r ≤ 65535 → value 0 digits ≡ r
  pub past : 65535 < r → 65535 < value 0 digits

pub record ANumber (text : List ℕ) (at : ℕ) (r : Result Valued Refusal) : Type 0 where
  pub yields : Yields (λ n. IfOk r (λ v. n ≡ v.value)) text at at (λ _. a_number) (out_at (λ v. v.at) r)
  pub small : IfOk r (λ v. v.value ≤ 65535)

-- a reader that has no fault
abbrev pub Sure : {A : Type 0} → List ℕ → ℕ → Reader A → ℕ → Type 0
Sure text at m r = Reads text at at (λ _. m) (out (Ok r))

pub record AnEntry (text : List ℕ) (at left : ℕ) (strings : Bool) (v : ℕ) (r : Result Valued Refusal) : Type 0 where
  pub yields : Yields (λ (e : Entry). IfOk r (λ v. e.value ≡ v.value)) text at at (λ _. an_entry left strings v) (out_at (λ v. v.at) r)
  pub some : (out_at (λ v. v.at) r).fault ≡ 0 → 0 < left
  pub small : IfOk r (λ v. v.value ≤ 65535)

-- entries leave n names of `left`, and t is one above the greatest of their values and what `top` is one above
pub record Entered (left top n t : ℕ) (es : List Entry) : Type 0 where
  pub less : left - length es ≡ n
  pub most : next_of top es ≡ t

-- a colon and entries
unfoldable pub listed : ℕ → ℕ → Bool → ℕ → Reader (List Entry)
listed k left strings v = do expect (code ":"); entries k left strings v

abbrev pub SomeEntries : List ℕ → ℕ → ℕ → Bool → ℕ → Result Entries Refusal → Type 0
SomeEntries text at left strings v r = Yields (λ es. IfOk r (λ e. Entered left 0 e.left e.top es)) text at at (λ k. entries k left strings v) (out_at (λ e. e.at) r)

abbrev pub ListedEntries : List ℕ → ℕ → ℕ → Bool → ℕ → Result Entries Refusal → Type 0
ListedEntries text at left strings v r = Yields (λ es. IfOk r (λ e. Entered left 0 e.left e.top es)) text at at (λ k. listed k left strings v) (out_at (λ e. e.at) r)

-- Operations

-- how many there are of the kind, by whether it takes a parameter and gives a value
abbrev pub count_of : Seen → Bool → Bool → ℕ
count_of s false false = s.plain
count_of s true false = s.taking
count_of s false true = s.giving
count_of s true true = s.both

abbrev pub one_more : Seen → Bool → Bool → Seen
one_more s false false = record { plain = s.plain + 1; taking = s.taking; giving = s.giving; both = s.both }
one_more s true false = record { plain = s.plain; taking = s.taking + 1; giving = s.giving; both = s.both }
one_more s false true = record { plain = s.plain; taking = s.taking; giving = s.giving + 1; both = s.both }
one_more s true true = record { plain = s.plain; taking = s.taking; giving = s.giving; both = s.both + 1 }

-- the four counts of these instruction numbers
pub record Kinds (is : List ℕ) (s : Seen) : Type 0 where
  pub plain : s.plain ≡ of_kind 256 is
  pub taking : s.taking ≡ of_kind 512 is
  pub giving : s.giving ≡ of_kind 768 is
  pub both : s.both ≡ of_kind 1024 is

-- these instruction numbers were added
pub record Adds (is : List ℕ) (s t : Seen) : Type 0 where
  pub plain : t.plain ≡ s.plain + of_kind 256 is
  pub taking : t.taking ≡ s.taking + of_kind 512 is
  pub giving : t.giving ≡ s.giving + of_kind 768 is
  pub both : t.both ≡ s.both + of_kind 1024 is

-- where the kind begins that was seen ahead
unfoldable pub told_kind : Ahead → Option ℕ
told_kind a = if a.known then some (first_of a.takes a.gives) else none

-- the kind that was seen ahead is full by the counts
unfoldable pub full_in : Seen → Ahead → Bool
full_in s a = if a.known then leb 256 (count_of s a.takes a.gives) else false

pub record AnOperation (text : List ℕ) (at left : ℕ) (seen : Seen) (r : Result Added Refusal) : Type 0 where
  pub low : at ≤ (out_at (λ a. a.at) r).at
  pub high : (out_at (λ a. a.at) r).at ≤ length text
  pub past : (out_at (λ a. a.at) r).fault ≡ 0 → at < (out_at (λ a. a.at) r).at
  pub some : (out_at (λ a. a.at) r).fault ≡ 0 → 0 < left
  pub brings : (is : List ℕ) → Kinds is seen
      → Brings (λ o. IfOk r (λ a. Adds (o.instruction ∷ []) seen a.seen)) (an_operation left is (words_at text at)) text (out_at (λ a. a.at) r)

-- operations leave n names of `left`, and the counts t of the counts s
pub record Operated (left n : ℕ) (s t : Seen) (os : List Operation) : Type 0 where
  pub less : left - length os ≡ n
  pub adds : Adds (instructions os) s t

-- what is read has the property
pub record Operates (P : List Operation → Type 0) (text : List ℕ) (at left : ℕ) (seen : Seen) (o : Out) : Type 0 where
  pub low : at ≤ o.at
  pub high : o.at ≤ length text
  pub past : o.fault ≡ 0 → at < o.at
  pub brings : (is : List ℕ) → Kinds is seen → (k : ℕ) → length text < at + k → Brings P (some_operations k left is (words_at text at)) text o

abbrev pub SomeOperations : List ℕ → ℕ → ℕ → Seen → Result Operations Refusal → Type 0
SomeOperations text at left seen r = Operates (λ os. IfOk r (λ o. Operated left o.left seen o.seen os)) text at left seen (out_at (λ o. o.at) r)

-- Sections

-- sections without the word that says which
unfoldable pub output_section : ℕ → Sofar → Reader Section
output_section k s = do expect (code ":"); es ← entries k s.left true s.output; pure (outputs es)

unfoldable pub error_section : ℕ → Sofar → Reader Section
error_section k s = do expect (code ":"); es ← entries k s.left false s.error; pure (errors es)

unfoldable pub type_section : ℕ → Sofar → Reader Section
type_section k s = do w ← one_name s.left; expect (code ":"); es ← entries k (s.left - 1) false 0; pure (values w es)

-- the code's state is the definition's
pub record Keeps (s : Sofar) (t : State) : Type 0 where
  pub left : t.left ≡ s.left
  pub input : t.input ≡ s.input
  pub output : t.output ≡ s.output
  pub error : t.error ≡ s.error
  pub kinds : Kinds s.seen t.seen

-- a section was read: its state is that after it
pub record ASection (text : List ℕ) (at from : ℕ) (m : ℕ → Sofar → Reader Section) (t : State) (r : Result Sectioned Refusal) : Type 0 where
  pub low : at ≤ (out_at (λ x. x.at) r).at
  pub high : (out_at (λ x. x.at) r).at ≤ length text
  pub past : (out_at (λ x. x.at) r).fault ≡ 0 → at < (out_at (λ x. x.at) r).at
  pub brings : (s : Sofar) → Keeps s t → (k : ℕ) → length text < from + k
      → Brings (λ x. IfOk r (λ y. Keeps (after s x) y.state)) (m k s (words_at text at)) text (out_at (λ x. x.at) r)

-- what is read has the property
pub record Sections_read (P : Sections → Type 0) (text : List ℕ) (at : ℕ) (t : State) (o : Out) : Type 0 where
  pub low : at ≤ o.at
  pub high : o.at ≤ length text
  pub brings : (s : Sofar) → Keeps s t → (k : ℕ) → length text < at + k → Brings P (some_sections k s (words_at text at)) text o

abbrev pub SomeSections : List ℕ → ℕ → State → Result Counted Refusal → Type 0
SomeSections text at t r = Sections_read (λ x. IfOk r (λ c. x.left ≡ c.room)) text at t (out_at (λ c. c.at) r)

-- Rules

pub record ARule (text : List ℕ) (at left : ℕ) (r : Out) : Type 0 where
  pub moves : Moves text at (at + 1) (λ k. a_rule k left) r
  pub some : r.fault ≡ 0 → 0 < left

-- The whole

-- the end of a program
unfoldable pub ending : Reader Word
ending = do expect end; expect last

-- the answer r decides the reading m: fault 0 where it is read, else the fault, its word's start and length
pub data Decides {A : Type 0} (r : Out) : Read A → Type 0 where
  fine : {a : A} {ws : List Word} → r.fault ≡ 0 → Decides r (got a ws)
  wrong : {n : ℕ} {w : Word} → (n ≡ 0 → ⊥) → r.fault ≡ n → r.at ≡ w.start → r.len ≡ length w.text → Decides r (fault n w)
