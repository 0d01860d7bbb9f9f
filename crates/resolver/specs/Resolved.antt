-- What the functions that resolve a part of a rule promise: for every program whose declarations the rows hold, and every tree that stands at the
-- place, the outcome is that of crate names, and the cells appended are the encoding of what it means.
use Rattle.std.specs.Prelude.{Result, Ok, Err, Bool, false, List, [], ◌++◌, ◌≡◌, ℕ, suc, ◌+◌, ◌<◌, ◌≤◌, min, length, take}
use Rattle.std.proofs.lemmas.List.Edits.{sets}
use Rattle.base.specs.Common.{member}
use Rattle.base.specs.Faults.{fault_number}
use Rattle.base.specs.declared.Refusal.{Refusal}
use Rattle.cells.specs.Cells.{plain_cells, selector_cells, absent_cell}
use Rattle.declarations.specs.Decls.{Agrees, knowns_in}
use Rattle.grammar.specs.Derived.{PlainIn, SelectorIn, LabelsIn}
use Rattle.maker.specs.Pairs.{PairsAre}
use Rattle.names.specs.Known.{Checked, good, wrong, KnownRule, Names}
use Rattle.names.specs.Resolve.{plain_of, selector_of, labels_of}
use Rattle.program.specs.Past.{plain_past, is_exit}
use Rattle.resolver.specs.declared.Built.{Built}
use Rattle.resolver.specs.declared.Labels.{Labels}
use Rattle.resolver.specs.declared.Selected.{Selected}
use Rattle.symbols.specs.Rows.{held, gives_of}
use Rattle.syntax.specs.Written as written
use Rattle.syntax.specs.Written.{Program}
use Rattle.words.specs.Words.{Word, words_at}

-- the cells xs appended to the first c of cs; past the end nothing is written and the count stays one above the room
pub record Appends (cs : List ℕ) (c : ℕ) (xs cs' : List ℕ) (c' : ℕ) : Type 0 where
  pub cells : cs' ≡ sets cs c xs
  pub count : c' ≡ min (suc (length cs)) (c + length xs)

-- What the code answers, in numbers: the fault is 0 and there is what was read, or there is a fault at a word.

-- what was read ends at the place `at`, and there are `count` cells
pub record DoneTold : Type 0 where
  pub fault : ℕ
  pub at : ℕ
  pub len : ℕ
  pub count : ℕ

pub record BuiltTold : Type 0 where
  pub done : DoneTold
  pub past : Bool
  pub exits : Bool

pub record SelectedTold : Type 0 where
  pub done : DoneTold
  pub class : ℕ
  pub absent : ℕ

pub record LabelsTold : Type 0 where
  pub fault : ℕ
  pub at : ℕ
  pub len : ℕ
  pub used : ℕ

abbrev pub read_told : ℕ → ℕ → DoneTold
read_told at count = record { fault = 0; at = at; len = 0; count = count }

abbrev pub fault_told : Refusal → DoneTold
fault_told e = record { fault = fault_number e.fault; at = e.at; len = e.len; count = 0 }

abbrev pub built_told : Result Built Refusal → BuiltTold
built_told (Ok b) = record { done = read_told b.at b.count; past = b.past; exits = b.exits }
built_told (Err e) = record { done = fault_told e; past = false; exits = false }

abbrev pub selected_told : Result Selected Refusal → SelectedTold
selected_told (Ok x) = record { done = read_told x.at x.count; class = x.class; absent = x.absent }
selected_told (Err e) = record { done = fault_told e; class = 0; absent = 0 }

abbrev pub labels_told : Result Labels Refusal → LabelsTold
labels_told (Ok l) = record { fault = 0; at = l.at; len = 0; used = l.used }
labels_told (Err e) = record { fault = fault_number e.fault; at = e.at; len = e.len; used = 0 }

-- a fault at a word: its number, its place, its length
pub record Faulted (f i l : ℕ) (d : DoneTold) : Type 0 where
  pub fault : d.fault ≡ f
  pub at : d.at ≡ i
  pub len : d.len ≡ l

-- the code's answer tells a check's outcome: the words left, the cells of the value and what P says of it, or the fault at its word. The cells rest on E: a
-- `^` is the call of a rule made for it, and where that stands the rows say, if they hold the text's pairs
pub data Ends {B : Type 0} (E : Type 0) (text : List ℕ) (ws : List Word) (cs : List ℕ) (c : ℕ) (cs' : List ℕ) (cells_of : B → List ℕ) (P : B → Type 0) (r : DoneTold) : Checked B → Type 0 where
  ended : {b : B} → r.fault ≡ 0 → ws ≡ words_at text r.at → (E → Appends cs c (cells_of b) cs' r.count) → P b → Ends E text ws cs c cs' cells_of P r (good b)
  failed : {n : ℕ} {w : Word} → r.fault ≡ n → (n ≡ 0 → ⊥) → r.at ≡ w.start → r.len ≡ length w.text → Ends E text ws cs c cs' cells_of P r (wrong n w)

-- whether an action goes past itself, and whether it is an exit
abbrev pub Flags : Bool → Bool → Bool → Bool → Type 0
Flags past exits past' exits' = (past ≡ past') × (exits ≡ exits')

-- a plain action at the place `at`, in a cycle or not, in a rule that gives values of the class (0: in a procedure rule)
pub record PlainDone (text rows : List ℕ) (n at : ℕ) (inside : Bool) (class : ℕ) (cs : List ℕ) (c : ℕ) (cs' : List ℕ) (r : BuiltTold) : Type 0 where
  pub same : length cs' ≡ length cs
  pub moves : r.done.fault ≡ 0 → at < r.done.at
  pub high : r.done.fault ≡ 0 → r.done.at ≤ length text
  pub done : (p : Program) (names : Names) (rs : List KnownRule) → Agrees p names rs (held text rows n) → (a : written.Plain) (ws : List Word) → PlainIn (words_at text at) ws a
      → Ends (PairsAre text rows n p names) text ws cs c cs' (λ b. plain_cells b []) (λ b. Flags r.past r.exits (plain_past b) (is_exit b)) r.done
      (plain_of p names rs (record { inside = inside; gives = gives_of (held text rows n) class }) a)

-- a selector: the class of the choice's labels, and the cell that stands for no otherwise
pub record SelectorDone (text rows : List ℕ) (n at : ℕ) (cs : List ℕ) (c : ℕ) (cs' : List ℕ) (r : SelectedTold) : Type 0 where
  pub same : length cs' ≡ length cs
  pub low : r.done.fault ≡ 0 → at ≤ r.done.at
  pub high : r.done.fault ≡ 0 → r.done.at ≤ length text
  pub done : (p : Program) (names : Names) (rs : List KnownRule) → Agrees p names rs (held text rows n) → (s : written.Selector) (ws : List Word) → SelectorIn (words_at text at) ws s
      → Ends (PairsAre text rows n p names) text ws cs c cs' (λ x. selector_cells x.by []) (λ x. (x.labels ≡ knowns_in r.class (held text rows n)) × (r.absent ≡ absent_cell x.by)) r.done
      (selector_of p names rs s)

-- the values of an alternative's labels stand behind the first `used` of the choice's
pub data LabelsEnd (text : List ℕ) (ws : List Word) (seen : List ℕ) (used : ℕ) (seen' : List ℕ) (r : LabelsTold) : Checked (List ℕ) → Type 0 where
  labelled : {vs : List ℕ} → r.fault ≡ 0 → ws ≡ words_at text r.at → r.used ≡ used + length vs → take r.used seen' ≡ take used seen ++ vs
      → LabelsEnd text ws seen used seen' r (good vs)
  mislabelled : {n : ℕ} {w : Word} → r.fault ≡ n → (n ≡ 0 → ⊥) → r.at ≡ w.start → r.len ≡ length w.text → LabelsEnd text ws seen used seen' r (wrong n w)

-- labels of a class at the place `at`, in a choice whose first `used` labels are in `seen`
pub record LabelsDone (text rows : List ℕ) (n at class : ℕ) (seen : List ℕ) (used : ℕ) (seen' : List ℕ) (r : LabelsTold) : Type 0 where
  pub same : length seen' ≡ length seen
  pub moves : r.fault ≡ 0 → at < r.at
  pub high : r.fault ≡ 0 → r.at ≤ length text
  pub more : r.fault ≡ 0 → used ≤ r.used
  pub room : r.fault ≡ 0 → r.used ≤ length seen
  pub done : (p : Program) (names : Names) (rs : List KnownRule) → Agrees p names rs (held text rows n) → (ls ws : List Word) → LabelsIn (words_at text at) ws ls
      → used + length ls ≤ length seen → (old : List ℕ) → ((v : ℕ) → member v old ≡ member v (take used seen))
      → LabelsEnd text ws seen used seen' r (labels_of p names rs ls (knowns_in class (held text rows n)) old)
