-- What the functions for the parts of an action promise: each part by its own derivation, behind the words that are read already.
use Rattle.std.specs.Prelude.{Bool, true, false, List, [], ◌∷◌, ◌≡◌, ℕ, ◌+◌, ◌<◌, ◌≤◌, length, take, if◌then◌else◌}
use Rattle.std.proofs.Math.Option.{Option, none, some}
use Rattle.std.specs.Prelude.{Result, Ok, Err, is_some, unwrap_or}
use Rattle.base.specs.Common.{member}
use Rattle.base.specs.Faults.{fault_number}
use Rattle.base.specs.declared.Refusal.{Refusal}
use Rattle.cells.specs.Cells.{plain_cells, selector_cells, absent_cell}
use Rattle.declarations.specs.Decls.{Decl, Agrees, knowns_in, lookup_in, members_of}
use Rattle.grammar.specs.Derived.{Took, Reference, ConstantIn, ValueIn}
use Rattle.maker.specs.Pairs.{PairsAre}
use Rattle.names.specs.Known.{Checked, good, wrong, ◌>>=◌, fault_if, Known, KnownRule, Names}
use Rattle.names.specs.Resolve.{Place, Chooses, choosing, parameter_of, update_of, match_of, give_of, ranked_of, plain_of, selector_of}
use Rattle.program.specs.Past.{plain_past, is_exit}
use Rattle.program.specs.Program.{Plain, any, exit}
use Rattle.resolver.specs.declared.Label.{Label}
use Rattle.resolver.specs.declared.Parameter.{Parameter}
use Rattle.resolver.specs.Resolved.{BuiltTold, SelectedTold, Ends, Flags}
use Rattle.scanner.specs.Next.{as_word}
use Rattle.scanner.specs.declared.WordAt.{WordAt}
use Rattle.symbols.specs.Rows.{held, decl_at, gives_of}
use Rattle.syntax.specs.Written as written
use Rattle.syntax.specs.Written.{Constant, Program}
use Rattle.words.specs.Words.{Word, words_at}

-- a word of the code that lies in the text
pub record Lies (text : List ℕ) (w : WordAt) : Type 0 where
  pub inside : w.start + w.len ≤ length text
  pub high : w.next ≤ length text

-- an action that was read up to the place i, with k cells then
pub record Went (i k : ℕ) (b : Bool) (r : BuiltTold) : Type 0 where
  pub fault : r.done.fault ≡ 0
  pub at : r.done.at ≡ i
  pub count : r.done.count ≡ k
  pub past : r.past ≡ b
  pub exits : r.exits ≡ false

abbrev pub PlainEnds : Type 0 → List ℕ → List Word → List ℕ → ℕ → List ℕ → BuiltTold → Checked Plain → Type 0
PlainEnds E text ws cs c cs' r m =
    Ends E text ws cs c cs' (λ b. plain_cells b []) (λ b. Flags r.past r.exits (plain_past b) (is_exit b)) r.done m

-- the rest of a plain action, from the place `from` on: `In` says which words it is read from, `outcome` what it comes to
pub record RestDone {A : Type 0} (In : List Word → List Word → A → Type 0) (outcome : Program → Names → List KnownRule → A → Checked Plain)
    (text rows : List ℕ) (n from : ℕ) (cs : List ℕ) (c : ℕ) (cs' : List ℕ) (r : BuiltTold) : Type 0 where
  pub same : length cs' ≡ length cs
  pub low : r.done.fault ≡ 0 → from ≤ r.done.at
  pub high : r.done.fault ≡ 0 → r.done.at ≤ length text
  pub done : (p : Program) (names : Names) (rs : List KnownRule) → Agrees p names rs (held text rows n)
      → (a : A) (ws : List Word) → In (words_at text from) ws a → PlainEnds (PairsAre text rows n p names) text ws cs c cs' r (outcome p names rs a)

-- no more words
abbrev pub NothingIn : List Word → List Word → Unit {0} → Type 0
NothingIn ws ws' _ = ws' ≡ ws

abbrev pub ReferenceIn : List Word → List Word → Word → Type 0
ReferenceIn ws ws' w = Reference ws w ws'

abbrev pub NameIn : List Word → List Word → Word → Type 0
NameIn ws ws' w = Took 257 ws w ws'

-- a section's name, `@` and a rule's name
pub data RankedIn (ws ws' : List Word) (x : Word × Word) : Type 0 where
  ranked_words : {at : Word} {ws₁ ws₂ : List Word} → Took 257 ws x.0 ws₁ → Took 64 ws₁ at ws₂ → Took 257 ws₂ x.1 ws' → RankedIn ws ws' x

-- what f makes of a value
abbrev pub valued : {B : Type 0} → (ℕ → B) → Checked ℕ → Checked B
valued f m = ◌>>=◌ m (λ v. good (f v))

-- an action of a value: two cells
pub record Sends (first : ℕ) (b : Bool) (f : ℕ → Plain) : Type 0 where
  pub cells : (v : ℕ) → plain_cells (f v) [] ≡ first ∷ v ∷ []
  pub past : (v : ℕ) → b ≡ plain_past (f v)
  pub exits : (v : ℕ) → false ≡ is_exit (f v)

-- what plain actions come to that do not ask for a cycle or a choice rule around them
abbrev pub apart : Place
apart = record { inside = false; gives = none }

abbrev pub named_of : Program → Names → List KnownRule → Word → Option Constant → Checked Plain
named_of p names rs w c = plain_of p names rs apart (written.named w c)

abbrev pub call_of : Program → Names → List KnownRule → Word → Checked Plain
call_of p names rs w = plain_of p names rs apart (written.call w)

abbrev pub any_of : Program → Names → List KnownRule → Unit {0} → Checked Plain
any_of p names rs _ = good any

abbrev pub exit_of : Bool → Word → Program → Names → List KnownRule → Unit {0} → Checked Plain
exit_of inside w p names rs _ = if inside then good exit else wrong 7 w

-- `^`, the word s, with a section's and a rule's name
abbrev pub by_rank : Word → Program → Names → List KnownRule → Word × Word → Checked Plain
by_rank s p names rs x = ranked_of p names rs s x.0 x.1

-- the rest of each plain action, whose first word is w

abbrev pub MatchDone : ℕ → List ℕ → List ℕ → ℕ → ℕ → List ℕ → ℕ → List ℕ → BuiltTold → Type 0
MatchDone v text rows n at cs c cs' r = RestDone ConstantIn (λ p names rs. match_of p names rs v) text rows n at cs c cs' r

abbrev pub UpdateDone : WordAt → List ℕ → List ℕ → ℕ → List ℕ → ℕ → List ℕ → BuiltTold → Type 0
UpdateDone w text rows n cs c cs' r = RestDone ConstantIn (λ p names rs. update_of p names rs (as_word text w)) text rows n w.next cs c cs' r

abbrev pub NamedDone : WordAt → List ℕ → List ℕ → ℕ → List ℕ → ℕ → List ℕ → BuiltTold → Type 0
NamedDone w text rows n cs c cs' r = RestDone ConstantIn (λ p names rs. named_of p names rs (as_word text w)) text rows n w.next cs c cs' r

-- a name or string of the class, of which f makes an action
abbrev pub SentDone : (ℕ → Plain) → ℕ → List ℕ → List ℕ → ℕ → ℕ → List ℕ → ℕ → List ℕ → BuiltTold → Type 0
SentDone f class text rows n at cs c cs' r = RestDone ReferenceIn (λ p names rs u. valued f (lookup_in (held text rows n) class u)) text rows n at cs c cs' r

-- `>>` with a value, in a rule that gives values of the class
abbrev pub GivenDone : WordAt → ℕ → List ℕ → List ℕ → ℕ → List ℕ → ℕ → List ℕ → BuiltTold → Type 0
GivenDone w class text rows n cs c cs' r =
    RestDone ReferenceIn (λ p names rs v. give_of p names rs (gives_of (held text rows n) class) (as_word text w) (some v)) text rows n w.next cs c cs' r

abbrev pub GiveDone : WordAt → ℕ → List ℕ → List ℕ → ℕ → List ℕ → ℕ → List ℕ → BuiltTold → Type 0
GiveDone w class text rows n cs c cs' r =
    RestDone ValueIn (λ p names rs. give_of p names rs (gives_of (held text rows n) class) (as_word text w)) text rows n w.next cs c cs' r

abbrev pub AnyDone : WordAt → List ℕ → List ℕ → ℕ → List ℕ → ℕ → List ℕ → BuiltTold → Type 0
AnyDone w text rows n cs c cs' r = RestDone NothingIn any_of text rows n w.next cs c cs' r

abbrev pub ExitDone : WordAt → Bool → List ℕ → List ℕ → ℕ → List ℕ → ℕ → List ℕ → BuiltTold → Type 0
ExitDone w inside text rows n cs c cs' r = RestDone NothingIn (exit_of inside (as_word text w)) text rows n w.next cs c cs' r

abbrev pub RankedDone : WordAt → List ℕ → List ℕ → ℕ → List ℕ → ℕ → List ℕ → BuiltTold → Type 0
RankedDone w text rows n cs c cs' r = RestDone RankedIn (by_rank (as_word text w)) text rows n w.next cs c cs' r

-- Parameters

-- a parameter that was read, in numbers: the fault is 0 and it is there or not, or there is a fault at a word
pub record ParameterTold : Type 0 where
  pub fault : ℕ
  pub at : ℕ
  pub len : ℕ
  pub there : Bool
  pub value : ℕ

abbrev pub parameter_told : Result Parameter Refusal → ParameterTold
parameter_told (Ok p) = record { fault = 0; at = p.at; len = 0; there = is_some p.value; value = unwrap_or p.value 0 }
parameter_told (Err e) = record { fault = fault_number e.fault; at = e.at; len = e.len; there = false; value = 0 }

-- a parameter that is missing or extra, at this word
pub record Misfit (i l : ℕ) (r : ParameterTold) : Type 0 where
  pub fault : r.fault ≡ 5
  pub at : r.at ≡ i
  pub len : r.len ≡ l
  pub value : r.value ≡ 0

abbrev pub if_there : Bool → ℕ → Option ℕ
if_there false v = none
if_there true v = some v

-- the cells of an operation
unfoldable pub operation_cells : ℕ → Bool → ℕ → List ℕ
operation_cells op false v = op ∷ []
operation_cells op true v = op ∷ v ∷ []

pub data ParameterEnds (text : List ℕ) (ws : List Word) (r : ParameterTold) : Checked (Option ℕ) → Type 0 where
  supplied : {o : Option ℕ} → r.fault ≡ 0 → o ≡ if_there r.there r.value → ws ≡ words_at text r.at → ParameterEnds text ws r (good o)
  refused : {n : ℕ} {w : Word} → r.fault ≡ n → (n ≡ 0 → ⊥) → r.at ≡ w.start → r.len ≡ length w.text
      → ParameterEnds text ws r (wrong n w)

-- a parameter of the class and the `)` behind it
pub record ValueDone (text rows : List ℕ) (n at class : ℕ) (r : ParameterTold) : Type 0 where
  pub low : r.fault ≡ 0 → at ≤ r.at
  pub high : r.fault ≡ 0 → r.at ≤ length text
  pub small : r.value < 65536
  pub done : (c close : Word) (ws ws' : List Word) → Reference (words_at text at) c ws → Took 41 ws close ws'
      → ParameterEnds text ws' r (valued some (lookup_in (held text rows n) class c))

-- the parameter of an operation that takes values of `takes`, behind the operation's name w
pub record ParameterDone (text rows : List ℕ) (n from : ℕ) (w : Word) (takes : Option (List Known)) (r : ParameterTold) : Type 0 where
  pub low : r.fault ≡ 0 → from ≤ r.at
  pub high : r.fault ≡ 0 → r.at ≤ length text
  pub small : r.value < 65536
  pub done : (p : Program) (names : Names) (rs : List KnownRule) → Agrees p names rs (held text rows n)
      → (c : Option Constant) (ws : List Word) → ConstantIn (words_at text from) ws c → ParameterEnds text ws r (parameter_of p names rs w takes c)

-- that of the operation w, which is declaration `row`
abbrev pub OperandDone : WordAt → ℕ → List ℕ → List ℕ → ℕ → ParameterTold → Type 0
OperandDone w row text rows n r =
    ParameterDone text rows n w.next (as_word text w) (members_of (held text rows n) (decl_at text rows row).second) r

-- Selectors

-- a selector that was read up to the place i, with k cells then, labels of the class t and the cell a for no otherwise
pub record Chose (i k t a : ℕ) (r : SelectedTold) : Type 0 where
  pub fault : r.done.fault ≡ 0
  pub at : r.done.at ≡ i
  pub count : r.done.count ≡ k
  pub class : r.class ≡ t
  pub absent : r.absent ≡ a

abbrev pub SelectorEnds : Type 0 → List ℕ → List ℕ → ℕ → List Word → List ℕ → ℕ → List ℕ → SelectedTold → Checked Chooses → Type 0
SelectorEnds E text rows n ws cs c cs' r m = Ends E text ws cs c cs' (λ x. selector_cells x.by [])
    (λ x. (x.labels ≡ knowns_in r.class (held text rows n)) × (r.absent ≡ absent_cell x.by)) r.done m

-- the rest of a selector, from the place `from` on
pub record ChoiceDone {A : Type 0} (In : List Word → List Word → A → Type 0) (outcome : Program → Names → List KnownRule → A → Checked Chooses)
    (text rows : List ℕ) (n from : ℕ) (cs : List ℕ) (c : ℕ) (cs' : List ℕ) (r : SelectedTold) : Type 0 where
  pub same : length cs' ≡ length cs
  pub low : r.done.fault ≡ 0 → from ≤ r.done.at
  pub high : r.done.fault ≡ 0 → r.done.at ≤ length text
  pub done : (p : Program) (names : Names) (rs : List KnownRule) → Agrees p names rs (held text rows n)
      → (a : A) (ws : List Word) → In (words_at text from) ws a → SelectorEnds (PairsAre text rows n p names) text rows n ws cs c cs' r (outcome p names rs a)

abbrev pub by_rule_of : Program → Names → List KnownRule → Word → Checked Chooses
by_rule_of p names rs w = selector_of p names rs (written.by_rule w)

abbrev pub by_operation_of : Program → Names → List KnownRule → Word → Option Constant → Checked Chooses
by_operation_of p names rs w c = selector_of p names rs (written.by_operation w c)

-- the choice operation of declaration `row`, which gives values of the class
abbrev pub chooses_of : List ℕ → List ℕ → ℕ → ℕ → Word → ℕ → Program → Names → List KnownRule → Option Constant → Checked Chooses
chooses_of text rows n row w class p names rs c =
    ◌>>=◌ (parameter_of p names rs w (members_of (held text rows n) (decl_at text rows row).second) c)
    (λ v. good (record { by = choosing (decl_at text rows row).value v; labels = knowns_in class (held text rows n) }))

-- the rest of a selector whose first word is w
abbrev pub WithDone : WordAt → ℕ → ℕ → List ℕ → List ℕ → ℕ → List ℕ → ℕ → List ℕ → SelectedTold → Type 0
WithDone w row class text rows n cs c cs' r = ChoiceDone ConstantIn (chooses_of text rows n row (as_word text w) class) text rows n w.next cs c cs' r

abbrev pub ByOperationDone : WordAt → List ℕ → List ℕ → ℕ → List ℕ → ℕ → List ℕ → SelectedTold → Type 0
ByOperationDone w text rows n cs c cs' r =
    ChoiceDone ConstantIn (λ p names rs. by_operation_of p names rs (as_word text w)) text rows n w.next cs c cs' r

-- Labels

-- a label that was read, in numbers: the fault is 0, or there is a fault at a word
pub record LabelTold : Type 0 where
  pub fault : ℕ
  pub at : ℕ
  pub len : ℕ
  pub value : ℕ

abbrev pub label_told : Result Label Refusal → LabelTold
label_told (Ok l) = record { fault = 0; at = l.at; len = 0; value = l.value }
label_told (Err e) = record { fault = fault_number e.fault; at = e.at; len = e.len; value = 0 }

-- a fault at the word w
pub record Mislabel (f : ℕ) (w : WordAt) (r : LabelTold) : Type 0 where
  pub fault : r.fault ≡ f
  pub at : r.at ≡ w.start
  pub len : r.len ≡ w.len

-- a label of the class that is not seen
abbrev pub label_of : List Decl → ℕ → List ℕ → Word → Checked ℕ
label_of ds class seen w = ◌>>=◌ (lookup_in ds class w) (λ v. ◌>>=◌ (fault_if (member v seen) 6 w) (λ _. good v))

pub data LabelEnds (text : List ℕ) (ws : List Word) (r : LabelTold) : Checked ℕ → Type 0 where
  named : {v : ℕ} → r.fault ≡ 0 → r.value ≡ v → ws ≡ words_at text r.at → LabelEnds text ws r (good v)
  unnamed : {n : ℕ} {w : Word} → r.fault ≡ n → (n ≡ 0 → ⊥) → r.at ≡ w.start → r.len ≡ length w.text
      → LabelEnds text ws r (wrong n w)

pub record LabelDone (text rows : List ℕ) (n at class : ℕ) (seen : List ℕ) (used : ℕ) (r : LabelTold) : Type 0 where
  pub moves : r.fault ≡ 0 → at < r.at
  pub high : r.fault ≡ 0 → r.at ≤ length text
  pub room : r.fault ≡ 0 → used < length seen
  pub done : used < length seen → (w : Word) (ws : List Word) → Reference (words_at text at) w ws
      → LabelEnds text ws r (label_of (held text rows n) class (take used seen) w)

-- all of this file computes where this is unfolded
unfoldable pub opened : Unit {0}
unfolding operation_cells
opened = tt
