-- What the functions that collect the pairs promise.
use Rattle.std.specs.Prelude.{Option, Some, Result, Ok, Err, IsOk, IfSome, IfOk, Bool, true, false, ◌||◌, List, [], ◌∷◌, ◌++◌, ◌≡◌, ℕ, ◌+◌, ◌*◌, ◌<◌, ◌≤◌, ltb, length, get_or, set}
use Rattle.base.specs.Common.{given}
use Rattle.base.specs.Faults.{fault_number}
use Rattle.base.specs.declared.Refusal.{Refusal}
use Rattle.declarations.specs.Decls.{Agrees, Decl, EntriesAt, entries_of}
use Rattle.grammar.specs.Derived.{OperatorsIn, RulesIn}
use Rattle.maker.specs.Marks.{use_of, marks}
use Rattle.maker.specs.Pairs.{Pair, pairs_held, look_pair, section_row, operand_row, Ordered, AllOrdered, pair_of, pairs_mean}
use Rattle.maker.specs.declared.Untaken.{Untaken}
use Rattle.maker.specs.declared.Untaken.TheVariants.{OverLimit}
use Rattle.maker.specs.declared.Used.{Used}
use Rattle.names.specs.Declare.{known_rules}
use Rattle.names.specs.Known.{Checked, good, wrong, KnownRule, Names}
use Rattle.names.specs.Uses.{Use, rules_uses, is_used, firsts, pairs_of, levels_used, made_for}
use Rattle.program.specs.Made.{Level, crowded}
use Rattle.program.specs.Program as means
use Rattle.scanner.specs.declared.WordAt.{WordAt}
use Rattle.symbols.specs.Index.{IndexKept}
use Rattle.symbols.specs.Rows.{held}
use Rattle.syntax.specs.Reading.{peek}
use Rattle.syntax.specs.Written.{Operator, Program}
use Rattle.words.specs.Words.{Word, words_at}

-- no declaration is a section of operators
abbrev pub NoSection : List ℕ → ℕ → Type 0
NoSection rows n = (i : ℕ) → i < n → get_or rows (8 * i) 0 ≡ 600 → ⊥

abbrev pub set_three : List ℕ → ℕ → ℕ → ℕ → ℕ → List ℕ
set_three rows i a b c = set (set (set rows i a) (i + 1) b) (i + 2) c

-- pair k, the first of k pairs before it being those that stand there
pub record Adds (rows rows' : List ℕ) (k section operand lowest : ℕ) : Type 0 where
  pub index : IndexKept rows rows'
  pub count : get_or rows' 5632 0 ≡ k + 1
  pub pairs : get_or rows 5632 0 ≡ k → pairs_held rows' ≡ pairs_held rows ++ (record { section = section; operand = operand; lowest = lowest } ∷ [])

-- the entries of a declaration stand at the place r too, which is in the text
pub record PlaceOf (text rows : List ℕ) (row r : ℕ) : Type 0 where
  pub inside : r ≤ length text
  pub entries : (os : List Operator) (ws' : List Word) → OperatorsIn (words_at text (get_or rows (8 * row + 1) 0)) ws' os → OperatorsIn (words_at text r) ws' os

-- the declarations of the use u
pub record Finds (ds : List Decl) (u : Use) (r : Option Used) : Type 0 where
  pub used : Used
  pub there : r ≡ Some used
  pub section : used.section ≡ section_row ds u
  pub operand : used.operand ≡ operand_row ds u

-- a use from the place behind its `^` on; 257 is a name
pub record UseRead (text rows : List ℕ) (n at : ℕ) (r : Option Used) : Type 0 where
  pub low : IfSome r (λ u. (u.section < n) × (u.operand < n))
  pub finds : (w : Word) → (use_of w (words_at text at)).operand.kind ≡ 257 → Ordered (held text rows n) (use_of w (words_at text at))
      → Finds (held text rows n) (use_of w (words_at text at)) r

-- "[9] at the `^` whose rules pass a limit": with the rules for these levels behind `own` rules and `others` other names
abbrev pub passes : ℕ → ℕ → List Level → Bool
passes others own ls = ltb 128 (own + length ls) || ltb 512 (others + (own + length ls)) || crowded ls

abbrev pub is_there : List Decl → List Pair → Use → Bool
is_there ds qs u = given (look_pair (section_row ds u) (operand_row ds u) qs)

-- a use that was looked at: its pair stood there, was added, or passes a limit; r is how many rules there are then
pub data Takes (ds : List Decl) (others own : ℕ) (rows rows' : List ℕ) (names : Names) (u : Use) (r : Result ℕ Untaken) : Type 0 where
  again : r ≡ Ok own → pairs_held rows' ≡ pairs_held rows → is_there ds (pairs_held rows) u ≡ true → Takes ds others own rows rows' names u r
  added : r ≡ Ok (own + length (levels_used names u)) → pairs_held rows' ≡ pairs_held rows ++ (pair_of ds own u ∷ []) → is_there ds (pairs_held rows) u ≡ false
      → passes others own (levels_used names u) ≡ false → Takes ds others own rows rows' names u r
  over : r ≡ Err OverLimit → is_there ds (pairs_held rows) u ≡ false → passes others own (levels_used names u) ≡ true → Takes ds others own rows rows' names u r

-- what is kept from use to use
pub record TakenBound (rows rows' : List ℕ) (r : Result ℕ Untaken) : Type 0 where
  pub index : IndexKept rows rows'
  pub few : IfOk r (λ own. own ≤ 128)
  pub count : IfOk r (λ own. get_or rows' 5632 0 ≤ own)

-- the use behind a `^`, from the place `at` on
pub record UseDone (text rows : List ℕ) (n others own at : ℕ) (rows' : List ℕ) (r : Result ℕ Untaken) : Type 0 where
  pub bound : TakenBound rows rows' r
  pub takes : (p : Program) (names : Names) (ks : List KnownRule) → Agrees p names ks (held text rows n) → EntriesAt text (held text rows n) (entries_of p)
      → (w : Word) → (use_of w (words_at text at)).operand.kind ≡ 257 → Ordered (held text rows n) (use_of w (words_at text at))
      → Takes (held text rows n) others own rows rows' names (use_of w (words_at text at)) r

-- the word w: a `^` (94) begins a use, any other is passed over
pub record WordDone (text rows : List ℕ) (n others own : ℕ) (w : WordAt) (rows' : List ℕ) (r : Result ℕ Untaken) : Type 0 where
  pub bound : TakenBound rows rows' r
  pub caret : w.kind ≡ 94 → UseDone text rows n others own w.next rows' r
  pub other : (w.kind ≡ 94 → ⊥) → (r ≡ Ok own) × (pairs_held rows' ≡ pairs_held rows)

-- the pairs qs are those of the uses seen
abbrev pub Stands : List Decl → List Pair → List Use → Type 0
Stands ds qs seen = (u : Use) → Ordered ds u → is_there ds qs u ≡ is_used u seen

unfoldable pub AllNamed : List Use → Type 0
AllNamed [] = Unit {0}
AllNamed (u ∷ us) = (u.operand.kind ≡ 257) × AllNamed us

-- the code's answer tells what is made for the pairs of the first uses us, behind the pairs qs
pub data PairsEnd {A : Type 0} (ds : List Decl) (qs : List Pair) (rows' : List ℕ) (names : Names) (own : ℕ) (us : List Use) (r : Result A Refusal) : Checked (List means.Rule) → Type 0 where
  paired : {ms : List means.Rule} → IsOk r → pairs_held rows' ≡ qs ++ pairs_mean names ds own us → PairsEnd ds qs rows' names own us r (good ms)
  passed : {w : Word} {e : Refusal} → r ≡ Err e → fault_number e.fault ≡ 9 → e.at ≡ w.start → e.len ≡ length w.text → PairsEnd ds qs rows' names own us r (wrong 9 w)

-- the uses from the place `at` on, behind those that stand there
pub record PairsFrom {A : Type 0} (text rows : List ℕ) (n others own at : ℕ) (rows' : List ℕ) (r : Result A Refusal) : Type 0 where
  pub index : IndexKept rows rows'
  pub done : (p : Program) (names : Names) (ks : List KnownRule) → Agrees p names ks (held text rows n) → EntriesAt text (held text rows n) (entries_of p)
      → (seen : List Use) → Stands (held text rows n) (pairs_held rows) seen → AllNamed (marks (words_at text at)) → AllOrdered (held text rows n) (marks (words_at text at))
      → PairsEnd (held text rows n) (pairs_held rows) rows' names own (firsts seen (marks (words_at text at))) r (made_for names ks others own (firsts seen (marks (words_at text at))))

-- the pairs of a text whose uses are in order: n declarations, the first rule's being declaration `first`, and the rules from the place `at` on, up to `end` (266)
pub record PairsDone {A : Type 0} (text rows : List ℕ) (n first at : ℕ) (rows' : List ℕ) (r : Result A Refusal) : Type 0 where
  pub index : IndexKept rows rows'
  pub done : (p : Program) (names : Names) → Agrees p names (known_rules 0 p.rules) (held text rows n) → EntriesAt text (held text rows n) (entries_of p)
      → (ws : List Word) → RulesIn (words_at text at) ws p.rules → (peek ws).kind ≡ 266 → n ≡ first + length p.rules → length p.rules ≤ 128
      → AllOrdered (held text rows n) (rules_uses p.rules)
      → PairsEnd (held text rows n) [] rows' names (length p.rules) (pairs_of p.rules) r
      (made_for names (known_rules 0 p.rules) first (length p.rules) (pairs_of p.rules))

-- all of this file computes where this is unfolded
unfoldable pub opened : Unit {0}
unfolding AllNamed
opened = tt
