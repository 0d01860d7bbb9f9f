-- What the functions that fill a sheet promise: the row of each rule has its location and its name.
use Rattle.std.specs.Prelude.{List, ◌++◌, ◌≡◌, ℕ, ◌+◌, ◌-◌, ◌*◌, ◌%◌, ◌<◌, ◌≤◌, length, get_or, set}
use Rattle.carrier.specs.Held.{number_held, name_held}
use Rattle.carry.specs.Carry.{Name, written, name_of, written_names, level_names, made_names}
use Rattle.declarations.specs.Decls.{Agrees, Decl, EntriesAt, entries_of, operators_from}
use Rattle.frontend.specs.Resolving.{Rowed}
use Rattle.frontend.specs.declared.Resolved.{Resolved}
use Rattle.grammar.specs.Derived.{OperatorsIn}
use Rattle.maker.specs.Pairing.{PlaceOf}
use Rattle.maker.specs.Pairs.{AllOrdered, pairs_from, pairs_mean}
use Rattle.names.specs.Known.{good, KnownRule, Names}
use Rattle.names.specs.Understand.{understand}
use Rattle.names.specs.Uses.{Use, pairs_of}
use Rattle.program.specs.Made.{levels_of}
use Rattle.program.specs.Program.{Rule}
use Rattle.program.specs.Table.{place}
use Rattle.rulerows.specs.declared.Pair.{Pair}
use Rattle.rulerows.specs.declared.Row.{Row}
use Rattle.symbols.specs.Rows.{decl_at, held}
use Rattle.symbols.specs.Search.{part}
use Rattle.syntax.specs.Written.{Operator, Program}
use Rattle.words.specs.Words.{Word, words_at}

-- the six numbers of a row, from place i on
abbrev pub set_row : List ℕ → ℕ → Row → List ℕ
set_row sheet i r = set (set (set (set (set (set sheet i r.location) (i + 1) r.start) (i + 2) r.len) (i + 3) r.operand) (i + 4) r.size) (i + 5) r.level

-- the rows from the k-th on have these names, and the places' locations; what stood before them stays
pub record Puts (text places sheet sheet' : List ℕ) (k : ℕ) (names : List Name) : Type 0 where
  pub kept : (j : ℕ) → j < 6 * k → get_or sheet' j 0 ≡ get_or sheet j 0
  pub located : (i : ℕ) → i < length names → number_held sheet' (k + i) 0 ≡ get_or places (k + i) 0 % 65536
  pub named : (i : ℕ) → i < length names → name_held text sheet' (k + i) ≡ name_of names i

-- the first rows are those of so many rules that are written, by their declarations from the row `first` on, whatever the text
pub record WrittenPut (rows : List ℕ) (first : ℕ) (places : List ℕ) (rules : ℕ) (sheet : List ℕ) : Type 0 where
  pub located : (i : ℕ) → i < rules → number_held sheet i 0 ≡ get_or places i 0 % 65536
  pub named : (text : List ℕ) (i : ℕ) → i < rules → name_held text sheet i ≡ written (decl_at text rows (first + i)).name.text

-- pair j, by the declarations of its section and of its operand rule
pub record PairOf (text rows : List ℕ) (j : ℕ) (q : Pair) : Type 0 where
  pub at : PlaceOf text rows (get_or rows (5633 + 3 * j) 0) q.at
  pub start : q.start ≡ get_or rows (8 * get_or rows (5633 + 3 * j) 0 + 2) 0
  pub len : q.len ≡ get_or rows (8 * get_or rows (5633 + 3 * j) 0 + 3) 0
  pub operand : q.operand ≡ get_or rows (8 * get_or rows (5634 + 3 * j) 0 + 2) 0
  pub size : q.size ≡ get_or rows (8 * get_or rows (5634 + 3 * j) 0 + 3) 0

-- the use has the pair's two names
pub record Named (text : List ℕ) (q : Pair) (u : Use) : Type 0 where
  pub section : u.section.text ≡ part text q.start q.len
  pub operand : u.operand.text ≡ part text q.operand q.size

-- the rules of a pair, one a level, from rule k on; they end at r
pub record LevelsPut (text : List ℕ) (q : Pair) (places : List ℕ) (k rules : ℕ) (sheet sheet' : List ℕ) (r : ℕ) : Type 0 where
  pub low : r ≤ rules
  pub ends : (ds : List Decl) (os : List Operator) (ws' : List Word) → OperatorsIn (words_at text q.at) ws' os → k + length (levels_of (operators_from ds os)) ≤ rules
      → r ≡ k + length (levels_of (operators_from ds os))
  pub puts : (ds : List Decl) (os : List Operator) (ws' : List Word) → OperatorsIn (words_at text q.at) ws' os → k + length (levels_of (operators_from ds os)) ≤ rules
      → (u : Use) → Named text q u → Puts text places sheet sheet' k (level_names u (levels_of (operators_from ds os)))

-- the rules made for the pairs from the j-th on, from rule k on
pub record MadePut (text rows : List ℕ) (b : Resolved) (j k : ℕ) (places sheet sheet' : List ℕ) : Type 0 where
  pub puts : (p : Program) (names : Names) (ks : List KnownRule) → Agrees p names ks (held text rows b.declared) → EntriesAt text (held text rows b.declared) (entries_of p)
      → (us : List Use) → pairs_from rows j (get_or rows 5632 0 - j) ≡ pairs_mean names (held text rows b.declared) k us → AllOrdered (held text rows b.declared) us
      → k + length (made_names names us) ≤ b.rules → Puts text places sheet sheet' k (made_names names us)

-- the rows of a program: each rule has its location in the table and its name
pub record RowsOf (text sheet : List ℕ) (p : Program) (prog : List Rule) (known : Names) : Type 0 where
  pub locations : (i : ℕ) → i < length prog → number_held sheet i 0 ≡ place 1 prog i
  pub names : (i : ℕ) → i < length prog → name_held text sheet i ≡ name_of (written_names p.rules ++ made_names known (pairs_of p.rules)) i

-- the sheet of the program in the buffers, whatever text it was read from
pub record Filled (text rows : List ℕ) (b : Resolved) (places sheet' : List ℕ) : Type 0 where
  pub long : length sheet' ≡ 770
  pub rules_are : (p : Program) (prog : List Rule) (rowed : Rowed text rows b p) → understand p ≡ good prog → length prog ≡ b.rules
      → ((r : ℕ) → r < b.rules → get_or places r 0 ≡ place 1 prog r) → ((r : ℕ) → r < b.rules → place 1 prog r < 65536)
      → RowsOf text sheet' p prog rowed.names
