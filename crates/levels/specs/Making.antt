-- What the functions that make the rules of operators promise: their cells behind those that stand there, where each begins, and that each is a procedure rule.
use Rattle.std.specs.Prelude.{List, [], ◌∷◌, ◌++◌, ◌≡◌, ℕ, ◌+◌, ◌*◌, ◌<◌, ◌≤◌, eqb, length, get_or, if◌then◌else◌}
use Rattle.cells.specs.Cells.{rules_cells, cells_start}
use Rattle.declarations.specs.Decls.{Agrees, Decl, EntriesAt, entries_of, operators_from, value_in}
use Rattle.grammar.specs.Derived.{OperatorsIn}
use Rattle.levels.specs.LevelCells.{operator_cells, level_cells}
use Rattle.levels.specs.declared.Made.{Made}
use Rattle.levels.specs.declared.Nested.{Nested}
use Rattle.levels.specs.declared.Site.{Site}
use Rattle.maker.specs.declared.Entry.{Entry}
use Rattle.maker.specs.Pairing.{PlaceOf}
use Rattle.maker.specs.Pairs.{AllOrdered, pairs_from, pairs_mean, PairsAre}
use Rattle.names.specs.Declare.{known_rules}
use Rattle.names.specs.Known.{good, KnownRule, Names}
use Rattle.names.specs.Uses.{Use, pairs_of, made_for}
use Rattle.program.specs.Made.{at_level, levels_of, level_rules}
use Rattle.program.specs.Program.{Rule}
use Rattle.resolver.specs.Resolved.{Appends}
use Rattle.scanner.specs.Next.{as_word}
use Rattle.symbols.specs.Rows.{held}
use Rattle.syntax.specs.Written.{Operator, Program}
use Rattle.words.specs.Words.{Word, words_at}

-- the alternative of an entry, where it is of the level
unfoldable pub entry_cells : List Decl → List ℕ → ℕ → ℕ → Entry → List ℕ
entry_cells ds text level called e =
    let own : List ℕ = 65 ∷ value_in ds 1 (as_word text e.token) ∷ 8 ∷ called ∷ 5 ∷ value_in ds 2 (as_word text e.emits) ∷ 0 ∷ [] in
    if eqb e.level level then own else []

-- the alternatives of a level, by the entries at the place `at`
pub record OperatorsPut (text rows : List ℕ) (n at level called : ℕ) (cs : List ℕ) (c : ℕ) (cs' : List ℕ) (r : ℕ) : Type 0 where
  pub same : length cs' ≡ length cs
  pub bound : r ≤ length cs + 1
  pub done : (os : List Operator) (ws' : List Word) → OperatorsIn (words_at text at) ws' os → Appends cs c (operator_cells called (at_level level (operators_from (held text rows n) os)) []) cs' r

-- the rule of a level
pub record LevelPut (text rows : List ℕ) (n : ℕ) (x : Nested) (cs : List ℕ) (c : ℕ) (cs' : List ℕ) (r : ℕ) : Type 0 where
  pub same : length cs' ≡ length cs
  pub bound : r ≤ length cs + 1
  pub done : (os : List Operator) (ws' : List Word) → OperatorsIn (words_at text x.at) ws' os
      → Appends cs c (level_cells x.right x.own x.higher (at_level x.level (operators_from (held text rows n) os)) []) cs' r

-- the rules ms were made from the place `own` on: their cells, no value (0 among the sorts), where each begins; what stood before them stays
pub record MadeEnd (own : ℕ) (cs : List ℕ) (c : ℕ) (cs' starts sorts starts' sorts' : List ℕ) (r : Made) (ms : List Rule) : Type 0 where
  pub rules : r.rules ≡ own + length ms
  pub cells : Appends cs c (rules_cells ms) cs' r.count
  pub sorts_kept : (j : ℕ) → j < own → get_or sorts' j 0 ≡ get_or sorts j 0
  pub starts_kept : (j : ℕ) → j < own → get_or starts' j 0 ≡ get_or starts j 0
  pub sorted : (j : ℕ) → j < length ms → get_or sorts' (own + j) 0 ≡ 0
  pub begins : r.count ≤ length cs → (j : ℕ) → j < length ms → get_or starts' (own + j) 0 ≡ cells_start c ms j

-- whatever is made behind them, these are made before
abbrev pub Before : ℕ → List ℕ → ℕ → List ℕ → List ℕ → List ℕ → List ℕ → List ℕ → Made → List Rule → Type 0
Before own cs c cs₁ starts sorts starts₁ sorts₁ r ms = (cs' starts' sorts' : List ℕ) (s : Made) (more : List Rule) → MadeEnd r.rules cs₁ r.count cs' starts₁ sorts₁ starts' sorts' s more
    → MadeEnd own cs c cs' starts sorts starts' sorts' s (ms ++ more)

-- the rules of a pair
pub record SiteDone (text rows : List ℕ) (n : ℕ) (q : Site) (cs : List ℕ) (c : ℕ) (starts sorts cs' starts' sorts' : List ℕ) (r : Made) : Type 0 where
  pub same : length cs' ≡ length cs
  pub bound : r.count ≤ length cs + 1
  pub low : r.rules < 65536
  pub rules : (os : List Operator) (ws' : List Word) → OperatorsIn (words_at text q.at) ws' os → q.own + length (levels_of (operators_from (held text rows n) os)) ≤ 128
      → r.rules ≡ q.own + length (levels_of (operators_from (held text rows n) os))
  pub made : (os : List Operator) (ws' : List Word) → OperatorsIn (words_at text q.at) ws' os → q.own + length (levels_of (operators_from (held text rows n) os)) ≤ 128
      → Before q.own cs c cs' starts sorts starts' sorts' r (level_rules q.own q.operand (levels_of (operators_from (held text rows n) os)))

-- the site of pair j, behind c cells: the value of its section's declaration is the place of the entries, that of its operand rule's declaration the rule's place
pub record SiteOf (text rows : List ℕ) (j c : ℕ) (q : Site) : Type 0 where
  pub at : PlaceOf text rows (get_or rows (5633 + 3 * j) 0) q.at
  pub operand : q.operand ≡ get_or rows (8 * get_or rows (5634 + 3 * j) 0 + 1) 0
  pub own : q.own ≡ get_or rows (5635 + 3 * j) 0
  pub count : q.count ≡ c
  pub low : q.operand < 65536
  pub high : q.own < 65536

-- the rules of the k pairs from the j-th on
pub record MakeFrom (text rows : List ℕ) (n j k own : ℕ) (cs : List ℕ) (c : ℕ) (starts sorts cs' starts' sorts' : List ℕ) (r : Made) : Type 0 where
  pub made : (p : Program) (names : Names) (ks : List KnownRule) → Agrees p names ks (held text rows n) → EntriesAt text (held text rows n) (entries_of p)
      → (us : List Use) (others : ℕ) (ms : List Rule) → pairs_from rows j k ≡ pairs_mean names (held text rows n) own us → AllOrdered (held text rows n) us
      → made_for names ks others own us ≡ good ms → MadeEnd own cs c cs' starts sorts starts' sorts' r ms

-- the rules made for a text whose pairs stand in the rows, behind its own
pub record MakeDone (text rows : List ℕ) (n own : ℕ) (cs : List ℕ) (c : ℕ) (starts sorts cs' starts' sorts' : List ℕ) (r : Made) : Type 0 where
  pub made : (p : Program) (names : Names) → Agrees p names (known_rules 0 p.rules) (held text rows n) → EntriesAt text (held text rows n) (entries_of p) → own ≡ length p.rules
      → PairsAre text rows n p names → (others : ℕ) (ms : List Rule) → made_for names (known_rules 0 p.rules) others own (pairs_of p.rules) ≡ good ms
      → MadeEnd own cs c cs' starts sorts starts' sorts' r ms

-- all of this file computes where this is unfolded
unfoldable pub opened : Unit {0}
unfolding entry_cells
opened = tt
