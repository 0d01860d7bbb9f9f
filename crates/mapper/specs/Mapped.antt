-- What the functions of the map promise: their answer and every lent byte are those of `map_rules`.
use Rattle.std.specs.Prelude.{List, [], ◌∷◌, ◌++◌, ◌≡◌, ℕ, zero, suc, ◌+◌, ◌-◌, ◌*◌, ◌<◌, ◌≤◌, length, get_or}
use Rattle.emitter.specs.Emitted.{CellsOf}
use Rattle.machine.specs.Bytes.{bytes_of, over}
use Rattle.levels.specs.Naming.{AllFirst}
use Rattle.maker.specs.Marks.{marks}
use Rattle.maker.specs.Pairing.{AllNamed}
use Rattle.maker.specs.Pairs.{AllOrdered, pairs_from, pairs_mean}
use Rattle.mapping.specs.Mapping.{Row, row_of, rows_of, made_rows, rows_words, Answer, map_of, numbers_of, tells, room_in, lent_rows}
use Rattle.names.specs.Known.{good, Names}
use Rattle.names.specs.Understand.{understand}
use Rattle.names.specs.Uses.{Use}
use Rattle.processor.specs.Process.{answer_for, meaning}
use Rattle.program.specs.Program.{Rule}
use Rattle.program.specs.Table.{place}
use Rattle.symbols.specs.Index.{Kept}
use Rattle.symbols.specs.Rows.{decl_at, held}
use Rattle.syntax.specs.Written.{Program}
use Rattle.frontend.specs.Resolving.{Rowed}
use Rattle.frontend.specs.declared.Resolved.{Resolved}
use Rattle.words.specs.Words.{words_at}

-- the numbers and the lent bytes are the answer's
pub record Maps (a : Answer) (number rules : ℕ) (old new : List ℕ) : Type 0 where
  pub numbers : tells number rules ≡ numbers_of a
  pub lent : new ≡ lent_rows a old

-- the words xs were put behind i words that stand over a buffer
pub record Puts (out out' : List ℕ) (i : ℕ) (xs : List ℕ) : Type 0 where
  pub puts : (ws before : List ℕ) → length ws ≡ i → 2 * (i + length xs) ≤ length before → out ≡ over (bytes_of ws) before → out' ≡ over (bytes_of (ws ++ xs)) before

-- the rows of n rules: their names by the declarations from the i-th on, their locations from the k-th place on
unfoldable pub held_rows : List ℕ → List ℕ → List ℕ → ℕ → ℕ → ℕ → List Row
held_rows text rows places i k zero = []
held_rows text rows places i k (suc n) = row_of (decl_at text rows i).name (get_or places k 0) ∷ held_rows text rows places (suc i) (suc k) n

-- the declarations of so many rules have their place in the rows, from row `first` on
pub record Holds (first rules : ℕ) : Type 0 where
  pub few : rules ≤ 128
  pub inside : first + rules ≤ 512

-- the rows of n rules of one name, from rule k on
unfoldable pub levels_held : ℕ → ℕ → List ℕ → ℕ → ℕ → List Row
levels_held start len places k zero = []
levels_held start len places k (suc n) = record { start = start; size = len; location = get_or places k 0 } ∷ levels_held start len places (suc k) n

-- where the rules of pair j end: its numbers stand from 5,633 + 3 j on, the third being the place of its lowest rule
pub record EndOf (rows : List ℕ) (j rules r : ℕ) : Type 0 where
  pub low : r ≤ rules
  pub next : j + 1 < get_or rows 5632 0 → get_or rows (5638 + 3 * j) 0 ≤ rules → r ≡ get_or rows (5638 + 3 * j) 0
  pub last : get_or rows 5632 0 ≤ j + 1 → r ≡ rules

-- the rows of the rules made for the pairs from the j-th on, from rule k on, whose first uses stand from the place `at` on
pub record MadePut (text rows : List ℕ) (b : Resolved) (j k at : ℕ) (places out out' : List ℕ) : Type 0 where
  pub puts : (names : Names) (prog : List Rule) (us : List Use) → pairs_from rows j (get_or rows 5632 0 - j) ≡ pairs_mean names (held text rows b.declared) k us
      → AllNamed (marks (words_at text at)) → AllOrdered (held text rows b.declared) (marks (words_at text at)) → AllFirst (held text rows b.declared) (marks (words_at text at)) us
      → k + length (made_rows prog names k us) ≡ b.rules → ((r : ℕ) → r < b.rules → get_or places r 0 ≡ place 1 prog r) → Puts out out' (12 * k) (rows_words (made_rows prog names k us))

-- the rules' declarations and the uses of operators have their places
pub record Placed (text rows : List ℕ) (b : Resolved) : Type 0 where
  pub holds : Holds b.first b.written
  pub more : b.written ≤ b.rules
  pub few : b.rules ≤ 128
  pub inside : b.body ≤ length text
  pub kept : Kept text rows b.declared

-- the map of the program in the buffers, whatever text it was read from
abbrev pub MapsHeld : List ℕ → List ℕ → Resolved → List ℕ → List ℕ → List ℕ → List ℕ → ℕ → ℕ → Type 0
MapsHeld text rows b cells sorts old new number listed = (p : Program) (prog : List Rule) → CellsOf cells sorts b.rules prog → (rowed : Rowed text rows b p) → understand p ≡ good prog
    → Maps (map_of (rows_of p (good rowed.names) (good prog)) (room_in old) (answer_for text 4096 (meaning prog))) number listed old new

-- all of this file computes where this is unfolded
unfoldable pub opened : Unit {0}
unfolding held_rows levels_held
opened = tt
