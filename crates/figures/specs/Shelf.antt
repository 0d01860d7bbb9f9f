-- A shelf of books and what its figures are: the statements of proofs/Shelves.antt.
use Rattle.std.specs.Prelude.{true, List, [], ◌∷◌, ◌++◌, ◌≡◌, ℕ, suc, ◌+◌, ◌-◌, ◌/◌, ◌%◌, ◌^◌, ◌<◌, ◌≤◌, length, get_or}
use Rattle.figures.specs.ByRule.{rule_total, rule_totals}
use Rattle.figures.specs.Figures.{sum, Figures, empty, plus, covered, within64, flag, bits_of}
use Rattle.figures.specs.Visits.{Given, called, visited, tally}
use Rattle.program.specs.Program.{Rule}

-- the figures of the books added so far, the last first: "Sums are taken book by book from empty figures"
pub data Shelf (T : List ℕ) : Figures → List Given → Type 0 where
  no_book : Shelf T empty []
  and_book : {f : Figures} {gs : List Given} → Shelf T f gs → (g : Given) → within64 (plus T g f) ≡ true → Shelf T (plus T g f) (g ∷ gs)

-- "the number of instructions done in all walks"
unfoldable pub all_steps : List ℕ → List Given → ℕ
all_steps T [] = 0
all_steps T (g ∷ gs) = all_steps T gs + (called T g).steps

-- all locations at which they were done
unfoldable pub all_visited : List ℕ → List Given → List ℕ
all_visited T [] = []
all_visited T (g ∷ gs) = visited T g ++ all_visited T gs

-- how many of the counts are not 0
unfoldable pub executed : List ℕ → ℕ
executed [] = 0
executed (c ∷ cs) = flag c + executed cs

-- the bit of location l
unfoldable pub bit_at : List ℕ → ℕ → ℕ
bit_at ws l = get_or ws ((l - 1) / 64) 0 / 2 ^ ((l - 1) % 64) % 2

-- what the figures of a shelf are
pub record Sums (T : List ℕ) (f : Figures) (gs : List Given) : Type 0 where
  pub size : length f.counts ≡ 4096
  -- "For each location the report has how many times it was executed"
  pub counts : (i : ℕ) → get_or f.counts i 0 ≡ tally (suc i) (all_visited T gs)
  -- "one bit a location": 1 exactly if its count is not 0
  pub bits : f.bits ≡ bits_of 64 f.counts
  pub bit : (l : ℕ) → 0 < l → l ≤ 4096 → bit_at f.bits l ≡ flag (get_or f.counts (l - 1) 0)
  -- "how many locations were executed at all"
  pub coverage : covered f.bits ≡ executed f.counts
  pub books : f.books ≡ length gs
  -- the grand total "is the number of instructions done in all walks", and the sum of the counts
  pub total : f.total ≡ all_steps T gs
  pub sum_of_counts : f.total ≡ sum f.counts

-- "a second way takes them rule by rule and must reach the same grand total, which is the number of instructions done in all walks"
pub record RuleByRule (T : List ℕ) (prog : List Rule) (f : Figures) (gs : List Given) : Type 0 where
  -- each is the sum over the rule's own locations
  pub each : (r : ℕ) → r < length prog → get_or (rule_totals prog f.counts) r 0 ≡ rule_total prog f.counts r
  pub grand_total : sum (rule_totals prog f.counts) ≡ f.total
  pub instructions : f.total ≡ all_steps T gs

-- all of this file computes where this is unfolded
unfoldable pub opened : Unit {0}
unfolding all_steps all_visited executed bit_at
opened = tt
