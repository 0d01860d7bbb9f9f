-- The ends of a choice's alternatives while it is written: a chain, and what the choice table needs of each alternative.
use Rattle.std.specs.Prelude.{ℕ, ◌+◌, ◌*◌, ◌-◌, ◌<◌, ◌≡◌, List, [], ◌∷◌, ◌++◌, length, get_or}
use Rattle.base.specs.Tree.{nil, alternative}
use Rattle.program.specs.Program.{Alts}
use Rattle.program.specs.Table.{label_words}
use Rattle.chains.specs.Marks.{marks_all}
use Rattle.emitter.specs.Stands.{Labels}
use Rattle.emitter.specs.Heads.{labels_at, behind}

-- an alternative: its labels, where its words start, and where its end waits
pub record Entry : Type 0 where
  pub labels : List ℕ
  pub start : ℕ
  pub place : ℕ

-- the alternatives whose words stand from l on, the newest first
unfoldable pub entries : ℕ → Alts → List Entry
entries l nil = []
entries l (alternative ls b q) = entries (l + length (marks_all b) + 2) q ++ (record { labels = ls; start = l; place = l + length (marks_all b) + 1 } ∷ [])

-- from the word at n on the ends wait, each behind the cell of its alternative
unfoldable pub Ends : List ℕ → List ℕ → ℕ → ℕ → List Entry → Type 0
Ends cs ws from n [] = n ≡ 0
Ends cs ws from n (e ∷ es) =
    (n ≡ e.place) × (n < length ws) × (get_or ws n 0 + 1 < n) × (from < n) × (e.start ≡ behind (get_or ws n 0) from)
    × (labels_at cs (get_or ws (n - 1) 0) ≡ length e.labels) × Labels cs (get_or ws (n - 1) 0 + 1) e.labels × Ends cs ws from (get_or ws n 0) es

-- the words before the ends
unfoldable pub heads : List Entry → List ℕ
heads [] = []
heads (e ∷ es) = (e.place - 1) ∷ heads es

unfoldable pub ends : List Entry → List ℕ
ends [] = []
ends (e ∷ es) = e.place ∷ ends es

-- the entries of the choice table
unfoldable pub row_length : List Entry → ℕ
row_length [] = 0
row_length (e ∷ es) = row_length es + 2 * length e.labels

-- their words, which end before l
unfoldable pub row_words : List Entry → ℕ → List ℕ
row_words [] l = []
row_words (e ∷ es) l = row_words es (l - 2 * length e.labels) ++ label_words (l - 2 * length e.labels - e.start) 0 e.labels
