-- "let the incomplete jump words hold the chain until the target is known: while the table fits, it runs through exactly a target's open jumps, and beside
-- it only the newest is kept". Words are counted from 0; no jump's word is the table's first, so 0 ends a chain.
use Rattle.std.specs.Prelude.{◌≡◌, cond, List, [], ◌∷◌, ◌++◌, ℕ, ◌+◌, ◌<◌, ◌≤◌, length, get_or, set}
use Rattle.chains.specs.Marks.{Target, outside, end, head, table, rule, Mark, known, waiting, waits}

-- the words ws hold a chain from the word at n on: each names the next older one, and these are its places
unfoldable pub Chain : List ℕ → ℕ → List ℕ → Type 0
Chain ws n [] = n ≡ 0
Chain ws n (j ∷ ps) = (n ≡ j) × (0 < j) × (j < length ws) × (get_or ws j 0 < j) × Chain ws (get_or ws j 0) ps

-- the places of a target's open jumps among words from l on, newest first
unfoldable pub places : Target → ℕ → List Mark → List ℕ
places t l [] = []
places t l (m ∷ ms) = places t (l + 1) ms ++ cond (waits t m) (l ∷ []) []

-- the jumps at ps get their words
unfoldable pub patched : List ℕ → (ℕ → ℕ) → List ℕ → List ℕ
patched ws f [] = ws
patched ws f (j ∷ ps) = patched (set ws j (f j)) f ps

-- mark m stands at i
pub data At : List Mark → ℕ → Mark → Type 0 where
  at_here : {m : Mark} {ms : List Mark} → At (m ∷ ms) 0 m
  at_there : {m n : Mark} {ms : List Mark} {i j : ℕ} → j ≡ i + 1 → At ms i m → At (n ∷ ms) j m

-- A slot a rule: 65,536 and its location once that is known, before that its newest open call

abbrev pub placed : ℕ
placed = 65536

-- the newest open jump for a target; x: of the exits
unfoldable pub newest : ℕ → List ℕ → Target → ℕ
newest x slots outside = x
newest x slots end = 0
newest x slots head = 0
newest x slots table = 0
newest x slots (rule r) = get_or slots r 0

-- the chains that go on from one action to the next
unfoldable pub Waiting : List ℕ → Target → Type 0
Waiting slots outside = Unit {0}
Waiting slots end = ⊥
Waiting slots head = ⊥
Waiting slots table = ⊥
Waiting slots (rule r) = (r < length slots) × (get_or slots r 0 < placed)

-- what a word is already
pub data Fixed (slots : List ℕ) : Mark → ℕ → Type 0 where
  fixed_known : {w : ℕ} → Fixed slots (known w) w
  fixed_call : {r w : ℕ} → get_or slots r 0 ≡ placed + w → w < placed → Fixed slots (waiting (rule r)) w

-- words ws have become ws' by those of ms: nothing before them moved, what is known stands there, and each chain is now this part's open jumps,
-- newest first, then the chain before
pub record Grown (ms : List Mark) (ws ws' : List ℕ) (x x' : ℕ) (slots slots' : List ℕ) : Type 0 where
  pub long : length ws' ≡ length ws + length ms
  pub before : (i : ℕ) → i < length ws → get_or ws' i 0 ≡ get_or ws i 0
  pub words : (i : ℕ) (m : Mark) (w : ℕ) → At ms i m → Fixed slots m w → get_or ws' (length ws + i) 0 ≡ w
  pub chains : (t : Target) (ps : List ℕ) → Waiting slots t → Chain ws (newest x slots t) ps → Chain ws' (newest x' slots' t) (places t (length ws) ms ++ ps)
  pub kept : (r : ℕ) → placed ≤ get_or slots r 0 → get_or slots' r 0 ≡ get_or slots r 0
  pub still : (r : ℕ) → get_or slots r 0 < placed → get_or slots' r 0 < placed
  pub many : length slots' ≡ length slots
