-- The list's lines as numbers, four a line: where its name starts and its length, and the same of its type.
use Rattle.std.specs.Prelude.{◌≡◌, List, ℕ, ◌+◌, ◌*◌, ◌≤◌, ◌<◌, length, get_or, take, drop}
use Rattle.collector.specs.declared.Part.{Part}

-- r is the same part of the text, and inside it
pub record Inside (text : List ℕ) (start len : ℕ) (r : Part) : Type 0 where
  pub inside : r.start + r.len ≤ length text
  pub bytes : take r.len (drop r.start text) ≡ take len (drop start text)

-- the part of the text whose start and length are the rows' numbers from k on is that of the heads' numbers from p on, and inside the text
pub record PartAt (text rows : List ℕ) (k : ℕ) (heads : List ℕ) (p : ℕ) : Type 0 where
  pub inside : get_or heads p 0 + get_or heads (p + 1) 0 ≤ length text
  pub bytes : take (get_or heads (p + 1) 0) (drop (get_or heads p 0) text) ≡ take (get_or rows (k + 1) 0) (drop (get_or rows k 0) text)

-- it was written there, and nothing before it
pub record CopiesPart (text rows : List ℕ) (k : ℕ) (heads heads' : List ℕ) (p : ℕ) : Type 0 where
  pub size : length heads' ≡ length heads
  pub below : (j : ℕ) → j < p → get_or heads' j 0 ≡ get_or heads j 0
  pub there : PartAt text rows k heads' p

-- line j, which is row r: its name and its type
pub record LineAt (text rows : List ℕ) (r : ℕ) (heads : List ℕ) (j : ℕ) : Type 0 where
  pub name : PartAt text rows (8 * r + 2) heads (4 * j)
  pub type : PartAt text rows (8 * r + 6) heads (4 * j + 2)

-- `count` lines, the first of them being row `first`
pub record CopiesHeads (text rows : List ℕ) (first count : ℕ) (heads heads' : List ℕ) : Type 0 where
  pub size : length heads' ≡ length heads
  pub lines : (j : ℕ) → j < count → LineAt text rows (first + j) heads' j
