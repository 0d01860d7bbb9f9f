-- The index by names: behind the rows' 4,096 numbers stand 511 heads, the key of the hash and 1,024 links. Node k + 1 is row k / 2, by its name where k is even and by its
-- second word where k is odd; 0 is no node. A chain meets the rows whose classes and words have one hash, in the order of the row.
use Rattle.std.specs.Prelude.{◌||◌, List, [], ◌∷◌, ◌⊎◌, ◌≡◌, ℕ, suc, ◌+◌, ◌*◌, ◌-◌, ◌/◌, ◌%◌, ◌<◌, ◌≤◌, eqb, ltb, length, get_or, set, if◌then◌else◌}
use Rattle.std.proofs.Math.Option.{none, some}
use Rattle.std.specs.Prelude.{Option as Answer, Some, None}
use Rattle.symbols.specs.Rows.{decl_at}
use Rattle.words.specs.Words.{Word}

-- A hash has 48 bits. Under every odd key some names have the same, since 8 divides key * key - 1: short ones where a hash has 16 bits, long ones here.
unfoldable pub hash_from : ℕ → ℕ → List ℕ → ℕ
hash_from key h [] = h
hash_from key h (b ∷ s) = hash_from key ((h * key + b) % 281474976710656) s

-- what the hash of a word of a class begins with: a token of class 3 is looked up in 1 and in 2, so the three share a number
unfoldable pub seed_of : ℕ → ℕ
seed_of class = if eqb class 2 || eqb class 3 then 1 else class % 281474976710656

-- the chain of a word of a class, by a key
unfoldable pub bucket_of : ℕ → ℕ → List ℕ → ℕ
bucket_of key class w = hash_from key (seed_of class) w % 511

-- the key of an index
abbrev pub key_of : List ℕ → ℕ
key_of rows = get_or rows 4607 0

abbrev pub head_at : List ℕ → ℕ → ℕ
head_at rows b = get_or rows (4096 + b) 0

abbrev pub link_at : List ℕ → ℕ → ℕ
link_at rows k = get_or rows (4608 + k) 0

-- node k before the chain b
abbrev pub push_rows : List ℕ → ℕ → ℕ → List ℕ
push_rows rows b k = set (set rows (4608 + k) (head_at rows b)) (4096 + b) (k + 1)

-- row i before the chain of its second word, where it has one
unfoldable pub push_second : ℕ → List ℕ → List ℕ → ℕ → List ℕ
push_second key text rows i = elim (decl_at text rows i).second [ none ↦ rows | some w ↦ push_rows rows (bucket_of key (decl_at text rows i).class w.text) (2 * i + 1) ]

-- row i before the chain of its name
unfoldable pub push_name : ℕ → List ℕ → List ℕ → ℕ → List ℕ
push_name key text rows i = push_rows rows (bucket_of key (decl_at text rows i).class (decl_at text rows i).name.text) (2 * i)

-- node k as the rows have it: k + 1, and 0 for none
abbrev pub node_of : Answer ℕ → ℕ
node_of None = 0
node_of (Some k) = suc k

-- the node after p: nodes rise, 0 is the end
unfoldable pub next_of : List ℕ → ℕ → ℕ
next_of rows p = if ltb p (link_at rows (p - 1)) then link_at rows (p - 1) else 0

-- the numbers of the rows are as they were
pub record RowsKept (old new : List ℕ) : Type 0 where
  pub size : length new ≡ length old
  pub kept : (j : ℕ) → j < 4096 → get_or new j 0 ≡ get_or old j 0

-- those of the rows and of the index are; what stands from 5,632 on is others'
pub record IndexKept (old new : List ℕ) : Type 0 where
  pub size : length new ≡ length old
  pub kept : (j : ℕ) → j < 5632 → get_or new j 0 ≡ get_or old j 0

-- the rows that are met from the node p on; nodes rise along a chain
pub data Chain (rows : List ℕ) : ℕ → List ℕ → Type 0 where
  chain_end : {p : ℕ} → p ≡ 0 → Chain rows p []
  chain_node : {p k : ℕ} {is : List ℕ} → p ≡ suc k → k < 1024 → (link_at rows k ≡ 0) ⊎ (p < link_at rows k) → Chain rows (link_at rows k) is → Chain rows p (k / 2 ∷ is)

pub data Among (i : ℕ) : List ℕ → Type 0 where
  here : {j : ℕ} {is : List ℕ} → i ≡ j → Among i (j ∷ is)
  later : {j : ℕ} {is : List ℕ} → Among i is → Among i (j ∷ is)

-- every row is in the chains of its words
pub record Indexed (text rows : List ℕ) (n : ℕ) : Type 0 where
  pub chain : ℕ → List ℕ
  pub follows : (b : ℕ) → b < 511 → Chain rows (head_at rows b) (chain b)
  pub names : (i : ℕ) → i < n → Among i (chain (bucket_of (key_of rows) (decl_at text rows i).class (decl_at text rows i).name.text))
  pub seconds : (i : ℕ) (w : Word) → i < n → (decl_at text rows i).second ≡ some w → Among i (chain (bucket_of (key_of rows) (decl_at text rows i).class w.text))

-- the first n rows, few enough and indexed
pub record Kept (text rows : List ℕ) (n : ℕ) : Type 0 where
  pub few : n ≤ 512
  pub indexed : Indexed text rows n

-- all of this file computes where this is unfolded
unfoldable pub opened : Unit {0}
unfolding hash_from seed_of bucket_of push_second push_name next_of
opened = tt
