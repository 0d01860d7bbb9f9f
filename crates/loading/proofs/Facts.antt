-- Worked examples, computed: which tables are taken, which locations are reached, and files.
use mathlib.Core.Bool.{Bool, true, ◌&&◌, not}
use mathlib.Core.List.{List, [], ◌∷◌, ◌++◌}
use Prim.Native.Nat.{ℕ, zero, suc, ◌/◌}
use lib.Dec.{T, eqb}
use lib.ListN.{length, replicate, take, drop}
use Rattle.std.specs.Prelude.{if◌then◌else◌}
use Rattle.base.specs.Common.{same, bytes}
use Rattle.machine.specs.Bytes
use Rattle.machine.specs.Decode
use Rattle.machine.specs.Lengths
use Rattle.loading.specs.File
use Rattle.loading.specs.File.{file_bytes, Answer, done, refused, load, store, lent_bytes, Numbers, numbers_of}
use Rattle.loading.specs.Reach
use Rattle.loading.specs.Taking
use Rattle.loading.specs.Taking.{reached, taken}

pub data Case : Type 0 where
  -- a table that is taken, one that is not
  takes leaves : List ℕ → Case
  -- the locations reached, the last found first
  reaches : List ℕ → List ℕ → Case
  -- a table and its file's bytes
  file : List ℕ → ℕ → List ℕ → Case
  -- file, lent table; number, verdict word, lent table afterwards
  loads : List ℕ → List ℕ → ℕ → ℕ → List ℕ → Case
  -- table, verdict, lent file buffer; number, the buffer afterwards
  stores : List ℕ → ℕ → List ℕ → ℕ → List ℕ → Case

unfoldable answers : Answer → ℕ → ℕ → Bool
answers (done ws v) number verdict = eqb number 0 && eqb v verdict
answers (refused n) number verdict = eqb n number && eqb verdict 0

unfoldable pub holds : Case → Bool
unfolding answers
holds (takes ws) = taken ws
holds (leaves ws) = not (taken ws)
holds (reaches ws ls) = same (reached ws) ls
holds (file ws v s) = same (file_bytes ws v) s
holds (loads s lent number v after) = let a = load s (length lent / 2) in answers a number v && same (lent_bytes a lent) after
holds (stores ws v lent number after) = let a = store ws v (length lent / 2) in answers a number (if eqb number 0 then v else 0) && same (lent_bytes a lent) after

unfoldable pub all : List Case → Bool
all [] = true
all (c ∷ cs) = holds c && all cs

-- the scanner's fragment of 01, P2
p2 : List ℕ
p2 = 7 ∷ 7 ∷ 1 ∷ 12 ∷ 6 ∷ 10 ∷ 1 ∷ 8 ∷ 2 ∷ 2 ∷ 8 ∷ 3 ∷ 8 ∷ 1 ∷ 3 ∷ 2 ∷ 16 ∷ 9 ∷ []

-- P6
p6 : List ℕ
p6 = 7 ∷ 3 ∷ 1 ∷ 8 ∷ 1 ∷ 1 ∷ 4 ∷ 3 ∷ 1 ∷ 2 ∷ 8 ∷ 9 ∷ []

-- a file of one word, 9, with the verdict 1
f9 : List ℕ
f9 = 72 ∷ 68 ∷ 0 ∷ 2 ∷ 0 ∷ 1 ∷ 0 ∷ 1 ∷ 84 ∷ 87 ∷ 0 ∷ 1 ∷ 0 ∷ 9 ∷ []

-- the same with a verdict word of 2
f9wrong : List ℕ
unfolding f9
f9wrong = bytes "HD" ++ (0 ∷ 2 ∷ 0 ∷ 1 ∷ 0 ∷ 2 ∷ drop 8 f9)

nines : ℕ → List ℕ
nines zero = []
nines (suc n) = 0 ∷ 9 ∷ nines n

-- 256 returns with the verdict 1: one record
f256 : List ℕ
unfolding nines
f256 = bytes "HD" ++ (0 ∷ 2 ∷ 1 ∷ 0 ∷ 0 ∷ 1 ∷ (bytes "TW" ++ (1 ∷ 0 ∷ nines 256)))

-- 257 returns with the verdict 0: two records
f257 : List ℕ
unfolding nines
f257 = bytes "HD" ++ (0 ∷ 2 ∷ 1 ∷ 1 ∷ 0 ∷ 0 ∷ (bytes "TW" ++ (1 ∷ 0 ∷ (nines 256 ++ (bytes "TW" ++ (0 ∷ 1 ∷ 0 ∷ 9 ∷ []))))))

cases : List Case
unfolding p2 p6 f9 f9wrong f256 f257
cases =
    -- P1 to P7
    takes (9 ∷ []) ∷ takes p2 ∷ takes (2 ∷ 1 ∷ 9 ∷ []) ∷ takes (1 ∷ 3 ∷ 2 ∷ 3 ∷ 9 ∷ []) ∷ takes (3 ∷ 0 ∷ 9 ∷ []) ∷ takes p6 ∷ takes (8 ∷ 1 ∷ 9 ∷ [])
    -- no word; an instruction that is none; one whose operand is outside; a jump to location 0 and one past the table
    ∷ leaves [] ∷ leaves (0 ∷ []) ∷ leaves (14 ∷ []) ∷ leaves (1280 ∷ []) ∷ leaves (3 ∷ []) ∷ leaves (2 ∷ 2 ∷ []) ∷ leaves (2 ∷ 3 ∷ []) ∷ leaves (1 ∷ 1 ∷ [])
    -- what cannot be reached may be anything
    ∷ takes (9 ∷ 0 ∷ 14 ∷ []) ∷ takes (1 ∷ 2 ∷ 0 ∷ 9 ∷ []) ∷ leaves (1 ∷ 1 ∷ 0 ∷ [])
    -- the operation is the last word; with a return behind it
    ∷ leaves (256 ∷ []) ∷ takes (256 ∷ 9 ∷ []) ∷ takes (1279 ∷ 9 ∷ [])
    -- what stands behind each instruction that goes on: nothing, a return
    ∷ leaves (4 ∷ []) ∷ takes (4 ∷ 9 ∷ []) ∷ leaves (3 ∷ 0 ∷ []) ∷ leaves (5 ∷ 0 ∷ []) ∷ leaves (10 ∷ 0 ∷ []) ∷ leaves (13 ∷ 0 ∷ []) ∷ leaves (512 ∷ []) ∷ leaves (768 ∷ []) ∷ leaves (1024 ∷ [])
    -- the place after a call counts though the call of itself never returns; a call of location 0
    ∷ leaves (8 ∷ 1 ∷ []) ∷ leaves (8 ∷ 0 ∷ 9 ∷ [])
    -- a choice table cut off by one word; its default just past the table; a default that is there
    ∷ leaves (11 ∷ 1 ∷ 1 ∷ 5 ∷ []) ∷ leaves (11 ∷ 1 ∷ 0 ∷ []) ∷ takes (11 ∷ 1 ∷ 0 ∷ 12 ∷ [])
    -- a label back to its choice; one whose target is location 0; the second of two equal labels, which no walk takes, counts
    ∷ takes (11 ∷ 1 ∷ 1 ∷ 7 ∷ 4 ∷ 9 ∷ []) ∷ leaves (11 ∷ 1 ∷ 1 ∷ 7 ∷ 5 ∷ 9 ∷ []) ∷ leaves (11 ∷ 1 ∷ 2 ∷ 7 ∷ 4 ∷ 7 ∷ 7 ∷ 9 ∷ []) ∷ takes (11 ∷ 1 ∷ 2 ∷ 7 ∷ 4 ∷ 7 ∷ 6 ∷ 9 ∷ [])
    -- the same of input choices
    ∷ takes (7 ∷ 1 ∷ 1 ∷ 7 ∷ 4 ∷ 9 ∷ []) ∷ leaves (7 ∷ 1 ∷ 1 ∷ 7 ∷ 5 ∷ 9 ∷ []) ∷ leaves (7 ∷ 1 ∷ 0 ∷ []) ∷ leaves (7 ∷ 1 ∷ 1 ∷ 7 ∷ 4 ∷ [])
    -- an operand may be reached as an instruction: location 2 has 0; 9
    ∷ leaves (2 ∷ 0 ∷ 3 ∷ []) ∷ reaches (1 ∷ 1 ∷ 9 ∷ []) (3 ∷ 1 ∷ []) ∷ reaches (8 ∷ 3 ∷ 9 ∷ 0 ∷ []) (3 ∷ 1 ∷ [])
    -- files
    ∷ file (9 ∷ []) 1 f9 ∷ file (replicate 256 9) 1 f256 ∷ file (replicate 257 9) 0 f257
    ∷ loads f9 (5 ∷ 5 ∷ 5 ∷ 5 ∷ 5 ∷ []) 0 1 (0 ∷ 9 ∷ 0 ∷ 0 ∷ 5 ∷ []) ∷ loads f257 (replicate 515 1) 0 0 (drop 12 (take 524 f257) ++ (0 ∷ 9 ∷ 1 ∷ []))
    -- 40: a byte more, one less, another mark, verdict 2, length 0, length 2 over one word, a record that is not full but not the last
    ∷ loads (f9 ++ (0 ∷ [])) (5 ∷ 5 ∷ []) 40 0 (0 ∷ 0 ∷ []) ∷ loads (take 13 f9) (5 ∷ 5 ∷ []) 40 0 (0 ∷ 0 ∷ []) ∷ loads (f9 ++ (0 ∷ 9 ∷ [])) (5 ∷ 5 ∷ []) 40 0 (0 ∷ 0 ∷ [])
    ∷ loads (72 ∷ 69 ∷ drop 2 f9) (5 ∷ 5 ∷ []) 40 0 (0 ∷ 0 ∷ [])
    ∷ loads f9wrong (5 ∷ 5 ∷ []) 40 0 (0 ∷ 0 ∷ [])
    ∷ loads (bytes "HD" ++ (0 ∷ 2 ∷ 0 ∷ 0 ∷ 0 ∷ 1 ∷ [])) (5 ∷ 5 ∷ []) 40 0 (0 ∷ 0 ∷ [])
    ∷ loads (bytes "HD" ++ (0 ∷ 2 ∷ 0 ∷ 2 ∷ 0 ∷ 1 ∷ drop 8 f9)) (5 ∷ 5 ∷ []) 40 0 (0 ∷ 0 ∷ [])
    ∷ loads (bytes "HD" ++ (0 ∷ 2 ∷ 0 ∷ 2 ∷ 0 ∷ 1 ∷ (drop 8 f9 ++ drop 8 f9))) (5 ∷ 5 ∷ 5 ∷ 5 ∷ []) 40 0 (0 ∷ 0 ∷ 0 ∷ 0 ∷ [])
    ∷ loads [] (5 ∷ []) 40 0 (5 ∷ []) ∷ loads (bytes "HD" ++ (0 ∷ 2 ∷ 16 ∷ 1 ∷ 0 ∷ 1 ∷ drop 8 f9)) [] 40 0 []
    -- 40: an empty last record behind a full one
    ∷ loads (f256 ++ (bytes "TW" ++ (0 ∷ 0 ∷ []))) (5 ∷ 5 ∷ []) 40 0 (0 ∷ 0 ∷ [])
    -- 20 after 40, before 41; 41
    ∷ loads f9wrong (5 ∷ []) 40 0 (5 ∷ []) ∷ loads f9 (5 ∷ []) 20 0 (5 ∷ []) ∷ loads (file_bytes (0 ∷ []) 0) [] 20 0 [] ∷ loads (file_bytes (0 ∷ []) 0) (5 ∷ 5 ∷ 5 ∷ []) 41 0 (0 ∷ 0 ∷ 5 ∷ [])
    -- writing
    ∷ stores (9 ∷ []) 1 (replicate 15 7) 0 (f9 ++ (7 ∷ [])) ∷ stores (9 ∷ []) 1 (replicate 17 7) 0 (f9 ++ (0 ∷ 0 ∷ 7 ∷ []))
    ∷ stores (9 ∷ []) 1 (replicate 13 7) 20 (replicate 12 0 ++ (7 ∷ [])) ∷ stores (9 ∷ []) 2 (replicate 13 7) 40 (replicate 12 0 ++ (7 ∷ []))
    ∷ stores (replicate 4097 9) 1 (7 ∷ 7 ∷ []) 40 (0 ∷ 0 ∷ []) ∷ stores (0 ∷ []) 1 (replicate 13 7) 20 (replicate 12 0 ++ (7 ∷ []))
    ∷ stores [] 1 (replicate 4 7) 40 (replicate 4 0) ∷ stores (0 ∷ []) 1 (replicate 14 7) 41 (replicate 14 0)
    ∷ []

all_hold : T (all cases)
unfolding all holds cases nines answers p2 p6 f9 f9wrong f256 f257 Bytes.opened Decode.opened Lengths.opened File.opened Reach.opened Taking.opened
all_hold = tt

-- what the C caller reads: the words handed over and the verdict word, 0 with a refusal
unfoldable pub told : Numbers → List ℕ
told n = n.number ∷ n.words ∷ n.verdict ∷ []

numbers-told : T (same (told (numbers_of (done (9 ∷ 9 ∷ []) 1))) (0 ∷ 2 ∷ 1 ∷ []) && same (told (numbers_of (refused 41))) (41 ∷ 0 ∷ 0 ∷ []))
unfolding told File.opened
numbers-told = tt
