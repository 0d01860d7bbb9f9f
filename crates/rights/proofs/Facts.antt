-- Worked examples of rights over operations, computed.
use mathlib.Core.Bool.{Bool, true, ◌&&◌, not}
use mathlib.Core.List.{List, [], ◌∷◌, ◌++◌}
use mathlib.Core.Path.{◌≡◌, refl}
use Prim.Native.Nat.{ℕ}
use lib.Dec.{T, eqb}
use lib.ListN.{replicate}
use Rattle.loading.specs.File
use Rattle.loading.specs.File.{file_bytes, done, load}
use Rattle.loading.specs.Reach
use Rattle.loading.specs.Taking
use Rattle.machine.specs.Bytes
use Rattle.machine.specs.Decode
use Rattle.machine.specs.Lengths
use Rattle.rights.specs.Rights
use Rattle.rights.specs.Rights.{granted, says, admit, admit_loaded, tells}

pub data Case : Type 0 where
  -- granted set, instruction number
  grants denies : List ℕ → ℕ → Case
  -- table, granted set; number, location
  admits : List ℕ → List ℕ → ℕ → ℕ → Case
  -- file, words of the lent table, granted set; number, words told, verdict word, location
  loads : List ℕ → ℕ → List ℕ → ℕ → ℕ → ℕ → ℕ → Case

unfoldable pub holds : Case → Bool
holds (grants set op) = granted set op
holds (denies set op) = not (granted set op)
holds (admits ws set number location) = let a = admit ws set in eqb a.number number && eqb a.location location
holds (loads file room set number words verdict location) =
    let a = admit_loaded set (load file room) in
    eqb a.number number && eqb a.words words && eqb a.verdict verdict && eqb a.location location

unfoldable pub all : List Case → Bool
all [] = true
all (c ∷ cs) = holds c && all cs

-- a footnote style: 512 formats (its parameter 1), 256 erases bookmarks, for a token 7 and for no other
footnote : List ℕ
footnote = 7 ∷ 5 ∷ 13 ∷ 1 ∷ 512 ∷ 9 ∷ 1 ∷ 7 ∷ 6 ∷ 256 ∷ 9 ∷ []

-- one operation of each kind, 256, 512, 768 (an answer, 0 or 1) and 1,024, and one behind the end
four : List ℕ
four = 256 ∷ 13 ∷ 0 ∷ 512 ∷ 768 ∷ 13 ∷ 0 ∷ 1024 ∷ 9 ∷ 257 ∷ []

-- the set of 256, 512, 768 and 1,024, with one of them left out
without256 : List ℕ
without256 = replicate 32 0 ++ (128 ∷ (replicate 31 0 ++ (128 ∷ (replicate 31 0 ++ (128 ∷ [])))))

without512 : List ℕ
without512 = 128 ∷ (replicate 63 0 ++ (128 ∷ (replicate 31 0 ++ (128 ∷ []))))

without768 : List ℕ
without768 = 128 ∷ (replicate 31 0 ++ (128 ∷ (replicate 63 0 ++ (128 ∷ []))))

without1024 : List ℕ
without1024 = 128 ∷ (replicate 31 0 ++ (128 ∷ (replicate 31 0 ++ (128 ∷ []))))

cases : List Case
unfolding footnote four without256 without512 without768 without1024
cases =
    -- bit 7 of byte 0 is 256, bit 0 of byte 127 is 1,279; missing bytes; numbers below 256 are never granted
    grants (128 ∷ []) 256 ∷ grants (64 ∷ []) 257 ∷ grants (32 ∷ []) 258 ∷ grants (16 ∷ []) 259 ∷ grants (8 ∷ []) 260 ∷ grants (4 ∷ []) 261 ∷ grants (2 ∷ []) 262 ∷ denies (127 ∷ []) 256 ∷ grants (1 ∷ []) 263 ∷ denies (254 ∷ []) 263 ∷ denies (255 ∷ []) 264 ∷ grants (0 ∷ 128 ∷ []) 264
    ∷ grants (replicate 127 0 ++ (1 ∷ [])) 1279 ∷ denies (replicate 127 255) 1279 ∷ denies [] 256 ∷ denies (255 ∷ []) 255
    -- the footnote style: with both operations, without 256 (at location 10), without 512 (at 5), without either (the lowest)
    ∷ admits footnote (128 ∷ (replicate 31 0 ++ (128 ∷ []))) 0 0 ∷ admits footnote (replicate 32 0 ++ (128 ∷ [])) 48 10 ∷ admits footnote (128 ∷ []) 48 5
    ∷ admits footnote [] 48 5
    -- one operation of each kind withheld; a set cut before its last byte; what cannot be reached does not count
    ∷ admits four without256 48 1 ∷ admits four without512 48 4 ∷ admits four without768 48 5 ∷ admits four without1024 48 8
    ∷ admits four (without1024 ++ (replicate 31 0 ++ (128 ∷ []))) 0 0 ∷ admits (9 ∷ 256 ∷ []) [] 0 0
    -- 41 comes first; the lowest location, not the first that is found
    ∷ admits (256 ∷ []) [] 41 0 ∷ admits (1 ∷ 3 ∷ 257 ∷ 9 ∷ 256 ∷ 2 ∷ 4 ∷ []) [] 48 3 ∷ admits (1 ∷ 3 ∷ 257 ∷ 9 ∷ 256 ∷ 2 ∷ 4 ∷ []) (64 ∷ []) 48 5
    -- in one call with loading: 40, 20 and 41 before 48; with 48 the words and the verdict word are told
    ∷ loads [] 9 [] 40 0 0 0 ∷ loads (file_bytes (256 ∷ 9 ∷ []) 1) 1 [] 20 0 0 0 ∷ loads (file_bytes (256 ∷ []) 1) 9 [] 41 0 0 0
    ∷ loads (file_bytes (256 ∷ 9 ∷ []) 1) 9 [] 48 2 1 1 ∷ loads (file_bytes (256 ∷ 9 ∷ []) 1) 2 (128 ∷ []) 0 2 1 0 ∷ []

all_hold : T (all cases)
unfolding all holds cases footnote four without256 without512 without768 without1024 Bytes.opened Decode.opened Lengths.opened File.opened Reach.opened Rights.opened Taking.opened
all_hold = tt

-- what the C caller reads: the number and the location that it names; behind a loaded table the number, its words, the verdict word and that location
told : (admit (256 ∷ 9 ∷ []) [] ≡ says 48 1) × (admit_loaded [] (done (9 ∷ 9 ∷ 256 ∷ []) 1) ≡ tells 0 3 1 0) × (admit_loaded [] (done (4 ∷ 256 ∷ 9 ∷ []) 1) ≡ tells 48 3 1 2)
unfolding Bytes.opened Decode.opened Lengths.opened File.opened Reach.opened Rights.opened Taking.opened
told = (refl, refl, refl)
