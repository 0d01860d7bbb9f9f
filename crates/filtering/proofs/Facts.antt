-- Worked examples of the filter, computed.
use mathlib.Core.Bool.{Bool, true, ◌&&◌}
use mathlib.Core.List.{List, [], ◌∷◌, ◌++◌}
use mathlib.Core.Path.{◌≡◌, refl}
use Prim.Native.Nat.{ℕ, zero, suc, ◌/◌}
use lib.Dec.{T, eqb}
use lib.ListN.{length, replicate}
use Rattle.std.specs.Prelude.{if◌then◌else◌}
use Rattle.base.specs.Common.{same, bytes}
use Rattle.machine.specs.Bytes
use Rattle.filtering.specs.Filter
use Rattle.filtering.specs.Filter.{filter, folded, refused, buffer_after, numbers_of, tells}

-- filter, byte string, token buffer; number, what it names, the buffer afterwards
pub data Case : Type 0 where
  gives : List ℕ → List ℕ → List ℕ → ℕ → ℕ → List ℕ → Case

unfoldable pub holds : Case → Bool
holds (gives s text buffer number at after) =
    let a = filter s text (length buffer / 2) in
    let n = numbers_of a in
    eqb n.number number && eqb n.at at && eqb n.written (if eqb number 0 then length text else 0) && same (buffer_after a buffer) after

unfoldable pub all : List Case → Bool
all [] = true
all (c ∷ cs) = holds c && all cs

-- letters are 1, digits 2, all else 0; and the same entries in another order
classes : List ℕ
classes = 0 ∷ 47 ∷ 0 ∷ 0 ∷ 48 ∷ 57 ∷ 0 ∷ 2 ∷ 58 ∷ 64 ∷ 0 ∷ 0 ∷ 65 ∷ 90 ∷ 0 ∷ 1 ∷ 91 ∷ 96 ∷ 0 ∷ 0 ∷ 97 ∷ 122 ∷ 0 ∷ 1 ∷ 123 ∷ 255 ∷ 0 ∷ 0 ∷ []

turned : List ℕ
turned = 123 ∷ 255 ∷ 0 ∷ 0 ∷ 97 ∷ 122 ∷ 0 ∷ 1 ∷ 48 ∷ 57 ∷ 0 ∷ 2 ∷ 91 ∷ 96 ∷ 0 ∷ 0 ∷ 65 ∷ 90 ∷ 0 ∷ 1 ∷ 0 ∷ 47 ∷ 0 ∷ 0 ∷ 58 ∷ 64 ∷ 0 ∷ 0 ∷ []

-- n entries of four byte values each from b on, their token 258
fours : ℕ → ℕ → List ℕ
fours zero b = []
fours (suc n) b = b ∷ three b ∷ 1 ∷ 2 ∷ fours n (suc (three b))
  where
    three : ℕ → ℕ
    three x = suc (suc (suc x))

cases : List Case
unfolding classes turned fours
cases =
    -- letters and digits folded, in any order of the entries
    gives classes (bytes "a1 Z") (replicate 8 7) 0 0 (0 ∷ 1 ∷ 0 ∷ 2 ∷ 0 ∷ 0 ∷ 0 ∷ 1 ∷ []) ∷ gives turned (bytes "a1 Z") (replicate 8 7) 0 0 (0 ∷ 1 ∷ 0 ∷ 2 ∷ 0 ∷ 0 ∷ 0 ∷ 1 ∷ [])
    -- nothing past the tokens; the odd last byte counts for nothing
    ∷ gives classes (bytes "a") (7 ∷ 7 ∷ 7 ∷ 7 ∷ 7 ∷ []) 0 0 (0 ∷ 1 ∷ 7 ∷ 7 ∷ 7 ∷ []) ∷ gives classes [] [] 0 0 [] ∷ gives classes [] (7 ∷ []) 0 0 (7 ∷ [])
    ∷ gives classes (bytes "ab") (7 ∷ 7 ∷ 7 ∷ []) 20 0 (7 ∷ 7 ∷ 7 ∷ [])
    -- a part entry counts for nothing, whatever stands in it
    ∷ gives (classes ++ (9 ∷ [])) (bytes "a") (7 ∷ 7 ∷ []) 0 0 (0 ∷ 1 ∷ []) ∷ gives (classes ++ (9 ∷ 3 ∷ [])) (bytes "a") (7 ∷ 7 ∷ []) 0 0 (0 ∷ 1 ∷ [])
    ∷ gives (classes ++ (9 ∷ 3 ∷ 0 ∷ [])) (bytes "a") (7 ∷ 7 ∷ []) 0 0 (0 ∷ 1 ∷ [])
    -- every byte value in one entry; token 258, high byte first
    ∷ gives (0 ∷ 255 ∷ 1 ∷ 2 ∷ []) (255 ∷ 0 ∷ []) (7 ∷ 7 ∷ 7 ∷ 7 ∷ []) 0 0 (1 ∷ 2 ∷ 1 ∷ 2 ∷ [])
    -- 42: the first such entry, from 0; before 43 and before 44; equal ends are allowed
    ∷ gives (0 ∷ 255 ∷ 0 ∷ 1 ∷ 9 ∷ 8 ∷ 0 ∷ 1 ∷ 7 ∷ 6 ∷ 0 ∷ 1 ∷ []) [] [] 42 1 [] ∷ gives (3 ∷ 3 ∷ 0 ∷ 1 ∷ 3 ∷ 3 ∷ 0 ∷ 1 ∷ 9 ∷ 8 ∷ 0 ∷ 1 ∷ []) [] [] 42 2 []
    ∷ gives (9 ∷ 8 ∷ 0 ∷ 1 ∷ []) [] (7 ∷ 7 ∷ []) 42 0 (7 ∷ 7 ∷ [])
    -- 43: the lowest byte, whatever the order of the entries; in three as in two; before 44
    ∷ gives (5 ∷ 9 ∷ 0 ∷ 1 ∷ 200 ∷ 255 ∷ 0 ∷ 1 ∷ 9 ∷ 200 ∷ 0 ∷ 1 ∷ []) [] [] 43 9 [] ∷ gives (1 ∷ 255 ∷ 0 ∷ 1 ∷ 255 ∷ 255 ∷ 0 ∷ 1 ∷ []) [] [] 43 255 []
    ∷ gives (0 ∷ 255 ∷ 0 ∷ 1 ∷ 0 ∷ 0 ∷ 0 ∷ 1 ∷ []) [] (7 ∷ 7 ∷ []) 43 0 (7 ∷ 7 ∷ []) ∷ gives (3 ∷ 3 ∷ 0 ∷ 1 ∷ 3 ∷ 3 ∷ 0 ∷ 1 ∷ 3 ∷ 3 ∷ 0 ∷ 1 ∷ []) [] [] 43 3 []
    -- 44: the lowest byte; no entry at all; before 20
    ∷ gives (1 ∷ 255 ∷ 0 ∷ 1 ∷ []) (bytes "a") [] 44 0 [] ∷ gives (0 ∷ 254 ∷ 0 ∷ 1 ∷ []) (bytes "a") [] 44 255 []
    ∷ gives (201 ∷ 255 ∷ 0 ∷ 1 ∷ 0 ∷ 99 ∷ 0 ∷ 1 ∷ 101 ∷ 199 ∷ 0 ∷ 1 ∷ []) [] (7 ∷ 7 ∷ []) 44 100 (7 ∷ 7 ∷ []) ∷ gives [] [] [] 44 0 [] ∷ gives (0 ∷ 0 ∷ 0 ∷ []) [] [] 44 0 []
    -- 64 entries and three bytes more; 65 entries, before 42
    ∷ gives (fours 64 0 ++ (1 ∷ 0 ∷ 0 ∷ [])) (0 ∷ 255 ∷ []) (7 ∷ 7 ∷ 7 ∷ 7 ∷ []) 0 0 (1 ∷ 2 ∷ 1 ∷ 2 ∷ [])
    ∷ gives (fours 64 0 ++ (1 ∷ 0 ∷ 0 ∷ 0 ∷ [])) [] (7 ∷ 7 ∷ []) 9 0 (7 ∷ 7 ∷ [])
    ∷ []

all_hold : T (all cases)
unfolding all holds cases classes turned fours Bytes.opened Filter.opened
all_hold = tt

-- what the C caller reads: the number, what it names, the tokens written
told : numbers_of (folded (5 ∷ 6 ∷ [])) ∷ numbers_of (refused 43 65) ∷ [] ≡ tells 0 0 2 ∷ tells 43 65 0 ∷ []
unfolding Filter.opened
told = refl
