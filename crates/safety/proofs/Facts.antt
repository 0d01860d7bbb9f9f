-- What the definitions of this crate say, by computing.
use mathlib.Core.Bool.{true, false, ◌&&◌}
use mathlib.Core.List.{[], ◌∷◌, ◌++◌}
use mathlib.Core.Path.{refl}
use native.Mathlib.Omega.{arith}
use lib.Dec.{T}
use Rattle.base.specs.Common.{bytes, same}
use Rattle.loading.specs.File
use Rattle.loading.specs.File.{file_bytes}
use Rattle.loading.specs.Reach.{at_start, by_token}
use Rattle.machine.specs.Bytes
use Rattle.machine.specs.Decode
use Rattle.machine.specs.Lengths
use Rattle.safety.specs.Promise.{claim_of}
use Rattle.safety.specs.Reached.{NoRepeats}

-- the file of a program with the verdict "finishing" has the word 1, that of another 0: `HD`, 2, the length, the verdict, `TW`
pub claims : T (same (file_bytes (9 ∷ []) (claim_of true)) (bytes "HD" ++ (0 ∷ 2 ∷ 0 ∷ 1 ∷ 0 ∷ 1 ∷ (bytes "TW" ++ (0 ∷ 1 ∷ 0 ∷ 9 ∷ []))))
    && same (file_bytes (9 ∷ []) (claim_of false)) (bytes "HD" ++ (0 ∷ 2 ∷ 0 ∷ 1 ∷ 0 ∷ 0 ∷ (bytes "TW" ++ (0 ∷ 1 ∷ 0 ∷ 9 ∷ [])))))
unfolding claim_of Bytes.opened File.opened
claims = tt

-- `[ | 5: | 5: ? | *: ]`, which no accepted text has: 1: input_choice, its table at 8 with two labels, 5 at 9 and at 11
pub label-twice : NoRepeats (7 ∷ 6 ∷ 1 ∷ 9 ∷ 4 ∷ 1 ∷ 6 ∷ 2 ∷ 5 ∷ 7 ∷ 5 ∷ 7 ∷ 9 ∷ []) → ⊥
unfolding Decode.opened Lengths.opened
label-twice once = once 1 8 2 0 1 at_start (by_token refl refl refl) (omega arith) (omega arith) refl
