-- "Rights over the operations": the granted set, and which tables are admitted.
use Rattle.std.specs.Prelude.{Bool, true, ◌&&◌, not, List, ◌≡◌, ℕ, zero, suc, ◌-◌, ◌/◌, ◌%◌, ◌^◌, eqb, leb, length, get_or, if◌then◌else◌}
use Rattle.std.proofs.Math.Option.{Option, none, some}
use Rattle.base.specs.Common.{member}
use Rattle.machine.specs.Decode.{Instruction, invalid, jump, input, input_any, write, input_choice, call_rule, return, set_result, choice, end_choice, set_parameter, update, update_with, choose, choose_with, decode}
use Rattle.loading.specs.File.{Answer, done, refused}
use Rattle.loading.specs.Reach.{Reachable}
use Rattle.loading.specs.Taking.{reached, taken}

-- "bytes with a bit for each instruction number from 256 on, highest bit first, missing ones not granted"
unfoldable pub bit_of : List ℕ → ℕ → ℕ
bit_of set k = get_or set (k / 8) 0 / 2 ^ (7 - k % 8) % 2

-- the operation is in the granted set
unfoldable pub granted : List ℕ → ℕ → Bool
granted set op = leb 256 op && eqb (bit_of set (op - 256)) 1

-- the operation of an instruction
unfoldable pub operation_of : Instruction → Option ℕ
operation_of invalid = none
operation_of (jump m) = none
operation_of (input t) = none
operation_of input_any = none
operation_of (write e) = none
operation_of (input_choice c) = none
operation_of (call_rule m) = none
operation_of return = none
operation_of (set_result v) = none
operation_of (choice c) = none
operation_of end_choice = none
operation_of (set_parameter v) = none
operation_of (update op) = some op
operation_of (update_with op) = some op
operation_of (choose op) = some op
operation_of (choose_with op) = some op

unfoldable pub allows : List ℕ → Option ℕ → Bool
allows set none = true
allows set (some op) = granted set op

-- the instruction at l is no operation, or one that is granted
unfoldable pub right : List ℕ → List ℕ → ℕ → Bool
right T set l = allows set (operation_of (decode T l))

-- "every operation at a location reachable in the sense of A.4 is granted"
abbrev pub Admitted : List ℕ → List ℕ → Type 0
Admitted T set = (l : ℕ) → Reachable T l → right T set l ≡ true

-- "the lowest such location" of n locations from l on; 0 if there is none
unfoldable pub lowest : List ℕ → List ℕ → ℕ → ℕ → ℕ
lowest T set zero l = 0
lowest T set (suc n) l = let later = lowest T set n (suc l) in if member l (reached T) && not (right T set l) then l else later

unfoldable pub denied : List ℕ → List ℕ → ℕ
denied T set = lowest T set (length T) 1

-- the answer: its number and the location that it names, 0 for none
pub record Admission : Type 0 where
  pub number : ℕ
  pub location : ℕ

abbrev pub says : ℕ → ℕ → Admission
says number location = record { number = number; location = location }

-- "Checks: 48 for an operation not granted, after 41, naming the lowest such location"
unfoldable pub admit : List ℕ → List ℕ → Admission
admit T set =
    let at = denied T set in
    let answered : Admission = if eqb at 0 then says 0 0 else says 48 at in
    if taken T then answered else says 41 0

-- a file loaded and its table admitted in one call: what a caller reads
pub record Numbers : Type 0 where
  pub number : ℕ
  pub words : ℕ
  pub verdict : ℕ
  pub location : ℕ

-- "the loaded table stays": with 48 its words and the verdict word are told as with 0
unfoldable pub admit_loaded : List ℕ → Answer → Numbers
admit_loaded set (done ws verdict) = let a = admit ws set in record { number = a.number; words = length ws; verdict = verdict; location = a.location }
admit_loaded set (refused number) = record { number = number; words = 0; verdict = 0; location = 0 }

-- what a call leaves with its caller
abbrev pub tells : ℕ → ℕ → ℕ → ℕ → Numbers
tells number words verdict location = record { number = number; words = words; verdict = verdict; location = location }

-- all of this file computes where this is unfolded
unfoldable pub opened : Unit {0}
unfolding bit_of granted operation_of allows right lowest denied admit admit_loaded
opened = tt
