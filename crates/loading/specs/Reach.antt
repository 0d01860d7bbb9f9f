-- "starting at location 1 and treating every jump target, label, default, call and place after a call as possible, no reachable location
-- gives 37": which locations of a table can be reached, and which give 37.
use Rattle.std.specs.Prelude.{Bool, true, false, not, List, ◌≡◌, ℕ, ◌+◌, ◌*◌, ◌-◌, ◌<◌, leb, length}
use Rattle.std.proofs.Math.Option.{Option, none, some}
use Rattle.machine.specs.Decode.{fetch, Instruction, invalid, jump, input, input_any, write, input_choice, call_rule, return, set_result, choice, end_choice, set_parameter, update, update_with, choose, choose_with, decode}

-- "The whole choice table is tested": it has its count at c and lies inside the table
unfoldable pub fits : List ℕ → ℕ → Option ℕ → Bool
fits T c none = false
fits T c (some n) = leb (c + 2 * n) (length T)

-- the instruction at l is a choice whose table stands at c, has n labels and lies inside
pub data Chooses (T : List ℕ) (l c n : ℕ) : Type 0 where
  by_token : decode T l ≡ input_choice c → fetch T c ≡ some n → leb (c + 2 * n) (length T) ≡ true → Chooses T l c n
  by_result : decode T l ≡ choice c → fetch T c ≡ some n → leb (c + 2 * n) (length T) ≡ true → Chooses T l c n

-- the location behind an instruction at l that neither jumps, chooses, calls nor ends
unfoldable pub behind : ℕ → Instruction → Option ℕ
behind l invalid = none
behind l (jump m) = none
behind l (input t) = some (l + 2)
behind l input_any = some (l + 1)
behind l (write e) = some (l + 2)
behind l (input_choice c) = none
behind l (call_rule m) = none
behind l return = none
behind l (set_result v) = some (l + 2)
behind l (choice c) = none
behind l end_choice = none
behind l (set_parameter v) = some (l + 2)
behind l (update op) = some (l + 1)
behind l (update_with op) = some (l + 1)
behind l (choose op) = some (l + 1)
behind l (choose_with op) = some (l + 1)

-- the locations that can be reached; 0, which no table has, where a distance leads back past location 1
pub data Reachable (T : List ℕ) : ℕ → Type 0 where
  -- "starting at location 1"
  at_start : Reachable T 1
  -- "every jump target"
  at_target : {l m : ℕ} → Reachable T l → decode T l ≡ jump m → Reachable T m
  -- "label": each one, also where an equal one stands before it; x is its distance
  at_label : {l c n i x : ℕ} → Reachable T l → Chooses T l c n → i < n → fetch T (c + 2 * i + 2) ≡ some x → Reachable T (c + 2 * i + 2 - x)
  -- "default": behind the choice table
  at_default : {l c n : ℕ} → Reachable T l → Chooses T l c n → Reachable T (c + 2 * n + 1)
  -- "call"
  at_call : {l m : ℕ} → Reachable T l → decode T l ≡ call_rule m → Reachable T m
  -- "place after a call": whether the called rule returns or not
  after_call : {l m : ℕ} → Reachable T l → decode T l ≡ call_rule m → Reachable T (l + 2)
  -- and what a walk comes to next
  at_next : {l m : ℕ} → Reachable T l → behind l (decode T l) ≡ some m → Reachable T m

-- "37 fetch, operand, choice table .. outside the table, or an instruction 0, 14 to 255 or above 1,279". A target outside is a location
-- that can be reached and whose fetch is outside.
unfoldable pub bad : List ℕ → Instruction → Bool
bad T invalid = true
bad T (jump m) = false
bad T (input t) = false
bad T input_any = false
bad T (write e) = false
bad T (input_choice c) = not (fits T c (fetch T c))
bad T (call_rule m) = false
bad T return = false
bad T (set_result v) = false
bad T (choice c) = not (fits T c (fetch T c))
bad T end_choice = false
bad T (set_parameter v) = false
bad T (update op) = false
bad T (update_with op) = false
bad T (choose op) = false
bad T (choose_with op) = false

unfoldable pub gives37 : List ℕ → ℕ → Bool
gives37 T l = bad T (decode T l)

-- "no reachable location gives 37"
abbrev pub Taken : List ℕ → Type 0
Taken T = (l : ℕ) → Reachable T l → gives37 T l ≡ false

-- all of this file computes where this is unfolded
unfoldable pub opened : Unit {0}
unfolding fits behind bad gives37
opened = tt
