-- What stands at a location of a table, with its targets computed: "`distance` is counted from the location of the word that holds it".
use Rattle.std.specs.Prelude.{List, ℕ, zero, suc, ◌+◌, ◌-◌, eqb, ltb, if◌then◌else◌}
use Rattle.std.proofs.Math.Option.{Option, none, some}
use Rattle.std.proofs.Math.ListN.{get_elem?}
use Rattle.events.specs.Events.{Event, output, signal}
use Rattle.machine.specs.Lengths.{length_of}

-- "locations from 1": the word at a location, or none outside the table
unfoldable pub fetch : List ℕ → ℕ → Option ℕ
fetch T zero = none
fetch T (suc i) = get_elem? T i

-- an instruction; `invalid` where 37 is due. A choice has the location of its choice table.
pub data Instruction : Type 0 where
  invalid : Instruction
  jump : ℕ → Instruction
  input : ℕ → Instruction
  input_any : Instruction
  write : Event → Instruction
  input_choice : ℕ → Instruction
  call_rule : ℕ → Instruction
  return : Instruction
  set_result : ℕ → Instruction
  choice : ℕ → Instruction
  end_choice : Instruction
  set_parameter : ℕ → Instruction
  update update_with choose choose_with : ℕ → Instruction

-- "updates from 256, updates with a parameter from 512, choice operations from 768, with a parameter from 1,024"
unfoldable pub decode_operation : ℕ → Instruction
decode_operation i =
    if ltb i 512 then update i
    else if ltb i 768 then update_with i
    else if ltb i 1024 then choose i
    else choose_with i

-- "1 jumpForward distance, 2 jumpBack distance, 3 input token, .., 5 emit token, 6 error signal, 7 inputChoice distance, 8 call
-- location, .., 10 setResult value, 11 choice distance, .., 13 setParameter value": at l, with the operand x
unfoldable pub decode_two : ℕ → ℕ → ℕ → Instruction
decode_two l i x =
    if eqb i 1 then jump (l + 1 + x)
    else if eqb i 2 then jump (l + 1 - x)
    else if eqb i 3 then input x
    else if eqb i 5 then write (output x)
    else if eqb i 6 then write (signal x)
    else if eqb i 7 then input_choice (l + 1 + x)
    else if eqb i 8 then call_rule x
    else if eqb i 10 then set_result x
    else if eqb i 11 then choice (l + 1 + x)
    else set_parameter x

-- ".., 4 inputAny, .., 9 return, .., 12 endChoice, .."
unfoldable pub decode_one : ℕ → Instruction
decode_one i =
    if eqb i 4 then input_any
    else if eqb i 9 then return
    else if eqb i 12 then end_choice
    else decode_operation i

-- "fetch, operand .. outside the table, or an instruction 0, 14 to 255 or above 1,279": the instruction i at l, and the word after it
unfoldable pub decode_word : ℕ → ℕ → Option ℕ → Instruction
decode_word l i none = if eqb (length_of i) 1 then decode_one i else invalid
decode_word l i (some x) =
    if eqb (length_of i) 1 then decode_one i
    else if eqb (length_of i) 2 then decode_two l i x
    else invalid

unfoldable pub decode_at : ℕ → Option ℕ → Option ℕ → Instruction
decode_at l none x = invalid
decode_at l (some i) x = decode_word l i x

unfoldable pub decode : List ℕ → ℕ → Instruction
decode T l = decode_at l (fetch T l) (fetch T (suc l))

-- all of this file computes where this is unfolded
unfoldable pub opened : Unit {0}
unfolding fetch decode_operation decode_two decode_one decode_word decode_at decode
opened = tt
