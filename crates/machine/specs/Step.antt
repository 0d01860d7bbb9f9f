-- One instruction of a walk that goes on, over the table T and the tokens. 37 is found before all else that the instruction tests.
use Rattle.std.specs.Prelude.{Bool, List, [], ◌∷◌, ℕ, zero, suc, ◌+◌, ◌*◌, ◌-◌, leb, ltb, length, if◌then◌else◌}
use Rattle.std.proofs.Math.Option.{Option, none, some}
use Rattle.base.specs.Common.{given}
use Rattle.events.specs.Events.{Event, repair, operation, operation_with, Reason, finished, differs, missing, unlabelled, deep, present, took, mends, spent, is}
use Rattle.machine.specs.Decode.{fetch, Instruction, invalid, jump, input, input_any, write, input_choice, call_rule, return, set_result, choice, end_choice, set_parameter, update, update_with, choose, choose_with, decode}
use Rattle.machine.specs.Walk.{Walk, moved, with_returns, with_result, with_parameter, with_io}

-- what an instruction does: 37; a stop for another reason; on; on, with an event to be written; an event, and an answer is wanted
pub data Next : Type 0 where
  goes_outside : Next
  stops : Reason → Next
  goes : Walk → Next
  tells asks : Event → Walk → Next

module _ (T tokens : List ℕ) where
  -- on to a location: "target outside the table" is 37
  unfoldable pub go_to : ℕ → Walk → Next
  go_to l w = if given (fetch T l) then goes (moved l w) else goes_outside

  -- the location of the distance behind the first of n labels from l on that is v
  unfoldable pub seek : ℕ → ℕ → ℕ → Option ℕ
  seek v zero l = none
  seek v (suc n) l = let later = seek v n (l + 2) in if is v (fetch T l) then some (l + 1) else later

  unfoldable pub seek_by : Option ℕ → ℕ → ℕ → Option ℕ
  seek_by none n l = none
  seek_by (some v) n l = seek v n l

  -- "then only the label taken, or the default": back from the distance at l, with `taken`; or to the default at d, with w
  unfoldable pub landed : Option ℕ → ℕ → Walk → Walk → Next
  landed none d taken w = go_to d w
  landed (some l) d taken w = elim (fetch T l) [ none ↦ goes_outside | some x ↦ go_to (l - x) taken ]

  -- "The whole choice table is tested": it begins with its count at c
  unfoldable pub branched : Option ℕ → Option ℕ → ℕ → Walk → Walk → Next
  branched none v c taken w = goes_outside
  branched (some n) v c taken w =
      if leb (c + 2 * n) (length T) then landed (seek_by v n (c + 1)) (c + 1 + 2 * n) taken w else goes_outside

  -- "inputChoice sets result to the present token, if any; with none, no label matches, whatever result holds"
  unfoldable pub input_choosing : Option ℕ → ℕ → Walk → Next
  input_choosing none c w = branched (fetch T c) none c w w
  input_choosing (some t) c w = let v = with_result t w in branched (fetch T c) (some t) c (with_io (took w.io) v) v

  -- "33 a call with 64 pending", after 37
  unfoldable pub calling : ℕ → Walk → Next
  calling l w =
      if given (fetch T l)
      then (if ltb (length w.returns) 64 then goes (moved l (with_returns ((w.location + 2) ∷ w.returns) w)) else stops deep)
      else goes_outside

  -- "0 is a return with nothing pending"; "A return location is tested at the return."
  unfoldable pub returning : List ℕ → Walk → Next
  returning [] w = stops finished
  returning (l ∷ rs) w = go_to l (with_returns rs w)

  -- "Where a required token differs or is absent and allowance is left, the event 4, required token, 0 is written, the allowance falls by
  -- one, and the walk goes on as if that token had been read"; "30 comes only with the allowance used up"
  unfoldable pub requiring : ℕ → Bool → Walk → Next
  requiring t there w =
      if there then goes (moved (w.location + 2) (with_io (took w.io) w))
      else if mends w.io then tells (repair t) (moved (w.location + 2) (with_io (spent w.io) w))
      else stops differs

  unfoldable pub exec : Instruction → Walk → Next
  exec invalid w = goes_outside
  exec (jump l) w = go_to l w
  exec (input t) w = requiring t (is t (present tokens w.io)) w
  exec input_any w = if given (present tokens w.io) then goes (moved (w.location + 1) (with_io (took w.io) w)) else stops missing
  exec (write e) w = tells e (moved (w.location + 2) w)
  exec (input_choice c) w = input_choosing (present tokens w.io) c w
  exec (call_rule l) w = calling l w
  exec return w = returning w.returns w
  exec (set_result v) w = goes (moved (w.location + 2) (with_result v w))
  exec (choice c) w = branched (fetch T c) (some w.result) c w w
  exec end_choice w = stops unlabelled
  exec (set_parameter v) w = goes (moved (w.location + 2) (with_parameter v w))
  exec (update op) w = tells (operation op) (moved (w.location + 1) w)
  exec (update_with op) w = tells (operation_with op w.parameter) (moved (w.location + 1) w)
  exec (choose op) w = asks (operation op) (moved (w.location + 1) w)
  exec (choose_with op) w = asks (operation_with op w.parameter) (moved (w.location + 1) w)

  unfoldable pub step : Walk → Next
  step w = exec (decode T w.location) w

-- all of this file computes where this is unfolded
unfoldable pub opened : Unit {0}
unfolding go_to seek seek_by landed branched input_choosing calling returning requiring exec step
opened = tt
