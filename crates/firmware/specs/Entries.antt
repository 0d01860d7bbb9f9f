-- What the entries for C answer of a walk's parts (include/sst.h): none stands for bytes that are no walk.
use Rattle.std.specs.Prelude.{List, ℕ, eqb, length, if◌then◌else◌}
use Rattle.std.proofs.Math.Option.{Option, none, some}
use Rattle.events.specs.Events.{reason_number}
use Rattle.machine.specs.Walk.{Phase, going, waiting, stopped, Walk, fresh}
use Rattle.machine.specs.Call.{Mode, paused}
use Rattle.machine.specs.Form.{walk_bytes, Outcome}

-- "0 going on, 1 waiting, 2 stopped"
unfoldable pub phase_in : Phase → ℕ
phase_in going = 0
phase_in waiting = 1
phase_in (stopped r) = 2

-- "The number that a stopped walk answers; 65535 for a walk that has not stopped"
unfoldable pub reason_in : Phase → ℕ
reason_in going = 65535
reason_in waiting = 65535
reason_in (stopped r) = reason_number r

unfoldable pub phase_number : Option Walk → ℕ
phase_number none = 3
phase_number (some w) = phase_in w.phase

unfoldable pub reason_or_none : Option Walk → ℕ
reason_or_none none = 65535
reason_or_none (some w) = reason_in w.phase

unfoldable pub location_or0 : Option Walk → ℕ
location_or0 none = 0
location_or0 (some w) = w.location

unfoldable pub read_or0 : Option Walk → ℕ
read_or0 none = 0
read_or0 (some w) = w.io.read

unfoldable pub used_or0 : Option Walk → ℕ
used_or0 none = 0
used_or0 (some w) = w.io.used

unfoldable pub allowance_or0 : Option Walk → ℕ
allowance_or0 none = 0
allowance_or0 (some w) = w.io.allowance

-- "Answers 0; 21 where the length is another, and then nothing is written."
unfoldable pub fresh_number : List ℕ → ℕ
fresh_number s = if eqb (length s) 158 then 0 else 21

unfoldable pub fresh_in : ℕ → List ℕ → List ℕ
fresh_in allowance s = if eqb (length s) 158 then walk_bytes (fresh allowance) else s

-- "`given` 1 and the answer; `given` 0 otherwise (any other value counts as 1)"
unfoldable pub handing : ℕ → ℕ → Mode
handing given answer = paused (if eqb given 0 then none else some answer)

-- what a call leaves with its caller: its number, the bytes of the walk and of the event buffer, events written, steps done
abbrev pub gives : ℕ → List ℕ → List ℕ → ℕ → ℕ → Outcome
gives number walk buffer written steps = record { number = number; walk = walk; buffer = buffer; events = written; steps = steps }
