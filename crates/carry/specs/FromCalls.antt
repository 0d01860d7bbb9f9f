-- Every walk from calls as in demand 3 lies in its text's rules, so that "Carrying to an identical program gives an equal walk if all its places lie in rules" has no premise
-- that a caller cannot see. The statements.
use Rattle.std.specs.Prelude.{Bool, List, ◌++◌, ◌≡◌, ℕ}
use Rattle.agreement.specs.Demand.{Listed}
use Rattle.carry.specs.Identity.{Lies}
use Rattle.carry.specs.Texts.{goes, carry_texts}
use Rattle.events.specs.Events.{Event}
use Rattle.machine.specs.Walk.{Walk}
use Rattle.processor.specs.Process.{accepted, process}

-- all places of a walk from calls over a text's table lie in its rules: a walk that has stopped is at the instruction that stopped it
abbrev pub LiesFromCalls : Type 0
LiesFromCalls =
    (text : List ℕ) (room : ℕ) (words : List ℕ) (verdict : Bool) → process text room ≡ accepted words verdict
    → (more tokens answers : List ℕ) (allowance : ℕ) (w : Walk) (es : List Event) (n : ℕ) (ns : List ℕ) → Listed (words ++ more) tokens answers allowance w es n ns
    → Lies text w

-- carried to the same text, it is the walk that it was
abbrev pub IdentityFromCalls : Type 0
IdentityFromCalls =
    (text : List ℕ) (room : ℕ) (words : List ℕ) (verdict : Bool) → process text room ≡ accepted words verdict
    → (more tokens answers : List ℕ) (allowance : ℕ) (w : Walk) (es : List Event) (n : ℕ) (ns : List ℕ) → Listed (words ++ more) tokens answers allowance w es n ns
    → carry_texts text text w ≡ goes w
