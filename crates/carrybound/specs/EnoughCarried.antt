-- "Then no walk of n tokens and repair allowance r, its calls as in demand 3, needs more than 65 × Q × (n + r + 1) steps", of a walk that was carried: Q is the new program's figure,
-- n the number of tokens, r the allowance that the carried walk has left, and the steps are those since the carrying. The statement; its proof is in proofs/.
use Rattle.std.specs.Prelude.{Bool, true, List, ◌++◌, ◌≡◌, ℕ, ◌+◌, ◌*◌, ◌≤◌, length}
use Rattle.std.proofs.Math.Option.{some}
use Rattle.agreement.specs.Demand.{Listed, ListedFrom}
use Rattle.carry.specs.Carry.{carried, carry, source_of}
use Rattle.carry.specs.GoingOn.{EndsBy}
use Rattle.events.specs.Events.{Event}
use Rattle.figure.specs.Count.{figure}
use Rattle.machine.specs.Walk.{Walk}
use Rattle.processor.specs.Process.{accepted, process, understood, meaning}
use Rattle.program.specs.Program.{Rule}

-- what is claimed of every list of calls from the walk w₀ on, after the events es₀
pub record EnoughFrom (T tokens answers : List ℕ) (w₀ : Walk) (es₀ : List Event) (b : ℕ) : Type 0 where
  -- the walk has stopped or has done fewer steps
  pub suffices : EndsBy T tokens answers w₀ es₀ b
  -- as a bound: no list does more, whether its walk goes on, waits or has stopped
  pub steps : (w : Walk) (es : List Event) (n : ℕ) (ns : List ℕ) → ListedFrom T tokens answers w₀ es₀ w es n ns → n ≤ b

-- for every walk from calls over the old table that is carried to a program with the verdict "finishing" and the figure q, whatever stands behind the two tables
abbrev pub FigureCarried : Type 0
FigureCarried =
    (old new : List ℕ) (room room' : ℕ) (words words' : List ℕ) (verdict : Bool) → process old room ≡ accepted words verdict → process new room' ≡ accepted words' true
    → (prog' : List Rule) → understood new ≡ meaning prog' → (q : ℕ) → figure prog' ≡ some q
    → (more more' tokens answers : List ℕ) (allowance : ℕ) (w : Walk) (es : List Event) (n : ℕ) (ns : List ℕ) → Listed (words ++ more) tokens answers allowance w es n ns
    → (w' : Walk) → carry (source_of old) (source_of new) w ≡ carried w'
    → EnoughFrom (words' ++ more') tokens answers w' es (65 * q * (length tokens + w'.io.allowance + 1))
