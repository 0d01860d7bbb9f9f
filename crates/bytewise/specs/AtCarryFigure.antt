-- "Then no walk of n tokens and repair allowance r, its calls as in demand 3, needs more than 65 × Q × (n + r + 1) steps", of a carried walk, as a caller from C meets it: calls over the
-- bytes that `sst_process` left for the old text, then `sst_carry`, then calls over the bytes that it left for the new text, of which it told the `*figure`.
use Rattle.std.specs.Prelude.{List, ◌≡◌, ℕ, ◌+◌, ◌*◌, ◌≤◌, ◌<◌}
use Rattle.std.proofs.Math.Option.{some}
use Rattle.firmware.specs.Processing.{Numbers}
use Rattle.machine.specs.Bytes.{count}
use Rattle.machine.specs.Form.{walk_of}
use Rattle.machine.specs.Walk.{Walk}
use Rattle.bytewise.specs.AtCarry.{Moves, EndsByBytes}
use Rattle.bytewise.specs.AtEntries.{Processed}
use Rattle.bytewise.specs.ByteCalls.{Slice, ByteCallsFrom, ByteCalls}

-- what is claimed of every list of calls from the bytes s₀ on, after events of the words ws₀
pub record EnoughCarried (table tokens answers s₀ ws₀ : List ℕ) (b : ℕ) : Type 0 where
  -- the walk has stopped or has done fewer steps
  pub suffices : EndsByBytes table tokens answers s₀ ws₀ b
  -- as a bound: no list does more, whether its walk goes on, waits or has stopped
  pub steps : (s ws : List ℕ) (n : ℕ) (ns : List ℕ) → ByteCallsFrom table tokens answers s₀ ws₀ s ws n ns → n ≤ b

-- where the old text was accepted, `*figure` of the new one is not 0 and `sst_carry` answers 0: r is the allowance that the walk has left in the carried bytes s'
abbrev pub FigureAtCarry : Type 0
FigureAtCarry =
    (old lent table new lent' table' : List ℕ) (x x' : Numbers) → Processed old lent table x → x.number ≡ 0 → Processed new lent' table' x' → 0 < x'.figure
    → (tokens answers : List ℕ) → Slice tokens → Slice answers → (allowance : ℕ) → allowance < 65536
    → (s ws : List ℕ) (n : ℕ) (ns : List ℕ) → ByteCalls table tokens answers allowance s ws n ns → (s' : List ℕ) → Moves old new s s' → (w : Walk) → walk_of s' ≡ some w
    → EnoughCarried table' tokens answers s' ws (65 * x'.figure * (count tokens + w.io.allowance + 1))
