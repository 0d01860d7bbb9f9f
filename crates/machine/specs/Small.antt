-- "Words of 16 bits": what a call is given on a device.
use Rattle.std.specs.Prelude.{List, ℕ, ◌<◌, get_or}
use Rattle.std.proofs.Math.Option.{none, some}
use Rattle.machine.specs.Call.{Mode, whole, paused}

-- each number of the list is a word
abbrev pub Small : List ℕ → Type 0
Small ws = (i : ℕ) → get_or ws i 0 < 65536

-- each answer is a word
abbrev pub SmallMode : Mode → Type 0
SmallMode (whole answers) = Small answers
SmallMode (paused none) = Unit {0}
SmallMode (paused (some x)) = x < 65536
