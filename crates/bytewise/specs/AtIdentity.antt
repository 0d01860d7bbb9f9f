-- "Carrying to an identical program gives an equal walk if all its places lie in rules", as a caller from C meets it: the places of every walk from calls do.
use Rattle.std.specs.Prelude.{List, ◌≡◌, ℕ, ◌<◌}
use Rattle.carry.specs.Identity.{Unmoved}
use Rattle.carry.specs.Texts.{carry_bytes}
use Rattle.firmware.specs.Processing.{Numbers}
use Rattle.bytewise.specs.AtEntries.{Processed}
use Rattle.bytewise.specs.ByteCalls.{Slice, ByteCalls}

-- of a text that `sst_process` accepts: after calls over the very bytes that it left, `sst_carry` from the text to itself answers 0 and leaves every byte of the walk as it was
abbrev pub IdentityAtEntries : Type 0
IdentityAtEntries =
    (text lent table : List ℕ) (x : Numbers) → Processed text lent table x → x.number ≡ 0
    → (tokens answers : List ℕ) → Slice tokens → Slice answers → (allowance : ℕ) → allowance < 65536
    → (s ws : List ℕ) (n : ℕ) (ns : List ℕ) → ByteCalls table tokens answers allowance s ws n ns → Unmoved s (carry_bytes text text s)
