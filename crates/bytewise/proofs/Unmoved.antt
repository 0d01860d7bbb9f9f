-- A walk from calls over the bytes that `sst_process` left is carried to the same text with every byte as it was.
use mathlib.Core.Bool.{Bool}
use mathlib.Core.List.{List}
use mathlib.Core.Path.{◌≡◌}
use Prim.Native.Nat.{ℕ, ◌<◌}
use Rattle.carry.proofs.Identity.{identity-bytes}
use Rattle.carry.proofs.Lying.{accepted-most, lies-from-calls}
use Rattle.carry.specs.Identity.{Unmoved}
use Rattle.carry.specs.Texts.{carry_bytes}
use Rattle.figure.specs.Told.{figure_of}
use Rattle.firmware.proofs.Zero.{accepts-0}
use Rattle.machine.specs.Bytes.{count, words_of}
use Rattle.processor.specs.Process.{accepted, process}
use Rattle.bytewise.proofs.Entries.{behind, begins, left-bytes}
use Rattle.bytewise.proofs.Joined.{byte-calls}
use Rattle.bytewise.specs.AtEntries.{Leaves}
use Rattle.bytewise.specs.AtIdentity.{IdentityAtEntries}
use Rattle.bytewise.specs.ByteCalls.{Slice, ByteCalls}

-- for a text that is accepted
pub unmoved : (text : List ℕ) (room : ℕ) (words : List ℕ) (verdict : Bool) → process text room ≡ accepted words verdict
    → {lent table : List ℕ} → Leaves text words verdict lent table → (tokens answers : List ℕ) → Slice tokens → Slice answers → (allowance : ℕ) → allowance < 65536
    → {s ws : List ℕ} {n : ℕ} {ns : List ℕ} → ByteCalls table tokens answers allowance s ws n ns → Unmoved s (carry_bytes text text s)
unmoved text room words verdict e {table = table} l tokens answers bk ba allowance low {s} {ws} {n} {ns} c =
    let st = byte-calls table tokens answers (left-bytes text room words verdict e l) bk ba allowance low c in
    let listed = rw (begins text room words verdict e l) at st.listed in
    identity-bytes text words verdict (accepted-most text room words verdict e) s st.walk st.read_back
    (lies-from-calls text room words verdict e (behind text room words verdict e l) (words_of tokens) (words_of answers) allowance st.walk st.events n ns listed)

pub identity-at-entries : IdentityAtEntries
identity-at-entries text lent table x p z tokens answers bk ba allowance low s ws n ns c =
    let a = accepts-0 text (count lent) (figure_of text (count lent)) x p.numbers z in
    unmoved text (count lent) a.0 a.1 a.2 (record { buffer = p.buffer; answer = a.2; bytes = p.bytes }) tokens answers bk ba allowance low c
