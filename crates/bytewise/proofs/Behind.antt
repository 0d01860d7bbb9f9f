-- What stands behind a taken table changes nothing for calls over bytes.
use mathlib.Core.List.{List, ◌++◌}
use mathlib.Core.Option.{some}
use mathlib.Core.Path.{◌≡◌, refl, sym, ◌∙◌}
use Prim.Native.Nat.{ℕ, ◌<◌}
use Rattle.loading.specs.Reach.{Taken}
use Rattle.machine.specs.Bytes.{count, words_of, table_of}
use Rattle.machine.specs.Call.{Mode}
use Rattle.machine.specs.Form.{walk_of, outcome, call_bytes}
use Rattle.machine.specs.Walk.{Walk}
use Rattle.safety.proofs.Behind.{call_same}
use Rattle.safety.proofs.Steps as safe
use Rattle.safety.proofs.Steps.{led}
use Rattle.bytewise.proofs.Joined.{byte-calls}
use Rattle.bytewise.specs.AtBehind.{BehindBytes}
use Rattle.bytewise.specs.ByteCalls.{Slice, ByteCalls, first, next}

module _ (short long more : List ℕ) (b : Slice short) (good : Taken (table_of short)) (q : table_of long ≡ table_of short ++ more) (tokens answers : List ℕ) (bk : Slice tokens) (ba : Slice answers)
    (allowance : ℕ) (small : allowance < 65536) where
  call-bytes : (m : Mode) (budget : ℕ) (s buffer : List ℕ) (w : Walk) → walk_of s ≡ some w → safe.Stands (table_of short) w
      → call_bytes long tokens m budget s buffer ≡ call_bytes short tokens m budget s buffer
  unfolding call_bytes outcome
  call-bytes m budget s buffer w e h = rw (e, q, call_same (table_of short) more (words_of tokens) good m budget (count buffer) w h) refl

  -- the call after a list over the short bytes
  same-call : {s ws : List ℕ} {n : ℕ} {ns : List ℕ} → ByteCalls short tokens answers allowance s ws n ns → (m : Mode) (budget : ℕ) (buffer : List ℕ)
      → call_bytes long tokens m budget s buffer ≡ call_bytes short tokens m budget s buffer
  same-call {s} l m budget buffer =
      let st = byte-calls short tokens answers b.bytes bk ba allowance small l in
      call-bytes m budget s buffer st.walk st.read_back (led (table_of short) (words_of tokens) good allowance st.listed).walk

  to_long : {s ws : List ℕ} {n : ℕ} {ns : List ℕ} → ByteCalls short tokens answers allowance s ws n ns → ByteCalls long tokens answers allowance s ws n ns
  to_long first = first
  to_long (next l m budget buffer h {o} e) = next (to_long l) m budget buffer h {o = o} (e ∙ sym (same-call l m budget buffer))

  to_short : {s ws : List ℕ} {n : ℕ} {ns : List ℕ} → ByteCalls long tokens answers allowance s ws n ns → ByteCalls short tokens answers allowance s ws n ns
  to_short first = first
  to_short (next l m budget buffer h {o} e) = let k = to_short l in next k m budget buffer h {o = o} (e ∙ same-call k m budget buffer)

pub behind-bytes : BehindBytes
behind-bytes short long more b good q tokens answers bk ba allowance small = record {
  to_long = to_long short long more b good q tokens answers bk ba allowance small;
  to_short = to_short short long more b good q tokens answers bk ba allowance small;
}
