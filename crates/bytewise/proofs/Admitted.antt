-- Where `sst_load_admitted` answers 0, no call over the bytes that it left writes an event of an operation outside the set.
use mathlib.Core.Bool.{true}
use mathlib.Core.List.{List}
use mathlib.Core.Path.{◌≡◌, refl, sym, ap, ◌∙◌}
use Prim.Native.Nat.{ℕ}
use Rattle.base.specs.Bools.{both}
use Rattle.events.specs.Events.{Event, output, signal, repair, operation, operation_with, event_words}
use Rattle.loading.specs.File as files
use Rattle.loading.specs.File.{Answer, done, refused, load}
use Rattle.machine.specs.Bytes.{count, words_of}
use Rattle.machine.specs.Form.{events_words}
use Rattle.rights.specs.Rights.{granted, Numbers, admit_loaded}
use Rattle.safety.proofs.Rights.{loaded-keeps}
use Rattle.safety.specs.Rights.{within, Within, within_nil, within_cons}
use Rattle.bytewise.proofs.Joined.{byte-calls}
use Rattle.bytewise.proofs.Loaded.{left_by}
use Rattle.bytewise.specs.AtAdmission.{Admits, within_words, KeepsBytes}

pub within-words : (set : List ℕ) {es : List Event} → Within set es → within_words set (events_words es) ≡ true
unfolding within_words events_words event_words within
within-words set within_nil = refl
within-words set (within_cons {e = output t} h r) = within-words set r
within-words set (within_cons {e = signal n} h r) = within-words set r
within-words set (within_cons {e = repair t} h r) = within-words set r
within-words set (within_cons {e = operation op} h r) = both (granted set op) _ h (within-words set r)
within-words set (within_cons {e = operation_with op v} h r) = both (granted set op) _ h (within-words set r)

-- admitted is loaded
loaded-0 : (set : List ℕ) (a : Answer) → (admit_loaded set a).number ≡ 0 → (files.numbers_of a).number ≡ 0
unfolding admit_loaded files.numbers_of
loaded-0 set (done ws v) z = refl
loaded-0 set (refused n) z = z

pub from-admitted : (file set lent table : List ℕ) (x : Numbers) → Admits file set lent table x → x.number ≡ 0 → KeepsBytes table set
from-admitted file set lent table x l z tokens answers bk ba allowance small s ws n ns c =
    let z₁ = ap (λ (y : Numbers). y.number) (sym l.numbers) ∙ z in
    let f = left_by file lent table l.source l.buffer l.bytes (loaded-0 set (load file (count lent)) z₁) in
    let st = byte-calls table tokens answers f.bytes bk ba allowance small c in
    ap (within_words set) st.words
    ∙ within-words set (loaded-keeps file set (count lent) f.T f.v f.more f.is z₁ (words_of tokens) (words_of answers) allowance st.walk st.events n ns (rw f.begins at st.listed))
