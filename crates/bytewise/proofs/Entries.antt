-- Demand 3 for the bytes that `sst_process` leaves in a lent buffer, and calls of `sst_whole` and `sst_paused` over them.
use mathlib.Core.Bool.{Bool}
use mathlib.Core.List.{List, [], ◌∷◌, ◌++◌, append_assoc}
use mathlib.Core.Logic.{◌⊎◌, inl, inr}
use mathlib.Core.Option.{Option, some}
use mathlib.Core.Path.{◌≡◌, sym, ap, ◌∙◌}
use Prim.Native.Nat.{ℕ, zero, suc, ◌+◌, ◌*◌, ◌-◌, ◌<◌, ◌≤◌}
use native.Mathlib.Omega.{arith}
use lib.ListN.{length, take, drop, replicate, get_or}
use lib.Seq.{take-append-add}
use Rattle.acceptance.proofs.Accepts.{accepted-table}
use Rattle.agreement.proofs.Reports.{reports-last}
use Rattle.agreement.proofs.Theorem.{agreement}
use Rattle.agreement.specs.Reports.{Reports}
use Rattle.agreement.specs.Demand.{wanted, Agrees, Suffices, StepsBelow, HasStopped, WaitsPast, RulesWrite}
use Rattle.events.specs.Events.{Event, Reason}
use Rattle.figure.specs.Told.{figure_of}
use Rattle.firmware.proofs.Zero.{accepts-0}
use Rattle.firmware.specs.Processing.{Numbers}
use Rattle.machine.proofs.Bytes.{length-words_of, words_of-append}
use Rattle.machine.specs.Bytes.{count, words_of, table_of, bytes_of}
use Rattle.machine.specs.Form.{walk_of, events_words}
use Rattle.machine.specs.Walk.{stopped, Walk}
use Rattle.processor.specs.Process.{Answer, accepted, process, lent_words, lent_bytes}
use Rattle.program.specs.Program.{Rule}
use Rattle.bytewise.proofs.Joined.{events_words-then, choices-words, byte-calls}
use Rattle.bytewise.specs.AtEntries.{RulesWriteWords, RulesStopWords, WaitsPastBytes, StoppedBytes, SufficesBytes, StepsBelowBytes, AgreesBytes, Leaves, AtEntries, Processed, Claimed}
use Rattle.bytewise.specs.ByteCalls.{Slice, ByteCalls, Stands}

-- The lent bytes

-- the table in the lent bytes: the program's words, and something behind them
pub lent-table : (words : List ℕ) (verdict : Bool) (lent : List ℕ) → length words ≤ 4096
    → (more : List ℕ) × (table_of (lent_bytes (accepted words verdict) lent) ≡ words ++ more)
unfolding table_of lent_bytes lent_words
lent-table words verdict lent h =
    let zeros : List ℕ = replicate (count lent - length words) 0 in
    let rest = drop (2 * count lent) lent in
    let e : words_of (bytes_of (words ++ zeros) ++ rest) ≡ (words ++ zeros) ++ words_of rest = words_of-append (words ++ zeros) rest in
    let a : (words ++ zeros) ++ words_of rest ≡ words ++ (zeros ++ words_of rest) = append_assoc words zeros (words_of rest) in
    let n : 4096 ≡ length words + (4096 - length words) = omega arith in (
      take (4096 - length words) (zeros ++ words_of rest),
      ap (take 4096) (e ∙ a) ∙ ap (λ (k : ℕ). take k (words ++ (zeros ++ words_of rest))) n ∙ take-append-add words (zeros ++ words_of rest) (4096 - length words),
    )

-- each number of the list is below the bound
abbrev pub Below : ℕ → List ℕ → Type 0
Below b s = (i : ℕ) → get_or s i 0 < b

pub below_then : (b : ℕ) (s r : List ℕ) → Below b s → Below b r → Below b (s ++ r)
below_then b [] r h k i = k i
below_then b (x ∷ s) r h k zero = h 0
below_then b (x ∷ s) r h k (suc i) = below_then b s r (λ j. h (suc j)) k i

below-zeros : (b n : ℕ) → 0 < b → Below b (replicate n 0)
below-zeros b zero h i = h
below-zeros b (suc n) h zero = h
below-zeros b (suc n) h (suc i) = below-zeros b n h i

pub below-drop : (b n : ℕ) (s : List ℕ) → 0 < b → Below b s → Below b (drop n s)
below-drop b zero s z h i = h i
below-drop b (suc n) [] z h i = z
below-drop b (suc n) (x ∷ s) z h i = below-drop b n s z (λ j. h (suc j)) i

below-bytes : (ws : List ℕ) → Below 65536 ws → Below 256 (bytes_of ws)
unfolding bytes_of
below-bytes [] h i = omega arith
below-bytes (w ∷ ws) h zero = omega (arith, h 0)
below-bytes (w ∷ ws) h (suc zero) = omega arith
below-bytes (w ∷ ws) h (suc (suc i)) = below-bytes ws (λ j. h (suc j)) i

pub lent-bytes : (words : List ℕ) (verdict : Bool) (lent : List ℕ) → Below 65536 words → Below 256 lent → Below 256 (lent_bytes (accepted words verdict) lent)
unfolding lent_bytes lent_words
lent-bytes words verdict lent h k =
    let zeros : List ℕ = replicate (count lent - length words) 0 in
    below_then 256 (bytes_of (words ++ zeros)) (drop (2 * count lent) lent)
    (below-bytes (words ++ zeros) (below_then 65536 words zeros h (below-zeros 65536 (count lent - length words) (omega arith))))
    (below-drop 256 (2 * count lent) lent (omega arith) k)

-- What holds of events holds of their words

same-walk : {o : Option Walk} {v w : Walk} → o ≡ some v → o ≡ some w → v ≡ w
same-walk {v = v} {w = w} e d = let x : some v ≡ some w = sym e ∙ d in cc

words-begin : (prog : List Rule) (tokens answers : List ℕ) (allowance : ℕ) (es : List Event) (ws : List ℕ) → ws ≡ events_words es → RulesWrite prog tokens answers allowance es
    → RulesWriteWords prog tokens answers allowance ws
words-begin prog tokens answers allowance es ws e h = record {
  steps = h.steps;
  rest = h.begins.rest;
  begins = rw e (ap events_words h.begins.whole ∙ events_words-then es h.begins.rest);
}

module _ (prog : List Rule) (table tokens answers : List ℕ) (bt : Below 256 table) (bk : Slice tokens) (ba : Slice answers) (allowance : ℕ) (small : allowance < 65536) where
  pub suffices-bytes : (b : ℕ) → Suffices prog (table_of table) (words_of tokens) (words_of answers) allowance b → SufficesBytes prog table tokens answers allowance b
  unfolding wanted
  suffices-bytes b h s ws n ns l =
      let st = byte-calls table tokens answers bt bk ba allowance small l in
      go st (h st.walk st.events n ns st.listed)
    where
      go : (st : Stands table tokens answers allowance s ws n ns)
          → HasStopped st.walk ⊎ ((n < b) ⊎ WaitsPast prog (words_of tokens) (words_of answers) allowance st.walk st.events)
          → StoppedBytes s ⊎ ((n < b) ⊎ WaitsPastBytes prog (words_of tokens) (words_of answers) allowance s ws)
      go st (inl x) = inl (st.walk, st.read_back, x)
      go st (inr (inl x)) = inr (inl x)
      go st (inr (inr x)) = inr (inr record {
        waits = (st.walk, st.read_back, x.waits);
        past = rw (st.words, choices-words st.events) x.past;
        io = x.io;
        rules_stop = x.rules_stop;
      })

  pub steps-bytes : (b : ℕ) → StepsBelow (table_of table) (words_of tokens) (words_of answers) allowance b → StepsBelowBytes table tokens answers allowance b
  steps-bytes b h s ws n ns l = let st = byte-calls table tokens answers bt bk ba allowance small l in h st.walk st.events n ns st.listed

  pub agrees_bytes : Agrees prog (table_of table) (words_of tokens) (words_of answers) allowance → AgreesBytes prog table tokens answers allowance
  agrees_bytes a =
      record {
        is_walk = λ l. (let st = byte-calls table tokens answers bt bk ba allowance small l in (st.walk, st.read_back));
        events = λ l h. (let st = byte-calls table tokens answers bt bk ba allowance small l in
            words-begin prog (words_of tokens) (words_of answers) allowance st.events _ st.words (a.events st.listed (λ p. h (st.walk, st.read_back, p))));
        events_waiting = λ l h x. (let st = byte-calls table tokens answers bt bk ba allowance small l in
            words-begin prog (words_of tokens) (words_of answers ++ (x ∷ [])) allowance st.events _ st.words
            (a.events_waiting st.listed (ap (λ (v : Walk). v.phase) (same-walk st.read_back h.1) ∙ h.2) x));
        never_37 = λ l e. a.never_37 (byte-calls table tokens answers bt bk ba allowance small l).listed e;
        stops = λ l d p. stopped-bytes l d p;
        says = λ l d. said l d;
        budget = λ h. (let x = a.budget h in (x.0, suffices-bytes x.0 x.1));
      }
    where
      said : {s ws : List ℕ} {n number : ℕ} {ns : List ℕ} {w : Walk} → ByteCalls table tokens answers allowance s ws n (number ∷ ns) → walk_of s ≡ some w → Reports number w.phase
      said l d =
          let st = byte-calls table tokens answers bt bk ba allowance small l in
          rw (ap (λ (v : Walk). v.phase) (same-walk st.read_back d)) at (reports-last (table_of table) (words_of tokens) st.listed)

      stopped-bytes : {s ws : List ℕ} {n : ℕ} {ns : List ℕ} {w : Walk} {r : Reason} → ByteCalls table tokens answers allowance s ws n ns
          → walk_of s ≡ some w → w.phase ≡ stopped r → RulesStopWords prog (words_of tokens) (words_of answers) allowance r w.io.read w.io.used w.io.allowance ws
      stopped-bytes {w = w} l d p =
          let st = byte-calls table tokens answers bt bk ba allowance small l in
          let q : st.walk ≡ w = same-walk st.read_back d in
          record {
            io = record { read = st.walk.io.read; used = st.walk.io.used; allowance = st.walk.io.allowance; events = st.events };
            stop = a.stops st.listed (ap (λ (v : Walk). v.phase) q ∙ p);
            reads = ap (λ (v : Walk). v.io.read) q;
            uses = ap (λ (v : Walk). v.io.used) q;
            leaves = ap (λ (v : Walk). v.io.allowance) q;
            words = sym st.words;
          }

-- A text that is accepted: the bytes that are left, and the table in them

module _ (text : List ℕ) (room : ℕ) (words : List ℕ) (verdict : Bool) (e : process text room ≡ accepted words verdict) {lent table : List ℕ} (l : Leaves text words verdict lent table) where
  left : table ≡ lent_bytes (accepted words verdict) lent
  left = l.bytes ∙ ap (λ (a : Answer). lent_bytes a lent) l.answer

  -- what stands behind the table
  pub behind : List ℕ
  behind = (lent-table words verdict lent (accepted-table text room words verdict e).within_4096).0

  pub begins : table_of table ≡ words ++ behind
  unfolding behind
  begins = ap table_of left ∙ (lent-table words verdict lent (accepted-table text room words verdict e).within_4096).1

  pub left-bytes : Below 256 table
  left-bytes = rw left (lent-bytes words verdict lent (accepted-table text room words verdict e).small l.buffer.bytes)

-- Demand 3 at the entries: its only hypothesis is that the processor accepts the text
pub at-entries : (text : List ℕ) (room : ℕ) (words : List ℕ) (verdict : Bool) → process text room ≡ accepted words verdict → AtEntries text words verdict
at-entries text room words verdict e =
    let d = agreement text room words verdict e in
    record {
      prog = d.prog;
      means = d.means;
      agrees = λ lent table l tokens answers bk ba allowance small.
          agrees_bytes d.prog table tokens answers (left-bytes text room words verdict e l) bk ba allowance small
          (rw (begins text room words verdict e l) (d.agrees (behind text room words verdict e l) (words_of tokens) (words_of answers) allowance));
      finishes = λ v number allowance small.
          (let f = d.finishes v number allowance in (
            f.0,
            λ lent table l tokens answers bk ba q.
                suffices-bytes d.prog table tokens answers (left-bytes text room words verdict e l) bk ba allowance small f.0
                (rw (begins text room words verdict e l) (f.1 (behind text room words verdict e l) (words_of tokens) (words_of answers) (length-words_of tokens ∙ q))),
          ));
      sound = d.sound;
      complete = d.complete;
    }

-- the same from what `sst_process` left: where it answers 0, all of it holds of the bytes that it left
pub from_entries : (text lent table : List ℕ) (x : Numbers) → Processed text lent table x → x.number ≡ 0 → Claimed text lent table x
from_entries text lent table x p z =
    let a = accepts-0 text (count lent) (figure_of text (count lent)) x p.numbers z in
    record {
      words = a.0;
      verdict = a.1;
      told_words = a.3;
      told_verdict = a.4;
      left = record { buffer = p.buffer; answer = a.2; bytes = p.bytes };
      claim = at-entries text (count lent) a.0 a.1 a.2;
    }
