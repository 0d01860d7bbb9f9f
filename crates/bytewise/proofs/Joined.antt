-- Every list of calls over bytes is a list of calls of demand 3.
use mathlib.Core.List.{List, [], ◌∷◌, ◌++◌, append_assoc}
use mathlib.Core.Option.{none, some}
use mathlib.Core.Path.{◌≡◌, refl, sym, ap, ◌∙◌}
use Prim.Native.Nat.{ℕ, ◌+◌, ◌*◌, ◌<◌}
use native.Mathlib.Omega.{arith}
use lib.Dec.{leb}
use lib.ListN.{length, take, drop, get_or}
use lib.Seq.{take-append_seam}
use Rattle.std.specs.Prelude.{if◌then◌else◌}
use Rattle.agreement.specs.Demand.{wanted, Allowed, ListedFrom, begin, then_call}
use Rattle.events.specs.Events.{Event, output, signal, repair, operation, operation_with, event_words, is_choice, choices}
use Rattle.machine.proofs.Bytes.{length-words_of, length-table_of, words_of-append}
use Rattle.machine.proofs.Form.{walk_of-walk_bytes}
use Rattle.machine.proofs.Words.{small-words, small-table}
use Rattle.machine.specs.Small.{SmallMode}
use Rattle.machine.proofs.Keeps.{fits-call, fits_fresh}
use Rattle.machine.specs.Bytes.{count, words_of, table_of, bytes_of, over}
use Rattle.machine.specs.Call.{Mode, whole, paused, call_walk}
use Rattle.machine.specs.Form.{Fits, walk_bytes, walk_of, events_words, Outcome, outcome, call_bytes}
use Rattle.machine.specs.Walk.{Phase, going, waiting, stopped, Walk, fresh}
use Rattle.bytewise.specs.ByteCalls.{Slice, written_words, choices_in, Hands, ByteCallsFrom, first, next, ByteCalls, StandsFrom, Stands}

-- Words and bytes

length-events_words : (es : List Event) → length (events_words es) ≡ 3 * length es
unfolding events_words event_words
length-events_words [] = refl
length-events_words (output t ∷ es) = let ih = length-events_words es in omega arith
length-events_words (signal t ∷ es) = let ih = length-events_words es in omega arith
length-events_words (repair t ∷ es) = let ih = length-events_words es in omega arith
length-events_words (operation t ∷ es) = let ih = length-events_words es in omega arith
length-events_words (operation_with t v ∷ es) = let ih = length-events_words es in omega arith

pub events_words-then : (a b : List Event) → events_words (a ++ b) ≡ events_words a ++ events_words b
unfolding events_words
events_words-then [] b = refl
events_words-then (e ∷ a) b = ap (λ (l : List ℕ). event_words e ++ l) (events_words-then a b) ∙ sym (append_assoc (event_words e) (events_words a) (events_words b))

pub choices-words : (es : List Event) → choices_in (events_words es) ≡ choices es
unfolding choices_in events_words event_words choices is_choice
choices-words [] = refl
choices-words (output t ∷ es) = ap (λ (k : ℕ). 0 + k) (choices-words es)
choices-words (signal t ∷ es) = ap (λ (k : ℕ). 0 + k) (choices-words es)
choices-words (repair t ∷ es) = ap (λ (k : ℕ). 0 + k) (choices-words es)
choices-words (operation t ∷ es) = ap (λ (k : ℕ). (if leb 768 t then 1 else 0) + k) (choices-words es)
choices-words (operation_with t v ∷ es) = ap (λ (k : ℕ). (if leb 768 t then 1 else 0) + k) (choices-words es)

-- the events stand in the buffer
written_is : (es : List Event) (buffer : List ℕ) → take (3 * length es) (words_of (over (bytes_of (events_words es)) buffer)) ≡ events_words es
unfolding over
written_is es buffer =
    let e = words_of-append (events_words es) (drop (length (bytes_of (events_words es))) buffer) in
    rw (e, sym (length-events_words es)) (take-append_seam (events_words es) (words_of (drop (length (bytes_of (events_words es))) buffer)))

short-words : (s : List ℕ) → Slice s → length (words_of s) < 18446744073709551616
short-words s h = let z = length-words_of s in let k = h.short in unfold count in omega arith

-- how a call is made
allowed : (answers s : List ℕ) → Slice answers → (m : Mode) (w : Walk) (p : Phase) (es : List Event) → walk_of s ≡ some w → w.phase ≡ p
    → Hands answers m s (events_words es) → Allowed (words_of answers) m p es
unfolding Hands Allowed wanted
allowed answers s b (whole given) w p es e q h = (h, short-words answers b)
allowed answers s b (paused none) w p es e q h = tt
allowed answers s b (paused (some x)) w going es e q h = tt
allowed answers s b (paused (some x)) w waiting es e q h = rw (sym (choices-words es)) (h.1 (w, e, q))
allowed answers s b (paused (some x)) w (stopped r) es e q h = tt

small-mode : (answers s ws : List ℕ) (m : Mode) → Slice answers → Hands answers m s ws → SmallMode m
unfolding Hands
small-mode answers s ws (whole given) b h = rw h (small-words answers b.bytes)
small-mode answers s ws (paused none) b h = tt
small-mode answers s ws (paused (some x)) b h = h.0

module _ (table tokens answers : List ℕ) (bt : (i : ℕ) → get_or table i 0 < 256) (bk : Slice tokens) (ba : Slice answers) where
  module _ (w₀ : Walk) (es₀ : List Event) (fits₀ : Fits w₀) where
    step : {n : ℕ} {ns : List ℕ} (w : Walk) (es : List Event) → Fits w → ListedFrom (table_of table) (words_of tokens) (words_of answers) w₀ es₀ w es n ns
        → (m : Mode) (budget : ℕ) (buffer : List ℕ) → SmallMode m → Allowed (words_of answers) m w.phase es → (o : Outcome)
        → o ≡ outcome (some w) (walk_bytes w) buffer (call_walk (table_of table) (words_of tokens) m budget (count buffer))
        → StandsFrom table tokens answers w₀ es₀ o.walk (events_words es ++ written_words o) (n + o.steps) (o.number ∷ ns)
    unfolding outcome written_words
    step {n} {ns} w es f l m budget buffer sm h o e =
        let c = call_walk (table_of table) (words_of tokens) m budget (count buffer) w in
        let g : Fits c.walk = fits-call (table_of table) (words_of tokens) m budget (count buffer) w (small-table table bt) (small-words tokens bk.bytes)
        sm (length-table_of table) (short-words tokens bk) f in
        rw e (record {
          walk = c.walk;
          events = es ++ c.events;
          bytes = refl;
          read_back = walk_of-walk_bytes c.walk g;
          fits = g;
          words = ap (λ (x : List ℕ). events_words es ++ x) (written_is c.events buffer) ∙ sym (events_words-then es c.events);
          listed = then_call l m budget (count buffer) h;
        })

    pub byte-calls-from : {s₀ ws₀ s ws : List ℕ} {n : ℕ} {ns : List ℕ} → s₀ ≡ walk_bytes w₀ → ws₀ ≡ events_words es₀ → ByteCallsFrom table tokens answers s₀ ws₀ s ws n ns
        → StandsFrom table tokens answers w₀ es₀ s ws n ns
    unfolding call_bytes
    byte-calls-from d e first = record { walk = w₀; events = es₀; bytes = d; read_back = rw d (walk_of-walk_bytes w₀ fits₀); fits = fits₀; words = e; listed = begin }
    byte-calls-from d₀ e₀ (next {s} {ws} {n} {ns} l m budget buffer h {o} e) = go (byte-calls-from d₀ e₀ l)
      where
        go : StandsFrom table tokens answers w₀ es₀ s ws n ns → StandsFrom table tokens answers w₀ es₀ o.walk (ws ++ written_words o) (n + o.steps) (o.number ∷ ns)
        go st =
            let w = st.walk in
            let es = st.events in
            let h₁ : Hands answers m s (events_words es) = rw st.words at h in
            let d : o ≡ outcome (some w) (walk_bytes w) buffer (call_walk (table_of table) (words_of tokens) m budget (count buffer)) =
            e ∙ (rw (st.read_back, st.bytes) refl) in
            rw st.words (step w es st.fits st.listed m budget buffer (small-mode answers s (events_words es) m ba h₁)
            (allowed answers s ba m w w.phase es st.read_back refl h₁) o d)

  module _ (allowance : ℕ) (small : allowance < 65536) where
    pub byte-calls : {s ws : List ℕ} {n : ℕ} {ns : List ℕ} → ByteCalls table tokens answers allowance s ws n ns → Stands table tokens answers allowance s ws n ns
    unfolding events_words
    byte-calls l = byte-calls-from (fresh allowance) [] (fits_fresh allowance small) refl refl l
