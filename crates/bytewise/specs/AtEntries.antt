-- Demand 3 as a caller from C meets it: for the very bytes that `sst_process` left in a lent buffer, and every list of calls of `sst_whole` and
-- `sst_paused` over them. The rules' own walk is compared with what the caller sees: the words in the event buffers, the numbers
-- answered, and the parts of the walk that its bytes are (`walk_of`, which `sst_phase`, `sst_reason`, `sst_read`, `sst_used` and `sst_allowance` answer from).
use Rattle.std.specs.Prelude.{Bool, true, List, [], ◌∷◌, ◌++◌, ◌⊎◌, ◌≡◌, ℕ, ◌-◌, ◌<◌, length}
use Rattle.std.proofs.Math.Option.{none, some}
use Rattle.std.proofs.Math.ListN.{get_elem?}
use Rattle.agreement.specs.Demand.{events_of, RulesStop, HasStopped}
use Rattle.agreement.specs.Reports.{Reports}
use Rattle.events.specs.Events.{Event, Reason, unanswered, Io}
use Rattle.figure.specs.Told.{figure_of}
use Rattle.finishing.specs.Finishing.{Finishing}
use Rattle.firmware.specs.Processing.{Numbers, flag_of, numbers_of}
use Rattle.machine.specs.Bytes.{count, words_of}
use Rattle.machine.specs.Form.{walk_of, events_words}
use Rattle.machine.specs.Walk.{stopped, Walk}
use Rattle.ownwalk.specs.OwnWalk.{owns, own_start}
use Rattle.processor.specs.Process.{accepted, process, understood, meaning, lent_bytes}
use Rattle.program.specs.Program.{Rule}
use Rattle.bytewise.specs.ByteCalls.{Slice, choices_in, Waits, ByteCalls}

-- the words are a beginning of those of the rules' own events
pub record RulesWriteWords (prog : List Rule) (tokens answers : List ℕ) (allowance : ℕ) (ws : List ℕ) : Type 0 where
  pub steps : ℕ
  pub rest : List Event
  pub begins : events_words (events_of (owns prog tokens answers steps (own_start prog allowance))) ≡ ws ++ events_words rest

-- the rules' own walk stops for this reason, with so many tokens read and answers used and so much allowance left, and the words of its events are these
pub record RulesStopWords (prog : List Rule) (tokens answers : List ℕ) (allowance : ℕ) (r : Reason) (read used left : ℕ) (ws : List ℕ) : Type 0 where
  pub io : Io
  pub stop : RulesStop prog tokens answers allowance r io
  pub reads : io.read ≡ read
  pub uses : io.used ≡ used
  pub leaves : io.allowance ≡ left
  pub words : events_words io.events ≡ ws

-- it "waits for an answer past the last, where the rules stop with 34"
pub record WaitsPastBytes (prog : List Rule) (tokens answers : List ℕ) (allowance : ℕ) (s ws : List ℕ) : Type 0 where
  pub waits : Waits s
  pub past : get_elem? answers (choices_in ws - 1) ≡ none
  pub io : Io
  pub rules_stop : RulesStop prog tokens answers allowance unanswered io

-- the bytes are those of a walk that has stopped: `sst_phase` answers 2
abbrev pub StoppedBytes : List ℕ → Type 0
StoppedBytes s = (w : Walk) × (walk_of s ≡ some w) × HasStopped w

-- "A budget, of any size, suffices if after every such list the walk has stopped, has done fewer steps in all, or waits for an answer past the
-- last, where the rules stop with 34."
abbrev pub SufficesBytes : List Rule → List ℕ → List ℕ → List ℕ → ℕ → ℕ → Type 0
SufficesBytes prog table tokens answers allowance b =
    (s ws : List ℕ) (n : ℕ) (ns : List ℕ) → ByteCalls table tokens answers allowance s ws n ns
    → StoppedBytes s ⊎ ((n < b) ⊎ WaitsPastBytes prog (words_of tokens) (words_of answers) allowance s ws)

-- every such list does fewer steps in all, whether its walk goes on, waits or has stopped
abbrev pub StepsBelowBytes : List ℕ → List ℕ → List ℕ → ℕ → ℕ → Type 0
StepsBelowBytes table tokens answers allowance b = (s ws : List ℕ) (n : ℕ) (ns : List ℕ) → ByteCalls table tokens answers allowance s ws n ns → n < b

-- what is claimed of every list of calls over the bytes `table`, with the bytes of these tokens and answers, from a fresh walk with this allowance
pub record AgreesBytes (prog : List Rule) (table tokens answers : List ℕ) (allowance : ℕ) : Type 0 where
  -- every call gives back the bytes of a walk: none is refused for its bytes
  pub is_walk : {s ws : List ℕ} {n : ℕ} {ns : List ℕ} → ByteCalls table tokens answers allowance s ws n ns → (w : Walk) × (walk_of s ≡ some w)
  -- the words in the event buffers are a beginning of the rules' own
  pub events : {s ws : List ℕ} {n : ℕ} {ns : List ℕ} → ByteCalls table tokens answers allowance s ws n ns
      → (Waits s → ⊥) → RulesWriteWords prog (words_of tokens) (words_of answers) allowance ws
  -- while it waits, of the rules' own with any one answer more
  pub events_waiting : {s ws : List ℕ} {n : ℕ} {ns : List ℕ} → ByteCalls table tokens answers allowance s ws n ns
      → Waits s → (x : ℕ) → RulesWriteWords prog (words_of tokens) (words_of answers ++ (x ∷ [])) allowance ws
  -- no call has answered 37
  pub never_37 : {s ws : List ℕ} {n number : ℕ} {ns : List ℕ} → ByteCalls table tokens answers allowance s ws n (number ∷ ns) → number ≡ 37 → ⊥
  -- a walk that has stopped has the rules' reason, tokens read, answers used and allowance left, and the event buffers have the rules' words
  pub stops : {s ws : List ℕ} {n : ℕ} {ns : List ℕ} {w : Walk} {r : Reason} → ByteCalls table tokens answers allowance s ws n ns
      → walk_of s ≡ some w → w.phase ≡ stopped r → RulesStopWords prog (words_of tokens) (words_of answers) allowance r w.io.read w.io.used w.io.allowance ws
  -- the last call's number says in which phase the walk is: "Refusals apart, only 35 and 36 leave the walk going on"
  pub says : {s ws : List ℕ} {n number : ℕ} {ns : List ℕ} {w : Walk} → ByteCalls table tokens answers allowance s ws n (number ∷ ns)
      → walk_of s ≡ some w → Reports number w.phase
  -- where the rules stop, one budget suffices
  pub budget : {r : Reason} {io : Io} → RulesStop prog (words_of tokens) (words_of answers) allowance r io → (b : ℕ) × SufficesBytes prog table tokens answers allowance b

-- the processor has accepted the text with these words and this verdict, and `table` is what it left in the bytes `lent`, by the contract of
-- `sst_process`
pub record Leaves (text words : List ℕ) (verdict : Bool) (lent table : List ℕ) : Type 0 where
  pub buffer : Slice lent
  pub answer : process text (count lent) ≡ accepted words verdict
  pub bytes : table ≡ lent_bytes (process text (count lent)) lent

-- the whole claim for a text that `sst_process` accepts with these words and this verdict
pub record AtEntries (text words : List ℕ) (verdict : Bool) : Type 0 where
  pub prog : List Rule
  pub means : understood text ≡ meaning prog
  pub agrees : (lent table : List ℕ) → Leaves text words verdict lent table → (tokens answers : List ℕ) → Slice tokens → Slice answers
      → (allowance : ℕ) → allowance < 65536 → AgreesBytes prog table tokens answers allowance
  -- one budget, fixed by the program, the number of tokens and the allowance, suffices whatever was lent, the tokens, the answers and the lists
  pub finishes : verdict ≡ true → (number allowance : ℕ) → allowance < 65536 → (b : ℕ) × ((lent table : List ℕ) → Leaves text words verdict lent table
      → (tokens answers : List ℕ) → Slice tokens → Slice answers → count tokens ≡ number → SufficesBytes prog table tokens answers allowance b)
  -- the verdict is the definition's
  pub sound : verdict ≡ true → Finishing prog
  pub complete : Finishing prog → verdict ≡ true

-- what `sst_process` leaves with its caller, by its contract: the numbers x, and `table` in the buffer where `lent` was
pub record Processed (text lent table : List ℕ) (x : Numbers) : Type 0 where
  pub buffer : Slice lent
  pub numbers : x ≡ numbers_of (process text (count lent)) (figure_of text (count lent))
  pub bytes : table ≡ lent_bytes (process text (count lent)) lent

-- what a caller has whom it answers 0: the number of words and the verdict that it told him, and the claim for the bytes that it left
pub record Claimed (text lent table : List ℕ) (x : Numbers) : Type 0 where
  pub words : List ℕ
  pub verdict : Bool
  pub told_words : x.words ≡ length words
  pub told_verdict : x.finishing ≡ flag_of verdict
  pub left : Leaves text words verdict lent table
  pub claim : AtEntries text words verdict
