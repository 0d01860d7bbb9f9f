-- Carrying as a caller from C meets it: calls over the bytes that `sst_process` left for the old text, then `sst_carry`, then calls over the bytes that it left for the new text.
use Rattle.std.specs.Prelude.{Bool, true, List, [], ◌∷◌, ◌++◌, ◌⊎◌, ◌≡◌, ℕ, ◌-◌, ◌<◌, length}
use Rattle.std.proofs.Math.Option.{some}
use Rattle.std.proofs.Math.ListN.{get_elem?}
use Rattle.agreement.specs.Demand.{events_of}
use Rattle.agreement.specs.Reports.{Reports}
use Rattle.carry.specs.GoingOn.{StopsFrom, Starts}
use Rattle.carry.specs.Texts.{Outcome, carry_bytes}
use Rattle.events.specs.Events.{Event, Reason, Io}
use Rattle.machine.specs.Bytes.{count, words_of, table_of}
use Rattle.machine.specs.Form.{walk_of, events_words}
use Rattle.machine.specs.Walk.{stopped, Walk}
use Rattle.ownwalk.specs.OwnWalk.{Own, owns}
use Rattle.processor.specs.Process.{understood, meaning}
use Rattle.program.specs.Program.{Rule}
use Rattle.bytewise.specs.AtEntries.{StoppedBytes, Leaves}
use Rattle.bytewise.specs.ByteCalls.{Slice, choices_in, Waits, ByteCallsFrom, ByteCalls}

-- what `sst_carry` leaves with its caller where it answers 0, by its contract: s' in place of the walk's bytes s
pub record Moves (old new s s' : List ℕ) : Type 0 where
  pub outcome : Outcome
  pub contract : outcome ≡ carry_bytes old new s
  pub number : outcome.number ≡ 0
  pub walk : outcome.walk ≡ s'

-- the words are a beginning of those of the rules' own events from a state on
pub record WritesWords (prog : List Rule) (tokens answers : List ℕ) (s : Own) (ws : List ℕ) : Type 0 where
  pub steps : ℕ
  pub rest : List Event
  pub begins : events_words (events_of (owns prog tokens answers steps s)) ≡ ws ++ events_words rest

-- the rules' own walk stops from there, for this reason, with so many tokens read and answers used and so much allowance left, and the words of its events are these
pub record StopsWords (prog : List Rule) (tokens answers : List ℕ) (s : Own) (r : Reason) (read used left : ℕ) (ws : List ℕ) : Type 0 where
  pub io : Io
  pub stop : StopsFrom prog tokens answers s r io
  pub reads : io.read ≡ read
  pub uses : io.used ≡ used
  pub leaves : io.allowance ≡ left
  pub words : events_words io.events ≡ ws

-- a budget for the calls from the bytes s₀ on
abbrev pub EndsByBytes : List ℕ → List ℕ → List ℕ → List ℕ → List ℕ → ℕ → Type 0
EndsByBytes table tokens answers s₀ ws₀ b =
    (s ws : List ℕ) (n : ℕ) (ns : List ℕ) → ByteCallsFrom table tokens answers s₀ ws₀ s ws n ns → StoppedBytes s ⊎ (n < b)

-- what is claimed of every list of calls over the bytes `table` that begins with the bytes s₀ after events of the words ws₀, where the rules go on from the state o
pub record FollowsBytes (prog : List Rule) (table tokens answers : List ℕ) (o : Own) (s₀ ws₀ : List ℕ) : Type 0 where
  pub is_walk : {s ws : List ℕ} {n : ℕ} {ns : List ℕ} → ByteCallsFrom table tokens answers s₀ ws₀ s ws n ns → (w : Walk) × (walk_of s ≡ some w)
  pub events : {s ws : List ℕ} {n : ℕ} {ns : List ℕ} → ByteCallsFrom table tokens answers s₀ ws₀ s ws n ns
      → (Waits s → ⊥) → WritesWords prog (words_of tokens) (words_of answers) o ws
  pub events_waiting : {s ws : List ℕ} {n : ℕ} {ns : List ℕ} → ByteCallsFrom table tokens answers s₀ ws₀ s ws n ns
      → Waits s → (x : ℕ) → WritesWords prog (words_of tokens) (words_of answers ++ (x ∷ [])) o ws
  pub never_37 : {s ws : List ℕ} {n number : ℕ} {ns : List ℕ} → ByteCallsFrom table tokens answers s₀ ws₀ s ws n (number ∷ ns) → number ≡ 37 → ⊥
  pub stops : {s ws : List ℕ} {n : ℕ} {ns : List ℕ} {w : Walk} {r : Reason} → ByteCallsFrom table tokens answers s₀ ws₀ s ws n ns
      → walk_of s ≡ some w → w.phase ≡ stopped r → StopsWords prog (words_of tokens) (words_of answers) o r w.io.read w.io.used w.io.allowance ws
  pub says : {s ws : List ℕ} {n number : ℕ} {ns : List ℕ} {w : Walk} → ByteCallsFrom table tokens answers s₀ ws₀ s ws n (number ∷ ns)
      → walk_of s ≡ some w → Reports number w.phase
  pub budget : {r : Reason} {io : Io} → StopsFrom prog (words_of tokens) (words_of answers) o r io → (b : ℕ) × EndsByBytes table tokens answers s₀ ws₀ b

-- the bytes s are a walk's, the words ws those of events; the rules go on from its places ("from the same places"), and every list of calls follows them
pub record GoesOnBytes (prog : List Rule) (table tokens answers s ws : List ℕ) : Type 0 where
  pub walk : Walk
  pub is_walk : walk_of s ≡ some walk
  pub events : List Event
  pub are_words : ws ≡ events_words events
  pub from : Own
  pub starts : Starts prog (table_of table) (words_of tokens) (words_of answers) walk events from
  pub follows : FollowsBytes prog table tokens answers from s ws

-- the bytes differ in places only: phase, result, parameter, tokens read, answers used, allowance and the number of return locations are kept
pub record KeptBytes (s s' : List ℕ) : Type 0 where
  pub before : Walk
  pub after : Walk
  pub was : walk_of s ≡ some before
  pub is : walk_of s' ≡ some after
  pub phase : after.phase ≡ before.phase
  pub depth : length after.returns ≡ length before.returns
  pub result : after.result ≡ before.result
  pub parameter : after.parameter ≡ before.parameter
  pub io : after.io ≡ before.io

-- the whole claim for two texts that `sst_process` accepts, the old one with these words and the new one with these words and this verdict
pub record AtCarry (old new words : List ℕ) (verdict : Bool) (words' : List ℕ) (verdict' : Bool) : Type 0 where
  pub prog' : List Rule
  pub means : understood new ≡ meaning prog'
  pub kept : (lent table tokens answers : List ℕ) → Leaves old words verdict lent table → Slice tokens → Slice answers → (allowance : ℕ) → allowance < 65536
      → (s ws : List ℕ) (n : ℕ) (ns : List ℕ) → ByteCalls table tokens answers allowance s ws n ns → (s' : List ℕ) → Moves old new s s' → KeptBytes s s'
  -- a walk that does not wait, or waits for an answer that there is
  pub goes_on : (lent table lent' table' tokens answers : List ℕ) → Leaves old words verdict lent table → Leaves new words' verdict' lent' table' → Slice tokens → Slice answers
      → (allowance : ℕ) → allowance < 65536 → (s ws : List ℕ) (n : ℕ) (ns : List ℕ) → ByteCalls table tokens answers allowance s ws n ns → (s' : List ℕ) → Moves old new s s'
      → ((Waits s → ⊥) ⊎ ((x : ℕ) × (get_elem? (words_of answers) (choices_in ws - 1) ≡ some x))) → GoesOnBytes prog' table' tokens answers s' ws
  -- one that waits, with any one answer more
  pub goes_on_with : (lent table lent' table' tokens answers : List ℕ) → Leaves old words verdict lent table → Leaves new words' verdict' lent' table' → Slice tokens → Slice answers
      → (allowance : ℕ) → allowance < 65536 → (s ws : List ℕ) (n : ℕ) (ns : List ℕ) → ByteCalls table tokens answers allowance s ws n ns → (s' : List ℕ) → Moves old new s s'
      → Waits s → (answers₁ : List ℕ) (x : ℕ) → Slice answers₁ → words_of answers₁ ≡ words_of answers ++ (x ∷ []) → GoesOnBytes prog' table' tokens answers₁ s' ws
  -- one budget, fixed by the new program, the number of tokens and the allowance left, is enough for the calls after the carrying
  pub finishes : verdict' ≡ true → (number left : ℕ) → (b : ℕ) × ((lent table lent' table' tokens answers : List ℕ) → Leaves old words verdict lent table → Leaves new words' verdict' lent' table'
      → Slice tokens → Slice answers → count tokens ≡ number → (allowance : ℕ) → allowance < 65536 → (s ws : List ℕ) (n : ℕ) (ns : List ℕ) → ByteCalls table tokens answers allowance s ws n ns
      → (w : Walk) → walk_of s ≡ some w → w.io.allowance ≡ left → (s' : List ℕ) → Moves old new s s' → EndsByBytes table' tokens answers s' ws b)
