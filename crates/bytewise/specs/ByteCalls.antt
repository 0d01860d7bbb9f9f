-- "The firmware calls in from C with numbers and byte slices": a list of calls as `sst_whole` and `sst_paused` get them, over bytes alone,
-- each getting the bytes of the walk that the last one gave back.
use Rattle.std.specs.Prelude.{◌&&◌, List, [], ◌∷◌, ◌++◌, ◌≡◌, ℕ, ◌+◌, ◌*◌, ◌-◌, ◌^◌, ◌<◌, eqb, leb, length, take, get_or, if◌then◌else◌}
use Rattle.std.proofs.Math.Option.{none, some}
use Rattle.std.proofs.Math.ListN.{get_elem?}
use Rattle.agreement.specs.Demand.{ListedFrom}
use Rattle.events.specs.Events.{Event}
use Rattle.machine.specs.Bytes.{words_of, table_of}
use Rattle.machine.specs.Call.{Mode, whole, paused}
use Rattle.machine.specs.Form.{Fits, Outcome, walk_bytes, walk_of, events_words, call_bytes}
use Rattle.machine.specs.Walk.{waiting, Walk, fresh}

-- what any slice is: bytes, and fewer than 2^64 of them
pub record Slice (s : List ℕ) : Type 0 where
  pub bytes : (i : ℕ) → get_or s i 0 < 256
  pub short : length s < 2 ^ 64

-- the words of the events that a call wrote: three an event, from the start of its buffer
unfoldable pub written_words : Outcome → List ℕ
written_words o = take (3 * o.events) (words_of o.buffer)

-- how many choice operations stand in the words of events: "3, the operation's instruction number, its parameter or 0", "choice operations
-- from 768"
unfoldable pub choices_in : List ℕ → ℕ
choices_in [] = 0
choices_in (kind ∷ []) = 0
choices_in (kind ∷ op ∷ []) = 0
choices_in (kind ∷ op ∷ parameter ∷ ws) = (if eqb kind 3 && leb 768 op then 1 else 0) + choices_in ws

-- the bytes are those of a walk that waits: `sst_phase` answers 1
abbrev pub Waits : List ℕ → Type 0
Waits s = (w : Walk) × (walk_of s ≡ some w) × (w.phase ≡ waiting)

-- how a call may be made that gets the walk's bytes s after events of the words ws: "whole ones all answers"; "an answer taken is the k-th if k
-- choice operations stand in the events so far", one that is refused is any word
unfoldable pub Hands : List ℕ → Mode → List ℕ → List ℕ → Type 0
Hands answers (whole given) s ws = given ≡ words_of answers
Hands answers (paused none) s ws = Unit {0}
Hands answers (paused (some x)) s ws = (x < 65536) × (Waits s → get_elem? (words_of answers) (choices_in ws - 1) ≡ some x)

-- what a list of calls leads to from a walk's bytes s₀ on, ws₀ being the words of the events before: the walk's bytes, the words of all events in order, the steps of the calls, the
-- numbers answered, the last first. Each call has any budget and any event buffer; o is what it leaves with its caller, by the contracts of `sst_whole` and `sst_paused`
pub data ByteCallsFrom (table tokens answers s₀ ws₀ : List ℕ) : List ℕ → List ℕ → ℕ → List ℕ → Type 0 where
  first : ByteCallsFrom table tokens answers s₀ ws₀ s₀ ws₀ 0 []
  next : {s ws : List ℕ} {n : ℕ} {ns : List ℕ} → ByteCallsFrom table tokens answers s₀ ws₀ s ws n ns
      → (m : Mode) (budget : ℕ) (buffer : List ℕ) → Hands answers m s ws → {o : Outcome} → o ≡ call_bytes table tokens m budget s buffer
      → ByteCallsFrom table tokens answers s₀ ws₀ o.walk (ws ++ written_words o) (n + o.steps) (o.number ∷ ns)

-- from the bytes of a fresh walk with this repair allowance, as `sst_fresh` writes them
abbrev pub ByteCalls : List ℕ → List ℕ → List ℕ → ℕ → List ℕ → List ℕ → ℕ → List ℕ → Type 0
ByteCalls table tokens answers allowance = ByteCallsFrom table tokens answers (walk_bytes (fresh allowance)) []

-- the bytes and words are those of a list of calls of demand 3 that began with the walk w₀ after the events es₀: the bytes a walk's and read back as that walk, the words its events'
pub record StandsFrom (table tokens answers : List ℕ) (w₀ : Walk) (es₀ : List Event) (s ws : List ℕ) (n : ℕ) (ns : List ℕ) : Type 0 where
  pub walk : Walk
  pub events : List Event
  pub bytes : s ≡ walk_bytes walk
  pub read_back : walk_of s ≡ some walk
  pub fits : Fits walk
  pub words : ws ≡ events_words events
  pub listed : ListedFrom (table_of table) (words_of tokens) (words_of answers) w₀ es₀ walk events n ns

abbrev pub Stands : List ℕ → List ℕ → List ℕ → ℕ → List ℕ → List ℕ → ℕ → List ℕ → Type 0
Stands table tokens answers allowance = StandsFrom table tokens answers (fresh allowance) []

-- all of this file computes where this is unfolded
unfoldable pub opened : Unit {0}
unfolding written_words choices_in
opened = tt
