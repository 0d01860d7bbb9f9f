-- "Demand 3 is one claim about the list, not one a call." The statement; its proof is in proofs/.
use Rattle.std.specs.Prelude.{Bool, true, List, [], ◌∷◌, ◌++◌, ◌⊎◌, ◌≡◌, ℕ, ◌+◌, ◌-◌, ◌^◌, ◌<◌, length}
use Rattle.std.proofs.Math.Option.{Option, none, some}
use Rattle.std.proofs.Math.ListN.{get_elem?}
use Rattle.finishing.specs.Finishing.{Finishing}
use Rattle.events.specs.Events.{Event, Reason, unanswered, choices, Io}
use Rattle.machine.specs.Call.{Mode, whole, paused, call_walk}
use Rattle.machine.specs.Walk.{Phase, going, waiting, stopped, Walk, fresh}
use Rattle.ownwalk.specs.OwnWalk as rules
use Rattle.ownwalk.specs.OwnWalk.{Own, owns, own_start}
use Rattle.processor.specs.Process.{understood, meaning}
use Rattle.program.specs.Program.{Rule}

-- the events of the rules' own walk so far
unfoldable pub events_of : Own → List Event
events_of (rules.on q k ps io) = io.events
events_of (rules.choosing v al o q k ps io) = io.events
events_of (rules.stopped r io) = io.events
events_of (rules.nowhere io) = io.events

-- es is a beginning of all
pub record Begins (es all : List Event) : Type 0 where
  pub rest : List Event
  pub whole : all ≡ es ++ rest

-- the answer that a walk waits for: "the k-th if k choice operations stand in the events so far"
unfoldable pub wanted : List ℕ → List Event → Option ℕ
wanted answers es = get_elem? answers (choices es - 1)

-- "whole ones all answers": as one slice, which has fewer than 2^64 of them; "an answer taken is the k-th": one that is refused is any
unfoldable pub Allowed : List ℕ → Mode → Phase → List Event → Type 0
Allowed answers (whole given) ph es = (given ≡ answers) × (length answers < 2 ^ 64)
Allowed answers (paused none) ph es = Unit {0}
Allowed answers (paused (some x)) going es = Unit {0}
Allowed answers (paused (some x)) waiting es = wanted answers es ≡ some x
Allowed answers (paused (some x)) (stopped r) es = Unit {0}

-- the walks that a list of calls from the walk w₀ leads to, "each getting the walk that the last one gave back", es₀ being the events before: with all
-- events in order, the steps of the calls in all, and the numbers answered, the last first
pub data ListedFrom (T tokens answers : List ℕ) (w₀ : Walk) (es₀ : List Event) : Walk → List Event → ℕ → List ℕ → Type 0 where
  begin : ListedFrom T tokens answers w₀ es₀ w₀ es₀ 0 []
  then_call : {w : Walk} {es : List Event} {n : ℕ} {ns : List ℕ} → ListedFrom T tokens answers w₀ es₀ w es n ns
      → (m : Mode) (budget room : ℕ) → Allowed answers m w.phase es
      → ListedFrom T tokens answers w₀ es₀ (call_walk T tokens m budget room w).walk (es ++ (call_walk T tokens m budget room w).events)
      (n + (call_walk T tokens m budget room w).steps) ((call_walk T tokens m budget room w).number ∷ ns)

-- from a fresh walk with this repair allowance
abbrev pub Listed : List ℕ → List ℕ → List ℕ → ℕ → Walk → List Event → ℕ → List ℕ → Type 0
Listed T tokens answers allowance = ListedFrom T tokens answers (fresh allowance) []

-- the rules' own walk stops
pub record RulesStop (prog : List Rule) (tokens answers : List ℕ) (allowance : ℕ) (r : Reason) (io : Io) : Type 0 where
  pub steps : ℕ
  pub stop : owns prog tokens answers steps (own_start prog allowance) ≡ rules.stopped r io

-- some of the rules' own events begin so
pub record RulesWrite (prog : List Rule) (tokens answers : List ℕ) (allowance : ℕ) (es : List Event) : Type 0 where
  pub steps : ℕ
  pub begins : Begins es (events_of (owns prog tokens answers steps (own_start prog allowance)))

-- it "waits for an answer past the last, where the rules stop with 34"
pub record WaitsPast (prog : List Rule) (tokens answers : List ℕ) (allowance : ℕ) (w : Walk) (es : List Event) : Type 0 where
  pub waits : w.phase ≡ waiting
  pub past : wanted answers es ≡ none
  pub io : Io
  pub rules_stop : RulesStop prog tokens answers allowance unanswered io

pub record HasStopped (w : Walk) : Type 0 where
  pub reason : Reason
  pub stop : w.phase ≡ stopped reason

-- "A budget, of any size, suffices if after every such list the walk has stopped, has done fewer steps in all, or waits for an answer past the
-- last, where the rules stop with 34."
abbrev pub Suffices : List Rule → List ℕ → List ℕ → List ℕ → ℕ → ℕ → Type 0
Suffices prog T tokens answers allowance b =
    (w : Walk) (es : List Event) (n : ℕ) (ns : List ℕ) → Listed T tokens answers allowance w es n ns
    → HasStopped w ⊎ ((n < b) ⊎ WaitsPast prog tokens answers allowance w es)

-- every such list does fewer steps in all, whether its walk goes on, waits or has stopped
abbrev pub StepsBelow : List ℕ → List ℕ → List ℕ → ℕ → ℕ → Type 0
StepsBelow T tokens answers allowance b = (w : Walk) (es : List Event) (n : ℕ) (ns : List ℕ) → Listed T tokens answers allowance w es n ns → n < b

-- what is claimed of every list of calls over the table T, with these tokens and answers
pub record Agrees (prog : List Rule) (T tokens answers : List ℕ) (allowance : ℕ) : Type 0 where
  -- the events are a beginning of the rules' own
  pub events : {w : Walk} {es : List Event} {n : ℕ} {ns : List ℕ} → Listed T tokens answers allowance w es n ns
      → (w.phase ≡ waiting → ⊥) → RulesWrite prog tokens answers allowance es
  -- while it waits, of the rules' own with any one answer more
  pub events_waiting : {w : Walk} {es : List Event} {n : ℕ} {ns : List ℕ} → Listed T tokens answers allowance w es n ns
      → w.phase ≡ waiting → (x : ℕ) → RulesWrite prog tokens (answers ++ (x ∷ [])) allowance es
  -- no call has answered 37
  pub never_37 : {w : Walk} {es : List Event} {n number : ℕ} {ns : List ℕ} → Listed T tokens answers allowance w es n (number ∷ ns)
      → number ≡ 37 → ⊥
  -- a walk that has stopped has the rules' reason, events, tokens read, answers used and allowance left
  pub stops : {w : Walk} {es : List Event} {n : ℕ} {ns : List ℕ} {r : Reason} → Listed T tokens answers allowance w es n ns
      → w.phase ≡ stopped r → RulesStop prog tokens answers allowance r (record { read = w.io.read; used = w.io.used; allowance = w.io.allowance; events = es })
  -- where the rules stop, one budget suffices
  pub budget : {r : Reason} {io : Io} → RulesStop prog tokens answers allowance r io → (b : ℕ) × Suffices prog T tokens answers allowance b

-- one budget, fixed by the program, the number of tokens and the allowance, suffices whatever the tokens, the answers, the lists and what stands behind the table
abbrev pub Finishes : List Rule → List ℕ → Type 0
Finishes prog words =
    (count allowance : ℕ) → (b : ℕ) × ((more tokens answers : List ℕ) → length tokens ≡ count → Suffices prog (words ++ more) tokens answers allowance b)

-- the whole claim for a text that `process` accepts with these words and this verdict; the table may stand at the start of a longer buffer
pub record Demand3 (text words : List ℕ) (verdict : Bool) : Type 0 where
  pub prog : List Rule
  pub means : understood text ≡ meaning prog
  pub agrees : (more tokens answers : List ℕ) (allowance : ℕ) → Agrees prog (words ++ more) tokens answers allowance
  pub finishes : verdict ≡ true → Finishes prog words
  -- the verdict is the definition's
  pub sound : verdict ≡ true → Finishing prog
  pub complete : Finishing prog → verdict ≡ true

-- all of this file computes where this is unfolded
unfoldable pub opened : Unit {0}
unfolding events_of wanted
opened = tt
