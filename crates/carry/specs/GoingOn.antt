-- "A walk from calls as in demand 3 then goes on as the new source rules say from the same places, with all else it holds kept." The statement; its
-- proof is in proofs/.
use Rattle.std.specs.Prelude.{Bool, true, List, [], ◌∷◌, ◌++◌, ◌⊎◌, ◌≡◌, ℕ, ◌<◌, length}
use Rattle.std.proofs.Math.Option.{some}
use Rattle.agreement.specs.Demand.{events_of, Begins, wanted, Listed, ListedFrom, HasStopped}
use Rattle.carry.specs.Carry.{carried, carry, source_of}
use Rattle.carry.specs.Places.{Standing}
use Rattle.events.specs.Events.{Event, Reason, Io}
use Rattle.machine.specs.Walk.{going, waiting, stopped, Walk, with_io, with_answer}
use Rattle.ownwalk.specs.OwnWalk as rules
use Rattle.ownwalk.specs.OwnWalk.{Own, owns}
use Rattle.processor.specs.Process.{understood, meaning}
use Rattle.program.specs.Program.{Rule}

-- "with all else it holds kept"
pub record Kept (w w' : Walk) : Type 0 where
  pub phase : w'.phase ≡ w.phase
  pub depth : length w'.returns ≡ length w.returns
  pub result : w'.result ≡ w.result
  pub parameter : w'.parameter ≡ w.parameter
  -- tokens read, answers used, allowance left
  pub io : w'.io ≡ w.io

-- The rules' own walk from a state

pub record StopsFrom (prog : List Rule) (tokens answers : List ℕ) (s : Own) (r : Reason) (io : Io) : Type 0 where
  pub steps : ℕ
  pub stop : owns prog tokens answers steps s ≡ rules.stopped r io

pub record WritesFrom (prog : List Rule) (tokens answers : List ℕ) (s : Own) (es : List Event) : Type 0 where
  pub steps : ℕ
  pub begins : Begins es (events_of (owns prog tokens answers steps s))

-- a budget for the calls after the carrying: after every list the walk has stopped or has done fewer steps (demand 3 allows for a third case, which is not needed)
abbrev pub EndsBy : List ℕ → List ℕ → List ℕ → Walk → List Event → ℕ → Type 0
EndsBy T tokens answers w₀ es₀ b =
    (w : Walk) (es : List Event) (n : ℕ) (ns : List ℕ) → ListedFrom T tokens answers w₀ es₀ w es n ns → HasStopped w ⊎ (n < b)

-- what demand 3 claims of a list of calls, of every one that begins with the walk w₀ after the events es₀, where the rules go on from the state s
pub record Follows (prog : List Rule) (T tokens answers : List ℕ) (s : Own) (w₀ : Walk) (es₀ : List Event) : Type 0 where
  -- the events are a beginning of the rules' own
  pub events : {w : Walk} {es : List Event} {n : ℕ} {ns : List ℕ} → ListedFrom T tokens answers w₀ es₀ w es n ns → (w.phase ≡ waiting → ⊥)
      → WritesFrom prog tokens answers s es
  -- while it waits, of the rules' own with any one answer more
  pub events_waiting : {w : Walk} {es : List Event} {n : ℕ} {ns : List ℕ} → ListedFrom T tokens answers w₀ es₀ w es n ns → w.phase ≡ waiting
      → (x : ℕ) → WritesFrom prog tokens (answers ++ (x ∷ [])) s es
  -- no call answers 37
  pub never_37 : {w : Walk} {es : List Event} {n number : ℕ} {ns : List ℕ} → ListedFrom T tokens answers w₀ es₀ w es n (number ∷ ns) → number ≡ 37 → ⊥
  -- a walk that has stopped has the rules' reason, events, tokens read, answers used and allowance left
  pub stops : {w : Walk} {es : List Event} {n : ℕ} {ns : List ℕ} {r : Reason} → ListedFrom T tokens answers w₀ es₀ w es n ns → w.phase ≡ stopped r
      → StopsFrom prog tokens answers s r (record { read = w.io.read; used = w.io.used; allowance = w.io.allowance; events = es })
  -- where the rules stop, one budget suffices
  pub budget : {r : Reason} {io : Io} → StopsFrom prog tokens answers s r io → (b : ℕ) × EndsBy T tokens answers w₀ es₀ b

-- a walk with the events of all its calls
unfoldable pub after : List Event → Walk → Walk
after es w = with_io (record { read = w.io.read; used = w.io.used; allowance = w.io.allowance; events = es }) w

-- the state from which the rules go on: "from the same places"
pub data Starts (prog : List Rule) (T tokens answers : List ℕ) (w : Walk) (es : List Event) : Own → Type 0 where
  -- of a walk that goes on: at its places
  starts_going : {s : Own} → w.phase ≡ going → Standing prog T tokens (after es w) s → Starts prog T tokens answers w es s
  -- of one that waits: at its places, with the answer that it waits for
  starts_waiting : {s : Own} (x : ℕ) → w.phase ≡ waiting → wanted answers es ≡ some x → Standing prog T tokens (after es (with_answer x w)) s
      → Starts prog T tokens answers w es s
  -- of one that has stopped: stopped
  starts_stopped : (r : Reason) → w.phase ≡ stopped r → Starts prog T tokens answers w es (rules.stopped r (after es w).io)

pub record GoesOn (prog : List Rule) (T tokens answers : List ℕ) (w : Walk) (es : List Event) : Type 0 where
  pub from : Own
  pub starts : Starts prog T tokens answers w es from
  pub follows : Follows prog T tokens answers from w es

-- what is claimed of a walk w that calls over the old table led to, with the events es, and that is carried to w'; prog' are the new rules, T' their table with anything behind it
pub record Carries (prog' : List Rule) (T' tokens answers : List ℕ) (w w' : Walk) (es : List Event) : Type 0 where
  pub kept : Kept w w'
  -- one that goes on or has stopped
  pub goes_on : (w.phase ≡ waiting → ⊥) → GoesOn prog' T' tokens answers w' es
  -- one that waits, if there is an answer for it
  pub goes_on_waiting : w.phase ≡ waiting → (x : ℕ) → wanted answers es ≡ some x → GoesOn prog' T' tokens answers w' es
  -- and in any case with any one answer more
  pub goes_on_with : w.phase ≡ waiting → (x : ℕ) → GoesOn prog' T' tokens (answers ++ (x ∷ [])) w' es

-- one budget, fixed by the new program, the number of tokens and the allowance left, is enough for the calls after the carrying, whatever else
abbrev pub FinishesCarried : List ℕ → List ℕ → List ℕ → List ℕ → Type 0
FinishesCarried old new words words' =
    (count left : ℕ) → (b : ℕ) × ((more more' tokens answers : List ℕ) (allowance : ℕ) (w : Walk) (es : List Event) (n : ℕ) (ns : List ℕ)
    → length tokens ≡ count → Listed (words ++ more) tokens answers allowance w es n ns → w.io.allowance ≡ left
    → (w' : Walk) → carry (source_of old) (source_of new) w ≡ carried w' → EndsBy (words' ++ more') tokens answers w' es b)

-- the whole claim for two texts that `process` accepts
pub record CarryingOn (old new words words' : List ℕ) (verdict' : Bool) : Type 0 where
  pub prog' : List Rule
  pub means : understood new ≡ meaning prog'
  pub carries : (more more' tokens answers : List ℕ) (allowance : ℕ) {w : Walk} {es : List Event} {n : ℕ} {ns : List ℕ}
      → Listed (words ++ more) tokens answers allowance w es n ns → (w' : Walk) → carry (source_of old) (source_of new) w ≡ carried w'
      → Carries prog' (words' ++ more') tokens answers w w' es
  pub finishes : verdict' ≡ true → FinishesCarried old new words words'

-- all of this file computes where this is unfolded
unfoldable pub opened : Unit {0}
unfolding after
opened = tt
