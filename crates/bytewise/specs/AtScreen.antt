-- Two books over one table as a caller from C meets them: every list of turns and refills over the bytes of a screen, as `sst_turn_whole`,
-- `sst_turn_paused` and `sst_refill` treat them, the last first.
use Rattle.std.specs.Prelude.{false, List, [], ◌∷◌, ◌++◌, ◌⊎◌, ◌≡◌, ℕ, ◌+◌, ◌<◌, length}
use Rattle.std.proofs.Math.Option.{some}
use Rattle.base.specs.Common.{member}
use Rattle.events.specs.Events.{Reason}
use Rattle.finishing.specs.Finishing.{Finishing}
use Rattle.machine.specs.Bytes.{count, words_of}
use Rattle.machine.specs.Form.{walk_bytes, walk_of, Outcome}
use Rattle.machine.specs.Walk.{stopped, Walk, fresh}
use Rattle.processor.specs.Process.{understood, meaning}
use Rattle.program.specs.Program.{Rule}
use Rattle.screen.specs.Items.{Item, turn, refill, after, heard}
use Rattle.screen.specs.Screen.{screen_size, walk_in, fresh_bytes}
use Rattle.bytewise.specs.AtEntries.{RulesWriteWords, RulesStopWords, WaitsPastBytes, StoppedBytes, SufficesBytes, StepsBelowBytes}
use Rattle.bytewise.specs.ByteCalls.{Slice, written_words, Waits, Hands, ByteCalls}

-- what the turns of a book gave, the last first: the words of their events in order, their steps in all, their numbers
unfoldable pub words_in : List Outcome → List ℕ
words_in [] = []
words_in (o ∷ os) = words_in os ++ written_words o

unfoldable pub steps_in : List Outcome → ℕ
steps_in [] = 0
steps_in (o ∷ os) = steps_in os + o.steps

unfoldable pub numbers_in : List Outcome → List ℕ
numbers_in [] = []
numbers_in (o ∷ os) = o.number ∷ numbers_in os

-- a book begins: its bytes are those of a fresh walk. The steps left and the other book's bytes may be any
pub record Begins (b allowance : ℕ) (r : List ℕ) : Type 0 where
  pub size : length r ≡ screen_size
  pub afresh : walk_in b r ≡ walk_bytes (fresh allowance)

-- "With calls as in demand 3", asked of the turns of book b alone: they get its tokens, and its answers as any list of calls does
unfoldable pub Asked : List ℕ → ℕ → List ℕ → List ℕ → List ℕ → List Item → Type 0
Asked table b tokens answers r [] = Unit {0}
Asked table b tokens answers r (turn c given m buffer ∷ items) =
    (c ≡ b → (given ≡ tokens) × Hands answers m (walk_in b (after table items r)) (words_in (heard table b items r))) × Asked table b tokens answers r items
Asked table b tokens answers r (refill c n ∷ items) = Asked table b tokens answers r items

-- what is claimed of a book: s the bytes of its walk, os what its turns gave
pub record Follows (prog : List Rule) (table tokens answers : List ℕ) (allowance : ℕ) (s : List ℕ) (os : List Outcome) : Type 0 where
  -- its turns are a list of calls of this book alone
  pub calls : ByteCalls table tokens answers allowance s (words_in os) (steps_in os) (numbers_in os)
  -- "each book's events are a beginning of the rules' own events for that book"
  pub events : (Waits s → ⊥) → RulesWriteWords prog (words_of tokens) (words_of answers) allowance (words_in os)
  -- "(while it waits, with any one answer more)"
  pub events_waiting : Waits s → (x : ℕ) → RulesWriteWords prog (words_of tokens) (words_of answers ++ (x ∷ [])) allowance (words_in os)
  -- none of its turns answered 37
  pub never_37 : member 37 (numbers_in os) ≡ false
  -- where it has stopped it has stopped as the rules do
  pub stops : {w : Walk} {r : Reason} → walk_of s ≡ some w → w.phase ≡ stopped r
      → RulesStopWords prog (words_of tokens) (words_of answers) allowance r w.io.read w.io.used w.io.allowance (words_in os)
  -- a budget that suffices for the calls of this book alone suffices for its turns: it has stopped, has done fewer steps in all of them, or waits for an answer past the last
  pub budget : (b : ℕ) → SufficesBytes prog table tokens answers allowance b
      → StoppedBytes s ⊎ ((steps_in os < b) ⊎ WaitsPastBytes prog (words_of tokens) (words_of answers) allowance s (words_in os))
  -- and one that bounds the steps of those bounds the steps of its turns
  pub steps : (b : ℕ) → StepsBelowBytes table tokens answers allowance b → steps_in os < b

-- "under every order of turns", of either book, whatever the other one does
abbrev pub InEveryOrder : List Rule → List ℕ → Type 0
InEveryOrder prog table =
    (b : ℕ) → b < 2 → (tokens answers : List ℕ) → Slice tokens → Slice answers → (allowance : ℕ) → allowance < 65536
    → (r : List ℕ) → Begins b allowance r → (items : List Item) → Asked table b tokens answers r items
    → Follows prog table tokens answers allowance (walk_in b (after table items r)) (heard table b items r)

-- what a caller has to whom `sst_process` answered 0, for the bytes that it left
pub record OnScreen (text table : List ℕ) : Type 0 where
  pub prog : List Rule
  pub means : understood text ≡ meaning prog
  pub follows : InEveryOrder prog table
  -- of a finishing program one budget, fixed by the program, the number of tokens and the allowance, suffices for each book under every order of turns
  pub finishes : Finishing prog → (number allowance : ℕ) → allowance < 65536
      → (b : ℕ) × ((tokens answers : List ℕ) → Slice tokens → Slice answers → count tokens ≡ number → SufficesBytes prog table tokens answers allowance b)

-- both books begin on the screen that `sst_screen_fresh` leaves
abbrev pub FreshBegins : Type 0
FreshBegins = (a₀ a₁ : ℕ) (r : List ℕ) → length r ≡ screen_size → Begins 0 a₀ (fresh_bytes a₀ a₁ r) × Begins 1 a₁ (fresh_bytes a₀ a₁ r)

-- all of this file computes where this is unfolded
unfoldable pub opened : Unit {0}
unfolding words_in steps_in numbers_in
opened = tt
