-- What the check on loading promises of walks and of the processor. The proofs are in proofs/.
use Rattle.std.specs.Prelude.{Bool, true, false, List, ◌∷◌, ◌++◌, ◌≡◌, ℕ, ◌≤◌, length}
use Rattle.agreement.specs.Demand.{Listed}
use Rattle.events.specs.Events.{Event}
use Rattle.machine.specs.Walk.{Walk}
use Rattle.processor.specs.Process.{accepted, process}
use Rattle.loading.specs.File.{file_bytes, done, load}
use Rattle.loading.specs.Reach.{Taken}

-- no list of calls over the table T from a fresh walk, with any allowance, tokens and answers, has a call that answers 37
abbrev pub Never37 : List ℕ → Type 0
Never37 T =
    (tokens answers : List ℕ) (allowance : ℕ) (w : Walk) (es : List Event) (n number : ℕ) (ns : List ℕ)
    → Listed T tokens answers allowance w es n (number ∷ ns) → number ≡ 37 → ⊥

-- "no walk begun afresh on a taken table, its calls as in demand 3, answers 37": any taken table, also one that no processor has written, and with
-- anything behind it
abbrev pub TakenNever37 : Type 0
TakenNever37 = (T more : List ℕ) → Taken T → Never37 (T ++ more)

-- so on every table that is loaded
abbrev pub LoadedNever37 : Type 0
LoadedNever37 =
    (file : List ℕ) (room : ℕ) (ws : List ℕ) (verdict : ℕ) (more : List ℕ) → load file room ≡ done ws verdict → Never37 (ws ++ more)

-- what stands behind a taken table, in the lent buffer, changes nothing: a list of calls leads to the same walk, events, steps and numbers with it and without it
pub record SameBehind (T more tokens answers : List ℕ) (allowance : ℕ) : Type 0 where
  pub with_more : {w : Walk} {es : List Event} {n : ℕ} {ns : List ℕ} → Listed T tokens answers allowance w es n ns → Listed (T ++ more) tokens answers allowance w es n ns
  pub without : {w : Walk} {es : List Event} {n : ℕ} {ns : List ℕ} → Listed (T ++ more) tokens answers allowance w es n ns → Listed T tokens answers allowance w es n ns

abbrev pub BehindNothing : Type 0
BehindNothing = (T more : List ℕ) → Taken T → (tokens answers : List ℕ) (allowance : ℕ) → SameBehind T more tokens answers allowance

-- "What the processor writes for an accepted program is taken"
abbrev pub WrittenTaken : Type 0
WrittenTaken = (text : List ℕ) (room : ℕ) (words : List ℕ) (verdict : Bool) → process text room ≡ accepted words verdict → Taken words

-- "1 or 0 for the verdict"
unfoldable pub claim_of : Bool → ℕ
claim_of true = 1
claim_of false = 0

-- so its file is loaded wherever it has room, with its verdict
abbrev pub AcceptedLoads : Type 0
AcceptedLoads =
    (text : List ℕ) (room : ℕ) (words : List ℕ) (verdict : Bool) (room' : ℕ) → process text room ≡ accepted words verdict → length words ≤ room'
    → load (file_bytes words (claim_of verdict)) room' ≡ done words (claim_of verdict)
