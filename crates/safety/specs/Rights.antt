-- What rights over the operations promise of walks. The proof is in proofs/Rights.antt.
use Rattle.std.specs.Prelude.{Bool, true, List, [], ◌∷◌, ◌++◌, ◌≡◌, ℕ}
use Rattle.agreement.specs.Demand.{Listed}
use Rattle.events.specs.Events.{Event, output, signal, repair, operation, operation_with}
use Rattle.loading.specs.File.{done, load}
use Rattle.machine.specs.Walk.{Walk}
use Rattle.rights.specs.Rights.{granted, admit, admit_loaded}

-- the event is no operation's, or one of the set's
unfoldable pub within : List ℕ → Event → Bool
within set (output t) = true
within set (signal n) = true
within set (repair t) = true
within set (operation op) = granted set op
within set (operation_with op v) = granted set op

-- all of them are
pub data Within (set : List ℕ) : List Event → Type 0 where
  within_nil : Within set []
  within_cons : {e : Event} {es : List Event} → within set e ≡ true → Within set es → Within set (e ∷ es)

-- no list of calls over the table T from a fresh walk, with any allowance, tokens and answers, writes an event of an operation outside the set
abbrev pub Keeps : List ℕ → List ℕ → Type 0
Keeps T set =
    (tokens answers : List ℕ) (allowance : ℕ) (w : Walk) (es : List Event) (n : ℕ) (ns : List ℕ) → Listed T tokens answers allowance w es n ns → Within set es

-- "No fresh walk of an admitted table, its calls as in demand 3, then writes an event of an operation outside the set": with anything behind the table
abbrev pub AdmittedKeeps : Type 0
AdmittedKeeps = (T more set : List ℕ) → (admit T set).number ≡ 0 → Keeps (T ++ more) set

-- so of every table that was loaded and admitted in one call
abbrev pub LoadedKeeps : Type 0
LoadedKeeps =
    (file set : List ℕ) (room : ℕ) (ws : List ℕ) (verdict : ℕ) (more : List ℕ) → load file room ≡ done ws verdict
    → (admit_loaded set (load file room)).number ≡ 0 → Keeps (ws ++ more) set
