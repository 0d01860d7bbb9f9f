-- Rule locations from the cells.
use Rattle.std.specs.Prelude.{ℕ, ◌+◌, ◌*◌, ◌<◌, ◌≤◌, ◌≡◌, List, length, get_or}
use Rattle.program.specs.Program.{Acts, Rule}
use Rattle.program.specs.Table.{sizes, size_rules, place}
use Rattle.emitter.specs.Stands.{IsAll}
use Rattle.emitter.specs.Emitted.{CellsOf}

-- Bounds: a place in the cells and a place in the table; a cell gives fewer than 400 words

pub record Room (cs : List ℕ) (p at : ℕ) : Type 0 where
  pub inside : p ≤ length cs
  pub short : length cs ≤ 65536
  pub room : at ≤ 1000000000 + 400 * p

-- from p and at to p' and at'
pub record Moved (cs : List ℕ) (p at p' at' : ℕ) : Type 0 where
  pub on : p ≤ p'
  pub inside : p' ≤ length cs
  pub few : at' + 400 * p ≤ at + 400 * p'

-- the words of the list of actions at p, and where it ends
unfoldable pub Scanned : List ℕ → ℕ → ℕ → ℕ → Type 0
Scanned cs p p' w = (n : ℕ) (q : Acts) (e : ℕ) → IsAll cs n p e q → (w ≡ sizes q) × (p' ≡ e)

-- each rule's location, where there is room for it, and the whole size
pub record Located (prog : List Rule) (starts : List ℕ) (size : ℕ) : Type 0 where
  pub words : size ≡ size_rules prog
  pub places : (r : ℕ) → r < length prog → r < length starts → get_or starts r 0 ≡ place 1 prog r

unfoldable pub Locates : List ℕ → List ℕ → ℕ → List ℕ → ℕ → Type 0
Locates cells sorts rules starts size = (prog : List Rule) → CellsOf cells sorts rules prog → Located prog starts size
