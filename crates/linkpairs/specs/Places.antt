-- What the functions that make the rules of the collected pairs promise.
use Rattle.std.specs.Prelude.{List, [], ◌∷◌, ◌≡◌, ℕ, suc, ◌+◌, ◌*◌, ◌<◌, ◌≤◌, length, get_or}
use Rattle.levels.specs.Making.{MadeEnd}
use Rattle.levels.specs.declared.Made.{Made}
use Rattle.levels.specs.declared.Site.{Site}
use Rattle.linker.specs.Place.{texts_at, place_of}
use Rattle.linkpairs.specs.Standing.{PairAt, EntriesAre, EntriesOf}
use Rattle.names.specs.Known.{good, Names, KnownRule}
use Rattle.names.specs.Uses.{Use, operand_of, made_for}
use Rattle.program.specs.Program.{Rule}

-- of the pair at the place p: where its section's entries stand, and the number of its operand rule, the rules' names standing at `heads`
pub record SiteFound (text rows : List ℕ) (n : ℕ) (words heads : List ℕ) (p at rule : ℕ) : Type 0 where
  pub entries : EntriesOf text rows n words p at
  pub operand : (u : Use) → PairAt words p u → rule ≡ place_of u.operand.text (texts_at words heads)

-- two numbers a pair, for the first `count` of them
abbrev pub SitesFound : List ℕ → List ℕ → ℕ → List ℕ → List ℕ → List ℕ → ℕ → List ℕ → Type 0
SitesFound text rows n words heads sites count places =
    (i : ℕ) → i < count → SiteFound text rows n words heads (get_or sites i 0) (get_or places (2 * i) 0) (get_or places (2 * i + 1) 0)

-- these numbers are the pairs', from the j-th on
unfoldable pub Placed : List ℕ → List ℕ → ℕ → List ℕ → Names → List KnownRule → ℕ → List Use → Type 0
Placed text rows n places names known j [] = Unit {0}
Placed text rows n places names known j (u ∷ us) =
    EntriesAre text rows n names u (get_or places (2 * j) 0) × (get_or places (2 * j + 1) 0 ≡ operand_of known u) × Placed text rows n places names known (suc j) us

-- the site of the j-th pair, behind what is made
pub record SiteIs (text places : List ℕ) (j : ℕ) (made : Made) (q : Site) : Type 0 where
  pub inside : q.at ≤ length text
  pub at : get_or places (2 * j) 0 ≤ length text → q.at ≡ get_or places (2 * j) 0
  pub operand : q.operand ≡ get_or places (2 * j + 1) 0
  pub low : q.operand < 65536
  pub own : q.own ≡ made.rules
  pub count : q.count ≡ made.count

-- the rules of k pairs, from the j-th on, made behind `own` rules
pub record RulesMade (text rows : List ℕ) (n : ℕ) (places : List ℕ) (j k own : ℕ) (cs : List ℕ) (c : ℕ) (starts sorts cs' starts' sorts' : List ℕ) (r : Made) : Type 0 where
  pub made : (names : Names) (known : List KnownRule) (us : List Use) → k ≡ length us → Placed text rows n places names known j us
      → (others : ℕ) (ms : List Rule) → made_for names known others own us ≡ good ms → MadeEnd own cs c cs' starts sorts starts' sorts' r ms

-- all of this file computes where this is unfolded
unfoldable pub opened : Unit {0}
unfolding Placed
opened = tt
