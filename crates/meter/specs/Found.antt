-- What the code says of a table: the figure, or that some quiet path is too long for one.
use Rattle.std.specs.Prelude.{List, ◌≡◌, ℕ, ◌≤◌, ◌<◌, length}
use Rattle.figure.specs.Figure.{Bounds, Figure, Long}
use Rattle.meter.specs.Makes.{cap}
use Rattle.meter.specs.Shaped.{start_of}

-- a rule starts at s
pub data Starts (S : List ℕ) (s : ℕ) : Type 0 where
  starts : (r : ℕ) → r < length S → s ≡ start_of S r → Starts S s

pub record Found (T S : List ℕ) (q : ℕ) : Type 0 where
  pub bounds : q < cap → Bounds T (Starts S) q
  -- where there is a path at all
  pub exact : q < cap → 0 < q → Figure T (Starts S) q
  -- "47 for Q above 4,294,967,295"
  pub long : cap ≤ q → Long T (Starts S) cap
