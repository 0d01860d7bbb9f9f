-- Closing a rule where it stands in the words of its object: what the pass over its cells promises.
use Rattle.std.specs.Prelude.{List, ◌∷◌, ◌++◌, ◌≡◌, ℕ, length, drop}
use Rattle.linkage.specs.declared.Names.{Names}
use Rattle.linkage.specs.declared.Spot.{Spot}
use Rattle.linkage.specs.declared.Uses.{Uses}
use Rattle.linker.specs.Close.{in_row, close_from}
use Rattle.linker.specs.Place.{texts_at, places_for, texts_from, texts_end, lowests}
use Rattle.linkpairs.specs.Standing.{Held}
use Rattle.names.specs.Known as known
use Rattle.names.specs.Uses.{Use}
use Rattle.objects.specs.View.{pairs_of, all, pair_words}

-- the numbers of the lowest rules of an object's pairs: they stand in the words, and those of all objects are collected
pub record Lows (words sites lowest : List ℕ) (r : Uses) (low : ℕ → ℕ) : Type 0 where
  pub names : known.Names
  pub own : ℕ
  pub after : ℕ
  pub collected : List Use
  pub uses : List Use
  pub rest : List ℕ
  pub held : Held words sites lowest names own r.collected after collected
  pub stand : drop r.at words ≡ all pair_words (pairs_of uses) ++ rest
  pub as_many : length uses ≡ r.count
  pub is : (k : ℕ) → low k ≡ in_row (lowests names own collected uses) k

-- the numbers of the rules of these names, the names of all rules standing at `names`
abbrev pub places_of : List ℕ → List ℕ → Names → List ℕ
places_of words names c = places_for (texts_at words names) (texts_from words c.at c.left)

-- r are the names behind the first
pub record Behind (words : List ℕ) (c r : Names) : Type 0 where
  pub texts : texts_from words r.at r.left ≡ drop 1 (texts_from words c.at c.left)
  pub end : texts_end words r.at r.left ≡ texts_end words c.at c.left

-- what is left to close at a spot
abbrev pub close_spot : (ℕ → ℕ) → List ℕ → List ℕ → Spot → List ℕ → List ℕ
close_spot low words names s cells = close_from low s.first s.left (places_of words names s.calls) cells

pub record Turned (low : ℕ → ℕ) (words names : List ℕ) (s : Spot) (x : ℕ) (r : Spot) : Type 0 where
  pub closes : (cells : List ℕ) → close_spot low words names s (x ∷ cells) ≡ r.cell ∷ close_spot low words names r cells
