-- The first uses of a part's pairs as an object has them.
use Rattle.std.specs.Prelude.{List, [], ◌∷◌, ◌≡◌, ℕ, length}
use Rattle.names.specs.Uses.{Use}
use Rattle.partpairs.specs.Pairing.{UseAt, UsesAt}
use Rattle.parts.specs.Form.{uses_words}
use Rattle.parts.specs.Moved.{move_use, move_uses}
use Rattle.partwriter.specs.Put.{Puts, back}

-- the use at the place i is written
pub record UsePut (text : List ℕ) (i moved : ℕ) (object : List ℕ) (c : ℕ) (object' : List ℕ) (r : ℕ) : Type 0 where
  pub size : length object' ≡ length object
  pub done : (u : Use) → UseAt text i u → Puts object c (uses_words (move_use (back moved) u ∷ [])) object' r

-- the uses whose places `signs` holds are written
pub record UsesPut (text signs : List ℕ) (count moved : ℕ) (object : List ℕ) (c : ℕ) (object' : List ℕ) (r : ℕ) : Type 0 where
  pub size : length object' ≡ length object
  pub done : (us : List Use) → count ≡ length us → UsesAt text signs 0 us → Puts object c (uses_words (move_uses (back moved) us)) object' r
