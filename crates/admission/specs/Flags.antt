-- What the functions of admission compute, by the flags of `loader::reach`.
use Rattle.std.specs.Prelude.{Bool, ◌&&◌, not, List, ◌≡◌, ℕ, suc, ◌-◌, ◌<◌, ◌≤◌, eqb, length, get_or}
use Rattle.base.specs.Common.{member}
use Rattle.loading.specs.Taking.{reached}
use Rattle.rights.specs.Rights.{right}

-- an operation at l is reached and not granted
unfoldable pub wrong_at : List ℕ → List ℕ → ℕ → Bool
wrong_at T set l = member l (reached T) && not (right T set l)

-- the flag of location l is right
pub record Flagged (T seen : List ℕ) (l : ℕ) : Type 0 where
  pub first : 1 ≤ l
  pub last : l ≤ length T
  pub row : length seen ≡ 4096
  pub small : length T ≤ 4096
  pub flag : eqb (get_or seen (l - 1) 0) 0 ≡ not (member l (reached T))

pub record AllFlagged (T seen : List ℕ) (size : ℕ) : Type 0 where
  pub size_is : size ≡ length T
  pub row : length seen ≡ 4096
  pub small : length T ≤ 4096
  pub flags : (i : ℕ) → i < length T → eqb (get_or seen i 0) 0 ≡ not (member (suc i) (reached T))

-- all of this file computes where this is unfolded
unfoldable pub opened : Unit {0}
unfolding wrong_at
opened = tt
