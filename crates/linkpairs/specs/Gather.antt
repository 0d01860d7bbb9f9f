-- The pairs of section and operand rule in one pass over uses, as the code goes: each use is of a pair that stands there, or is the first of its pair.
use Rattle.std.specs.Prelude.{List, [], ◌∷◌, ◌++◌, ℕ, suc, ◌+◌, length, if◌then◌else◌}
use Rattle.names.specs.Known.{Names}
use Rattle.names.specs.Uses.{Use, same_pair, is_used, levels_used}
use Rattle.parts.specs.Link.{passes}

-- all pairs, and how many rules there are with those made for them; or the first use of the pair whose rules pass a limit
pub data Gathered : Type 0 where
  gathered : ℕ → List Use → Gathered
  past : Use → Gathered

module _ (n : Names) (others : ℕ) where
  -- behind `own` rules and the pairs `seen`
  unfoldable pub gather : ℕ → List Use → List Use → Gathered
  gather own seen [] = gathered own seen
  gather own seen (u ∷ us) =
      let again = gather own seen us in
      let first = gather (own + length (levels_used n u)) (seen ++ (u ∷ [])) us in
      if is_used u seen then again else if passes others own (levels_used n u) then past u else first

-- the number of the first pair that is that of u; where none is, how many they are
unfoldable pub index_of : Use → List Use → ℕ
index_of u [] = 0
index_of u (v ∷ vs) = let later = suc (index_of u vs) in if same_pair u v then 0 else later

-- all of this file computes where this is unfolded
unfoldable pub opened : Unit {0}
unfolding gather index_of
opened = tt
