-- The pairs of a part: "calls to rules elsewhere left open", so one number each, behind those of the rules that it names.
use Rattle.std.specs.Prelude.{List, [], ◌∷◌, ◌≡◌, ℕ, suc}
use Rattle.declarations.specs.Decls.{Decl}
use Rattle.maker.specs.Pairs.{Pair, pairs_held, AllOrdered, pair_of}
use Rattle.names.specs.Uses.{Use}
use Rattle.symbols.specs.Rows.{held}

-- the first uses of the pairs, numbered from `own` on
unfoldable pub numbered : List Decl → ℕ → List Use → List Pair
numbered ds own [] = []
numbered ds own (u ∷ us) = pair_of ds own u ∷ numbered ds (suc own) us

-- the rows hold the pairs of these first uses, each of which is in order
pub record Numbered (text rows : List ℕ) (n own : ℕ) (us : List Use) : Type 0 where
  pub pairs : pairs_held rows ≡ numbered (held text rows n) own us
  pub ordered : AllOrdered (held text rows n) us

-- all of this file computes where this is unfolded
unfoldable pub opened : Unit {0}
unfolding numbered
opened = tt
