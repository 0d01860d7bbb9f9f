-- What a search asks of one declaration of the row, and what its answer tells.
use Rattle.std.specs.Prelude.{Bool, ◌&&◌, ◌||◌, not, List, ◌≡◌, ℕ, ◌<◌, eqb, take, drop}
use Rattle.std.proofs.Math.Option.{Option, none, some}
use Rattle.base.specs.Common.{same}
use Rattle.declarations.specs.Decls.{Decl, feeds}
use Rattle.names.specs.Known.{is_word}

-- a part of the text, cut at the text's end
abbrev pub part : List ℕ → ℕ → ℕ → List ℕ
part text start len = take len (drop start text)

-- a declaration of class d feeds the class c
unfoldable pub serves : ℕ → ℕ → Bool
serves c d = eqb d c || (eqb d 3 && (eqb c 1 || eqb c 2))

-- w is its name or its string, in the class c
unfoldable pub knows : ℕ → List ℕ → Decl → Bool
knows c w d = feeds c d && (same w d.name.text || is_word w d.second)

-- w is its name, and c its class
unfoldable pub named : ℕ → List ℕ → Decl → Bool
named c w d = eqb d.class c && same w d.name.text

-- w is declared by it
unfoldable pub declares : List ℕ → Decl → Bool
declares w d = same w d.name.text || (not (eqb d.class 6) && is_word w d.second)

-- a declaration of class d and value u has the value v in the class c
unfoldable pub counts : ℕ → ℕ → ℕ → ℕ → Bool
counts c v d u = serves c d && eqb v u

-- the answer of a search: the number that is there, below 65,536, or 65,536
pub data Tells (r : ℕ) : Option ℕ → Type 0 where
  there : {v : ℕ} → r ≡ v → v < 65536 → Tells r (some v)
  nowhere : r ≡ 65536 → Tells r none

-- all of this file computes where this is unfolded
unfoldable pub opened : Unit {0}
unfolding serves knows named declares counts
opened = tt
