-- The pairs of section and operand rule that a text uses, as they stand in the rows behind the index: 5632 their number, then three numbers a pair from 5633 on.
use Rattle.std.specs.Prelude.{◌&&◌, List, [], ◌∷◌, ◌≡◌, ℕ, zero, suc, ◌+◌, ◌*◌, eqb, length, get_or, if◌then◌else◌}
use Rattle.std.proofs.Math.Option.{Option, none, some}
use Rattle.declarations.specs.Decls.{Decl, index_of}
use Rattle.names.specs.Known.{Names}
use Rattle.names.specs.Uses.{Use, levels_used, pairs_of}
use Rattle.symbols.specs.Rows.{held, number_of}
use Rattle.syntax.specs.Written.{Program}

-- the section's declaration, the operand rule's declaration, the place of the lowest rule made
pub record Pair : Type 0 where
  pub section : ℕ
  pub operand : ℕ
  pub lowest : ℕ

unfoldable pub pair_at : List ℕ → ℕ → Pair
pair_at rows j = record { section = get_or rows (5633 + 3 * j) 0; operand = get_or rows (5634 + 3 * j) 0; lowest = get_or rows (5635 + 3 * j) 0 }

-- k pairs from the j-th on
unfoldable pub pairs_from : List ℕ → ℕ → ℕ → List Pair
pairs_from rows j zero = []
pairs_from rows j (suc k) = pair_at rows j ∷ pairs_from rows (suc j) k

unfoldable pub pairs_held : List ℕ → List Pair
pairs_held rows = pairs_from rows 0 (get_or rows 5632 0)

-- the lowest rule of the pair of these two declarations
unfoldable pub look_pair : ℕ → ℕ → List Pair → Option ℕ
look_pair s o [] = none
look_pair s o (q ∷ qs) = let later = look_pair s o qs in if eqb q.section s && eqb q.operand o then some q.lowest else later

-- 0 where there is no such pair
unfoldable pub lowest_in : ℕ → ℕ → List Pair → ℕ
lowest_in s o qs = elim (look_pair s o qs) [ some v ↦ v | none ↦ 0 ]

-- A use by the row

unfoldable pub section_row : List Decl → Use → ℕ
section_row ds u = number_of (index_of 600 u.section.text 0 ds)

unfoldable pub operand_row : List Decl → Use → ℕ
operand_row ds u = number_of (index_of 7 u.operand.text 0 ds)

-- there is such a section, and such a rule
pub record Ordered (ds : List Decl) (u : Use) : Type 0 where
  pub section : index_of 600 u.section.text 0 ds ≡ some (section_row ds u)
  pub operand : index_of 7 u.operand.text 0 ds ≡ some (operand_row ds u)

unfoldable pub AllOrdered : List Decl → List Use → Type 0
AllOrdered ds [] = Unit {0}
AllOrdered ds (u ∷ us) = Ordered ds u × AllOrdered ds us

abbrev pub pair_of : List Decl → ℕ → Use → Pair
pair_of ds own u = record { section = section_row ds u; operand = operand_row ds u; lowest = own }

-- the first uses of the pairs, whose rules stand from the place `own` on
unfoldable pub pairs_mean : Names → List Decl → ℕ → List Use → List Pair
pairs_mean n ds own [] = []
pairs_mean n ds own (u ∷ us) = pair_of ds own u ∷ pairs_mean n ds (own + length (levels_used n u)) us

-- the rows hold the pairs of the text, each of whose uses is in order
pub record PairsAre (text rows : List ℕ) (n : ℕ) (p : Program) (names : Names) : Type 0 where
  pub pairs : pairs_held rows ≡ pairs_mean names (held text rows n) (length p.rules) (pairs_of p.rules)
  pub ordered : AllOrdered (held text rows n) (pairs_of p.rules)

-- all of this file computes where this is unfolded
unfoldable pub opened : Unit {0}
unfolding pair_at pairs_from pairs_held look_pair lowest_in section_row operand_row AllOrdered pairs_mean
opened = tt
