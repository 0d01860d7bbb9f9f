-- A rule made is named by the first use of its pair: where that stands in the text.
use Rattle.std.specs.Prelude.{Bool, false, ◌&&◌, List, [], ◌∷◌, ◌≡◌, ℕ, ◌+◌, ◌-◌, ◌≤◌, eqb, length, if◌then◌else◌}
use Rattle.std.proofs.Math.Option.{Option, none, some}
use Rattle.declarations.specs.Decls.{Decl}
use Rattle.levels.specs.declared.FirstUse.{FirstUse}
use Rattle.levels.specs.declared.Part.{Part}
use Rattle.maker.specs.Marks.{use_of, marks}
use Rattle.maker.specs.Pairing.{AllNamed}
use Rattle.maker.specs.Pairs.{section_row, operand_row, Ordered, AllOrdered}
use Rattle.names.specs.Uses.{Use}
use Rattle.scanner.specs.Next.{as_word}
use Rattle.scanner.specs.declared.WordAt.{WordAt}
use Rattle.symbols.specs.Rows.{held}
use Rattle.words.specs.Words.{words_at}

-- the use is of the pair of these declarations
unfoldable pub is_of : List Decl → ℕ → ℕ → Use → Bool
is_of ds s o u = eqb (section_row ds u) s && eqb (operand_row ds u) o

unfoldable pub first_use : List Decl → ℕ → ℕ → List Use → Option Use
first_use ds s o [] = none
first_use ds s o (u ∷ us) = let later = first_use ds s o us in if is_of ds s o u then some u else later

-- the uses behind it
unfoldable pub behind_first : List Decl → ℕ → ℕ → List Use → List Use
behind_first ds s o [] = []
behind_first ds s o (u ∷ us) = let later = behind_first ds s o us in if is_of ds s o u then us else later

-- the first of us is the first of its pair among `all`, and each later one among those behind the one before it
unfoldable pub AllFirst : List Decl → List Use → List Use → Type 0
AllFirst ds all [] = Unit {0}
AllFirst ds all (u ∷ us) = (first_use ds (section_row ds u) (operand_row ds u) all ≡ some u) × AllFirst ds (behind_first ds (section_row ds u) (operand_row ds u) all) us

-- from the use's `^` to the end of the operand rule's name
pub record Names (u : Use) (r : Part) : Type 0 where
  pub start : r.start ≡ u.sign.start
  pub len : r.len ≡ u.operand.start + length u.operand.text - u.sign.start

-- the word w begins a use of the pair
pub record WordOf (text rows : List ℕ) (n : ℕ) (w : WordAt) (s o : ℕ) (r : Bool) : Type 0 where
  pub other : (w.kind ≡ 94 → ⊥) → r ≡ false
  pub caret : w.kind ≡ 94 → (use_of (as_word text w) (words_at text w.next)).operand.kind ≡ 257 → Ordered (held text rows n) (use_of (as_word text w) (words_at text w.next))
      → r ≡ is_of (held text rows n) s o (use_of (as_word text w) (words_at text w.next))

-- the use u, with the uses `later` behind it
pub record Found (text : List ℕ) (u : Use) (later : List Use) (r : FirstUse) : Type 0 where
  pub names : Names u r.name
  pub behind : marks (words_at text r.next) ≡ later

-- the first use of the pair, from the place `at` on
pub record FirstDone (text rows : List ℕ) (n at s o : ℕ) (r : FirstUse) : Type 0 where
  pub inside : r.next ≤ length text
  pub found : AllNamed (marks (words_at text at)) → AllOrdered (held text rows n) (marks (words_at text at)) → (u : Use) → first_use (held text rows n) s o (marks (words_at text at)) ≡ some u
      → Found text u (behind_first (held text rows n) s o (marks (words_at text at))) r

-- all of this file computes where this is unfolded
unfoldable pub opened : Unit {0}
unfolding is_of first_use behind_first AllFirst
opened = tt
