-- What the code says of words that it reads by places: the place behind what is taken from a place on, or none, where it is not there.
use Rattle.std.specs.Prelude.{◌≡◌, List, [], ◌∷◌, ℕ, zero, suc, ◌+◌, ◌*◌, ◌<◌, ◌≤◌, Option, IsNone, IsSomeAnd, length, get_or, take, drop}
use Rattle.base.specs.Common.{given}
use Rattle.declarations.specs.Decls.{index_of}
use Rattle.names.specs.Known.{Names, find_operators}
use Rattle.symbols.specs.Rows.{held}
use Rattle.syntax.specs.Texts.{Head}
use Rattle.objects.specs.Take.{Taken, took, missing, Taker, times}
use Rattle.objects.specs.View.{Name, View, a_pair, a_rule}

unfoldable pub EndsAt : {A : Type 0} → List ℕ → Taken A → Option ℕ → Type 0
EndsAt words (took a rest) r = IsSomeAnd r (λ p. (rest ≡ drop p words) × (p ≤ length words))
EndsAt words missing r = IsNone r

-- m, from the place `at` on, ends at r
pub record Ends {A : Type 0} (m : Taker A) (words : List ℕ) (at : ℕ) (r : Option ℕ) : Type 0 where
  pub is : EndsAt words (m (drop at words)) r

-- the name of the list's line i
unfoldable pub text_at : List Head → ℕ → List ℕ
text_at [] i = []
text_at (h ∷ hs) zero = h.rule.text
text_at (h ∷ hs) (suc i) = text_at hs i

-- the name of its type
unfoldable pub type_at : List Head → ℕ → List ℕ
type_at [] i = []
type_at (h ∷ hs) zero = h.gives.text
type_at (h ∷ hs) (suc i) = type_at hs i

-- a name stands at the place p: its length behind its start, then its bytes
pub record NameAt (words : List ℕ) (p : ℕ) (n : Name) : Type 0 where
  pub there : p + 2 + length n.text ≤ length words
  pub size : get_or words (p + 1) 0 ≡ length n.text
  pub bytes : (k : ℕ) → k < length n.text → get_or words (p + 2 + k) 0 ≡ get_or n.text k 0

-- the list of a common part as numbers that a caller lends, four a name: where it starts and its length, and the same of its type
pub record HeadsAt (common heads : List ℕ) (hs : List Head) : Type 0 where
  pub as_many : length heads ≡ 4 * length hs
  pub inside : (i : ℕ) → i < length hs → get_or heads (4 * i) 0 + get_or heads (4 * i + 1) 0 ≤ length common
  pub names : (i : ℕ) → i < length hs → text_at hs i ≡ take (get_or heads (4 * i + 1) 0) (drop (get_or heads (4 * i) 0) common)
  pub types_inside : (i : ℕ) → i < length hs → get_or heads (4 * i + 2) 0 + get_or heads (4 * i + 3) 0 ≤ length common
  pub types : (i : ℕ) → i < length hs → type_at hs i ≡ take (get_or heads (4 * i + 3) 0) (drop (get_or heads (4 * i + 2) 0) common)

-- the sections of operators of a common part are those among the declarations that a caller lends as rows
pub record SectionsAt (text rows : List ℕ) (count : ℕ) (n : Names) : Type 0 where
  pub sections : (w : List ℕ) → given (find_operators w n.operators) ≡ given (index_of 600 w 0 (held text rows count))

-- the pairs and the rules of a view, as many as are said, each from its place on
pub record PartsAt (words : List ℕ) (pairs pair_count rules rule_count : ℕ) (v : View) : Type 0 where
  pub between : List ℕ
  pub behind : List ℕ
  pub pairs_there : times pair_count a_pair (drop pairs words) ≡ took v.pairs between
  pub rules_there : times rule_count a_rule (drop rules words) ≡ took v.rules behind

-- all of this file computes where this is unfolded
unfoldable pub opened : Unit {0}
unfolding EndsAt text_at type_at
opened = tt
