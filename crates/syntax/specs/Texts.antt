-- The common part and a further part as texts: "Sections go in one common part, then `rules`, `NAME >> type;` for every choice rule ..,
-- `end`; rules go, between `rules` and `end`, in up to 16 further parts". Faults 1, 2 and 9 of each.
use Rattle.std.specs.Prelude.{Bool, List, [], ◌∷◌, ℕ, zero, suc, ◌+◌, ◌-◌, min, ltb, length}
use Prim.Native.Char.{code}
use Rattle.syntax.specs.Parse.{some_rules}
use Rattle.syntax.specs.Reading.{Read, Reader, ◌>>=◌, ◌>>◌, pure, refuse, on◌then◌else◌, expect, a_name, one_name}
use Rattle.syntax.specs.Sections.{nothing, some_sections}
use Rattle.syntax.specs.Written.{Section, Rule}
use Rattle.words.specs.Words.{Word, words, last, twice, name, rules, end}

-- a line of the list: a choice rule and its type
pub record Head : Type 0 where
  pub rule : Word
  pub gives : Word

pub record Common : Type 0 where
  pub sections : List Section
  pub left : ℕ  -- names that the sections leave for the rules
  pub listed : List Head

unfoldable pub a_head : ℕ → Reader Head
a_head left = do
  w ← one_name left
  expect twice
  g ← a_name
  expect (code ";")
  pure (record { rule = w; gives = g })

-- there may be no choice rule at all
unfoldable pub some_heads : ℕ → ℕ → Reader (List Head)
some_heads zero left ws = refuse ws
some_heads (suc k) left ws =
    (on name then (do
      h ← a_head left
      more ← some_heads k (left - 1)
      pure (h ∷ more))
    else pure []) ws

unfoldable pub a_common : ℕ → Reader Common
a_common k = do
  s ← some_sections k nothing
  expect rules
  hs ← some_heads k (min 128 s.left)
  expect end
  expect last
  pure (record { sections = s.sections; left = s.left; listed = hs })

-- a further part, where `left` names may be declared: "one rule or more", as in the base
unfoldable pub a_part : ℕ → ℕ → Reader (List Rule)
a_part k left = do
  expect rules
  rs ← some_rules k (min 128 left)
  expect end
  expect last
  pure rs

-- "The byte limit counts for each part"
unfoldable pub too_long : List ℕ → Bool
too_long text = ltb 32768 (length text)

unfoldable pub read_common : List ℕ → Read Common
read_common text = a_common (length text + 1) (words text)

unfoldable pub read_part : ℕ → List ℕ → Read (List Rule)
read_part left text = a_part (length text + 1) left (words text)

-- all of this file computes where this is unfolded
unfoldable pub opened : Unit {0}
unfolding a_head some_heads a_common a_part too_long read_common read_part
opened = tt
