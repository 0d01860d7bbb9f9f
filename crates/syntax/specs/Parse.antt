-- "A program is sections, then `rules`, one rule or more, `end`, and no word after it."
use Rattle.std.specs.Prelude.{List, [], ◌∷◌, ℕ, zero, suc, ◌+◌, ◌-◌, min, ltb, length, if◌then◌else◌}
use Prim.Native.Char.{code}
use Rattle.syntax.specs.Actions.{actions}
use Rattle.syntax.specs.Reading.{Read, fault, Reader, ◌>>=◌, ◌>>◌, pure, refuse, on◌then◌else◌, expect, a_name, one_name, optional}
use Rattle.syntax.specs.Sections.{nothing, some_sections}
use Rattle.syntax.specs.Written.{Rule, Program}
use Rattle.words.specs.Words.{Word, words, last, twice, name, rules, end}

-- a rule, where `left` more may be declared
unfoldable pub a_rule : ℕ → ℕ → Reader Rule
a_rule k left = do
  w ← one_name left
  g ← optional twice a_name
  expect (code ":")
  b ← actions k 32
  e ← expect (code ";")
  pure (record { rule = w; gives = g; body = b; closing = e })

unfoldable pub some_rules : ℕ → ℕ → Reader (List Rule)
some_rules zero left ws = refuse ws
some_rules (suc k) left ws =
    (do
      r ← a_rule k left
      more ← on name then some_rules k (left - 1) else pure []
      pure (r ∷ more)) ws

-- "Limits: 128 rules"
unfoldable pub program : ℕ → Reader Program
program k = do
  s ← some_sections k nothing
  expect rules
  rs ← some_rules k (min 128 s.left)
  expect end
  expect last
  pure (record { sections = s.sections; rules = rs })

-- the empty part at the end of the text
unfoldable pub end_of : List ℕ → Word
end_of text = record { kind = last; start = length text; text = [] }

-- "Text over 32,768 bytes is 9 before all else"; "for over-long text .. it is the empty part at the end"
unfoldable pub parse : List ℕ → Read Program
parse text = let read = program (length text + 1) (words text) in if ltb 32768 (length text) then fault 9 (end_of text) else read

-- all of this file computes where this is unfolded
unfoldable pub opened : Unit {0}
unfolding a_rule some_rules program end_of parse
opened = tt
