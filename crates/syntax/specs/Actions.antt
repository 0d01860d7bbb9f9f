-- Actions, cycles and choices. A reader that calls itself has its fuel first: the bytes of the text are enough, since each call has read
-- a word. `left` is how many more cycles and choices may be entered.
use Rattle.std.specs.Prelude.{Bool, ◌||◌, List, [], ◌∷◌, ℕ, zero, suc, ◌-◌, eqb, length, if◌then◌else◌}
use Rattle.std.proofs.Math.Option.{Option, none, some}
use Prim.Native.Char.{code}
use Rattle.base.specs.Tree.{plain, cycle, choice, done, ◌▸◌, nil, alternative, absent, otherwise}
use Rattle.syntax.specs.Reading.{Reader, ◌>>=◌, ◌>>◌, pure, peek, pass, refuse, within, on◌then◌else◌, expect, short, a_name, name_or_string}
use Rattle.syntax.specs.Written.{Constant, Plain, named, any, exit, emit, error, call, give, ranked, Selector, by_token, by_rule, by_operation, Act, Acts, Choices}
use Rattle.words.specs.Words.{Word, twice, name, string}

-- "with its constant in parentheses", where there is one
unfoldable pub a_constant : Reader (Option Constant)
a_constant =
    on code "(" then (do
      paren ← pass
      c ← name_or_string
      expect (code ")")
      pure (some (record { paren = paren; constant = c })))
    else pure none

-- "after `>>` a name or string always belongs to it" (R4)
unfoldable pub a_value : Reader (Option Word)
a_value =
    on name then (do v ← a_name; pure (some v))
    else on string then (do v ← pass; pure (some v))
    else pure none

-- "`^NAME @rule`": after the `^`
unfoldable pub a_ranked : Word → Reader Plain
a_ranked s = do w ← a_name; expect (code "@"); r ← a_name; pure (ranked s w r)

-- "Actions: match a token; `?`; `.token`; `#error`; .. `>` ..; `@rule`; `>>`; an update operation, with its constant"; "`^NAME @rule`"
unfoldable pub a_plain : Reader Plain
a_plain =
    on name then (do w ← a_name; c ← a_constant; pure (named w c))
    else on string then (do w ← pass; c ← a_constant; pure (named w c))
    else on code "?" then (do w ← pass; pure (any w))
    else on code "." then (do pass; w ← name_or_string; pure (emit w))
    else on code "#" then (do pass; w ← name_or_string; pure (error w))
    else on code ">" then (do w ← pass; pure (exit w))
    else on code "@" then (do pass; w ← a_name; pure (call w))
    else on twice then (do w ← pass; v ← a_value; pure (give w v))
    else on code "^" then (do s ← pass; a_ranked s)
    else refuse

-- "A choice has a selector (none, `@choice rule`, or a choice operation with its constant if it has a parameter)"
unfoldable pub a_selector : Reader Selector
a_selector =
    on code "@" then (do pass; w ← a_name; pure (by_rule w))
    else on name then (do w ← a_name; c ← a_constant; pure (by_operation w c))
    else pure by_token

-- "64 labels a choice": a label where `room` more may stand
unfoldable pub a_label : ℕ → Reader Word
a_label room = on string then within room pass else on name then within room short else refuse

-- "`| label, label: actions`": a label and those after it
unfoldable pub some_labels : ℕ → ℕ → Reader (List Word)
some_labels zero room ws = refuse ws
some_labels (suc k) room ws =
    (do
      w ← a_label room
      more ← on code "," then (do pass; some_labels k (room - 1)) else pure []
      pure (w ∷ more)) ws

-- the word before which a list of actions ends: `;`, `}`, `]` or `|`
unfoldable pub closes : ℕ → Bool
closes k = eqb k (code ";") || eqb k (code "}") || eqb k (code "]") || eqb k (code "|")

-- the rest of a cycle, after its `{`
unfoldable pub a_cycle : Reader Acts → Reader Act
a_cycle inner = do b ← inner; expect (code "}"); pure (cycle b)

-- the rest of a choice, after its `[`: "one alternative or more"
unfoldable pub a_choice : Reader Choices → Reader Act
a_choice choices = do s ← a_selector; expect (code "|"); c ← choices; pure (choice s c.labelled c.default)

-- one action: "cycles and choices again, at most 32 deep"
unfoldable pub an_action : (ℕ → Reader Acts) → (ℕ → Reader Choices) → ℕ → Reader Act
an_action inner choices left =
    on code "{" then within left (do pass; a_cycle (inner (left - 1)))
    else on code "[" then within left (do pass; a_choice (choices (left - 1)))
    else (do p ← a_plain; pure (plain p))

-- the rest of otherwise, after its `*`: "alone, in the last place"
unfoldable pub an_otherwise : Reader Acts → Reader Choices
an_otherwise inner = do expect (code ":"); b ← inner; expect (code "]"); pure (record { labelled = nil; default = otherwise b })

-- one labelled alternative, after its `|`, and what follows it, given how many labels may still stand
unfoldable pub an_alternative : ℕ → ℕ → Reader Acts → (ℕ → Reader Choices) → Reader Choices
an_alternative k room inner more = do
  ls ← some_labels k room
  expect (code ":")
  b ← inner
  c ← on code "|" then (do pass; more (room - length ls)) else (do expect (code "]"); pure (record { labelled = nil; default = absent }))
  pure (record { labelled = alternative ls b c.labelled; default = c.default })

unfoldable mutual
  -- actions up to a word that closes them
  pub actions : ℕ → ℕ → Reader Acts
  actions zero left ws = refuse ws
  actions (suc k) left ws =
      (if closes (peek ws).kind then pure done
      else do
        a ← an_action (λ l ws. actions k l ws) (λ l ws. alternatives k l 64 ws) left
        q ← actions k left
        pure (a ▸ q)) ws

  -- alternatives after a `|`, in a choice where `room` more labels may stand
  pub alternatives : ℕ → ℕ → ℕ → Reader Choices
  alternatives zero left room ws = refuse ws
  alternatives (suc k) left room ws =
      (on code "*" then (do pass; an_otherwise (λ ws. actions k left ws))
      else an_alternative k room (λ ws. actions k left ws) (λ n ws. alternatives k left n ws)) ws

-- all of this file computes where this is unfolded
unfoldable pub opened : Unit {0}
unfolding a_constant a_value a_ranked a_plain a_selector a_label some_labels closes a_cycle a_choice an_action an_otherwise an_alternative actions
opened = tt
