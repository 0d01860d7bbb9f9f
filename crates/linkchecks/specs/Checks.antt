-- What a check of linking answers: the word that it shows and its text, or nothing.
use Rattle.std.specs.Prelude as code
use Rattle.std.specs.Prelude.{List, [], ◌∷◌, ◌≡◌, ℕ, zero, suc, IsNone, IsSomeAnd, length}
use Rattle.std.proofs.Math.Option.{Option, none, some}
use Rattle.objects.specs.View.{Name, name_of}
use Rattle.parts.specs.Link as link
use Rattle.parts.specs.Objects.{OpenRule}
use Rattle.linkchecks.specs.Row.{Shown}
use Rattle.linkchecks.specs.declared.Found.{Found}

pub record IsAt (text start size : ℕ) (r : Found) : Type 0 where
  pub text_is : r.text ≡ text
  pub start_is : r.start ≡ start
  pub len_is : r.len ≡ size

unfoldable pub Finds : Option link.Found → code.Option Found → Type 0
Finds none r = IsNone r
Finds (some f) r = IsSomeAnd r (IsAt f.text f.word.start (length f.word.text))

-- the same of a name
unfoldable pub Shows : Option Shown → code.Option Found → Type 0
Shows none r = IsNone r
Shows (some s) r = IsSomeAnd r (IsAt s.text s.name.start (length s.name.text))

-- the name of the rule at k
unfoldable pub name_at : List OpenRule → ℕ → Name
name_at [] k = record { start = 0; text = [] }
name_at (r ∷ rs) zero = name_of r.name
name_at (r ∷ rs) (suc k) = name_at rs k

-- all of this file computes where this is unfolded
unfoldable pub opened : Unit {0}
unfolding Finds Shows name_at
opened = tt
