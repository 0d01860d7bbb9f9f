-- What the syntax pass leaves of a program as written: values and instruction numbers in range, labels where a default needs one.
use mathlib.Core.List.{List, [], ◌∷◌}
use Prim.Native.Nat.{◌+◌, ◌<◌, ◌≤◌}
use Rattle.base.specs.Common.{given}
use Rattle.base.specs.Tree.{plain, cycle, choice, done, ◌▸◌, nil, alternative, absent, otherwise}
use Rattle.syntax.specs.Sections.{first_of}
use Rattle.syntax.specs.Written.{Act, Acts, Alts, Other, Choices, Entry, Operation, Operator, Section, inputs, outputs, both, errors, values, operations, operators, Program}

-- each of a list
unfoldable pub Each : {A : Type 0} → (A → Type 0) → List A → Type 0
Each P [] = Unit {0}
Each P (a ∷ as') = P a × Each P as'

-- there is a first label, or otherwise
unfoldable pub Defaulted : Other → Alts → Type 0
Defaulted absent nil = ⊥
Defaulted absent (alternative [] b q) = ⊥
Defaulted absent (alternative (w ∷ ws) b q) = Unit {0}
Defaulted (otherwise b) q = Unit {0}

unfoldable mutual
  pub Shaped : Act → Type 0
  Shaped (plain p) = Unit {0}
  Shaped (cycle b) = ShapedAll b
  Shaped (choice s q o) = ShapedAlts q × ShapedOther o × Defaulted o q

  pub ShapedAll : Acts → Type 0
  ShapedAll done = Unit {0}
  ShapedAll (a ▸ q) = Shaped a × ShapedAll q

  pub ShapedAlts : Alts → Type 0
  ShapedAlts nil = Unit {0}
  ShapedAlts (alternative ls b q) = ShapedAll b × ShapedAlts q

  pub ShapedOther : Other → Type 0
  ShapedOther absent = Unit {0}
  ShapedOther (otherwise b) = ShapedAll b

pub record ShapedChoices (c : Choices) : Type 0 where
  pub labelled : ShapedAlts c.labelled
  pub default : ShapedOther c.default
  pub defaulted : Defaulted c.default c.labelled

unfoldable pub NotEmpty : {A : Type 0} → List A → Type 0
NotEmpty [] = ⊥
NotEmpty (a ∷ as') = Unit {0}

abbrev pub InRange : Entry → Type 0
InRange e = e.value < 65536

-- the instruction number is of the operation's kind
pub record OfKind (o : Operation) : Type 0 where
  pub low : first_of (given o.takes) (given o.gives) ≤ o.instruction
  pub high : o.instruction < first_of (given o.takes) (given o.gives) + 256

-- "level 1 to 15"
abbrev pub Ranked : Operator → Type 0
Ranked o = (1 ≤ o.level) × (o.level ≤ 15)

unfoldable pub SectionOk : Section → Type 0
SectionOk (inputs es) = Each InRange es
SectionOk (outputs es) = Each InRange es
SectionOk (both es) = Each InRange es
SectionOk (errors es) = Each InRange es
SectionOk (values w es) = Each InRange es
SectionOk (operations os) = Each OfKind os
SectionOk (operators w os) = NotEmpty os × Each Ranked os

pub record WrittenOk (p : Program) : Type 0 where
  pub sections : Each SectionOk p.sections
  pub rules : Each (λ r. ShapedAll r.body) p.rules
  pub some_rule : NotEmpty p.rules
