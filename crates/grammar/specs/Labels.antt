-- "64 labels a choice": no choice of a tree as written has more, and every alternative has one.
use Rattle.std.specs.Prelude.{List, [], ◌∷◌, ℕ, ◌+◌, ◌<◌, ◌≤◌, length}
use Rattle.base.specs.Tree.{plain, cycle, choice, done, ◌▸◌, nil, alternative, absent, otherwise}
use Rattle.syntax.specs.Written.{Act, Acts, Alts, Other, Rule}

-- how many labels alternatives have
unfoldable pub labelled : Alts → ℕ
labelled nil = 0
labelled (alternative ls b q) = length ls + labelled q

unfoldable mutual
  pub Labelled : Act → Type 0
  Labelled (plain p) = Unit {0}
  Labelled (cycle b) = LabelledAll b
  Labelled (choice s q o) = (labelled q ≤ 64) × LabelledAlts q × LabelledOther o

  pub LabelledAll : Acts → Type 0
  LabelledAll done = Unit {0}
  LabelledAll (a ▸ q) = Labelled a × LabelledAll q

  pub LabelledAlts : Alts → Type 0
  LabelledAlts nil = Unit {0}
  LabelledAlts (alternative ls b q) = (0 < length ls) × LabelledAll b × LabelledAlts q

  pub LabelledOther : Other → Type 0
  LabelledOther absent = Unit {0}
  LabelledOther (otherwise b) = LabelledAll b

-- each rule's actions
unfoldable pub LabelledRules : List Rule → Type 0
LabelledRules [] = Unit {0}
LabelledRules (r ∷ rs) = LabelledAll r.body × LabelledRules rs

-- all of this file computes where this is unfolded
unfoldable pub opened : Unit {0}
unfolding labelled Labelled LabelledRules
opened = tt
