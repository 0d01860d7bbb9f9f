-- "6 label repeated": no value stands twice among all labels of a choice's alternatives, in any choice of any rule, at any depth.
use Rattle.std.specs.Prelude.{Bool, true, ◌&&◌, not, List, [], ◌∷◌, ◌++◌, ℕ}
use Rattle.base.specs.Common.{member}
use Rattle.base.specs.Tree.{plain, cycle, choice, done, ◌▸◌, nil, alternative, absent, otherwise}
use Rattle.program.specs.Program.{Act, Acts, Alts, Other, Rule}

-- no value stands twice in the list
unfoldable pub once : List ℕ → Bool
once [] = true
once (v ∷ vs) = not (member v vs) && once vs

-- the labels of a choice's alternatives, in text order
unfoldable pub labels_in : Alts → List ℕ
labels_in nil = []
labels_in (alternative ls b q) = ls ++ labels_in q

unfoldable mutual
  pub distinct : Act → Bool
  distinct (plain p) = true
  distinct (cycle b) = distinct_all b
  distinct (choice s q o) = once (labels_in q) && distinct_some q && distinct_other o

  pub distinct_all : Acts → Bool
  distinct_all done = true
  distinct_all (a ▸ q) = distinct a && distinct_all q

  pub distinct_some : Alts → Bool
  distinct_some nil = true
  distinct_some (alternative ls b q) = distinct_all b && distinct_some q

  pub distinct_other : Other → Bool
  distinct_other absent = true
  distinct_other (otherwise b) = distinct_all b

-- of every rule, those made for operators among them
unfoldable pub distinct_labels : List Rule → Bool
distinct_labels [] = true
distinct_labels (r ∷ rs) = distinct_all r.body && distinct_labels rs

-- all of this file computes where this is unfolded
unfoldable pub opened : Unit {0}
unfolding once labels_in distinct distinct_labels
opened = tt
