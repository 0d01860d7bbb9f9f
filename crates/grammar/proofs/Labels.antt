-- "64 labels a choice": what a derivation tells of the labels of a tree.
use mathlib.Core.List.{List}
use Prim.Native.Nat.{ℕ, ◌<◌, ◌≤◌}
use lib.ListN.{length}
use native.Mathlib.Omega.{arith}
use Rattle.grammar.specs.Derived.{LabelsIn, last_label, more_labels, ActIn, plain_in, cycle_in, choice_in, ActsIn, none_in, more_in, AltsIn, other_in, last_in, next_in, RuleIn, one_rule, RulesIn, last_rule, more_rules, ProgramIn, a_program}
use Rattle.grammar.specs.Labels.{labelled, Labelled, LabelledAll, LabelledAlts, LabelledOther, LabelledRules}
use Rattle.syntax.specs.Written.{Act, Acts, Alts, Other, Rule, Program}
use Rattle.words.specs.Words.{Word}

-- labels are one or more
some-label : {ws rest ls : List Word} → LabelsIn ws rest ls → 0 < length ls
some-label (last_label r n) = omega arith
some-label (more_labels r t m) = omega arith

mutual
  unfolding labelled Labelled

  pub act-labelled : {ws ws' : List Word} {a : Act} → ActIn ws ws' a → Labelled a
  act-labelled (plain_in t) = tt
  act-labelled (cycle_in t q u) = acts-labelled q
  act-labelled (choice_in t u v m) = let r = alts-labelled m in (omega (arith, r.0), r.1, r.2)

  pub acts-labelled : {ws ws' : List Word} {q : Acts} → ActsIn ws ws' q → LabelledAll q
  acts-labelled (none_in t d) = tt
  acts-labelled (more_in t x y) = (act-labelled x, acts-labelled y)

  -- the room begins at 64, and each label takes of it
  pub alts-labelled : {ws ws' : List Word} {room : ℕ} {q : Alts} {o : Other} → AltsIn ws ws' room q o → (labelled q ≤ room) × LabelledAlts q × LabelledOther o
  alts-labelled (other_in t u q v) = (omega arith, tt, acts-labelled q)
  alts-labelled (last_in l few t q u) = (omega arith, (some-label l, acts-labelled q, tt), tt)
  alts-labelled (next_in l few t x u m) = let r = alts-labelled m in (omega (arith, r.0), (some-label l, acts-labelled x, r.1), r.2)

rule-labelled : {ws ws' : List Word} {r : Rule} → RuleIn ws ws' r → LabelledAll r.body
rule-labelled (one_rule t g u b v) = acts-labelled b

pub rules-labelled : {ws ws' : List Word} {rs : List Rule} → RulesIn ws ws' rs → LabelledRules rs
unfolding LabelledRules
rules-labelled (last_rule r n) = (rule-labelled r, tt)
rules-labelled (more_rules r d m) = (rule-labelled r, rules-labelled m)

pub program-labelled : {ws : List Word} {p : Program} → ProgramIn ws p → LabelledRules p.rules
program-labelled (a_program s t r d n m) = rules-labelled r
