-- From what the author wrote to what it means, in text order. Faults 3, 5, 6, 7 and 8; "by the first word in the text": the first fault met
-- in text order is the one given, and of two at one word the lower is tested first.
use Rattle.std.specs.Prelude.{Bool, true, List, [], ◌∷◌, ◌++◌, ℕ, length, if◌then◌else◌}
use Rattle.std.proofs.Math.Option.{Option, none, some}
use Rattle.base.specs.Common.{member, given}
use Rattle.base.specs.Tree.{plain, cycle, choice, done, ◌▸◌, nil, alternative, absent, otherwise}
use Rattle.names.specs.Known.{Checked, good, wrong, ◌>>=◌, fault_if, Known, KnownOperation, KnownRule, Names, find, find_type, find_operation, find_operators, find_rule, elsewhere, lookup}
use Rattle.names.specs.Uses.{lowest_of, pairs_of}
use Rattle.program.specs.Program as means
use Rattle.syntax.specs.Written as written
use Rattle.syntax.specs.Written.{Constant, Program}
use Rattle.words.specs.Words.{Word}

-- where an action stands: in a cycle or not, and the members of the type that its rule gives
pub record Place : Type 0 where
  pub inside : Bool
  pub gives : Option (List Known)

unfoldable pub within : Place → Place
within at = record { inside = true; gives = at.gives }

-- what a choice goes by, and the class of its labels
pub record Chooses : Type 0 where
  pub by : means.Selector
  pub labels : List Known

-- an operation with its parameter, if it has one
abbrev pub updating : ℕ → Option ℕ → means.Plain
updating op none = means.update op
updating op (some v) = means.update_with op v

abbrev pub choosing : ℕ → Option ℕ → means.Selector
choosing op none = means.by_operation op
choosing op (some v) = means.by_operation_with op v

module _ (p : Program) (n : Names) (rules : List KnownRule) where
  -- an operation of the name
  unfoldable pub operation_of : Word → Checked KnownOperation
  operation_of w = elim (find_operation w.text n.operations) [ some o ↦ good o | none ↦ elsewhere p w ]

  -- a rule of the name; "A name declared twice keeps its first meaning" (R10), so not where an operation has it
  unfoldable pub rule_named : Word → Checked KnownRule
  rule_named w =
      if given (find_operation w.text n.operations) then wrong 5 w
      else elim (find_rule w.text rules) [ some r ↦ good r | none ↦ elsewhere p w ]

  -- the operation's parameter: "parameter missing (at the name) or extra (at the `(`, ..)"
  unfoldable pub parameter_of : Word → Option (List Known) → Option Constant → Checked (Option ℕ)
  parameter_of w none none = good none
  parameter_of w none (some c) = wrong 5 c.paren
  parameter_of w (some ks) none = wrong 5 w
  parameter_of w (some ks) (some c) = do
    v ← lookup p ks c.constant
    good (some v)

  -- an update operation with its constant: "wrong sort of .. operation"
  unfoldable pub update_of : Word → Option Constant → Checked means.Plain
  update_of w c = do
    o ← operation_of w
    _ ← fault_if (given o.gives) 5 w
    v ← parameter_of w o.takes c
    good (updating o.instruction v)

  -- a token to match: a constant after it is extra
  unfoldable pub match_of : ℕ → Option Constant → Checked means.Plain
  match_of v none = good (means.match v)
  match_of v (some c) = wrong 5 c.paren

  -- "`>>` without a value in one, or a name or string after `>>` in a procedure rule"
  unfoldable pub give_of : Option (List Known) → Word → Option Word → Checked means.Plain
  give_of none w none = good means.back
  give_of none w (some v) = wrong 8 v
  give_of (some ks) w none = wrong 8 w
  give_of (some ks) w (some v) = do
    x ← lookup p ks v
    good (means.give x)

  -- "`^NAME @rule`": the section, then the operand rule, "a procedure rule"; "The action is a call of the lowest."
  unfoldable pub ranked_of : Word → Word → Word → Checked means.Plain
  ranked_of s w o =
      elim (find_operators w.text n.operators) [
        | none ↦ elsewhere p w
        | some ls ↦ do
          r ← rule_named o
          _ ← fault_if (given r.gives) 5 o
          good (means.call (lowest_of n (record { sign = s; section = w; operand = o }) (length p.rules) (pairs_of p.rules)))
      ]

  unfoldable pub plain_of : Place → written.Plain → Checked means.Plain
  plain_of at (written.named w c) = elim (find w.text n.inputs) [ some v ↦ match_of v c | none ↦ update_of w c ]
  plain_of at (written.any w) = good means.any
  plain_of at (written.exit w) = if at.inside then good means.exit else wrong 7 w
  plain_of at (written.emit w) = do
    v ← lookup p n.outputs w
    good (means.emit v)
  plain_of at (written.error w) = do
    v ← lookup p n.errors w
    good (means.error v)
  plain_of at (written.call w) = do
    r ← rule_named w
    _ ← fault_if (given r.gives) 5 w
    good (means.call r.place)
  plain_of at (written.give w v) = give_of at.gives w v
  plain_of at (written.ranked s w o) = ranked_of s w o

  -- the members of a type; one that is not declared has none (R6)
  unfoldable pub members_of : List ℕ → List Known
  members_of t = elim (find_type t n.types) [ some ks ↦ ks | none ↦ [] ]

  -- "wrong sort of rule or operation"
  unfoldable pub selector_of : written.Selector → Checked Chooses
  selector_of written.by_token = good (record { by = means.by_token; labels = n.inputs })
  selector_of (written.by_rule w) = do
    r ← rule_named w
    elim r.gives [ none ↦ wrong 5 w | some t ↦ good (record { by = means.by_rule r.place; labels = members_of t }) ]
  selector_of (written.by_operation w c) = do
    o ← operation_of w
    elim o.gives [
      | none ↦ wrong 5 w
      | some ks ↦ do
        v ← parameter_of w o.takes c
        good (record { by = choosing o.instruction v; labels = ks })
    ]

  -- labels of the class: "6 label repeated", among those of the choice so far
  unfoldable pub labels_of : List Word → List Known → List ℕ → Checked (List ℕ)
  labels_of [] ks seen = good []
  labels_of (w ∷ ws) ks seen = do
    v ← lookup p ks w
    _ ← fault_if (member v seen) 6 w
    more ← labels_of ws ks (v ∷ seen)
    good (v ∷ more)

  unfoldable mutual
    pub act_of : written.Act → Place → Checked means.Act
    act_of (plain a) at = do
      d ← plain_of at a
      good (plain d)
    act_of (cycle b) at = do
      body ← acts_of b (within at)
      good (cycle body)
    act_of (choice s q o) at = do
      c ← selector_of s
      alts ← alts_of q at c.labels []
      other ← other_of o at
      good (choice c.by alts other)

    pub acts_of : written.Acts → Place → Checked means.Acts
    acts_of done at = good done
    acts_of (a ▸ q) at = do
      first ← act_of a at
      rest ← acts_of q at
      good (first ▸ rest)

    pub alts_of : written.Alts → Place → List Known → List ℕ → Checked means.Alts
    alts_of nil at ks seen = good nil
    alts_of (alternative ls b q) at ks seen = do
      vs ← labels_of ls ks seen
      body ← acts_of b at
      rest ← alts_of q at ks (vs ++ seen)
      good (alternative vs body rest)

    pub other_of : written.Other → Place → Checked means.Other
    other_of absent at = good absent
    other_of (otherwise b) at = do
      body ← acts_of b at
      good (otherwise body)

-- all of this file computes where this is unfolded
unfoldable pub opened : Unit {0}
unfolding within operation_of rule_named parameter_of update_of match_of give_of ranked_of plain_of members_of selector_of labels_of act_of
opened = tt
