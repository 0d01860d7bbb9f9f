-- Whether the cells of a rule, with the names of its calls, are those of actions that may stand in an object: one pass over the cells, as the code goes.
-- Cells are crate cells', but the operand of a call is 0 for the rule of its name and 1 + k for the k-th pair of section and operand rule.
use Rattle.std.specs.Prelude.{Bool, true, false, ◌&&◌, ◌||◌, not, List, [], ◌∷◌, ℕ, zero, suc, ◌-◌, eqb, leb, ltb, length, drop, if◌then◌else◌}
use Rattle.std.proofs.Math.Option.{Option, none, some}
use Rattle.base.specs.Common.{same, given}
use Rattle.parts.specs.Link.{listed_type}
use Rattle.syntax.specs.Texts.{Head}
use Rattle.objects.specs.View.{Name, Pair, RuleView}

-- what begins with a cell
pub data Sort : Type 0 where
  ends leaves turns : Sort  -- the end of a list of actions; `>`; a cycle
  alone taking : Sort  -- a plain action of one cell, and one with a value behind it
  calling returning giving : Sort  -- `@`; `>>` alone, and with its value
  token ruled asking asking_with : Sort  -- a choice by token, by a rule, by an operation, by an operation with its constant
  unknown : Sort

unfoldable pub sort_of : ℕ → Sort
sort_of x =
    if eqb x 0 then ends
    else if eqb x 1 then leaves
    else if eqb x 2 then turns
    else if eqb x 3 then taking
    else if eqb x 4 then alone
    else if eqb x 5 then taking
    else if eqb x 6 then taking
    else if eqb x 7 then token
    else if eqb x 8 then calling
    else if eqb x 9 then returning
    else if eqb x 10 then giving
    else if eqb x 11 then ruled
    else if ltb x 256 then unknown
    else if ltb x 512 then alone
    else if ltb x 768 then taking
    else if ltb x 1024 then asking
    else if ltb x 1280 then asking_with
    else unknown

-- what begins an alternative: no otherwise, no otherwise of a choice by token, otherwise, as many labels
pub data Arm : Type 0 where
  bare bare_token other : Arm
  labels : ℕ → Arm
  no_arm : Arm

unfoldable pub arm_of : ℕ → Arm
arm_of x =
    if eqb x 12 then bare
    else if eqb x 13 then other
    else if eqb x 14 then bare_token
    else if leb x 64 then no_arm
    else labels (x - 64)

-- what is found: the cells and the names left, whether what was gone through goes past itself, and whether a `>` in it belongs to the cycle around it
pub record Went : Type 0 where
  pub cells : List ℕ
  pub names : List Name
  pub past : Bool
  pub exits : Bool

-- as with a list of actions: it goes past if both do
unfoldable pub joined : Went → Option Went → Option Went
joined a none = none
joined a (some r) = some (record { cells = r.cells; names = r.names; past = a.past && r.past; exits = a.exits || r.exits })

unfoldable pub in_row : Option Went → (List ℕ → List Name → Option Went) → Option Went
in_row none more = none
in_row (some a) more = joined a (more a.cells a.names)

-- as with alternatives: if one does
unfoldable pub beside : Went → Option Went → Option Went
beside a none = none
beside a (some r) = some (record { cells = r.cells; names = r.names; past = a.past || r.past; exits = a.exits || r.exits })

unfoldable pub either_of : Option Went → (List ℕ → List Name → Option Went) → Option Went
either_of none more = none
either_of (some a) more = beside a (more a.cells a.names)

-- a cycle goes past if some `>` belongs to it
unfoldable pub around : Option Went → Option Went
around none = none
around (some r) = some (record { cells = r.cells; names = r.names; past = r.exits; exits = false })

-- one deeper, where `left` more may be entered
unfoldable pub deeper : ℕ → Option Went → Option Went
deeper left r = if eqb left 0 then none else r

-- behind the cell of an operand
unfoldable pub on_operand : List ℕ → (List ℕ → Option Went) → Option Went
on_operand [] more = none
on_operand (o ∷ cells) more = more cells

-- the pair at the place k has this operand rule
unfoldable pub stands_at : List Pair → ℕ → Name → Bool
stands_at [] k n = false
stands_at (p ∷ ps) zero n = same p.operand.text n.text
stands_at (p ∷ ps) (suc k) n = stands_at ps k n

-- the name is on the list
unfoldable pub is_listed : List Head → Name → Bool
is_listed hs n = given (listed_type n.text hs)

-- behind the mark of a call and its name
unfoldable pub on_call : (ℕ → Name → Bool) → List ℕ → List Name → (List ℕ → List Name → Option Went) → Option Went
on_call ok [] names more = none
on_call ok (m ∷ cells) [] more = none
on_call ok (m ∷ cells) (n ∷ names) more = if ok m n then more cells names else none

-- all cells and all names are used up, and no choice rule goes past its end
unfoldable pub used_up : Bool → Option Went → Bool
used_up v none = false
used_up v (some w) = eqb (length w.cells) 0 && eqb (length w.names) 0 && not (v && w.past)

module _ (hs : List Head) (pairs : List Pair) where
  -- a call: of the rule of a name that is not on the list, or of the rules of a pair with that operand rule
  unfoldable pub call_ok : ℕ → Name → Bool
  call_ok zero n = not (is_listed hs n)
  call_ok (suc k) n = stands_at pairs k n

  -- a choice by a rule: it is on the list
  unfoldable pub rule_ok : ℕ → Name → Bool
  rule_ok zero n = is_listed hs n
  rule_ok (suc k) n = false

  -- v: in a choice rule
  module _ (v : Bool) where
    abbrev pub Actions : Type 0
    Actions = ℕ → Bool → List ℕ → List Name → Option Went

    abbrev pub Choices : Type 0
    Choices = ℕ → Bool → Bool → Bool → ℕ → List ℕ → List Name → Option Went

    -- an action by its first cell, with the cells behind it; c: in a cycle
    unfoldable pub an_act : Actions → Choices → ℕ → Bool → Sort → List ℕ → List Name → Option Went
    an_act inner choices left c ends cells names = none
    an_act inner choices left c leaves cells names = if c then some (record { cells = cells; names = names; past = false; exits = true }) else none
    an_act inner choices left c turns cells names = deeper left (around (inner (left - 1) true cells names))
    an_act inner choices left c alone cells names = some (record { cells = cells; names = names; past = true; exits = false })
    an_act inner choices left c taking cells names = on_operand cells (λ cells. some (record { cells = cells; names = names; past = true; exits = false }))
    an_act inner choices left c calling cells names = on_call call_ok cells names (λ cells names. some (record { cells = cells; names = names; past = true; exits = false }))
    an_act inner choices left c returning cells names = if v then none else some (record { cells = cells; names = names; past = false; exits = false })
    an_act inner choices left c giving cells names = if v then on_operand cells (λ cells. some (record { cells = cells; names = names; past = false; exits = false })) else none
    an_act inner choices left c token cells names = deeper left (choices (left - 1) c true false 64 cells names)
    an_act inner choices left c ruled cells names = deeper left (on_call rule_ok cells names (λ cells names. choices (left - 1) c false false 64 cells names))
    an_act inner choices left c asking cells names = deeper left (choices (left - 1) c false false 64 cells names)
    an_act inner choices left c asking_with cells names = deeper left (on_operand cells (λ cells. choices (left - 1) c false false 64 cells names))
    an_act inner choices left c unknown cells names = none

    -- an alternative by its first cell: by_token, the choice is by token; some₁, a label stands before it; room, how many labels may still stand
    unfoldable pub an_arm : Actions → Choices → ℕ → Bool → Bool → Bool → ℕ → Arm → List ℕ → List Name → Option Went
    an_arm inner choices left c by_token some₁ room bare cells names = if by_token then none else some (record { cells = cells; names = names; past = false; exits = false })
    an_arm inner choices left c by_token some₁ room bare_token cells names = if by_token && some₁ then some (record { cells = cells; names = names; past = false; exits = false }) else none
    an_arm inner choices left c by_token some₁ room other cells names = inner left c cells names
    an_arm inner choices left c by_token some₁ room (labels n) cells names =
        if leb n room && leb n (length cells) then either_of (inner left c (drop n cells) names) (λ cells names. choices left c by_token true (room - n) cells names) else none
    an_arm inner choices left c by_token some₁ room no_arm cells names = none

    unfoldable mutual
      -- actions up to the cell that ends them; k is at least the number of the cells
      pub acts : ℕ → ℕ → Bool → List ℕ → List Name → Option Went
      acts zero left c cells names = none
      acts (suc k) left c [] names = none
      acts (suc k) left c (x ∷ cells) names =
          if eqb x 0 then some (record { cells = cells; names = names; past = true; exits = false })
          else in_row (an_act (λ l d s n. acts k l d s n) (λ l d b t r s n. arms k l d b t r s n) left c (sort_of x) cells names) (λ cells names. acts k left c cells names)

      pub arms : ℕ → ℕ → Bool → Bool → Bool → ℕ → List ℕ → List Name → Option Went
      arms zero left c by_token some₁ room cells names = none
      arms (suc k) left c by_token some₁ room [] names = none
      arms (suc k) left c by_token some₁ room (x ∷ cells) names = an_arm (λ l d s n. acts k l d s n) (λ l d b t r s n. arms k l d b t r s n) left c by_token some₁ room (arm_of x) cells names

  unfoldable pub rule_in_order : RuleView → Bool
  rule_in_order r = used_up (given r.gives) (acts (given r.gives) (length r.cells) 32 false r.cells r.calls)

-- all of this file computes where this is unfolded
unfoldable pub opened : Unit {0}
unfolding sort_of arm_of joined in_row beside either_of around deeper on_operand stands_at is_listed call_ok rule_ok on_call an_act an_arm acts used_up rule_in_order
opened = tt
