-- The words of a rule gone through one after the other, by the lengths of the instructions: which of them are operands of calls. What the code compares;
-- that it comes to `same_words` is the theorem `scanned-words` (proofs/Scanning.antt).
use Rattle.std.specs.Prelude.{Bool, true, false, ◌||◌, List, [], ◌∷◌, ℕ, zero, suc, ◌+◌, ◌*◌, eqb, if◌then◌else◌}
use Rattle.std.proofs.Math.Option.{Option, none, some}
use Rattle.base.specs.Common.{member}
use Rattle.carry.specs.Carry.{Name, same_name, Source, name_of, Place, place_of}
use Rattle.machine.specs.Lengths.{length_of}

-- what the next word is: an instruction (or, at the place of a choice table, its count); the operand of this instruction; one of so many words of a choice table and one
pub data Expects : Type 0 where
  instruction : Expects
  operand : ℕ → Expects
  label : ℕ → Expects

unfoldable pub labels_left : ℕ → Expects
labels_left zero = instruction
labels_left (suc n) = label n

-- after the word w at the offset o; ts has the offsets of the choice tables that were announced
unfoldable pub expects_after : List ℕ → ℕ → Expects → ℕ → Expects
expects_after ts o instruction w = if member o ts then labels_left (2 * w) else if eqb (length_of w) 2 then operand w else instruction
expects_after ts o (operand i) w = instruction
expects_after ts o (label n) w = labels_left n

-- "7 inputChoice distance", "11 choice distance": the distance is counted from the word that holds it
unfoldable pub tables_after : List ℕ → ℕ → Expects → ℕ → List ℕ
tables_after ts o instruction w = ts
tables_after ts o (operand i) w = if eqb i 7 || eqb i 11 then (o + w) ∷ ts else ts
tables_after ts o (label n) w = ts

-- "8 call location"
unfoldable pub is_call : Expects → Bool
is_call instruction = false
is_call (operand i) = eqb i 8
is_call (label n) = false

-- the words with f of the location in place of each call's
unfoldable pub scan : (ℕ → ℕ) → List ℕ → ℕ → Expects → List ℕ → List ℕ
scan f ts o e [] = []
scan f ts o e (w ∷ ws) = (if is_call e then f w else w) ∷ scan f (tables_after ts o e w) (suc o) (expects_after ts o e w) ws

-- two rules in step: the words of calls are compared by c, all others as they are
unfoldable pub same_scan : (ℕ → ℕ → Bool) → List ℕ → ℕ → Expects → List ℕ → List ℕ → Bool
same_scan c ts o e [] [] = true
same_scan c ts o e [] (v ∷ vs) = false
same_scan c ts o e (w ∷ ws) [] = false
same_scan c ts o e (w ∷ ws) (v ∷ vs) =
    let more = same_scan c (tables_after ts o e w) (suc o) (expects_after ts o e w) ws vs in
    if (if is_call e then c w v else eqb w v) then more else false

-- "calls being compared by the called rule's name": of the rules in which the two locations lie
unfoldable pub names_meet : List Name → List Name → Option Place → Option Place → Bool
names_meet old new none b = false
names_meet old new (some a) none = false
names_meet old new (some a) (some b) = same_name (name_of old a.rule) (name_of new b.rule)

unfoldable pub calls_meet : Source → Source → ℕ → ℕ → Bool
calls_meet p q x y = names_meet p.names q.names (place_of p.rules x) (place_of q.rules y)

-- all of this file computes where this is unfolded
unfoldable pub opened : Unit {0}
unfolding labels_left expects_after tables_after is_call scan same_scan names_meet calls_meet
opened = tt
