-- The same as a test: the locations of the table that can be reached, found one after the other, and whether one of them gives 37.
use Rattle.std.specs.Prelude.{Bool, true, ◌&&◌, not, List, [], ◌∷◌, ◌++◌, ℕ, zero, suc, ◌+◌, ◌*◌, ◌-◌, leb, length, if◌then◌else◌}
use Rattle.std.proofs.Math.Option.{Option, none, some}
use Rattle.base.specs.Common.{member, given}
use Rattle.machine.specs.Decode.{fetch, Instruction, invalid, jump, input, input_any, write, input_choice, call_rule, return, set_result, choice, end_choice, set_parameter, update, update_with, choose, choose_with, decode}
use Rattle.loading.specs.Reach.{gives37}

module _ (T : List ℕ) where
  -- back from the distance at l; location 0 where there is none
  unfoldable pub back_from : ℕ → ℕ
  back_from l = elim (fetch T l) [ none ↦ 0 | some x ↦ l - x ]

  -- where each of n labels from l on leads
  unfoldable pub labelled : ℕ → ℕ → List ℕ
  labelled zero l = []
  labelled (suc n) l = back_from (l + 1) ∷ labelled n (l + 2)

  -- the ways out of a choice, by its labels and by its default
  unfoldable pub chosen : ℕ → Option ℕ → List ℕ
  chosen c none = []
  chosen c (some n) = let all = labelled n (c + 1) ++ ((c + 1 + 2 * n) ∷ []) in if leb (c + 2 * n) (length T) then all else []

  -- the ways on from the instruction at l
  unfoldable pub onward : ℕ → Instruction → List ℕ
  onward l invalid = []
  onward l (jump m) = m ∷ []
  onward l (input t) = (l + 2) ∷ []
  onward l input_any = (l + 1) ∷ []
  onward l (write e) = (l + 2) ∷ []
  onward l (input_choice c) = chosen c (fetch T c)
  onward l (call_rule m) = m ∷ (l + 2) ∷ []
  onward l return = []
  onward l (set_result v) = (l + 2) ∷ []
  onward l (choice c) = chosen c (fetch T c)
  onward l end_choice = []
  onward l (set_parameter v) = (l + 2) ∷ []
  onward l (update op) = (l + 1) ∷ []
  onward l (update_with op) = (l + 1) ∷ []
  onward l (choose op) = (l + 1) ∷ []
  onward l (choose_with op) = (l + 1) ∷ []

  unfoldable pub ways : ℕ → List ℕ
  ways l = onward l (decode T l)

  -- the first of some locations that is in the table and is not among the seen
  unfoldable pub unseen : List ℕ → List ℕ → Option ℕ
  unseen seen [] = none
  unseen seen (m ∷ ms) = let later = unseen seen ms in if given (fetch T m) && not (member m seen) then some m else later

  -- the first such location to which a way leads from some locations
  unfoldable pub next_from : List ℕ → List ℕ → Option ℕ
  next_from seen [] = none
  next_from seen (l ∷ ls) = let later = next_from seen ls in elim (unseen seen (ways l)) [ none ↦ later | some m ↦ some m ]

  -- the seen ones with up to n more, one at a time
  unfoldable pub grown : ℕ → List ℕ → List ℕ
  grown zero seen = seen
  grown (suc n) seen = elim (next_from seen seen) [ none ↦ seen | some m ↦ grown n (m ∷ seen) ]

  -- there are no more than the table has words
  unfoldable pub reached : List ℕ
  reached = grown (length T) (1 ∷ [])

  unfoldable pub inside : List ℕ → Bool
  inside [] = true
  inside (m ∷ ms) = given (fetch T m) && inside ms

  -- neither the location nor a way from it gives 37
  unfoldable pub sound : ℕ → Bool
  sound l = not (gives37 T l) && inside (ways l)

  unfoldable pub all_sound : List ℕ → Bool
  all_sound [] = true
  all_sound (l ∷ ls) = sound l && all_sound ls

  -- "The loader takes a file exactly if .. no reachable location gives 37."
  unfoldable pub taken : Bool
  taken = all_sound reached

-- all of this file computes where this is unfolded
unfoldable pub opened : Unit {0}
unfolding back_from labelled chosen onward ways unseen next_from grown reached inside sound all_sound taken
opened = tt
