-- Where the steps of a call are done: "how many times it was executed" is how often a location stands here.
use Rattle.std.specs.Prelude.{List, [], ◌∷◌, ℕ, zero, suc, ◌+◌, eqb, ltb, if◌then◌else◌}
use Rattle.machine.specs.Walk.{Walk, fresh, at_rest}
use Rattle.machine.specs.Step.{step}
use Rattle.machine.specs.Call.{Mode, whole, Called, over, further, turn, call_walk}

module _ (T tokens : List ℕ) where
  -- the locations of the steps that `run` does, in order: "The stopping instruction counts as done"; 35, 36 and 37 do nothing
  unfoldable pub visits : ℕ → Mode → ℕ → ℕ → Walk → List ℕ
  visits zero m room n w = []
  visits (suc b) m room n w =
      elim (turn m room n w (step T tokens w)) [ over c ↦ if ltb n c.steps then w.location ∷ [] else [] | further left v ↦ w.location ∷ visits b m left (n + 1) v ]

-- what a book is added with
pub record Given : Type 0 where
  pub tokens : List ℕ
  pub answers : List ℕ
  pub budget : ℕ
  pub allowance : ℕ
  pub room : ℕ

-- "each added by a whole call from a fresh walk over the one table"
unfoldable pub called : List ℕ → Given → Called
called T g = call_walk T g.tokens (whole g.answers) g.budget g.room (fresh g.allowance)

unfoldable pub visited : List ℕ → Given → List ℕ
visited T g = visits T g.tokens g.budget (whole g.answers) g.room 0 (at_rest (fresh g.allowance))

-- how often a location stands in a list
unfoldable pub tally : ℕ → List ℕ → ℕ
tally l [] = 0
tally l (x ∷ ls) = (if eqb x l then 1 else 0) + tally l ls

-- all of this file computes where this is unfolded
unfoldable pub opened : Unit {0}
unfolding visits called visited tally
opened = tt
