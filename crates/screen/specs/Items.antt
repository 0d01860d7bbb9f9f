-- Lists of turns and refills over the bytes of a screen, as the entries treat them, the last first, and what one book meets in them.
use Rattle.std.specs.Prelude.{List, [], ◌∷◌, ℕ, ◌+◌, eqb, if◌then◌else◌}
use Rattle.machine.specs.Call.{Mode}
use Rattle.machine.specs.Form.{Outcome}
use Rattle.screen.specs.Screen.{walk_in, left_in, Turned, turn_bytes, refill_bytes}

-- a turn of a book with its tokens, its answers and the bytes of its event buffer, or a refill of a book with the steps that it sets
pub data Item : Type 0 where
  turn : ℕ → List ℕ → Mode → List ℕ → Item
  refill : ℕ → ℕ → Item

-- the book that an item is of
unfoldable pub book_of : Item → ℕ
book_of (turn b tokens m buffer) = b
book_of (refill b n) = b

-- the turns and refills of book b, in order
unfoldable pub owned : ℕ → List Item → List Item
owned b [] = []
owned b (i ∷ items) = let rest = owned b items in if eqb (book_of i) b then i ∷ rest else rest

-- a turn as its book meets it: the walk is the one that the screen then holds
unfoldable pub own_view : ℕ → Turned → Outcome
own_view b g = record { number = g.number; walk = walk_in b g.screen; buffer = g.buffer; events = g.events; steps = g.steps }

module _ (table : List ℕ) where
  -- the screen after an item, and after a list from the screen r
  unfoldable pub screen_after : Item → List ℕ → List ℕ
  screen_after (turn b tokens m buffer) r = (turn_bytes table tokens m b r buffer).screen
  screen_after (refill b n) r = refill_bytes b n r

  unfoldable pub after : List Item → List ℕ → List ℕ
  after [] r = r
  after (i ∷ items) r = screen_after i (after items r)

  -- what the turns of book b gave, the last first
  unfoldable pub hears : ℕ → Item → List ℕ → List Outcome → List Outcome
  hears b (turn c tokens m buffer) r os = if eqb c b then own_view b (turn_bytes table tokens m c r buffer) ∷ os else os
  hears b (refill c n) r os = os

  unfoldable pub heard : ℕ → List Item → List ℕ → List Outcome
  heard b [] r = []
  heard b (i ∷ items) r = hears b i (after items r) (heard b items r)

  -- the steps left to book b after each of its turns and refills, the last first
  unfoldable pub lefts : ℕ → List Item → List ℕ → List ℕ
  lefts b [] r = []
  lefts b (i ∷ items) r = let rest = lefts b items r in if eqb (book_of i) b then left_in b (screen_after i (after items r)) ∷ rest else rest

  -- the steps done by the turns of book b since its last refill
  unfoldable pub spent : ℕ → List Item → List ℕ → ℕ
  spent b [] r = 0
  spent b (turn c tokens m buffer ∷ items) r = let rest = spent b items r in if eqb c b then rest + (turn_bytes table tokens m c (after items r) buffer).steps else rest
  spent b (refill c n ∷ items) r = let rest = spent b items r in if eqb c b then 0 else rest

-- what the last refill of book b set; where there was none, what was left to it at the beginning
unfoldable pub granted : ℕ → List Item → List ℕ → ℕ
granted b [] r = left_in b r
granted b (turn c tokens m buffer ∷ items) r = granted b items r
granted b (refill c n ∷ items) r = let rest = granted b items r in if eqb c b then n else rest

-- all of this file computes where this is unfolded
unfoldable pub opened : Unit {0}
unfolding book_of owned own_view screen_after after hears heard lefts spent granted
opened = tt
