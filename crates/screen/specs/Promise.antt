-- What a turn promises, and what a list of turns and refills does. The proofs are in proofs/Turns.antt and proofs/Isolation.antt.
use Rattle.std.specs.Prelude.{List, ◌≡◌, ℕ, ◌+◌, ◌<◌, length, get_or}
use Rattle.machine.specs.Call.{Mode}
use Rattle.machine.specs.Form.{call_bytes}
use Rattle.screen.specs.Items.{Item, owned, own_view, after, heard, lefts, spent, granted}
use Rattle.screen.specs.Screen.{screen_size, walk_in, left_in, Turned, turn_bytes}

-- a turn of book b, 0 or 1, of the screen r, that leaves g with its caller
pub record OneTurn (table tokens : List ℕ) (m : Mode) (b : ℕ) (r buffer : List ℕ) (g : Turned) : Type 0 where
  -- "it answers and writes as that call alone"
  pub alone : own_view b g ≡ call_bytes table tokens m (left_in b r) (walk_in b r) buffer
  -- "the steps left, which fall by those done"
  pub falls : left_in b g.screen + g.steps ≡ left_in b r
  -- the other book's walk and steps left are kept, whatever they are
  pub other_walk : (c : ℕ) → c < 2 → (c ≡ b → ⊥) → walk_in c g.screen ≡ walk_in c r
  pub other_left : (c : ℕ) → c < 2 → (c ≡ b → ⊥) → left_in c g.screen ≡ left_in c r
  pub size : length g.screen ≡ screen_size
  -- a turn that is refused touches nothing
  pub refused : ((i : ℕ) → get_or r i 0 < 256) → g.number ≡ 21 → g.screen ≡ r

abbrev pub EveryTurn : Type 0
EveryTurn =
    (table tokens : List ℕ) (m : Mode) (b : ℕ) (r buffer : List ℕ) → b < 2 → length r ≡ screen_size
    → OneTurn table tokens m b r buffer (turn_bytes table tokens m b r buffer)

-- the steps that a book has done since its refill and those left to it are what it set
abbrev pub KeepsAllowance : Type 0
KeepsAllowance =
    (table : List ℕ) (b : ℕ) → b < 2 → (items : List Item) (r : List ℕ) → length r ≡ screen_size
    → spent table b items r + left_in b (after table items r) ≡ granted b items r

-- two runs are the same to book b: after each of its turns and refills it has got the same numbers, events, event buffers, walks and counters
pub record SameFor (table : List ℕ) (b : ℕ) (items items' : List Item) (r r' : List ℕ) : Type 0 where
  pub turns : heard table b items r ≡ heard table b items' r'
  pub counters : lefts table b items r ≡ lefts table b items' r'
  -- at the end, where the lists may be without an item of this book
  pub walk : walk_in b (after table items r) ≡ walk_in b (after table items' r')
  pub left : left_in b (after table items r) ≡ left_in b (after table items' r')

-- "two runs that differ only in the other book's tokens, answers, buffers, turns and refills give this book the same answers, events and counter, as long as
-- its own turns and refills are equal, in order": its bytes were equal at the beginning; the other book's may be any
abbrev pub Isolates : Type 0
Isolates =
    (table : List ℕ) (b : ℕ) → b < 2 → (items items' : List Item) (r r' : List ℕ) → length r ≡ screen_size → length r' ≡ screen_size
    → owned b items ≡ owned b items' → walk_in b r ≡ walk_in b r' → left_in b r ≡ left_in b r' → SameFor table b items items' r r'
