-- "two books, walked in turn over the same table", with "one counter for each book, set anew by its own refills": the screen as bytes (docs/LAYOUT.md),
-- and what is done with it over bytes alone.
use Rattle.std.specs.Prelude.{Bool, ◌&&◌, List, ◌++◌, ℕ, ◌+◌, ◌*◌, ◌-◌, eqb, ltb, length, take, drop, if◌then◌else◌}
use Rattle.machine.specs.Bytes.{words_of, bytes_of}
use Rattle.machine.specs.Call.{Mode}
use Rattle.machine.specs.Form.{words64, number64, walk_bytes, Outcome, call_bytes}
use Rattle.machine.specs.Walk.{fresh}

-- n bytes from index f on
unfoldable pub cut : ℕ → ℕ → List ℕ → List ℕ
cut f n r = take n (drop f r)

-- the record with other bytes from index f on
unfoldable pub patch : ℕ → List ℕ → List ℕ → List ℕ
patch f new r = take f r ++ (new ++ drop (f + length new) r)

-- for each book its walk and its steps left: 158 and 8 bytes
abbrev pub book_size : ℕ
book_size = 166

abbrev pub screen_size : ℕ
screen_size = 332

-- the bytes of a book's walk
unfoldable pub walk_in : ℕ → List ℕ → List ℕ
walk_in b r = cut (b * book_size) 158 r

-- its steps left: any eight bytes are a number
unfoldable pub left_in : ℕ → List ℕ → ℕ
left_in b r = number64 (words_of (cut (b * book_size + 158) 8 r))

unfoldable pub with_left : ℕ → ℕ → List ℕ → List ℕ
with_left b n r = patch (b * book_size + 158) (bytes_of (words64 n)) r

-- a screen, and one of its two books
unfoldable pub is_screen : List ℕ → Bool
is_screen r = eqb (length r) screen_size

unfoldable pub is_book : ℕ → List ℕ → Bool
is_book b r = ltb b 2 && is_screen r

-- what a turn leaves with its caller: its number, the bytes of the screen and of the event buffer, events written, steps done
pub record Turned : Type 0 where
  pub number : ℕ
  pub screen : List ℕ
  pub buffer : List ℕ
  pub events : ℕ
  pub steps : ℕ

-- "its budget the steps left, which fall by those done": not below 0, a call does no more steps than its budget
unfoldable pub taken : ℕ → List ℕ → Outcome → Turned
taken b r o = record {
  number = o.number;
  screen = with_left b (left_in b r - o.steps) (patch (b * book_size) o.walk r);
  buffer = o.buffer;
  events = o.events;
  steps = o.steps;
}

-- another book or another length: nothing is touched
unfoldable pub turned_away : List ℕ → List ℕ → Turned
turned_away r buffer = record { number = 21; screen = r; buffer = buffer; events = 0; steps = 0 }

-- "A turn is a walk call of one book": of the bytes of its walk, with the tokens, answers and event buffer that the turn is given
unfoldable pub turn_bytes : List ℕ → List ℕ → Mode → ℕ → List ℕ → List ℕ → Turned
turn_bytes table tokens m b r buffer =
    if is_book b r then taken b r (call_bytes table tokens m (left_in b r) (walk_in b r) buffer) else turned_away r buffer

-- "set anew by its own refills": what was left is lost; the walk's bytes are not looked at
unfoldable pub refill_number : ℕ → List ℕ → ℕ
refill_number b r = if is_book b r then 0 else 21

unfoldable pub refill_bytes : ℕ → ℕ → List ℕ → List ℕ
refill_bytes b n r = if is_book b r then with_left b n r else r

-- two books, each a fresh walk with its repair allowance and no steps left
unfoldable pub screen_number : List ℕ → ℕ
screen_number r = if is_screen r then 0 else 21

unfoldable pub fresh_book : ℕ → List ℕ
fresh_book allowance = walk_bytes (fresh allowance) ++ bytes_of (words64 0)

unfoldable pub fresh_bytes : ℕ → ℕ → List ℕ → List ℕ
fresh_bytes a₀ a₁ r = if is_screen r then fresh_book a₀ ++ fresh_book a₁ else r

-- all of this file computes where this is unfolded
unfoldable pub opened : Unit {0}
unfolding cut patch walk_in left_in with_left is_screen is_book taken turned_away turn_bytes refill_number refill_bytes screen_number fresh_book fresh_bytes
opened = tt
