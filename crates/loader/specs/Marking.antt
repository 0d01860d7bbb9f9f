-- What the loader's functions compute, in the code's own order: locations are marked and put into a row, each once.
use Rattle.std.specs.Prelude.{Bool, true, false, ◌&&◌, not, List, [], ◌∷◌, ◌≡◌, ℕ, suc, ◌+◌, ◌*◌, ◌-◌, ◌<◌, ◌≤◌, eqb, leb, length, get_or, set, if◌then◌else◌}
use Rattle.std.proofs.Math.Option.{some}
use Rattle.std.specs.Prelude.{Option, is_some, unwrap_or}
use Rattle.base.specs.Common.{member}
use Rattle.loading.specs.Reach.{gives37, fits}
use Rattle.loading.specs.Taking.{chosen, ways, reached, taken}
use Rattle.machine.specs.Decode.{fetch}
use Rattle.machine.specs.Lengths.{length_of}

-- what a function leaves: whether all were inside the table, how many are marked, a flag for each location, the marked ones in their order
pub record Work : Type 0 where
  pub ok : Bool
  pub tail : ℕ
  pub seen : List ℕ
  pub order : List ℕ

abbrev pub work : Bool → ℕ → List ℕ → List ℕ → Work
work ok tail seen order = record { ok = ok; tail = tail; seen = seen; order = order }

-- a location is marked, if it is inside the table and is not marked yet
unfoldable pub mark_of : ℕ → ℕ → Work → Work
mark_of size m w =
    let new = work true (w.tail + 1) (set w.seen (m - 1) 1) (set w.order w.tail m) in
    let old = work true w.tail w.seen w.order in
    let failed = work false w.tail w.seen w.order in
    if leb 1 m && leb m size then (if eqb (get_or w.seen (m - 1) 0) 0 then new else old) else failed

-- one after the other, up to the first that is outside
unfoldable pub marks_of : ℕ → List ℕ → Work → Work
marks_of size [] w = w
marks_of size (m ∷ ms) w = let n = mark_of size m w in let later = marks_of size ms n in if n.ok then later else n

unfoldable pub failed : Work → Work
failed w = work false w.tail w.seen w.order

-- the ways from a location are marked, unless it gives 37
unfoldable pub visit_of : List ℕ → ℕ → Work → Work
visit_of T l w = let on = marks_of (length T) (ways T l) w in if gives37 T l then failed w else on

-- how many flags are 0
unfoldable pub zeros : List ℕ → ℕ
zeros [] = 0
zeros (x ∷ xs) = (if eqb x 0 then 1 else 0) + zeros xs

-- the two buffers have their sizes, and there is room in the row for each location that is not marked
pub record Kept (size tail : ℕ) (seen order : List ℕ) : Type 0 where
  pub small : size ≤ 4096
  pub flags : length seen ≡ 4096
  pub row : length order ≡ 4096
  pub counted : tail + zeros seen ≡ 4096

-- a function left w, and gave how many are marked, or none where a location is outside
pub record Marked (size : ℕ) (w : Work) (r : Option ℕ) (seen order : List ℕ) : Type 0 where
  pub is : work (is_some r) w.tail seen order ≡ w
  pub tail : unwrap_or r w.tail ≡ w.tail
  pub kept : Kept size w.tail seen order

-- n labels from a location on lie inside the table
pub record Lies (T : List ℕ) (n from size : ℕ) : Type 0 where
  pub size_is : size ≡ length T
  pub first : 1 ≤ from
  pub last : from + 2 * n ≤ size + 1

-- the ways out of a choice are marked, if its table lies inside
unfoldable pub choice_of : List ℕ → ℕ → Work → Work
choice_of T c w = let on = marks_of (length T) (chosen T c (fetch T c)) w in if fits T c (fetch T c) then on else failed w

-- a location of the table, and the buffers
pub record Ready (T : List ℕ) (l size tail : ℕ) (seen order : List ℕ) : Type 0 where
  pub kept : Kept size tail seen order
  pub size_is : size ≡ length T
  pub first : 1 ≤ l
  pub last : l ≤ size

-- with the instruction there
pub record Holds (T : List ℕ) (l i n size tail : ℕ) (seen order : List ℕ) : Type 0 where
  pub ready : Ready T l size tail seen order
  pub here : fetch T l ≡ some i
  pub long : length_of i ≡ n

-- and its operand
pub record Takes (T : List ℕ) (l i x size tail : ℕ) (seen order : List ℕ) : Type 0 where
  pub holds : Holds T l i 2 size tail seen order
  pub operand : fetch T (l + 1) ≡ some x
  pub inside : l + 1 ≤ size
  pub low : x < 65536

-- what `reach` answers: whether the table is taken, and if so, which locations are reached
pub record Tells (T : List ℕ) (r : Bool) (seen : List ℕ) : Type 0 where
  pub answer : r ≡ taken T
  pub flags : r ≡ true → (i : ℕ) → i < length T → eqb (get_or seen i 0) 0 ≡ not (member (suc i) (reached T))

-- all of this file computes where this is unfolded
unfoldable pub opened : Unit {0}
unfolding mark_of marks_of failed visit_of zeros choice_of
opened = tt
