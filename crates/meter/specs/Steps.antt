-- What the code keeps of the lent numbers, two halves of 4,353, and what it says of each step. `called` are the numbers of the first half, which say what a
-- call adds, while the second is raised; none while the first itself is raised.
use Rattle.std.specs.Prelude.{Bool, true, false, List, [], ◌∷◌, ◌≡◌, ℕ, ◌+◌, ◌*◌, ◌-◌, ◌≤◌, ◌<◌, min, length, get_or}
use Rattle.std.proofs.Math.Option.{Option, some}
use Rattle.std.specs.Prelude as found
use Rattle.machine.specs.Bytes.{table_of}
use Rattle.meter.specs.Store.{numbers_of, called_numbers}
use Rattle.meter.specs.declared.Program.{Program}
use Rattle.meter.specs.declared.Direction.{Direction}
use Rattle.meter.specs.declared.Direction.TheVariants.{Down, Up}
use Rattle.machine.specs.Decode.{fetch, Instruction, input_choice, call_rule, set_result, choice, decode}
use Rattle.meter.specs.Makes.{back_at, half, cap, Makes, Comes, Sound, Stands}
use Rattle.figure.specs.Figure.{way_out}
use Rattle.meter.specs.Shaped.{index_of, start_of, InRule, is_choice, Shaped}

-- in the second half paths begin at every instruction that can be reached
unfoldable pub flag_of : List ℕ → ℕ
flag_of [] = 0
flag_of (n ∷ ns) = 1

-- the numbers of the half that is raised
abbrev pub row_of : List ℕ → ℕ → ℕ
row_of rows i = get_or rows i 0

-- those of the called rules are the first half's
unfoldable pub called_of : List ℕ → List ℕ → ℕ → ℕ
called_of [] rows i = get_or rows i 0
called_of (n ∷ ns) rows i = get_or (n ∷ ns) i 0

-- what the numbers have left
unfoldable pub left : List ℕ → ℕ
left [] = 0
left (n ∷ ns) = (cap - n) + left ns

-- what is asked of the places i and their numbers v, the rows being as they are
abbrev pub Asked : Type 1
Asked = List ℕ → ℕ → ℕ → Type 0

module _ (T S : List ℕ) where
  pub record Kept (called rows : List ℕ) : Type 0 where
    pub sized : length rows ≡ half
    pub shaped : Shaped T S
    pub small : (i : ℕ) → row_of rows i ≤ cap
    pub called_small : (i : ℕ) → called_of called rows i ≤ cap
    pub first : Sound T S (called_of called rows) 0
    pub row : Sound T S (row_of rows) (flag_of called)

  -- a step from the one rows to the other; whether a number was raised; M: what it asked for
  pub record Steps (M : Asked) (called rows after : List ℕ) (changed : Bool) : Type 0 where
    pub kept : Kept called after
    pub grows : (i : ℕ) → get_or rows i 0 ≤ get_or after i 0
    pub same : changed ≡ false → after ≡ rows
    pub less : changed ≡ true → left after < left rows
    pub all : changed ≡ false → {i v : ℕ} → M rows i v → i < half → min v cap ≤ row_of rows i

  -- a path comes to l of rule r, whose number is k
  pub record Here (called : List ℕ) (r l k : ℕ) : Type 0 where
    pub is_rule : r < length S
    pub in_rule : InRule T S r l
    pub comes : Comes T S (flag_of called) l k
    pub small : k ≤ cap

-- one place, one number
pub data Only (i v : ℕ) (rows : List ℕ) : ℕ → ℕ → Type 0 where
  only : Only i v rows i v

-- the one or the other
pub data Both (M N : Asked) (rows : List ℕ) (i v : ℕ) : Type 0 where
  this : M rows i v → Both M N rows i v
  that : N rows i v → Both M N rows i v

-- whether v would raise the number of a place
pub record IsBelow (i v : ℕ) (rows : List ℕ) (b : Bool) : Type 0 where
  pub below : b ≡ true → (i < half) × (row_of rows i < min v cap)
  pub enough : b ≡ false → i < half → min v cap ≤ row_of rows i

-- one place is raised, whatever table the numbers are of
pub record Raised (i v : ℕ) (rows after : List ℕ) (b : Bool) : Type 0 where
  pub sized : length after ≡ length rows
  pub at_least : i < length rows → i < half → min v cap ≤ row_of after i
  pub steps : {T S called : List ℕ} → Kept T S called rows → (i < half → 0 < v → Stands T S (flag_of called) i v) → Steps T S (Only i v) called rows after b

-- two places are raised
pub record RaisedTwo (i v j w : ℕ) (rows after : List ℕ) (b : Bool) : Type 0 where
  pub sized : length after ≡ length rows
  pub steps : {T S called : List ℕ} → Kept T S called rows → (i < half → 0 < v → Stands T S (flag_of called) i v) → (j < half → 0 < w → Stands T S (flag_of called) j w)
      → Steps T S (Both (Only i v) (Only j w)) called rows after b

-- label i of the choice with its table at c: its way is raised; or nothing is, where the way beside it has enough
pub data LabelRaised (T : List ℕ) (c i v : ℕ) (rows : List ℕ) : List ℕ → Bool → Type 0 where
  way_raised : {a : ℕ} {after : List ℕ} {b : Bool} → fetch T (c + 1 + 2 * i) ≡ some a → Raised (way_out T c (some a)) v rows after b → LabelRaised T c i v rows after b
  has_enough : {x : ℕ} → fetch T (c + 1 + 2 * i + 1) ≡ some x → IsBelow (c + 1 + 2 * i + 1 - x) v rows false → LabelRaised T c i v rows rows false

-- every way out of the choice with its table at c
pub data Ways (T : List ℕ) (c v : ℕ) (rows : List ℕ) : ℕ → ℕ → Type 0 where
  ways : (w : Option ℕ) → Ways T c v rows (way_out T c w) v

-- they are raised
pub record WaysRaised (T : List ℕ) (c v : ℕ) (rows after : List ℕ) (b : Bool) : Type 0 where
  pub sized : length after ≡ length rows
  pub steps : {S called : List ℕ} → Kept T S called rows → ((w : Option ℕ) → way_out T c w < half → 0 < v → Stands T S (flag_of called) (way_out T c w) v) → Steps T S (Ways T c v) called rows after b

-- what the instruction i at l asks for
abbrev pub MakesAt : List ℕ → List ℕ → List ℕ → ℕ → ℕ → ℕ → Instruction → Asked
MakesAt T S called r l k i rows j v = Makes T S (called_of called rows) (flag_of called) r l k i j v

-- the instruction i at l, whatever the table, has done what it asks for
pub record Visited (i : Instruction) (called : List ℕ) (r l k : ℕ) (rows after : List ℕ) (b : Bool) : Type 0 where
  pub sized : length after ≡ length rows
  pub steps : {T S : List ℕ} → Kept T S called rows → Here T S called r l k → decode T l ≡ i → Steps T S (MakesAt T S called r l k i) called rows after b

-- the same over one table
pub record TokenVisited (T : List ℕ) (c : ℕ) (called : List ℕ) (r l k : ℕ) (rows after : List ℕ) (b : Bool) : Type 0 where
  pub sized : length after ≡ length rows
  pub steps : {S : List ℕ} → Kept T S called rows → Here T S called r l k → decode T l ≡ input_choice c → Steps T S (MakesAt T S called r l k (input_choice c)) called rows after b

-- a call at l of rule q
pub record CallsHere (T S called : List ℕ) (r l k q : ℕ) : Type 0 where
  pub here : Here T S called r l k
  pub calls : decode T l ≡ call_rule (start_of S q)
  pub found : q < length S
  pub is_index : index_of S (start_of S q) ≡ q

-- through the choice with its table at c behind a call, by the value that is set at p
pub data ValueAt (T called : List ℕ) (c k p : ℕ) (rows : List ℕ) : ℕ → ℕ → Type 0 where
  value_at : {v : ℕ} → decode T p ≡ set_result v → 0 < called_of called rows p → ValueAt T called c k p rows (way_out T c (some v)) (k + called_of called rows p + 3)

-- that choice and that place, of a rule that is called here
pub record ValueHere (T S called : List ℕ) (r l k c p : ℕ) : Type 0 where
  pub rule : ℕ
  pub here : CallsHere T S called r l k rule
  pub chooses : decode T (l + 2) ≡ choice c
  pub in_rule : InRule T S rule p

-- by each that is set in rule q before m
pub data Values (T S called : List ℕ) (c k q m : ℕ) (rows : List ℕ) (i v : ℕ) : Type 0 where
  values : {p : ℕ} → InRule T S q p → p < m → ValueAt T called c k p rows i v → Values T S called c k q m rows i v

-- behind a call of rule q at l
pub data Behind (T S called : List ℕ) (l k q : ℕ) (rows : List ℕ) : ℕ → ℕ → Type 0 where
  behind_back : is_choice (decode T (l + 2)) ≡ false → 0 < called_of called rows (back_at q) → Behind T S called l k q rows (l + 2) (k + called_of called rows (back_at q) + 1)
  behind_value : {c p i v : ℕ} → decode T (l + 2) ≡ choice c → InRule T S q p → ValueAt T called c k p rows i v → Behind T S called l k q rows i v

-- a choice stands at l, with its table at c, or none does
abbrev pub ChoiceAt : List ℕ → ℕ → found.Option ℕ → Type 0
ChoiceAt T l found.None = is_choice (decode T l) ≡ false
ChoiceAt T l (found.Some c) = decode T l ≡ choice c

-- what a location of a rule asks for
pub data AskedAt (T S called : List ℕ) (r l : ℕ) (rows : List ℕ) (i v : ℕ) : Type 0 where
  asked_at : 0 < row_of rows l → Makes T S (called_of called rows) (flag_of called) r l (row_of rows l) (decode T l) i v → AskedAt T S called r l rows i v

-- and all of them below l
pub data AskedBelow (T S called : List ℕ) (r m : ℕ) (rows : List ℕ) (i v : ℕ) : Type 0 where
  asked_below : {l : ℕ} → InRule T S r l → l < m → AskedAt T S called r l rows i v → AskedBelow T S called r m rows i v

-- and those of all rules from q on
pub data AskedFrom (T S called : List ℕ) (q : ℕ) (rows : List ℕ) (i v : ℕ) : Type 0 where
  asked_from : {r l : ℕ} → q ≤ r → r < length S → InRule T S r l → AskedAt T S called r l rows i v → AskedFrom T S called q rows i v

-- the rule that comes i-th of n
abbrev pub rule_in : Direction → ℕ → ℕ → ℕ
rule_in Down n i = n - 1 - i
rule_in Up n i = i

-- the words of a program's table, and the numbers of the half that it lends
abbrev pub table_in : Program → List ℕ
table_in o = table_of o.table.now

abbrev pub called_in : Program → List ℕ
called_in o = called_numbers o.called.now

-- the same over a program, and halves as they are stored
abbrev pub KeptIn : Program → List ℕ → Type 0
KeptIn o rows = Kept (table_in o) o.starts.now (called_in o) (numbers_of rows)

abbrev pub StepsIn : Program → Asked → List ℕ → List ℕ → Bool → Type 0
StepsIn o M rows after changed = Steps (table_in o) o.starts.now M (called_in o) (numbers_of rows) (numbers_of after) changed

-- the numbers from one place to another are 0
pub record ZeroIn (ns : List ℕ) (from to : ℕ) : Type 0 where
  pub zero : (i : ℕ) → from ≤ i → i < to → get_or ns i 0 ≡ 0

-- those of the called rules
pub record NoneCalled (called rows : List ℕ) (from to : ℕ) : Type 0 where
  pub zero : (i : ℕ) → from ≤ i → i < to → called_of called rows i ≡ 0

-- the greatest number from an index on
pub record Greatest (rows : List ℕ) (from q : ℕ) : Type 0 where
  pub most : (i : ℕ) → from ≤ i → get_or rows i 0 ≤ q
  pub attained : 0 < q → (i : ℕ) × (from ≤ i) × (i < length rows) × (get_or rows i 0 ≡ q)

-- the rules' starts have numbers
pub record Begun (T S called after : List ℕ) : Type 0 where
  pub kept : Kept T S called after
  pub begun : (r : ℕ) → r < length S → 0 < row_of after (start_of S r)

-- nothing is left to be raised
pub record Settled (T S called rows after : List ℕ) : Type 0 where
  pub kept : Kept T S called after
  pub grows : (i : ℕ) → get_or rows i 0 ≤ get_or after i 0
  pub all : {i v : ℕ} → AskedFrom T S called 0 after i v → i < half → min v cap ≤ row_of after i

-- all of this file computes where this is unfolded
unfoldable pub opened : Unit {0}
unfolding flag_of called_of left
opened = tt
