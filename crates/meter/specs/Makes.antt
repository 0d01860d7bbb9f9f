-- How the figure is found: numbers by location, raised until none can be raised. The number of a location is one more than the most instructions before it on a
-- quiet path, 0 where none comes. Behind the locations stand the numbers of each rule: the most instructions of its paths that are over, and of those that are back.
use Rattle.std.specs.Prelude.{false, List, ◌≡◌, ℕ, suc, ◌+◌, ◌≤◌, ◌<◌, min, length}
use Rattle.std.proofs.Math.Option.{Option, none, some}
use Rattle.events.specs.Events.{Event}
use Rattle.machine.specs.Decode.{Instruction, jump, input, input_any, write, input_choice, call_rule, return, set_result, choice, end_choice, set_parameter, update, update_with, choose, choose_with, decode}
use Rattle.figure.specs.Count.{most_figure}
use Rattle.figure.specs.Figure.{way_out, Reached, End, over, back, Quiet}
use Rattle.meter.specs.Shaped.{index_of, start_of, InRule, is_choice}

-- places in a half: the locations up to 4,096, then two numbers for each rule
abbrev pub over_at : ℕ → ℕ
over_at r = 4097 + r

abbrev pub back_at : ℕ → ℕ
back_at r = 4225 + r

abbrev pub half : ℕ
half = 4353

-- numbers stop here
abbrev pub cap : ℕ
cap = suc most_figure

-- the same end, where more may be known of the result
pub data Alike : End → End → Type 0 where
  alike_over : Alike over over
  alike_back : {y : Option ℕ} → Alike (back none) (back y)
  alike_given : {v : ℕ} → Alike (back (some v)) (back (some v))

pub data IsOver : End → Type 0 where
  is_over_lem : IsOver over

pub data IsBack : End → Type 0 where
  is_back : {y : Option ℕ} → IsBack (back y)

module _ (T : List ℕ) where
  -- where paths begin: at a rule's start; with the flag at every instruction that can be reached from it
  pub data Origin (flag s b : ℕ) : Type 0 where
    the_start : b ≡ s → Origin flag s b
    any_place : 0 < flag → Reached T s b → Origin flag s b

  pub record Then (b n : ℕ) (e : End) : Type 0 where
    pub end : End
    pub alike : Alike e end
    pub path : Quiet T b none n end

  -- what stands before l: n instructions, and then whatever goes on from l
  pub record Prefix (b l n : ℕ) : Type 0 where
    pub then_path : (m : ℕ) (e : End) → Quiet T l none m e → Then b (n + m) e

module _ (T S : List ℕ) where
  -- the instruction at l of rule r, k being the number of l, raises place i to v; `called` has the numbers of called rules; flag is 1 where a path begins at
  -- every instruction that can be reached
  pub data Makes (called : ℕ → ℕ) (flag r l k : ℕ) : Instruction → ℕ → ℕ → Type 0 where
    makes_jump : {m : ℕ} → Makes called flag r l k (jump m) m (k + 1)
    makes_input : {t : ℕ} → Makes called flag r l k (input t) (over_at r) k
    marks_input : {t : ℕ} → Makes called flag r l k (input t) (l + 2) flag
    makes_any : Makes called flag r l k input_any (over_at r) k
    marks_any : Makes called flag r l k input_any (l + 1) flag
    makes_write : {e : Event} → Makes called flag r l k (write e) (l + 2) (k + 1)
    makes_token : {c : ℕ} → Makes called flag r l k (input_choice c) (over_at r) k
    makes_default : {c : ℕ} → Makes called flag r l k (input_choice c) (way_out T c none) (k + 1)
    marks_label : {c : ℕ} (v : Option ℕ) → Makes called flag r l k (input_choice c) (way_out T c v) flag
    -- over in the called rule, or at the call itself
    makes_call_over : {s : ℕ} → index_of S s < length S → Makes called flag r l k (call_rule s) (over_at r) (k + called (over_at (index_of S s)))
    makes_call_back : {s : ℕ} → index_of S s < length S → is_choice (decode T (l + 2)) ≡ false → 0 < called (back_at (index_of S s))
        → Makes called flag r l k (call_rule s) (l + 2) (k + called (back_at (index_of S s)) + 1)
    -- through the choice behind the call, by the value that is set at p
    makes_call_value : {s c p v : ℕ} → index_of S s < length S → decode T (l + 2) ≡ choice c → InRule T S (index_of S s) p → decode T p ≡ set_result v → 0 < called p
        → Makes called flag r l k (call_rule s) (way_out T c (some v)) (k + called p + 3)
    marks_call : {s : ℕ} → index_of S s < length S → Makes called flag r l k (call_rule s) (l + 2) flag
    makes_return : Makes called flag r l k return (back_at r) k
    makes_result : {v : ℕ} → Makes called flag r l k (set_result v) (l + 2) (k + 1)
    makes_choice : {c : ℕ} (v : Option ℕ) → Makes called flag r l k (choice c) (way_out T c v) (k + 1)
    makes_end : Makes called flag r l k end_choice (over_at r) k
    makes_parameter : {v : ℕ} → Makes called flag r l k (set_parameter v) (l + 2) (k + 1)
    makes_update : {op : ℕ} → Makes called flag r l k (update op) (l + 1) (k + 1)
    makes_update_with : {op : ℕ} → Makes called flag r l k (update_with op) (l + 1) (k + 1)
    makes_choose : {op : ℕ} → Makes called flag r l k (choose op) (l + 1) (k + 1)
    makes_choose_over : {op : ℕ} → Makes called flag r l k (choose op) (over_at r) k
    makes_choose_with : {op : ℕ} → Makes called flag r l k (choose_with op) (l + 1) (k + 1)
    makes_choose_with_over : {op : ℕ} → Makes called flag r l k (choose_with op) (over_at r) k

  -- nothing is left to be raised
  pub record Closed (called row : ℕ → ℕ) (flag : ℕ) : Type 0 where
    pub closed : {r l i v : ℕ} → r < length S → InRule T S r l → 0 < row l → Makes called flag r l (row l) (decode T l) i v → i < half → min v cap ≤ row i
    pub begun : (r : ℕ) → r < length S → 0 < row (start_of S r)

  -- a path comes to l with as many instructions before it as v says
  pub record Comes (flag l v : ℕ) : Type 0 where
    pub rule : ℕ
    pub begin : ℕ
    pub before : ℕ
    pub is_rule : rule < length S
    pub reached : Reached T (start_of S rule) l
    pub origin : Origin T flag (start_of S rule) begin
    pub prefix : Prefix T begin l before
    pub enough : v ≤ suc before

  -- a path of rule r ends so, with v instructions or more
  pub record Ends (flag r v : ℕ) (Is : End → Type 0) : Type 0 where
    pub begin : ℕ
    pub count : ℕ
    pub end : End
    pub origin : Origin T flag (start_of S r) begin
    pub path : Quiet T begin none count end
    pub is : Is end
    pub enough : v ≤ count

  -- a place of a half may have the number v
  pub data Stands (flag i v : ℕ) : Type 0 where
    stands_place : i < 4097 → Comes flag i v → Stands flag i v
    stands_over : (r : ℕ) → r < length S → i ≡ over_at r → Ends flag r v IsOver → Stands flag i v
    stands_back : (r : ℕ) → r < length S → i ≡ back_at r → Ends flag r v IsBack → Stands flag i v

  -- every number is that of a path
  pub record Sound (row : ℕ → ℕ) (flag : ℕ) : Type 0 where
    pub stands : (i : ℕ) → i < half → 0 < row i → Stands flag i (row i)
