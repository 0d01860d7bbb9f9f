-- What the code asks of a table and of the locations where its rules start; the table of every accepted program has it.
use Rattle.std.specs.Prelude.{Bool, true, false, List, [], ◌∷◌, ◌≡◌, ℕ, suc, ◌+◌, ◌*◌, ◌≤◌, ◌<◌, eqb, ltb, length, get_or, if◌then◌else◌}
use Rattle.std.proofs.Math.Option.{Option, none, some}
use Rattle.machine.specs.Decode.{fetch, Instruction, invalid, jump, input, input_any, write, input_choice, call_rule, return, set_result, choice, end_choice, set_parameter, update, update_with, choose, choose_with, decode}
use Rattle.figure.specs.Figure.{Reached, back, Quiet}

-- which rule starts at s: the first; their number where none does
unfoldable pub index_of : List ℕ → ℕ → ℕ
index_of [] s = 0
index_of (t ∷ ts) s = let later = suc (index_of ts s) in if eqb t s then 0 else later

-- where rule r starts
abbrev pub start_of : List ℕ → ℕ → ℕ
start_of S r = get_or S r 0

-- rules start one behind the other
pub record Rising (S : List ℕ) : Type 0 where
  pub rising : {r q : ℕ} → r < q → q < length S → start_of S r < start_of S q

-- the rules before the low-th start before s, those from the high-th on at s or behind it
pub record Between (S : List ℕ) (s low high : ℕ) : Type 0 where
  pub order : low ≤ high
  pub inside : high ≤ length S
  pub before : (q : ℕ) → q < low → start_of S q < s
  pub behind : (q : ℕ) → high ≤ q → q < length S → s ≤ start_of S q

-- where the words of rule r end: at the next rule's, or behind the last word
unfoldable pub end_of : ℕ → List ℕ → ℕ → ℕ
end_of size S r = if ltb (r + 1) (length S) then get_or S (r + 1) 0 else size + 1

-- l is among the words of rule r
pub record InRule (T S : List ℕ) (r l : ℕ) : Type 0 where
  pub from : start_of S r ≤ l
  pub to : l < end_of (length T) S r

unfoldable pub is_choice : Instruction → Bool
is_choice invalid = false
is_choice (jump m) = false
is_choice (input t) = false
is_choice input_any = false
is_choice (write e) = false
is_choice (input_choice c) = false
is_choice (call_rule s) = false
is_choice return = false
is_choice (set_result v) = false
is_choice (choice c) = true
is_choice end_choice = false
is_choice (set_parameter v) = false
is_choice (update op) = false
is_choice (update_with op) = false
is_choice (choose op) = false
is_choice (choose_with op) = false

-- a value, or none
pub data Given : Bool → Option ℕ → Type 0 where
  given_none : Given false none
  given_some : {v : ℕ} → Given true (some v)

-- the choice table at c lies inside
pub record Fits (T : List ℕ) (c : ℕ) : Type 0 where
  pub count : ℕ
  pub is_count : fetch T c ≡ some count
  pub low : 1 ≤ c
  pub fits : c + 2 * count ≤ length T

-- the instruction has its choice table at c
pub data HasTable (c : ℕ) : Instruction → Type 0 where
  by_token : HasTable c (input_choice c)
  by_result : HasTable c (choice c)

pub record Shaped (T S : List ℕ) : Type 0 where
  pub short : length T ≤ 4096
  pub few : length S ≤ 128
  pub rising : Rising S
  -- a rule does not leave its words, nor the table
  pub inside : {r l : ℕ} → r < length S → Reached T (start_of S r) l → (1 ≤ l) × (l ≤ length T)
  pub stays : {r l : ℕ} → r < length S → Reached T (start_of S r) l → InRule T S r l
  pub apart : {r q l : ℕ} → r < length S → q < length S → InRule T S r l → InRule T S q l → r ≡ q
  pub tables : {r l c : ℕ} → r < length S → Reached T (start_of S r) l → HasTable c (decode T l) → Fits T c
  -- calls go to rules
  pub calls : {r l s : ℕ} → r < length S → Reached T (start_of S r) l → decode T l ≡ call_rule s → index_of S s < length S
  -- a value is set before a return only
  pub gives : {r l v : ℕ} → r < length S → Reached T (start_of S r) l → decode T l ≡ set_result v → decode T (l + 2) ≡ return
  -- a rule gives a value exactly if a choice stands behind its calls
  pub answers : {r l s m : ℕ} {y : Option ℕ} → r < length S → Reached T (start_of S r) l → decode T l ≡ call_rule s → Quiet T s none m (back y)
      → Given (is_choice (decode T (l + 2))) y

-- all of this file computes where this is unfolded
unfoldable pub opened : Unit {0}
unfolding index_of end_of is_choice
opened = tt
