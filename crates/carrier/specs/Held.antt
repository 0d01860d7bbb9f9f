-- The rules of a program as the code holds them, a sheet of 770 numbers: for each of at most 128 rules a row of six, its location and its name; then how many rules there are, and how many words their table has.
use Rattle.std.specs.Prelude.{Bool, false, ◌&&◌, List, [], ℕ, zero, suc, ◌+◌, ◌-◌, ◌*◌, ◌<◌, ◌≤◌, eqb, leb, ltb, get_or, if◌then◌else◌}
use Rattle.carry.specs.Carry.{Name, written, made, same_name}
use Rattle.carry.specs.Scan.{instruction, same_scan}
use Rattle.machine.specs.Bytes.{count, words_of}
use Rattle.symbols.specs.Search.{part}

-- how many rules there are
abbrev pub count_held : List ℕ → ℕ
count_held sheet = get_or sheet 768 0

-- how many words their table has
abbrev pub size_held : List ℕ → ℕ
size_held sheet = get_or sheet 769 0

-- number k of the row of rule i
unfoldable pub number_held : List ℕ → ℕ → ℕ → ℕ
number_held sheet i k = get_or sheet (6 * i + k) 0

-- the name of rule i: "A rule made for A.7 is named by its section, operand rule and level."; the level is 0 of a rule that is written
unfoldable pub name_held : List ℕ → List ℕ → ℕ → Name
name_held text sheet i =
    if eqb (number_held sheet i 5) 0 then written (part text (number_held sheet i 1) (number_held sheet i 2))
    else made (part text (number_held sheet i 1) (number_held sheet i 2)) (part text (number_held sheet i 3) (number_held sheet i 4)) (number_held sheet i 5)

-- the last of the first k rules that begins at l or before
unfoldable pub last_held : List ℕ → ℕ → ℕ → ℕ
last_held sheet zero l = 128
last_held sheet (suc k) l = let lower = last_held sheet k l in if leb (number_held sheet k 0) l then k else lower

-- the rule in which a location lies, 128 where it lies in none
unfoldable pub rule_held : List ℕ → ℕ → ℕ
rule_held sheet l = if leb 1 l && leb l (size_held sheet) then last_held sheet (count_held sheet) l else 128

-- the rules in which two locations lie have one name
unfoldable pub calls_held : List ℕ → List ℕ → List ℕ → List ℕ → ℕ → ℕ → Bool
calls_held old sheet new other x y =
    let i = rule_held sheet x in
    let j = rule_held other y in
    if eqb i 128 then false else if eqb j 128 then false else same_name (name_held old sheet i) (name_held new other j)

-- the first rule from j on, of so many, that has the name of rule i; 128 where there is none
unfoldable pub find_held : List ℕ → List ℕ → ℕ → List ℕ → List ℕ → ℕ → ℕ → ℕ
find_held old sheet i new other zero j = 128
find_held old sheet i new other (suc more) j = let later = find_held old sheet i new other more (suc j) in if same_name (name_held old sheet i) (name_held new other j) then j else later

-- behind the last word of rule i
unfoldable pub end_held : List ℕ → ℕ → ℕ
end_held sheet i = if ltb (i + 1) (count_held sheet) then number_held sheet (i + 1) 0 else size_held sheet + 1

-- the rows of rules whose table has these bytes: each rule has its words inside it
pub record Laid (sheet table : List ℕ) : Type 0 where
  pub few : count_held sheet ≤ 128
  pub small : size_held sheet ≤ 4096
  pub inside : size_held sheet ≤ count table
  pub from : (i : ℕ) → i < count_held sheet → 1 ≤ number_held sheet i 0
  pub onward : (i : ℕ) → i < count_held sheet → number_held sheet i 0 ≤ end_held sheet i
  pub within : (i : ℕ) → i < count_held sheet → end_held sheet i ≤ size_held sheet + 1

module _ (a b old sheet new other : List ℕ) where
  -- rule i and rule j have the same words
  unfoldable pub words_held : ℕ → ℕ → Bool
  words_held i j =
      let n = end_held sheet i - number_held sheet i 0 in
      let m = end_held other j - number_held other j 0 in
      if eqb m n then same_scan (calls_held old sheet new other) [] 0 instruction (part (words_of a) (number_held sheet i 0 - 1) n) (part (words_of b) (number_held other j 0 - 1) n) else false

  -- the place that a location becomes, 0 where it becomes none
  unfoldable pub place_held : ℕ → ℕ
  place_held l =
      let i = rule_held sheet l in
      let j = find_held old sheet i new other (count_held other) 0 in
      if eqb i 128 then 0 else if eqb j 128 then 0 else if words_held i j then number_held other j 0 + (l - number_held sheet i 0) else 0
