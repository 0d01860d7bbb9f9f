-- Maps of texts, worked out by hand.
use mathlib.Core.Bool.{Bool, true, false, ◌&&◌}
use mathlib.Core.List.{List, [], ◌∷◌, ◌++◌}
use mathlib.Core.Path.{◌≡◌, refl}
use Prim.Native.Nat.{ℕ}
use Prim.Native.String.{String}
use lib.Dec.{T, eqb}
use lib.ListN.{replicate}
use Rattle.base.specs.Common.{bytes, same}
use Rattle.finishing.specs.Test
use Rattle.machine.specs.Bytes
use Rattle.machine.specs.Form
use Rattle.mapping.specs.Mapping
use Rattle.mapping.specs.Mapping.{Row, Answer, mapped, refused, map_rules, Numbers, numbers_of, lent_rows, room_in, tells}
use Rattle.names.specs.Declare
use Rattle.names.specs.Known
use Rattle.names.specs.Resolve
use Rattle.names.specs.Understand
use Rattle.names.specs.Uses
use Rattle.processor.specs.Process
use Rattle.program.specs.Made
use Rattle.program.specs.Past
use Rattle.program.specs.Program
use Rattle.program.specs.Table
use Rattle.syntax.specs.Actions
use Rattle.syntax.specs.Parse
use Rattle.syntax.specs.Reading
use Rattle.syntax.specs.Sections
use Rattle.words.specs.Words

mapping : Unit {0}
unfolding Words.opened Reading.opened Actions.opened Sections.opened Parse.opened Known.opened Declare.opened Resolve.opened Understand.opened Uses.opened Made.opened Program.opened Past.opened Table.opened Test.opened Bytes.opened Form.opened Process.opened Mapping.opened
mapping = tt

pub numbers_in : List Row → List ℕ
numbers_in [] = []
numbers_in (r ∷ rs) = r.start ∷ r.size ∷ r.location ∷ numbers_in rs

-- three numbers a rule
pub is_map : List ℕ → Answer → Bool
is_map ns (mapped rows) = same ns (numbers_in rows)
is_map ns (refused n) = false

pub record Case : Type 0 where
  pub text : String
  pub rows : List ℕ

abbrev pub maps : String → List ℕ → Case
maps t ns = record { text = t; rows = ns }

pub all_map : List Case → Bool
all_map [] = true
all_map (c ∷ cs) = is_map c.rows (map_rules (bytes c.text) 4) && all_map cs

-- a rule; a rule called before it stands, and a comment with a name; a choice rule, which has no return behind it; two levels over one operand rule, one level
-- over two operand rules
pub cases : List Case
cases =
    maps "rules M: ; end" (6 ∷ 1 ∷ 1 ∷ [])
    ∷ maps "input: a;\nrules Main: a @Next; % N:\nNext: ; end" (16 ∷ 4 ∷ 1 ∷ 36 ∷ 4 ∷ 6 ∷ [])
    ∷ maps "type t: x; rules M: [@N | x: ]; N >> t: >> x; P: ; end" (17 ∷ 1 ∷ 1 ∷ 32 ∷ 1 ∷ 12 ∷ 46 ∷ 1 ∷ 15 ∷ [])
    ∷ maps "input: a plus times; output: add mul; operators E: plus 1 left add times 2 left mul; rules M: ^E @P; P: a; end"
    (91 ∷ 1 ∷ 1 ∷ 101 ∷ 1 ∷ 4 ∷ 94 ∷ 5 ∷ 7 ∷ 94 ∷ 5 ∷ 25 ∷ [])
    ∷ maps "input: a up; output: pow; operators E: up 9 right pow; rules M: ^E\n@P ^E @M ^E @P; P: a; end"
    (61 ∷ 1 ∷ 1 ∷ 83 ∷ 1 ∷ 8 ∷ 64 ∷ 5 ∷ 11 ∷ 70 ∷ 5 ∷ 25 ∷ [])
    ∷ []

pub cases-map : T (all_map cases)
unfolding mapping numbers_in is_map all_map cases
cases-map = tt

-- Numbers and lent bytes

pub record Lent : Type 0 where
  pub text : String
  pub lent : ℕ
  pub number : ℕ
  pub rules : ℕ
  pub after : List ℕ

abbrev pub lends : String → ℕ → ℕ → ℕ → List ℕ → Lent
lends t n r k bs = record { text = t; lent = n; number = r; rules = k; after = bs }

-- so many lent bytes, each 7 before
pub holds : Lent → Bool
holds l =
    let before : List ℕ = replicate l.lent 7 in
    let a = map_rules (bytes l.text) (room_in before) in
    eqb (numbers_of a).number l.number && eqb (numbers_of a).rules l.rules && same (lent_rows a before) l.after

pub all_hold : List Lent → Bool
all_hold [] = true
all_hold (l ∷ ls) = holds l && all_hold ls

-- a number below 256 in eight bytes
abbrev pub eight : ℕ → List ℕ
eight n = replicate 7 0 ++ (n ∷ [])

-- bytes behind the last row are kept; room for one row where there are two; a refused text with no room
pub buffers : List Lent
buffers =
    lends "rules M: ; N: ; end" 50 0 2 (eight 6 ++ (eight 1 ++ (eight 1 ++ (eight 11 ++ (eight 1 ++ (eight 2 ++ (7 ∷ 7 ∷ [])))))))
    ∷ lends "rules M: ; N: ; end" 48 0 2 (eight 6 ++ (eight 1 ++ (eight 1 ++ (eight 11 ++ (eight 1 ++ eight 2)))))
    ∷ lends "rules M: ; N: ; end" 47 20 0 (replicate 47 7)
    ∷ lends "rules M: > ; end" 23 7 0 (replicate 23 7)
    ∷ lends "" 0 2 0 []
    ∷ []

pub buffers-hold : T (all_hold buffers)
unfolding mapping holds all_hold buffers
buffers-hold = tt

-- "as with a lent table of 4,096 words": a program of just so many, `?` over and over and the return, and of one more
pub long : ℕ → List ℕ
long n = bytes "rules M: " ++ (replicate n 63 ++ bytes "; end")

pub longest : T (is_map (6 ∷ 1 ∷ 1 ∷ []) (map_rules (long 4095) 1) && eqb (numbers_of (map_rules (long 4096) 1)).number 20)
unfolding mapping numbers_in is_map long
longest = tt

-- what the C caller reads: the number, then how many rules there are
pub told : numbers_of (map_rules (bytes "rules M: ; N: ; end") 2) ∷ numbers_of (map_rules (bytes "rules M: > ; end") 2) ∷ [] ≡ tells 0 2 ∷ tells 7 0 ∷ []
unfolding mapping
told = refl
