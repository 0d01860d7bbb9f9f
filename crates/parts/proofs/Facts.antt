-- Texts linked, worked out by hand, and by translating one text.
use mathlib.Core.Bool.{Bool, true, false, ◌&&◌}
use mathlib.Core.List.{List, [], ◌∷◌}
use Prim.Native.Nat.{ℕ}
use Prim.Native.String.{String}
use lib.Dec.{T, eqb}
use lib.ListN.{replicate}
use Rattle.base.specs.Common.{bytes, same}
use Rattle.calls.specs.Renumber
use Rattle.finishing.specs.Test
use Rattle.machine.specs.Bytes
use Rattle.names.specs.Declare
use Rattle.names.specs.Known
use Rattle.names.specs.Resolve
use Rattle.names.specs.Understand
use Rattle.names.specs.Uses
use Rattle.parts.specs.Joined
use Rattle.parts.specs.Joined.{joined_text}
use Rattle.parts.specs.Link
use Rattle.parts.specs.Link.{Linked, linked, refused, link_texts}
use Rattle.parts.specs.Objects
use Rattle.processor.specs.Process
use Rattle.processor.specs.Process.{Answer, accepted, process}
use Rattle.program.specs.Made
use Rattle.program.specs.Past
use Rattle.program.specs.Program
use Rattle.program.specs.Table
use Rattle.syntax.specs.Actions
use Rattle.syntax.specs.Parse
use Rattle.syntax.specs.Reading
use Rattle.syntax.specs.Sections
use Rattle.syntax.specs.Texts
use Rattle.words.specs.Words

linking : Unit {0}
unfolding Words.opened Reading.opened Actions.opened Sections.opened Parse.opened Known.opened Declare.opened Resolve.opened Understand.opened Uses.opened Made.opened Program.opened Past.opened Table.opened Test.opened Bytes.opened Process.opened Renumber.opened Texts.opened Objects.opened Link.opened Joined.opened
linking = tt

pub same_bool : Bool → Bool → Bool
same_bool true true = true
same_bool true false = false
same_bool false true = false
same_bool false false = true

pub alike : Linked → Answer → Bool
alike (linked ws v t) (accepted us u) = same ws us && same_bool v u
alike (linked ws v t) (Process.refused n p) = false
alike (refused n i p) a = false

pub data Fact : Type 0 where
  makes : String → List String → String → Fact  -- the parts linked give what the one text gives
  joins : String → List String → Fact  -- and what the text gives that is made of their bytes
  stops : String → List String → ℕ → ℕ → ℕ → ℕ → Fact  -- number, text, start and size of the word

pub texts : List String → List (List ℕ)
texts [] = []
texts (s ∷ ss) = bytes s ∷ texts ss

pub is_refused : Linked → ℕ → ℕ → ℕ → ℕ → Bool
is_refused (linked ws v t) n i s z = false
is_refused (refused m j p) n i s z = eqb m n && eqb j i && eqb p.start s && eqb p.size z

unfoldable pub holds : Fact → Bool
unfolding linking texts is_refused alike same_bool
holds (makes c ps one) = alike (link_texts (bytes c) (texts ps) 4096) (process (bytes one) 4096)
holds (joins c ps) = alike (link_texts (bytes c) (texts ps) 4096) (process (joined_text (bytes c) (texts ps)) 4096)
holds (stops c ps n i s z) = is_refused (link_texts (bytes c) (texts ps) 4096) n i s z

unfoldable pub all : List Fact → Bool
all [] = true
all (f ∷ fs) = holds f && all fs

abbrev common : String
common = "input: a b; type t: y n; type u: y; mechanism m: f; rules R >> t; end"

abbrev sums : String
sums = "input: a p q; output: o; operators E: p 1 left o q 2 right o; operators F: q 3 left o; rules end"

unfoldable pub facts : List Fact
facts =
    makes "rules end" ("rules M: ; end" ∷ []) "rules M: ; end"
    ∷ makes common ("rules M: [@R | y: a | n: @N ]; end" ∷ "rules R >> t: [ | b: >> y | *: >> n ]; N: { @M }; end" ∷ [])
    "input: a b; type t: y n; type u: y; mechanism m: f; rules M: [@R | y: a | n: @N ]; R >> t: [ | b: >> y | *: >> n ]; N: { @M }; end"
    ∷ makes common ("rules M: @N; end" ∷ "rules N: f; end" ∷ [])
    "input: a b; type t: y n; type u: y; mechanism m: f; rules M: @N; N: f; end"
    ∷ makes common ("rules N: f; end" ∷ "rules R >> t: @N { } ; M: @M; end" ∷ [])
    "input: a b; type t: y n; type u: y; mechanism m: f; rules N: f; R >> t: @N { } ; M: @M; end"
    -- operators: the made rules stand behind the last rule of the last part, a pair of two parts once
    ∷ makes sums ("rules M: ^E @X; N: ^E @X ^F @M; end" ∷ "rules X: a; K: ^F @M ^E @X ^F @X; end" ∷ [])
    "input: a p q; output: o; operators E: p 1 left o q 2 right o; operators F: q 3 left o; rules M: ^E @X; N: ^E @X ^F @M; X: a; K: ^F @M ^E @X ^F @X; end"
    ∷ joins common ("rules M: [@R | y: a | n: @N ]; end" ∷ "rules R >> t: [ | b: >> y | *: >> n ]; N: { @M };end" ∷ [])
    ∷ joins sums ("rules M: ^E @X; N: ^E @X ^F @M; end" ∷ "rules X: a; K: ^F @M ^E @X ^F @X; end % M" ∷ [])
    -- an operand rule in no part; one that is a choice rule; a section that is none
    ∷ stops sums ("rules M: ^E @X; end" ∷ []) 49 1 13 1
    ∷ stops common ("rules M: ^E @X; end" ∷ []) 3 1 10 1
    -- no part
    ∷ stops "rules end" [] 9 0 9 0
    -- 17 parts
    ∷ stops "rules end" (replicate 17 "rules M: ; end") 9 0 9 0
    -- the first rule of the part linked first has a type
    ∷ stops common ("rules R >> t: { }; end" ∷ []) 5 1 6 1
    -- a called rule in no part, after one with another type
    ∷ stops common ("rules M: @N; end" ∷ []) 49 1 10 1
    ∷ stops common ("rules M: ; R >> u: { }; N: @K; end" ∷ []) 49 1 11 1
    ∷ stops common ("rules M: ; end" ∷ "rules R: ; end" ∷ []) 49 2 6 1
    ∷ stops common ("rules M: ; end" ∷ "rules S >> t: { }; end" ∷ []) 49 2 6 1
    -- a rule name in two parts
    ∷ stops common ("rules M: ; end" ∷ "rules N: ; M: ; end" ∷ []) 50 2 11 1
    -- faults of a part: a call goes by the list, also to a rule of the same part
    ∷ stops common ("rules M: @R; R: ; end" ∷ []) 5 1 10 1
    ∷ stops common ("rules M: [@N | y: ]; N >> t: { }; end" ∷ []) 5 1 11 1
    ∷ stops common ("rules M: @f; end" ∷ []) 5 1 10 1
    -- a name that is only called is declared, but as a rule
    ∷ stops common ("rules M: .N @N; end" ∷ []) 5 1 10 1
    ∷ stops common ("rules M: .N; end" ∷ []) 3 1 10 1
    ∷ stops common ("rules M: ; M: ; end" ∷ []) 4 1 11 1
    -- faults of the common part
    ∷ stops "rules R >> t; end" ("rules M: ; end" ∷ []) 3 0 11 1
    ∷ stops "type t: y; rules R >> t; R >> t; end" ("rules M: > ; end" ∷ []) 4 0 25 1
    ∷ stops "type t: y; rules R >> t end" ("rules M: ; end" ∷ []) 2 0 24 3
    -- 2 of a part comes before 4 of the common part
    ∷ stops "input: a a; rules end" ("rules end" ∷ []) 2 1 6 3
    ∷ []

pub facts-hold : T (all facts)
unfolding facts all holds
facts-hold = tt

-- the limit of names, where the sections leave `left` and the list takes one: the part's own rules and those that they call are names, each once
is_fault : Objects.Translated → ℕ → ℕ → ℕ → Bool
is_fault (Objects.object o) n i s = false
is_fault (Objects.in_common m p) n i s = eqb m n && eqb i 0 && eqb p.start s
is_fault (Objects.in_part m p) n i s = eqb m n && eqb i 1 && eqb p.start s

leaving : ℕ → Texts.Common
leaving left = record { sections = []; left = left; listed = record { rule = word "R"; gives = word "t" } ∷ [] }
  where
    word : String → Words.Word
    word s = record { kind = Words.name; start = 0; text = bytes s }

names-past : T (is_fault (Objects.read_on (leaving 3) (Texts.read_part 3 (bytes "rules M: @N @M; N: @R @K; end"))) 9 1 23)
unfolding linking is_fault leaving
names-past = tt

-- with one more, the next fault is told: the type on the list is declared nowhere
names-fit : T (is_fault (Objects.read_on (leaving 4) (Texts.read_part 4 (bytes "rules M: @N @M; N: @R @K; end"))) 3 0 0)
unfolding linking is_fault leaving
names-fit = tt
