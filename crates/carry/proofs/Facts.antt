-- Walks carried between texts, worked out by hand: location and return locations after, or the number.
use mathlib.Core.Bool.{Bool, true, false, ◌&&◌}
use mathlib.Core.List.{List, [], ◌∷◌}
use Prim.Native.Nat.{ℕ}
use Prim.Native.String.{String}
use lib.Dec.{T, eqb}
use Rattle.base.specs.Common.{bytes, same}
use Rattle.carry.specs.Carry
use Rattle.carry.specs.Texts
use Rattle.carry.specs.Texts.{Answer, goes, differs, refused, carry_texts, carry_bytes}
use Rattle.events.specs.Events
use Rattle.events.specs.Events.{differs as other_token}
use Rattle.finishing.specs.Test
use Rattle.machine.specs.Bytes
use Rattle.machine.specs.Form
use Rattle.machine.specs.Form.{walk_bytes}
use Rattle.machine.specs.Walk
use Rattle.machine.specs.Walk.{waiting, stopped, Walk}
use Rattle.names.specs.Declare
use Rattle.names.specs.Known
use Rattle.names.specs.Resolve
use Rattle.names.specs.Understand
use Rattle.names.specs.Uses
use Rattle.processor.specs.Process
use Rattle.program.specs.Made
use Rattle.program.specs.Past
use Rattle.program.specs.Program
use Rattle.program.specs.Table
use Rattle.syntax.specs.Actions
use Rattle.syntax.specs.Parse
use Rattle.syntax.specs.Reading
use Rattle.syntax.specs.Sections
use Rattle.words.specs.Words

carrying : Unit {0}
unfolding Words.opened Reading.opened Actions.opened Sections.opened Parse.opened Known.opened Declare.opened Resolve.opened Uses.opened Understand.opened Made.opened Program.opened Past.opened Table.opened Test.opened Process.opened Events.opened Walk.opened Bytes.opened Form.opened Carry.opened Texts.opened
carrying = tt

pub data Fact : Type 0 where
  moves : String → String → ℕ → List ℕ → ℕ → List ℕ → Fact  -- from location and return locations to others
  keeps : String → String → ℕ → List ℕ → ℕ → Fact  -- 51 or 52
  faults : String → String → ℕ → ℕ → ℕ → ℕ → Fact  -- the number, the text, the start and the size of the part at fault
  nowalk : String → String → List ℕ → Fact  -- bytes that are no walk: 21, and nothing moves

pub walk_at : ℕ → List ℕ → Walk
walk_at l rs = record { phase = waiting; location = l; returns = rs; result = 7; parameter = 8; io = record { read = 9; used = 10; allowance = 11; events = [] } }

pub is_at : Answer → ℕ → List ℕ → Bool
is_at (goes w) l rs =
    eqb w.location l && same w.returns rs && eqb w.result 7 && eqb w.parameter 8 && eqb w.io.read 9 && eqb w.io.used 10 && eqb w.io.allowance 11
is_at (differs n) l rs = false
is_at (refused n t at) l rs = false

pub is_stay : Answer → ℕ → Bool
is_stay (goes w) n = false
is_stay (differs m) n = eqb m n
is_stay (refused m t at) n = false

unfoldable pub holds : Fact → Bool
unfolding carrying is_at is_stay walk_at
holds (moves old new l rs m ss) =
    let o = carry_bytes (bytes old) (bytes new) (walk_bytes (walk_at l rs)) in
    is_at (carry_texts (bytes old) (bytes new) (walk_at l rs)) m ss && eqb o.number 0 && same o.walk (walk_bytes (walk_at m ss))
holds (keeps old new l rs n) =
    let o = carry_bytes (bytes old) (bytes new) (walk_bytes (walk_at l rs)) in
    is_stay (carry_texts (bytes old) (bytes new) (walk_at l rs)) n && eqb o.number n && same o.walk (walk_bytes (walk_at l rs))
holds (faults old new n t start size) =
    let o = carry_bytes (bytes old) (bytes new) (walk_bytes (walk_at 1 [])) in
    eqb o.number n && eqb o.text t && eqb o.start start && eqb o.size size && same o.walk (walk_bytes (walk_at 1 []))
holds (nowalk old new walk) = let o = carry_bytes (bytes old) (bytes new) walk in eqb o.number 21 && eqb o.text 0 && same o.walk walk

unfoldable pub all : List Fact → Bool
all [] = true
all (f ∷ fs) = holds f && all fs

unfoldable pub facts : List Fact
facts =
    -- a rule stands before it now: M (8 N 3 a 9) was at 1 and N at 6, they are at 5 and 10
    moves "input: a; rules M: @N a; N: a; end" "input: a; rules K: ? a; M: @N a; N: a; end" 6 (3 ∷ []) 10 (7 ∷ [])
    -- the called rule has moved and changed, but is not in progress
    ∷ moves "input: a; rules M: @N a; N: a; end" "input: a; rules M: @N a; K: ; N: ? ; end" 3 [] 3 []
    -- it is in progress
    ∷ keeps "input: a; rules M: @N a; N: a; end" "input: a; rules M: @N a; K: ; N: ? ; end" 6 (3 ∷ []) 52
    -- a call of another rule at the same location is another word; the same name is not
    ∷ keeps "rules M: @N; N: ; K: ; end" "rules M: @K; K: ; N: ; end" 1 [] 52
    ∷ moves "rules M: @N; N: ; K: ; end" "rules M: @N; K: ; N: ; end" 1 [] 1 []
    -- a rule that is gone, a place in no rule
    ∷ keeps "rules M: @N; N: ; end" "rules M: ; K: ; end" 4 [] 52
    ∷ keeps "rules M: ; end" "rules M: ; end" 0 [] 52
    ∷ keeps "rules M: ; end" "rules M: ; end" 2 [] 52
    ∷ keeps "rules M: ; end" "rules M: ; end" 1 (2 ∷ []) 52
    -- a called name that the old program has not
    ∷ keeps "rules M: @N; N: ; end" "rules M: @K; K: ; end" 1 [] 52
    -- the same words of another tree: otherwise as the only alternative has no end in the table
    ∷ moves "input: a b; rules M: [ | *: a ] b; end" "input: a b; rules M: if ! *: a b fi; end" 6 [] 6 []
    -- sections by their words: blanks and comments count for nothing, spelling does; 51 before 52
    ∷ moves "input: a 'x'; rules M: a; end" "input :a % x\n 'x';rules M: 'x' ; end" 1 [] 1 []
    ∷ keeps "input: a; rules M: a; end" "input: a = 0; rules M: a; end" 1 [] 51
    ∷ keeps "input: a; rules M: a; end" "input: b; rules M: b; end" 0 [] 51
    ∷ keeps "input: a = 7; rules M: a; end" "input: a = 07; rules M: a; end" 1 [] 51
    ∷ keeps "mechanism m: f; rules M: f; end" "mechanism n: f; rules M: f; end" 1 [] 51
    -- a default that goes back to the first alternative, at its input and at its jump_back (M is 7 3 1 8 1 0 4 3 0 2 8 9)
    ∷ moves "input: a; rules M: [ | a: ]; end" "input: a; rules K: ; M: [ | a: ]; end" 8 [] 9 []
    ∷ moves "input: a; rules M: [ | a: ]; end" "input: a; rules K: ; M: [ | a: ]; end" 10 [] 11 []
    -- rules made for operators: M (8 7 9) at 1, R (3 0 9) at 4, the level's rule from 7 on; its input_choice is at 9
    ∷ moves "input: a p; output: o; operators E: p 1 left o; rules M: ^E @R; R: a; end" "input: a p; output: o; operators E: p 1 left o; rules K: ? ; M: ^E @R; R: a; end" 9 (3 ∷ []) 11 (5 ∷ [])
    -- another rule, and another pair behind the first; and without them again
    ∷ moves "input: a p q; output: o; operators E: p 1 left o; operators F: q 1 right o; rules M: ^E @R; R: a; end"
    "input: a p q; output: o; operators E: p 1 left o; operators F: q 1 right o; rules M: ^E @R; R: a; K: ^F @R; end" 9 (3 ∷ []) 12 (3 ∷ [])
    ∷ moves "input: a p q; output: o; operators E: p 1 left o; operators F: q 1 right o; rules M: ^E @R; R: a; K: ^F @R; end"
    "input: a p q; output: o; operators E: p 1 left o; operators F: q 1 right o; rules M: ^E @R; R: a; end" 12 (3 ∷ []) 9 (3 ∷ [])
    -- another pair is used first: its rule (14 words) stands before
    ∷ moves "input: a p q; output: o; operators E: p 1 left o; operators F: q 1 right o; rules M: ^E @R; R: a; end"
    "input: a p q; output: o; operators E: p 1 left o; operators F: q 1 right o; rules K: ^F @R; M: ^E @R; R: a; end" 9 (3 ∷ []) 26 (6 ∷ [])
    -- two levels: the second keeps its name where a use of the section with another operand rule comes first
    ∷ moves "input: a p q; output: o; operators E: q 9 left o p 1 left o; rules M: ^E @R; R: a; S: a; end"
    "input: a p q; output: o; operators E: q 9 left o p 1 left o; rules K: ^E @S; M: ^E @R; R: a; S: a; end" 28 (12 ∷ 3 ∷ []) 67 (51 ∷ 6 ∷ [])
    -- another operand rule, another section: another rule
    ∷ keeps "input: a p; output: o; operators E: p 1 left o; rules M: ^E @R; R: a; Q: a; end" "input: a p; output: o; operators E: p 1 left o; rules M: ^E @Q; R: a; Q: a; end" 1 [] 52
    ∷ keeps "input: a p; output: o; operators E: p 1 left o; operators F: p 1 left o; rules M: ^E @R; R: a; end" "input: a p; output: o; operators E: p 1 left o; operators F: p 1 left o; rules M: ^F @R; R: a; end" 1 [] 52
    -- a rule that is written where one was made
    ∷ keeps "input: a p; output: o; operators E: p 1 left o; rules M: ^E @R; R: a; end" "input: a p; output: o; operators E: p 1 left o; rules M: @L; R: a; L: @R { [ | p: @R .o | *: > ] }; end" 9 (3 ∷ []) 52
    -- a text that is not accepted gives its own number, the old one first; 51 and 52 come after
    ∷ faults "rules M: @N; end" "rules M: > ; end" 3 1 10 1
    ∷ faults "rules M: ; end" "input: a; rules M: > ; end" 7 2 19 1
    -- 21 before all else
    ∷ nowalk "rules M: @N; end" "rules M: ; end" (0 ∷ [])
    ∷ []

pub facts-hold : T (all facts)
unfolding facts all holds
facts-hold = tt
