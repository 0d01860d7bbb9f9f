-- The lent bytes after a call, and 20, worked out from document 01 by hand.
use mathlib.Core.Bool.{Bool, true, false, ◌&&◌, not}
use mathlib.Core.List.{List, [], ◌∷◌}
use Prim.Native.Nat.{ℕ, zero, suc, ◌+◌}
use Prim.Native.String.{String}
use lib.Dec.{T, eqb}
use lib.ListN.{length, replicate}
use Rattle.base.specs.Common.{bytes, same}
use Rattle.base.specs.Tree.{plain, done, ◌▸◌}
use Rattle.finishing.specs.Test
use Rattle.machine.specs.Bytes
use Rattle.machine.specs.Bytes.{count}
use Rattle.names.specs.Declare
use Rattle.names.specs.Known
use Rattle.names.specs.Resolve
use Rattle.names.specs.Understand
use Rattle.names.specs.Uses
use Rattle.program.specs.Made
use Rattle.processor.specs.Process
use Rattle.processor.specs.Process.{Understood, meaning, Answer, accepted, refused, answer_for, process, lent_bytes}
use Rattle.program.specs.Past
use Rattle.program.specs.Program
use Rattle.program.specs.Program.{any, Acts}
use Rattle.program.specs.Table
use Rattle.syntax.specs.Actions
use Rattle.syntax.specs.Parse
use Rattle.syntax.specs.Reading
use Rattle.syntax.specs.Sections
use Rattle.words.specs.Words

processing : Unit {0}
unfolding Words.opened Reading.opened Actions.opened Sections.opened Parse.opened Known.opened Declare.opened Resolve.opened Understand.opened Uses.opened Made.opened Program.opened Past.opened Table.opened Test.opened Bytes.opened Process.opened
processing = tt

-- 0 where the text is accepted
pub number_of : Answer → ℕ
number_of (accepted ws f) = 0
number_of (refused n at) = n

pub start_of : Answer → ℕ
start_of (accepted ws f) = 0
start_of (refused n at) = at.start

pub size_of : Answer → ℕ
size_of (accepted ws f) = 0
size_of (refused n at) = at.size

-- Lent bytes

-- a text and so many lent bytes, each 7 before: the number, the start of the part at fault, the lent bytes after
pub record Lent : Type 0 where
  pub text : String
  pub lent : ℕ
  pub number : ℕ
  pub start : ℕ
  pub after : List ℕ

abbrev pub lends : String → ℕ → ℕ → ℕ → List ℕ → Lent
lends t n r s bs = record { text = t; lent = n; number = r; start = s; after = bs }

pub holds : Lent → Bool
holds l =
    let before : List ℕ = replicate l.lent 7 in
    let a = process (bytes l.text) (count before) in
    eqb (number_of a) l.number && eqb (start_of a) l.start && same (lent_bytes a before) l.after

pub all_hold : List Lent → Bool
all_hold [] = true
all_hold (l ∷ ls) = holds l && all_hold ls

-- "20 the table passes the lent buffer": enough, one word more, one short; "an odd last byte counts for nothing and is not touched"; "On
-- acceptance the words after the table are zero", "lent table all zero words", "table zeroed"; "words high byte first"
pub buffers : List Lent
buffers =
    lends "input: a; rules M: a; end" 6 0 0 (0 ∷ 3 ∷ 0 ∷ 0 ∷ 0 ∷ 9 ∷ [])
    ∷ lends "input: a; rules M: a; end" 7 0 0 (0 ∷ 3 ∷ 0 ∷ 0 ∷ 0 ∷ 9 ∷ 7 ∷ [])
    ∷ lends "input: a; rules M: a; end" 8 0 0 (0 ∷ 3 ∷ 0 ∷ 0 ∷ 0 ∷ 9 ∷ 0 ∷ 0 ∷ [])
    ∷ lends "input: a; rules M: a; end" 11 0 0 (0 ∷ 3 ∷ 0 ∷ 0 ∷ 0 ∷ 9 ∷ 0 ∷ 0 ∷ 0 ∷ 0 ∷ 7 ∷ [])
    ∷ lends "input: a; rules M: a; end" 5 20 25 (0 ∷ 0 ∷ 0 ∷ 0 ∷ 7 ∷ [])
    ∷ lends "input: a; rules M: a; end" 4 20 25 (0 ∷ 0 ∷ 0 ∷ 0 ∷ [])
    ∷ lends "rules M: ; end" 2 0 0 (0 ∷ 9 ∷ [])
    ∷ lends "rules M: ; end\n" 1 20 15 (7 ∷ [])
    ∷ lends "rules M: ; end % x" 0 20 18 []
    ∷ lends "rules M: > ; end" 5 7 9 (0 ∷ 0 ∷ 0 ∷ 0 ∷ 7 ∷ [])
    ∷ lends "rules M: > ; end" 0 7 9 []
    ∷ lends "rules M: $" 3 1 9 (0 ∷ 0 ∷ 7 ∷ [])
    ∷ lends "input: a = 65535; output: b = 258; rules M: a .b; end" 11 0 0 (0 ∷ 3 ∷ 255 ∷ 255 ∷ 0 ∷ 5 ∷ 1 ∷ 2 ∷ 0 ∷ 9 ∷ 7 ∷ [])
    ∷ []

pub buffers-hold : T (all_hold buffers)
unfolding processing number_of start_of holds all_hold buffers
buffers-hold = tt

-- The verdict, from the text on; each way of a path is worked out in crate finishing

pub says_yes : Answer → Bool
says_yes (accepted ws f) = f
says_yes (refused n at) = false

pub says_no : Answer → Bool
says_no (accepted ws f) = not f
says_no (refused n at) = false

pub every : (Answer → Bool) → List String → Bool
every test [] = true
every test (t ∷ ts) = test (process (bytes t) 99) && every test ts

pub finishing-texts : List String
finishing-texts =
    "rules M: ; end"
    ∷ "rules M: { > }; end"
    ∷ "input: a; rules M: { [ | a: ] }; end"
    ∷ "input: a; type t: x; rules M: { [@N | x: ] }; N >> t: a >> x; end"
    ∷ "input: a; type t: x; rules M: { [@N | x: | *: ] }; N >> t: a >> x; end"
    ∷ "type t: x; rules M: ; N >> t: { >> x }; end"
    ∷ []

pub looping-texts : List String
looping-texts =
    "rules M: { }; end"
    ∷ "rules M: @M; end"
    ∷ "input: a; rules M: { [ | a: | *: ] }; end"
    ∷ "type t: x; rules M: { [@N | x: ] }; N >> t: >> x; end"
    ∷ "rules M: ; N: { }; end"
    ∷ []

pub verdicts : T (every says_yes finishing-texts && every says_no looping-texts)
unfolding processing says_yes says_no every finishing-texts looping-texts
verdicts = tt

-- 4,096 words

-- a program of so many `?`, the table of which has one word more
pub anys : ℕ → Acts
anys zero = done
anys (suc n) = plain any ▸ anys n

abbrev pub sized : ℕ → Understood
sized n = meaning (record { valued = false; body = anys n } ∷ [])

-- "or 4,096 words": the empty part at the end of the text, here one of three bytes
pub is_answer : Answer → ℕ → ℕ → Bool
is_answer a n s = eqb (number_of a) n && eqb (start_of a) s && eqb (size_of a) 0

abbrev pub text : List ℕ
text = 1 ∷ 2 ∷ 3 ∷ []

pub most-words : T (is_answer (answer_for text 4096 (sized 4095)) 0 0 && is_answer (answer_for text 9000 (sized 4095)) 0 0
    && is_answer (answer_for text 4095 (sized 4095)) 20 3 && is_answer (answer_for text 4096 (sized 4096)) 20 3
    && is_answer (answer_for text 4097 (sized 4096)) 20 3 && is_answer (answer_for text 9000 (sized 4096)) 20 3)
unfolding processing number_of start_of size_of anys is_answer
most-words = tt

-- "no size or distance may be cut to 16 bits on the way": 65,537 words
pub no_cut : T (is_answer (answer_for text 70000 (sized 65536)) 20 3)
unfolding processing number_of start_of size_of anys is_answer
no_cut = tt

pub sum : List ℕ → ℕ
sum [] = 0
sum (n ∷ ns) = n + sum ns

-- 4,097 words and an odd byte lent, each byte 7: all words are zero but the table's, also past 4,096
pub long-buffer : T (let before : List ℕ = replicate 8195 7 in
    let done = lent_bytes (accepted (9 ∷ []) true) before in
    let undone = lent_bytes (refused 20 (record { start = 3; size = 0 })) before in
    eqb (length done) 8195 && eqb (sum done) 16 && eqb (length undone) 8195 && eqb (sum undone) 7)
unfolding processing sum
long-buffer = tt
