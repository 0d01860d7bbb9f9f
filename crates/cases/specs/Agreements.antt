-- Whole programs as texts, each walked by its rules and over its table's bytes: all walks end with the number, the events and the counts that
-- were worked out from document 01 by hand. The walk over bytes is made in one whole call, in many small whole calls, and in pauses.
use Rattle.std.specs.Prelude.{Bool, true, false, ◌&&◌, ◌||◌, List, [], ◌∷◌, ◌++◌, ℕ, zero, suc, ◌*◌, ◌-◌, eqb, length, take, replicate, if◌then◌else◌}
use Rattle.std.proofs.Math.Option.{Option, none, some}
use Prim.Native.String.{String}
use Rattle.base.specs.Common.{bytes, same}
use Rattle.events.specs.Events.{reason_number}
use Rattle.machine.specs.Bytes.{words_of, bytes_of}
use Rattle.machine.specs.Call.{Mode, whole, paused, waits}
use Rattle.machine.specs.Form.{Outcome, walk_of, walk_bytes, call_bytes, events_words}
use Rattle.machine.specs.Walk.{Walk, fresh}
use Rattle.ownwalk.specs.OwnWalk.{Own, on, choosing, stopped, nowhere, owns, own_start}
use Rattle.processor.specs.Process.{Understood, meaning, faulty, understood}
use Rattle.program.specs.Program.{Rule}
use Rattle.program.specs.Table.{table}

-- what a walk comes to: its number, the words of its events, tokens read, answers used, what is left of the repair allowance
pub record End : Type 0 where
  pub number : ℕ
  pub events : List ℕ
  pub read : ℕ
  pub used : ℕ
  pub left : ℕ

-- a text, its tokens, answers and repair allowance, what its walk comes to, and the event of the question that a paused walk asks where a whole one stops with 34
pub record Agreement : Type 0 where
  pub text : String
  pub tokens : List ℕ
  pub answers : List ℕ
  pub allowance : ℕ
  pub end : End
  pub question : List ℕ

unfoldable pub same_end : End → End → Bool
same_end x y = eqb x.number y.number && same x.events y.events && eqb x.read y.read && eqb x.used y.used && eqb x.left y.left

-- The rules' own walk

-- 999 where it has not stopped
unfoldable pub own_end : Own → End
own_end (on q k ps io) = record { number = 999; events = []; read = 0; used = 0; left = 0 }
own_end (choosing v al o q k ps io) = record { number = 999; events = []; read = 0; used = 0; left = 0 }
own_end (nowhere io) = record { number = 999; events = []; read = 0; used = 0; left = 0 }
own_end (stopped r io) = record { number = reason_number r; events = events_words io.events; read = io.read; used = io.used; left = io.allowance }

unfoldable pub by_rules : List Rule → Agreement → End
by_rules prog a = own_end (owns prog a.tokens a.answers 400 (own_start prog a.allowance))

-- Walks over bytes

-- the end of a walk with these bytes, or 998 where they are no walk's
unfoldable pub end_at : ℕ → List ℕ → Option Walk → End
end_at n es none = record { number = 998; events = es; read = 0; used = 0; left = 0 }
end_at n es (some w) = record { number = n; events = es; read = w.io.read; used = w.io.used; left = w.io.allowance }

-- the words of the events that a call wrote
unfoldable pub wrote : Outcome → List ℕ
wrote c = words_of (take (6 * c.events) c.buffer)

-- an event buffer of so many words and an odd byte, none of them zero
unfoldable pub buffer : ℕ → List ℕ
buffer n = replicate (suc (2 * n)) 7

-- one whole call; what it did not write keeps what it held
unfoldable pub at_once : List ℕ → Agreement → End → Bool
at_once table a e =
    let c = call_bytes table (bytes_of a.tokens) (whole a.answers) 1000 (walk_bytes (fresh a.allowance)) (buffer 60) in
    same_end (end_at c.number (wrote c) (walk_of c.walk)) e
    && same c.buffer (bytes_of e.events ++ replicate (121 - 2 * length e.events) 7)

-- the answers left, and how the next call is made
pub record Next : Type 0 where
  pub mode : Mode
  pub left : List ℕ

-- paused: the next answer is handed in where the walk waits
unfoldable pub hand_in : List ℕ → Option Next
hand_in [] = none
hand_in (v ∷ vs) = some (record { mode = paused (some v); left = vs })

-- after a call with that number: 35 and 36 go on, a waiting walk gets the next answer, any other number is the end
unfoldable pub next_call : ℕ → Mode → List ℕ → Option Next
next_call n again left =
    if eqb n 35 || eqb n 36 then some (record { mode = again; left = left })
    else if eqb n waits then hand_in left
    else none

-- calls with a small budget and room, at most so many: from the mode `again`, with the answers left, to the end
unfoldable pub in_calls : ℕ → List ℕ → List ℕ → ℕ → ℕ → Mode → Next → List ℕ → List ℕ → End
in_calls zero table tokens budget room again next es walk = record { number = 997; events = es; read = 0; used = 0; left = 0 }
in_calls (suc k) table tokens budget room again next es walk =
    let c = call_bytes table tokens next.mode budget walk (buffer room) in
    let more = es ++ wrote c in
    elim (next_call c.number again next.left) [
      | none ↦ end_at c.number more (walk_of c.walk)
      | some n ↦ in_calls k table tokens budget room again n more c.walk
    ]

unfoldable pub in_pieces : List ℕ → Agreement → ℕ → ℕ → End
in_pieces table a budget room =
    in_calls 300 table (bytes_of a.tokens) budget room (whole a.answers) (record { mode = whole a.answers; left = [] }) [] (walk_bytes (fresh a.allowance))

unfoldable pub in_pauses : List ℕ → Agreement → ℕ → ℕ → End
in_pauses table a budget room =
    in_calls 300 table (bytes_of a.tokens) budget room (paused none) (record { mode = paused none; left = a.answers }) [] (walk_bytes (fresh a.allowance))

-- "there the whole walk stops with 34, the paused one waits", the question written
unfoldable pub paused_end : Agreement → End
paused_end a =
    let e = a.end in
    if eqb e.number 34 then record { number = waits; events = e.events ++ a.question; read = e.read; used = e.used; left = e.left } else e

-- the rules' own walk and one whole call
unfoldable pub agrees_at_once : List Rule → Agreement → Bool
agrees_at_once prog a = same_end (by_rules prog a) a.end && at_once (bytes_of (table prog)) a a.end

-- the calls in pieces and in pauses: one step and one event a call, and a few
unfoldable pub agrees_in_calls : List Rule → Agreement → Bool
agrees_in_calls prog a =
    let lent = bytes_of (table prog) in
    same_end (in_pieces lent a 3 4) a.end && same_end (in_pauses lent a 1 3) (paused_end a) && same_end (in_pauses lent a 5 6) (paused_end a)

unfoldable pub agrees_by : (List Rule → Agreement → Bool) → Understood → Agreement → Bool
agrees_by test (faulty n at) a = false
agrees_by test (meaning prog) a = test prog a

unfoldable pub all_agree : (List Rule → Agreement → Bool) → List Agreement → Bool
all_agree test [] = true
all_agree test (a ∷ more) = agrees_by test (understood (bytes a.text)) a && all_agree test more

abbrev pub walked : String → List ℕ → List ℕ → ℕ → List ℕ → ℕ → ℕ → Agreement
walked t ts vs n es r u = record { text = t; tokens = ts; answers = vs; allowance = 0; end = record { number = n; events = es; read = r; used = u; left = 0 }; question = [] }

-- with a repair allowance, and what is left of it
abbrev pub mended : String → List ℕ → ℕ → ℕ → List ℕ → ℕ → ℕ → Agreement
mended t ts a n es r l = record { text = t; tokens = ts; answers = []; allowance = a; end = record { number = n; events = es; read = r; used = 0; left = l }; question = [] }

-- with answers, so many of them used, and the question's event where the walk comes to 34
abbrev pub answering : List ℕ → ℕ → List ℕ → Agreement → Agreement
answering vs u q a =
    let e = a.end in
    record { text = a.text; tokens = a.tokens; answers = vs; allowance = a.allowance; end = record { number = e.number; events = e.events; read = e.read; used = u; left = e.left }; question = q }

-- a walk that comes to 34, and the question's event
abbrev pub unanswered : String → List ℕ → List ℕ → List ℕ → ℕ → ℕ → List ℕ → Agreement
unanswered t ts vs es r u q = record { text = t; tokens = ts; answers = vs; allowance = 0; end = record { number = 34; events = es; read = r; used = u; left = 0 }; question = q }

-- Programs

-- blanks, words and bad characters: blank 2, illegalChar 3, word 5
abbrev scanner : String
scanner = "input: blank = 2 illegalChar = 3 word = 5; output: w = 1; error: badChar = 10; rules M: {[ | blank: | illegalChar: #badChar | word: .w | *: > ]}; end"

-- parentheses that match: open 0, close 1
abbrev nesting : String
nesting = "input: open close x; output: o c; rules M: @E; E: [ | open: .o @E close .c @E | *: ]; end"

-- a choice by a rule's value: plus 0, num 1
abbrev signs : String
signs =
    "input: plus num; output: add neg; type sign: pos minus; rules M: [@Sign | pos: .add num | minus: .neg] ?; Sign >> sign: [ | plus: >> pos | *: >> minus ]; end"

-- the four kinds of operations
abbrev questions : String
questions =
    "type t: yes no; type n: one = 1 two; mechanism m: inc add(n) ask >> t test(n) >> t; output: y z; rules M: inc add(two) [ ask | yes: .y | no: .z ] [ test(one) | yes: .y | *: .z ] add(one); end"

-- cycles in cycles, left from alternatives: a 0, b 1, c 2
abbrev cycles : String
cycles = "input: a b c; output: p q; rules M: { { [ | a: .p | b: > | *: >> ] } .q [ | c: > | *: ] } .p; end"

-- an answer decides whether the cycle goes on
abbrev asking : String
asking = "type t: more stop; mechanism m: next >> t; output: o; rules M: { [ next | more: .o | stop: > ] }; end"

-- a token with a choice operation's number, before an operation and behind it
abbrev token_or_operation : String
token_or_operation = "input: a = 768; type t: yes no; mechanism m: ask >> t; output: y z; rules M: a [ ask | yes: .y | no: .z ] a; end"

unfoldable pub agreements : List Agreement
agreements =
    walked scanner (2 ∷ 3 ∷ 5 ∷ 2 ∷ 7 ∷ []) [] 0 (2 ∷ 10 ∷ 0 ∷ 1 ∷ 1 ∷ 0 ∷ []) 4 0
    ∷ walked scanner [] [] 0 [] 0 0
    ∷ walked nesting (0 ∷ 0 ∷ 1 ∷ 1 ∷ 2 ∷ []) [] 0 (1 ∷ 0 ∷ 0 ∷ 1 ∷ 0 ∷ 0 ∷ 1 ∷ 1 ∷ 0 ∷ 1 ∷ 1 ∷ 0 ∷ []) 4 0
    ∷ walked nesting (0 ∷ []) [] 30 (1 ∷ 0 ∷ 0 ∷ []) 1 0
    ∷ walked signs (0 ∷ 1 ∷ 1 ∷ []) [] 0 (1 ∷ 0 ∷ 0 ∷ []) 3 0
    ∷ walked signs (1 ∷ []) [] 0 (1 ∷ 1 ∷ 0 ∷ []) 1 0
    ∷ walked signs [] [] 31 (1 ∷ 1 ∷ 0 ∷ []) 0 0
    ∷ walked signs (0 ∷ 0 ∷ []) [] 30 (1 ∷ 0 ∷ 0 ∷ []) 1 0
    ∷ walked "type t: x y; rules M: [@N | x: ]; N >> t: >> y; end" (1 ∷ []) (0 ∷ []) 32 [] 0 0
    ∷ walked questions (1 ∷ []) (1 ∷ 0 ∷ []) 0
    (3 ∷ 256 ∷ 0 ∷ 3 ∷ 512 ∷ 2 ∷ 3 ∷ 768 ∷ 0 ∷ 1 ∷ 1 ∷ 0 ∷ 3 ∷ 1024 ∷ 1 ∷ 1 ∷ 0 ∷ 0 ∷ 3 ∷ 512 ∷ 1 ∷ []) 0 2
    ∷ walked questions [] (0 ∷ 7 ∷ 1 ∷ []) 0
    (3 ∷ 256 ∷ 0 ∷ 3 ∷ 512 ∷ 2 ∷ 3 ∷ 768 ∷ 0 ∷ 1 ∷ 0 ∷ 0 ∷ 3 ∷ 1024 ∷ 1 ∷ 1 ∷ 1 ∷ 0 ∷ 3 ∷ 512 ∷ 1 ∷ []) 0 2
    ∷ walked questions [] (7 ∷ 0 ∷ []) 32 (3 ∷ 256 ∷ 0 ∷ 3 ∷ 512 ∷ 2 ∷ 3 ∷ 768 ∷ 0 ∷ []) 0 1
    ∷ unanswered questions [] (0 ∷ []) (3 ∷ 256 ∷ 0 ∷ 3 ∷ 512 ∷ 2 ∷ 3 ∷ 768 ∷ 0 ∷ 1 ∷ 0 ∷ 0 ∷ []) 0 1 (3 ∷ 1024 ∷ 1 ∷ [])
    ∷ unanswered questions (0 ∷ []) [] (3 ∷ 256 ∷ 0 ∷ 3 ∷ 512 ∷ 2 ∷ []) 0 0 (3 ∷ 768 ∷ 0 ∷ [])
    ∷ walked cycles (0 ∷ 1 ∷ 0 ∷ 1 ∷ 2 ∷ []) [] 0 (1 ∷ 0 ∷ 0 ∷ 1 ∷ 1 ∷ 0 ∷ 1 ∷ 0 ∷ 0 ∷ 1 ∷ 1 ∷ 0 ∷ 1 ∷ 0 ∷ 0 ∷ []) 5 0
    ∷ walked cycles (0 ∷ 2 ∷ []) [] 0 (1 ∷ 0 ∷ 0 ∷ []) 1 0
    ∷ walked cycles (0 ∷ 1 ∷ []) [] 0 (1 ∷ 0 ∷ 0 ∷ 1 ∷ 1 ∷ 0 ∷ []) 2 0
    ∷ walked "input: a b; output: o; rules M: { [ | a, b: .o ] }; end" (0 ∷ 1 ∷ []) [] 30 (1 ∷ 0 ∷ 0 ∷ 1 ∷ 0 ∷ 0 ∷ []) 2 0
    ∷ walked "input: a b; output: o; rules M: { [ | a, b: .o ] }; end" (0 ∷ 7 ∷ []) [] 30 (1 ∷ 0 ∷ 0 ∷ []) 1 0
    ∷ walked "input output: c 'z' d; rules M: 'z' .d .'z' [ | 'z': .c | *: .d ]; end" (0 ∷ 0 ∷ []) [] 0 (1 ∷ 1 ∷ 0 ∷ 1 ∷ 0 ∷ 0 ∷ 1 ∷ 0 ∷ 0 ∷ []) 2 0
    ∷ walked asking [] (0 ∷ 0 ∷ 1 ∷ []) 0 (3 ∷ 768 ∷ 0 ∷ 1 ∷ 0 ∷ 0 ∷ 3 ∷ 768 ∷ 0 ∷ 1 ∷ 0 ∷ 0 ∷ 3 ∷ 768 ∷ 0 ∷ []) 0 3
    ∷ unanswered asking [] (0 ∷ 0 ∷ []) (3 ∷ 768 ∷ 0 ∷ 1 ∷ 0 ∷ 0 ∷ 3 ∷ 768 ∷ 0 ∷ 1 ∷ 0 ∷ 0 ∷ []) 0 2 (3 ∷ 768 ∷ 0 ∷ [])
    ∷ walked "type t: x y; mechanism m: ask >> t; output: o p; rules M: [@N | x: .o | y: .p]; N >> t: [ ask | x: >> y | y: >> x ]; end" [] (0 ∷ []) 0
    (3 ∷ 768 ∷ 0 ∷ 1 ∷ 1 ∷ 0 ∷ []) 0 1
    ∷ walked "input: a; output: o; rules M: @N .o; N: { [ | a: >> | *: ? ] }; end" (5 ∷ 0 ∷ []) [] 0 (1 ∷ 0 ∷ 0 ∷ []) 2 0
    ∷ []

-- texts that miss tokens, and an allowance for them
unfoldable pub repairs : List Agreement
repairs =
    -- P5 and P6 with an allowance
    mended "input: a; rules M: a; end" [] 1 0 (4 ∷ 0 ∷ 0 ∷ []) 0 0
    ∷ mended "input: a; rules M: a; end" (7 ∷ []) 5 0 (4 ∷ 0 ∷ 0 ∷ []) 0 4
    ∷ mended "input: a; rules M: a; end" (0 ∷ []) 5 0 [] 1 5
    ∷ mended "input: a b; rules M: [ | b: ]; end" (0 ∷ []) 1 0 (4 ∷ 1 ∷ 0 ∷ []) 0 0
    ∷ mended "input: a b; rules M: [ | b: ]; end" (1 ∷ []) 1 0 [] 1 1
    -- a closing mark that is missing, and two with an allowance of one
    ∷ mended nesting (0 ∷ []) 3 0 (1 ∷ 0 ∷ 0 ∷ 4 ∷ 1 ∷ 0 ∷ 1 ∷ 1 ∷ 0 ∷ []) 1 2
    ∷ mended nesting (0 ∷ 0 ∷ []) 1 30 (1 ∷ 0 ∷ 0 ∷ 1 ∷ 0 ∷ 0 ∷ 4 ∷ 1 ∷ 0 ∷ 1 ∷ 1 ∷ 0 ∷ []) 2 0
    -- the first alternative of a choice, its first label, what follows being tested against the token that stayed
    ∷ mended "input: a b c; output: o p; rules M: [ | b, a: .o c | c: .p ] ?; end" (2 ∷ []) 9 31 (1 ∷ 1 ∷ 0 ∷ []) 1 9
    ∷ mended "input: a b c d; output: o p; rules M: [ | b, a: .o d | c: .p ]; end" (3 ∷ []) 9 0 (4 ∷ 1 ∷ 0 ∷ 1 ∷ 0 ∷ 0 ∷ []) 1 8
    -- a cycle over an input choice without otherwise repairs until nothing is left
    ∷ mended "input: a b; output: o; rules M: { [ | a, b: .o ] }; end" (1 ∷ []) 2 30 (1 ∷ 0 ∷ 0 ∷ 4 ∷ 0 ∷ 0 ∷ 1 ∷ 0 ∷ 0 ∷ 4 ∷ 0 ∷ 0 ∷ 1 ∷ 0 ∷ 0 ∷ []) 1 0
    -- otherwise is taken without a repair
    ∷ mended scanner (7 ∷ []) 3 0 [] 0 3
    -- `?` with none stays 31
    ∷ mended "input: a; rules M: a ?; end" [] 3 31 (4 ∷ 0 ∷ 0 ∷ []) 0 2
    ∷ mended signs (0 ∷ []) 2 31 (1 ∷ 0 ∷ 0 ∷ 4 ∷ 1 ∷ 0 ∷ []) 1 1
    -- a repaired token is no choice operation, whatever its number: the first answer is still the next, and no answer is used
    ∷ answering (1 ∷ []) 1 [] (mended token_or_operation [] 3 0 (4 ∷ 768 ∷ 0 ∷ 3 ∷ 768 ∷ 0 ∷ 1 ∷ 1 ∷ 0 ∷ 4 ∷ 768 ∷ 0 ∷ []) 0 1)
    ∷ answering [] 0 (3 ∷ 768 ∷ 0 ∷ []) (mended token_or_operation (5 ∷ []) 1 34 (4 ∷ 768 ∷ 0 ∷ []) 0 0)
    -- the greatest allowance
    ∷ mended "input: a; rules M: a; end" [] 65535 0 (4 ∷ 0 ∷ 0 ∷ []) 0 65534
    ∷ []

-- 64 calls pending, and one more
unfoldable pub deep_agreements : List Agreement
deep_agreements =
    walked "input: a; rules M: [ | a: @M | *: ]; end" (replicate 64 0) [] 0 [] 64 0
    ∷ walked "input: a; rules M: [ | a: @M | *: ]; end" (replicate 65 0) [] 33 [] 65 0
    ∷ walked "rules M: @M; end" [] [] 33 [] 0 0
    ∷ []

-- all of this file computes where this is unfolded
unfoldable pub opened : Unit {0}
unfolding same_end own_end by_rules end_at wrote buffer at_once hand_in next_call in_calls in_pieces in_pauses paused_end agrees_at_once agrees_in_calls agrees_by all_agree agreements repairs deep_agreements
opened = tt
