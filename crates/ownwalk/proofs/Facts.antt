-- Programs walked by their rules: the step after which each has stopped, and with what, worked out from document 01 by hand.
use mathlib.Core.Bool.{Bool, true, false, ◌&&◌}
use mathlib.Core.List.{List, [], ◌∷◌, ◌++◌}
use mathlib.Core.Option.{some}
use mathlib.Core.Path.{◌≡◌, refl}
use Prim.Native.Nat.{ℕ, ◌+◌, ◌-◌}
use lib.Dec.{T, eqb}
use lib.ListN.{replicate}
use Rattle.base.specs.Common.{same}
use Rattle.base.specs.Tree.{plain, cycle, choice, done, ◌▸◌, nil, alternative, absent, otherwise}
use Rattle.events.specs.Events
use Rattle.events.specs.Events.{Event, operation, event_words, reason_number}
use Rattle.ownwalk.specs.OwnWalk
use Rattle.ownwalk.specs.OwnWalk.{Own, on, choosing, stopped, nowhere, next_answer, owns, own_start}
use Rattle.program.specs.Program
use Rattle.program.specs.Program.{Plain, match, any, emit, error, exit, call, back, give, update, update_with, Selector, by_token, by_rule, by_operation, by_operation_with, Act, Acts, Rule}

-- a program walked with tokens, answers and a repair allowance: after so many steps and not before it has stopped with this number, having written these
-- event words, read so many tokens and used so many answers, with so much of the allowance left
pub record Walked : Type 0 where
  pub program : List Rule
  pub tokens : List ℕ
  pub answers : List ℕ
  pub allowance : ℕ
  pub steps : ℕ
  pub number : ℕ
  pub events : List ℕ
  pub read : ℕ
  pub used : ℕ
  pub left : ℕ

abbrev pub walk : List Rule → List ℕ → List ℕ → ℕ → ℕ → List ℕ → ℕ → ℕ → Walked
walk prog ts vs n r es k u = record { program = prog; tokens = ts; answers = vs; allowance = 0; steps = n; number = r; events = es; read = k; used = u; left = 0 }

-- with a repair allowance, and what is left of it
abbrev pub mending : ℕ → List Rule → List ℕ → List ℕ → ℕ → ℕ → List ℕ → ℕ → ℕ → ℕ → Walked
mending a prog ts vs n r es k u l = record { program = prog; tokens = ts; answers = vs; allowance = a; steps = n; number = r; events = es; read = k; used = u; left = l }

pub words_of : List Event → List ℕ
words_of [] = []
words_of (e ∷ es) = event_words e ++ words_of es

pub is_stop : Own → Walked → Bool
is_stop (on q k ps io) w = false
is_stop (choosing v al o q k ps io) w = false
is_stop (nowhere io) w = false
is_stop (stopped r io) w = eqb (reason_number r) w.number && same (words_of io.events) w.events && eqb io.read w.read && eqb io.used w.used
    && eqb io.allowance w.left

pub goes_on : Own → Bool
goes_on (on q k ps io) = true
goes_on (choosing v al o q k ps io) = true
goes_on (nowhere io) = false
goes_on (stopped r io) = false

-- stopped after its steps and three later, and going on one step before
pub holds : Walked → Bool
holds w =
    let after : ℕ → Own = λ n. owns w.program w.tokens w.answers n (own_start w.program w.allowance) in
    is_stop (after w.steps) w && is_stop (after (w.steps + 3)) w && goes_on (after (w.steps - 1))

pub all_hold : List Walked → Bool
all_hold [] = true
all_hold (w ∷ ws) = holds w && all_hold ws

-- Writing programs down

infixr 40 ◌▹◌
abbrev pub ◌▹◌ : Plain → Acts → Acts
p ▹ q = plain p ▸ q

abbrev pub rule : Acts → Rule
rule b = record { valued = false; body = b }

abbrev pub choice_rule : Acts → Rule
choice_rule b = record { valued = true; body = b }

abbrev pub one : Acts → List Rule
one b = rule b ∷ []

-- a choice with one label; with one and otherwise
abbrev pub if1 : Selector → ℕ → Acts → Act
if1 s v b = choice s (alternative (v ∷ []) b nil) absent

abbrev pub if1else : Selector → ℕ → Acts → Acts → Act
if1else s v b c = choice s (alternative (v ∷ []) b nil) (otherwise c)

-- "Actions go in order, reading and writing as above"; "A match of another token or none stops it with 30, `?` of none with 31."
pub plains : List Walked
plains =
    walk (one done) [] [] 1 0 [] 0 0
    ∷ walk (one done) (4 ∷ []) (5 ∷ []) 1 0 [] 0 0
    ∷ walk (one (match 5 ▹ done)) (5 ∷ []) [] 2 0 [] 1 0
    ∷ walk (one (match 5 ▹ done)) (6 ∷ []) [] 1 30 [] 0 0
    ∷ walk (one (match 5 ▹ done)) [] [] 1 30 [] 0 0
    ∷ walk (one (match 0 ▹ done)) [] [] 1 30 [] 0 0
    ∷ walk (one (match 5 ▹ match 6 ▹ done)) (5 ∷ 7 ∷ []) [] 2 30 [] 1 0
    ∷ walk (one (any ▹ done)) (9 ∷ []) [] 2 0 [] 1 0
    ∷ walk (one (any ▹ any ▹ done)) (9 ∷ []) [] 2 31 [] 1 0
    ∷ walk (one (emit 7 ▹ done)) [] [] 2 0 (1 ∷ 7 ∷ 0 ∷ []) 0 0
    ∷ walk (one (error 8 ▹ done)) [] [] 2 0 (2 ∷ 8 ∷ 0 ∷ []) 0 0
    ∷ walk (one (update 256 ▹ done)) [] [] 2 0 (3 ∷ 256 ∷ 0 ∷ []) 0 0
    ∷ walk (one (update_with 512 4 ▹ done)) [] [] 2 0 (3 ∷ 512 ∷ 4 ∷ []) 0 0
    ∷ walk (one (emit 7 ▹ error 8 ▹ any ▹ update 256 ▹ update_with 512 4 ▹ any ▹ done)) (1 ∷ []) (1 ∷ []) 6 31
    (1 ∷ 7 ∷ 0 ∷ 2 ∷ 8 ∷ 0 ∷ 3 ∷ 256 ∷ 0 ∷ 3 ∷ 512 ∷ 4 ∷ []) 1 0
    ∷ walk (one (back ▹ any ▹ done)) [] [] 1 0 [] 0 0
    ∷ walk (one (emit 1 ▹ back ▹ emit 2 ▹ done)) [] [] 2 0 (1 ∷ 1 ∷ 0 ∷ []) 0 0
    ∷ walk (choice_rule (give 3 ▹ done) ∷ []) [] [] 1 0 [] 0 0
    ∷ []

-- "a cycle's end goes to its start, `>` past it, an alternative's end past its choice"
pub cycles : List Walked
cycles =
    walk (one (cycle (any ▹ exit ▹ done) ▸ emit 1 ▹ done)) (4 ∷ []) [] 5 0 (1 ∷ 1 ∷ 0 ∷ []) 1 0
    ∷ walk (one (cycle (any ▹ done) ▸ emit 1 ▹ done)) (4 ∷ 5 ∷ []) [] 6 31 [] 2 0
    ∷ walk (one (cycle (cycle (exit ▹ done) ▸ emit 1 ▹ exit ▹ done) ▸ emit 2 ▹ done)) [] [] 7 0 (1 ∷ 1 ∷ 0 ∷ 1 ∷ 2 ∷ 0 ∷ []) 0 0
    ∷ walk (one (cycle (if1else by_token 4 (if1else by_token 5 (exit ▹ done) done ▸ done) (any ▹ done) ▸ emit 9 ▹ done) ▸ emit 1 ▹ done))
    (4 ∷ 5 ∷ []) [] 6 0 (1 ∷ 1 ∷ 0 ∷ []) 2 0
    ∷ walk (one (cycle (if1else by_token 4 done (exit ▹ done) ▸ emit 9 ▹ done) ▸ emit 1 ▹ done)) (4 ∷ 6 ∷ []) [] 9 0
    (1 ∷ 9 ∷ 0 ∷ 1 ∷ 1 ∷ 0 ∷ []) 1 0
    ∷ walk (one (cycle (if1else by_token 4 (emit 8 ▹ done) (if1else by_token 5 (any ▹ done) (exit ▹ done) ▸ done) ▸ done) ▸ emit 1 ▹ done))
    (4 ∷ 5 ∷ 6 ∷ 7 ∷ []) [] 16 0 (1 ∷ 8 ∷ 0 ∷ 1 ∷ 1 ∷ 0 ∷ []) 3 0
    ∷ []

-- "A choice goes by the present token ..: to the alternative with that label, else otherwise, else it stops, an input choice with 30";
-- a labelled alternative reads one token, otherwise none
pub by_tokens : List Walked
by_tokens =
    let all = one (choice by_token (alternative (4 ∷ 5 ∷ []) (emit 1 ▹ done) (alternative (6 ∷ []) (emit 2 ▹ done) nil)) (otherwise (emit 3 ▹ done)) ▸ emit 9 ▹ done) in
    let some = one (choice by_token (alternative (4 ∷ 5 ∷ []) (emit 1 ▹ done) (alternative (6 ∷ []) (emit 2 ▹ done) nil)) absent ▸ emit 9 ▹ done) in
    walk all (4 ∷ []) [] 5 0 (1 ∷ 1 ∷ 0 ∷ 1 ∷ 9 ∷ 0 ∷ []) 1 0
    ∷ walk all (5 ∷ 4 ∷ []) [] 5 0 (1 ∷ 1 ∷ 0 ∷ 1 ∷ 9 ∷ 0 ∷ []) 1 0
    ∷ walk all (6 ∷ []) [] 5 0 (1 ∷ 2 ∷ 0 ∷ 1 ∷ 9 ∷ 0 ∷ []) 1 0
    ∷ walk all (7 ∷ []) [] 5 0 (1 ∷ 3 ∷ 0 ∷ 1 ∷ 9 ∷ 0 ∷ []) 0 0
    ∷ walk all [] [] 5 0 (1 ∷ 3 ∷ 0 ∷ 1 ∷ 9 ∷ 0 ∷ []) 0 0
    ∷ walk some (6 ∷ []) [] 5 0 (1 ∷ 2 ∷ 0 ∷ 1 ∷ 9 ∷ 0 ∷ []) 1 0
    ∷ walk some (7 ∷ []) [] 1 30 [] 0 0
    ∷ walk some [] [] 1 30 [] 0 0
    ∷ walk (one (if1 by_token 0 (emit 1 ▹ done) ▸ done)) [] [] 1 30 [] 0 0
    ∷ walk (one (if1else by_token 0 (emit 1 ▹ done) (emit 3 ▹ done) ▸ done)) [] [] 4 0 (1 ∷ 3 ∷ 0 ∷ []) 0 0
    ∷ walk (one (choice by_token nil (otherwise (emit 3 ▹ done)) ▸ done)) (4 ∷ []) [] 4 0 (1 ∷ 3 ∷ 0 ∷ []) 0 0
    ∷ []

-- ".. its rule's value ..": others stop with 32; no token is read
pub by_rules : List Walked
by_rules =
    let others : Acts → List Rule = λ b. rule (if1else (by_rule 1) 2 (emit 1 ▹ done) (emit 3 ▹ done) ▸ emit 9 ▹ done) ∷ choice_rule b ∷ [] in
    let label_only : Acts → List Rule = λ b. rule (if1 (by_rule 1) 2 (emit 1 ▹ done) ▸ emit 9 ▹ done) ∷ choice_rule b ∷ [] in
    walk (others (give 2 ▹ done)) (2 ∷ []) (7 ∷ []) 7 0 (1 ∷ 1 ∷ 0 ∷ 1 ∷ 9 ∷ 0 ∷ []) 0 0
    ∷ walk (others (give 7 ▹ done)) (2 ∷ []) (2 ∷ []) 7 0 (1 ∷ 3 ∷ 0 ∷ 1 ∷ 9 ∷ 0 ∷ []) 0 0
    ∷ walk (others (any ▹ emit 5 ▹ give 2 ▹ any ▹ done)) (8 ∷ []) [] 9 0 (1 ∷ 5 ∷ 0 ∷ 1 ∷ 1 ∷ 0 ∷ 1 ∷ 9 ∷ 0 ∷ []) 1 0
    ∷ walk (label_only (give 2 ▹ done)) [] [] 7 0 (1 ∷ 1 ∷ 0 ∷ 1 ∷ 9 ∷ 0 ∷ []) 0 0
    ∷ walk (label_only (give 7 ▹ done)) (2 ∷ []) (2 ∷ []) 3 32 [] 0 0
    ∷ walk (others (match 4 ▹ give 2 ▹ done)) (5 ∷ []) [] 2 30 [] 0 0
    ∷ walk (rule (cycle (if1 (by_rule 1) 2 (exit ▹ done) ▸ done) ▸ emit 1 ▹ done) ∷ choice_rule (cycle (if1 by_token 4 (give 2 ▹ done) ▸ done) ▸ done) ∷ [])
    (4 ∷ []) [] 9 0 (1 ∷ 1 ∷ 0 ∷ []) 1 0
    ∷ []

-- ".. or the next answer (with none 34, no event)", with or without a parameter
pub by_operations : List Walked
by_operations =
    let others : Selector → List Rule = λ s. one (if1else s 2 (emit 1 ▹ done) (emit 3 ▹ done) ▸ emit 9 ▹ done) in
    let label_only : Selector → List Rule = λ s. one (if1 s 2 (emit 1 ▹ done) ▸ emit 9 ▹ done) in
    walk (others (by_operation 768)) (7 ∷ []) (2 ∷ []) 6 0 (3 ∷ 768 ∷ 0 ∷ 1 ∷ 1 ∷ 0 ∷ 1 ∷ 9 ∷ 0 ∷ []) 0 1
    ∷ walk (others (by_operation 768)) (2 ∷ []) (7 ∷ 2 ∷ []) 6 0 (3 ∷ 768 ∷ 0 ∷ 1 ∷ 3 ∷ 0 ∷ 1 ∷ 9 ∷ 0 ∷ []) 0 1
    ∷ walk (others (by_operation 768)) (2 ∷ []) [] 1 34 [] 0 0
    ∷ walk (label_only (by_operation 768)) [] (2 ∷ []) 6 0 (3 ∷ 768 ∷ 0 ∷ 1 ∷ 1 ∷ 0 ∷ 1 ∷ 9 ∷ 0 ∷ []) 0 1
    ∷ walk (label_only (by_operation 768)) (2 ∷ []) (7 ∷ []) 2 32 (3 ∷ 768 ∷ 0 ∷ []) 0 1
    ∷ walk (others (by_operation_with 1024 5)) [] (2 ∷ []) 6 0 (3 ∷ 1024 ∷ 5 ∷ 1 ∷ 1 ∷ 0 ∷ 1 ∷ 9 ∷ 0 ∷ []) 0 1
    ∷ walk (others (by_operation_with 1024 5)) [] (3 ∷ []) 6 0 (3 ∷ 1024 ∷ 5 ∷ 1 ∷ 3 ∷ 0 ∷ 1 ∷ 9 ∷ 0 ∷ []) 0 1
    ∷ walk (label_only (by_operation_with 1024 5)) [] (3 ∷ []) 2 32 (3 ∷ 1024 ∷ 5 ∷ []) 0 1
    ∷ walk (label_only (by_operation_with 1024 5)) [] [] 1 34 [] 0 0
    ∷ walk (one (if1 (by_operation 768) 2 done ▸ if1 (by_operation 769) 3 (any ▹ done) ▸ done)) (4 ∷ []) (2 ∷ 3 ∷ []) 8 0 (3 ∷ 768 ∷ 0 ∷ 3 ∷ 769 ∷ 0 ∷ []) 1 2
    ∷ walk (one (if1 (by_operation 768) 2 done ▸ if1 (by_operation 769) 3 (any ▹ done) ▸ done)) (4 ∷ []) (2 ∷ []) 4 34 (3 ∷ 768 ∷ 0 ∷ []) 0 1
    ∷ []

-- "A call goes to its rule's start; with 64 pending it stops with 33. A rule's end or `>>`, with its value if any, goes back behind the
-- call; with none pending it stops with 0."
pub calls : List Walked
calls =
    walk (rule (call 1 ▹ emit 1 ▹ done) ∷ rule (emit 2 ▹ done) ∷ []) [] [] 5 0 (1 ∷ 2 ∷ 0 ∷ 1 ∷ 1 ∷ 0 ∷ []) 0 0
    ∷ walk (rule (call 1 ▹ emit 1 ▹ done) ∷ rule (back ▹ emit 2 ▹ done) ∷ []) [] [] 4 0 (1 ∷ 1 ∷ 0 ∷ []) 0 0
    ∷ walk (rule (call 2 ▹ call 1 ▹ done) ∷ rule (emit 2 ▹ done) ∷ rule (emit 3 ▹ call 1 ▹ done) ∷ []) [] [] 10 0
    (1 ∷ 3 ∷ 0 ∷ 1 ∷ 2 ∷ 0 ∷ 1 ∷ 2 ∷ 0 ∷ []) 0 0
    ∷ walk (rule (call 1 ▹ emit 1 ▹ done) ∷ rule (cycle (if1 by_token 4 (back ▹ done) ▸ done) ▸ emit 2 ▹ done) ∷ []) (4 ∷ []) [] 6 0 (1 ∷ 1 ∷ 0 ∷ []) 1 0
    ∷ walk (rule (cycle (call 1 ▹ exit ▹ done) ▸ emit 1 ▹ done) ∷ rule done ∷ []) [] [] 6 0 (1 ∷ 1 ∷ 0 ∷ []) 0 0
    ∷ walk (one (call 0 ▹ done)) [] [] 65 33 [] 0 0
    ∷ walk (rule (if1 (by_rule 1) 0 done ▸ done) ∷ choice_rule (if1 (by_rule 1) 0 (give 0 ▹ done) ▸ done) ∷ []) [] [] 65 33 [] 0 0
    ∷ walk (one (if1else by_token 1 (call 0 ▹ done) done ▸ done)) (replicate 64 1) [] 259 0 [] 64 0
    ∷ walk (one (if1else by_token 1 (call 0 ▹ done) done ▸ done)) (replicate 65 1) [] 130 33 [] 65 0
    ∷ []

-- "Where a required token differs or is absent and allowance is left, the event 4, required token, 0 is written, the allowance falls by
-- one, and the walk goes on as if that token had been read, the present one staying unread."
pub repairs : List Walked
repairs =
    let some = one (choice by_token (alternative (4 ∷ 5 ∷ []) (emit 1 ▹ done) (alternative (6 ∷ []) (emit 2 ▹ done) nil)) absent ▸ emit 9 ▹ done) in
    -- no repair where the token is there: the allowance stays
    mending 3 (one (match 5 ▹ done)) (5 ∷ []) [] 2 0 [] 1 0 3
    -- another token, which stays unread; none
    ∷ mending 3 (one (match 5 ▹ done)) (6 ∷ []) [] 2 0 (4 ∷ 5 ∷ 0 ∷ []) 0 0 2
    ∷ mending 1 (one (match 5 ▹ done)) [] [] 2 0 (4 ∷ 5 ∷ 0 ∷ []) 0 0 0
    ∷ mending 1 (one (match 5 ▹ match 6 ▹ done)) (6 ∷ []) [] 3 0 (4 ∷ 5 ∷ 0 ∷ []) 1 0 0
    -- 30 with the allowance used up
    ∷ mending 1 (one (match 5 ▹ match 6 ▹ done)) (7 ∷ []) [] 2 30 (4 ∷ 5 ∷ 0 ∷ []) 0 0 0
    ∷ mending 65535 (one (match 5 ▹ done)) [] [] 2 0 (4 ∷ 5 ∷ 0 ∷ []) 0 0 65534
    -- `?` with none stays 31
    ∷ mending 9 (one (any ▹ done)) [] [] 1 31 [] 0 0 9
    -- an input choice without otherwise takes its first alternative, whose first label is repaired
    ∷ mending 2 some (7 ∷ []) [] 5 0 (4 ∷ 4 ∷ 0 ∷ 1 ∷ 1 ∷ 0 ∷ 1 ∷ 9 ∷ 0 ∷ []) 0 0 1
    ∷ mending 2 some [] [] 5 0 (4 ∷ 4 ∷ 0 ∷ 1 ∷ 1 ∷ 0 ∷ 1 ∷ 9 ∷ 0 ∷ []) 0 0 1
    ∷ mending 2 some (6 ∷ []) [] 5 0 (1 ∷ 2 ∷ 0 ∷ 1 ∷ 9 ∷ 0 ∷ []) 1 0 2
    ∷ mending 0 some (7 ∷ []) [] 1 30 [] 0 0 0
    -- otherwise is no repair; nor is a value without a label
    ∷ mending 2 (one (if1else by_token 4 (emit 1 ▹ done) (emit 3 ▹ done) ▸ done)) (7 ∷ []) [] 4 0 (1 ∷ 3 ∷ 0 ∷ []) 0 0 2
    ∷ mending 2 (one (if1 (by_operation 768) 2 done ▸ done)) [] (7 ∷ []) 2 32 (3 ∷ 768 ∷ 0 ∷ []) 0 1 2
    -- a cycle that repairs to the end of the allowance
    ∷ mending 2 (one (cycle (match 5 ▹ done) ▸ done)) [] [] 6 30 (4 ∷ 5 ∷ 0 ∷ 4 ∷ 5 ∷ 0 ∷ []) 0 0 0
    -- a repaired token 768 is no choice operation: the first answer is still the next
    ∷ mending 1 (one (match 768 ▹ if1 (by_operation 768) 2 done ▸ done)) [] (2 ∷ []) 5 0 (4 ∷ 768 ∷ 0 ∷ 3 ∷ 768 ∷ 0 ∷ []) 0 1 0
    ∷ []

pub all_hold_lem : T (all_hold (repairs ++ (plains ++ (cycles ++ (by_tokens ++ (by_rules ++ (by_operations ++ calls)))))))
unfolding words_of is_stop goes_on holds all_hold repairs plains cycles by_tokens by_rules by_operations calls Events.opened Program.opened OwnWalk.opened
all_hold_lem = tt

-- Which answer is next goes by the choice operations in the events, also where the count of answers used stands at its greatest (R15).
pub next-by-events : next_answer (5 ∷ 6 ∷ []) (record { read = 0; used = 18446744073709551615; allowance = 0; events = operation 768 ∷ [] }) ≡ some 6
unfolding Events.opened OwnWalk.opened
next-by-events = refl
