-- Tables and what goes past itself, by computing. Every list of words here is worked out by hand from the paper's section "The table": a
-- comment gives the location of each instruction, and a distance as the target's location and that of the word that holds it.
use mathlib.Core.Bool.{Bool, true, false, ◌&&◌, not}
use mathlib.Core.List.{List, [], ◌∷◌, ◌++◌}
use Prim.Native.Nat.{ℕ}
use lib.Dec.{T}
use Rattle.base.specs.Common.{same}
use Rattle.base.specs.Tree.{plain, cycle, choice, done, ◌▸◌, nil, alternative, absent, otherwise}
use Rattle.program.specs.Program.{match, any, emit, error, exit, call, back, give, update, update_with, by_token, by_rule, by_operation, by_operation_with, Acts, Alts, Rule}
use Rattle.program.specs.Program
use Rattle.program.specs.Past
use Rattle.program.specs.Past.{past_all}
use Rattle.program.specs.Table
use Rattle.program.specs.Table.{table}

pub data Fact : Type 0 where
  makes : List Rule → List ℕ → Fact  -- the program has this table
  passes stays : Acts → Fact  -- the actions go past themselves, or not

unfoldable pub holds : Fact → Bool
holds (makes prog ws) = same (table prog) ws
holds (passes q) = past_all q
holds (stays q) = not (past_all q)

unfoldable pub all : List Fact → Bool
all [] = true
all (f ∷ fs) = holds f && all fs

abbrev procedure : Acts → Rule
procedure b = record { valued = false; body = b }

abbrev valued : Acts → Rule
valued b = record { valued = true; body = b }

-- Cases of the paper

-- `M: ;` 1: return
abbrev P1 : Fact
P1 = makes (procedure done ∷ []) (9 ∷ [])

-- `{[ | 2: | 3: #10 | *: > ]}` 1: input_choice, 9 - 2; 3: jump_forward past the choice, 16 - 4; 5: error 10; 7: jump_forward likewise, 16 - 8;
-- 9: two labels; 2 at 10, back 11 - 3; 3 at 12, back 13 - 5; otherwise at 14: jump_forward past the cycle, 18 - 15; 16: jump_back, 17 - 1;
-- 18: return
abbrev P2 : Fact
P2 =
    let alternatives : Alts = alternative (2 ∷ []) done (alternative (3 ∷ []) (plain (error 10) ▸ done) nil) in
    makes (procedure (cycle (choice by_token alternatives (otherwise (plain exit ▸ done)) ▸ done) ▸ done) ∷ [])
    (7 ∷ 7 ∷ 1 ∷ 12 ∷ 6 ∷ 10 ∷ 1 ∷ 8 ∷ 2 ∷ 2 ∷ 8 ∷ 3 ∷ 8 ∷ 1 ∷ 3 ∷ 2 ∷ 16 ∷ 9 ∷ [])

-- `{ }` 1: jump_back, 2 - 1; 3: return
abbrev P3 : Fact
P3 = makes (procedure (cycle done ▸ done) ∷ []) (2 ∷ 1 ∷ 9 ∷ [])

-- `{ > }` 1: jump_forward, 5 - 2; 3: jump_back, 4 - 1; 5: return
abbrev P4 : Fact
P4 = makes (procedure (cycle (plain exit ▸ done) ▸ done) ∷ []) (1 ∷ 3 ∷ 2 ∷ 3 ∷ 9 ∷ [])

-- `a` with a = 0
abbrev P5 : Fact
P5 = makes (procedure (plain (match 0) ▸ done) ∷ []) (3 ∷ 0 ∷ 9 ∷ [])

-- `[ | b: ]` with b = 1. 1: input_choice, 5 - 2; 3: jump_forward, 12 - 4; 5: one label; 1 at 6, back 7 - 3; no otherwise: 8: input 1,
-- 10: jump_back, 11 - 3; 12: return
abbrev P6 : Fact
P6 = makes (procedure (choice by_token (alternative (1 ∷ []) done nil) absent ▸ done) ∷ []) (7 ∷ 3 ∷ 1 ∷ 8 ∷ 1 ∷ 1 ∷ 4 ∷ 3 ∷ 1 ∷ 2 ∷ 8 ∷ 9 ∷ [])

-- `M: @M;`
abbrev P7 : Fact
P7 = makes (procedure (plain (call 0) ▸ done) ∷ []) (8 ∷ 1 ∷ 9 ∷ [])

-- Other tables

-- `M: [@R | 5: .1 | 6: ]; R >> t: >> 5;` 1: call 18; 3: choice, 11 - 4; 5: emit 1, 7: jump_forward, 17 - 8; 9: jump_forward, 17 - 10;
-- 11: two labels; 5 at 12, back 13 - 5; 6 at 14, back 15 - 9; 16: end_choice; 17: return; 18: set_result 5; 20: return, and no more
abbrev by-rule : Fact
by-rule =
    let alternatives : Alts = alternative (5 ∷ []) (plain (emit 1) ▸ done) (alternative (6 ∷ []) done nil) in
    makes (procedure (choice (by_rule 1) alternatives absent ▸ done) ∷ valued (plain (give 5) ▸ done) ∷ [])
    (8 ∷ 18 ∷ 11 ∷ 7 ∷ 5 ∷ 1 ∷ 1 ∷ 9 ∷ 1 ∷ 7 ∷ 2 ∷ 5 ∷ 8 ∷ 6 ∷ 6 ∷ 12 ∷ 9 ∷ 10 ∷ 5 ∷ 9 ∷ [])

-- `[ f | 0: ]` with f = 768. 1: f; 2: choice, 6 - 3; 4: jump_forward, 10 - 5; 6: one label; 0 at 7, back 8 - 4; 9: end_choice; 10: return
abbrev by-operation : Fact
by-operation =
    makes (procedure (choice (by_operation 768) (alternative (0 ∷ []) done nil) absent ▸ done) ∷ []) (768 ∷ 11 ∷ 3 ∷ 1 ∷ 5 ∷ 1 ∷ 0 ∷ 4 ∷ 12 ∷ 9 ∷ [])

-- `[ f(3) | 2: #4 | *: .6 ]` with f = 1,024. 1: set_parameter 3; 3: f; 4: choice, 10 - 5; 6: error 4; 8: jump_forward, 15 - 9;
-- 10: one label; 2 at 11, back 12 - 6; 13: emit 6; 15: return
abbrev by-operation-with : Fact
by-operation-with =
    makes (procedure (choice (by_operation_with 1024 3) (alternative (2 ∷ []) (plain (error 4) ▸ done) nil) (otherwise (plain (emit 6) ▸ done)) ▸ done) ∷ [])
    (13 ∷ 3 ∷ 1024 ∷ 11 ∷ 5 ∷ 6 ∷ 4 ∷ 1 ∷ 6 ∷ 1 ∷ 2 ∷ 6 ∷ 5 ∷ 6 ∷ 9 ∷ [])

-- `[ f(3) | 2: ]` with f = 1,024. 1: set_parameter 3; 3: f; 4: choice, 8 - 5; 6: jump_forward, 12 - 7; 8: one label; 2 at 9, back 10 - 6;
-- 11: end_choice; 12: return
abbrev by-operation-with-only : Fact
by-operation-with-only =
    makes (procedure (choice (by_operation_with 1024 3) (alternative (2 ∷ []) done nil) absent ▸ done) ∷ [])
    (13 ∷ 3 ∷ 1024 ∷ 11 ∷ 3 ∷ 1 ∷ 5 ∷ 1 ∷ 2 ∷ 4 ∷ 12 ∷ 9 ∷ [])

-- `M: [@R | 5: | *: .1 ]; R >> t: >> 5;` 1: call 13; 3: choice, 7 - 4; 5: jump_forward, 12 - 6; 7: one label; 5 at 8, back 9 - 5;
-- 10: emit 1; 12: return; 13: set_result 5; 15: return
abbrev by-rule-else : Fact
by-rule-else =
    makes (procedure (choice (by_rule 1) (alternative (5 ∷ []) done nil) (otherwise (plain (emit 1) ▸ done)) ▸ done) ∷ valued (plain (give 5) ▸ done) ∷ [])
    (8 ∷ 13 ∷ 11 ∷ 3 ∷ 1 ∷ 6 ∷ 1 ∷ 5 ∷ 4 ∷ 5 ∷ 1 ∷ 9 ∷ 10 ∷ 5 ∷ 9 ∷ [])

-- `[ | 4, 7: ? | 9: ]`: three labels in two alternatives. 1: input_choice, 8 - 2; 3: input_any; 4: jump_forward, 19 - 5; 6: jump_forward,
-- 19 - 7; 8: three labels; 4 at 9, back 10 - 3; 7 at 11, back 12 - 3; 9 at 13, back 14 - 6; 15: input 4; 17: jump_back, 18 - 3; 19: return
abbrev two-labels : Fact
two-labels =
    makes (procedure (choice by_token (alternative (4 ∷ 7 ∷ []) (plain any ▸ done) (alternative (9 ∷ []) done nil)) absent ▸ done) ∷ [])
    (7 ∷ 6 ∷ 4 ∷ 1 ∷ 14 ∷ 1 ∷ 12 ∷ 3 ∷ 4 ∷ 7 ∷ 7 ∷ 9 ∷ 9 ∷ 8 ∷ 3 ∷ 4 ∷ 2 ∷ 15 ∷ 9 ∷ [])

-- `[ | *: (?).2 ]` 1: input_choice, 3 - 2; 3: no label; 4: input_any; 5: emit 2; 7: return
abbrev only-otherwise : Fact
only-otherwise =
    makes (procedure (choice by_token nil (otherwise (plain any ▸ plain (emit 2) ▸ done)) ▸ done) ∷ []) (7 ∷ 1 ∷ 0 ∷ 4 ∷ 5 ∷ 2 ∷ 9 ∷ [])

-- `{ { [ | 1: > | *: ? ] } > }` Both cycles begin at 1. 1: input_choice, 7 - 2; 3: jump_forward past the inner cycle, 13 - 4;
-- 5: jump_forward past the choice, 11 - 6; 7: one label; 1 at 8, back 9 - 3; 10: input_any; 11: jump_back, 12 - 1; 13: jump_forward past
-- the outer cycle, 17 - 14; 15: jump_back, 16 - 1; 17: return
abbrev nested : Fact
nested =
    let inner : Acts = choice by_token (alternative (1 ∷ []) (plain exit ▸ done) nil) (otherwise (plain any ▸ done)) ▸ done in
    makes (procedure (cycle (cycle inner ▸ plain exit ▸ done) ▸ done) ∷ [])
    (7 ∷ 5 ∷ 1 ∷ 9 ∷ 1 ∷ 5 ∷ 1 ∷ 1 ∷ 6 ∷ 4 ∷ 2 ∷ 11 ∷ 1 ∷ 3 ∷ 2 ∷ 15 ∷ 9 ∷ [])

-- `{ [ | 1: > .8 | *: ] #9 }`: what follows the exit, in its alternative and behind its choice, is gone over. 1: input_choice, 9 - 2;
-- 3: jump_forward past the cycle, 16 - 4; 5: emit 8; 7: jump_forward past the choice, 12 - 8; 9: one label; 1 at 10, back 11 - 3;
-- 12: error 9; 14: jump_back, 15 - 1; 16: return
abbrev followed : Fact
followed =
    let alternatives : Alts = alternative (1 ∷ []) (plain exit ▸ plain (emit 8) ▸ done) nil in
    makes (procedure (cycle (choice by_token alternatives (otherwise done) ▸ plain (error 9) ▸ done) ▸ done) ∷ [])
    (7 ∷ 7 ∷ 1 ∷ 12 ∷ 5 ∷ 8 ∷ 1 ∷ 4 ∷ 1 ∷ 1 ∷ 8 ∷ 6 ∷ 9 ∷ 2 ∷ 14 ∷ 9 ∷ [])

-- `{ [ | 1: | 2: > ] #9 }`: an exit in the second alternative. 1: input_choice, 9 - 2; 3: jump_forward past the choice, 18 - 4;
-- 5: jump_forward past the cycle, 22 - 6; 7: jump_forward past the choice, 18 - 8; 9: two labels; 1 at 10, back 11 - 3; 2 at 12, back 13 - 5;
-- 14: input 1; 16: jump_back, 17 - 3; 18: error 9; 20: jump_back, 21 - 1; 22: return
abbrev second_exits : Fact
second_exits =
    let alternatives : Alts = alternative (1 ∷ []) done (alternative (2 ∷ []) (plain exit ▸ done) nil) in
    makes (procedure (cycle (choice by_token alternatives absent ▸ plain (error 9) ▸ done) ▸ done) ∷ [])
    (7 ∷ 7 ∷ 1 ∷ 14 ∷ 1 ∷ 16 ∷ 1 ∷ 10 ∷ 2 ∷ 1 ∷ 8 ∷ 2 ∷ 8 ∷ 3 ∷ 1 ∷ 2 ∷ 14 ∷ 6 ∷ 9 ∷ 2 ∷ 20 ∷ 9 ∷ [])

-- `{ [ | 1: | *: > ] #9 }`: an exit in otherwise. 1: input_choice, 5 - 2; 3: jump_forward past the choice, 10 - 4; 5: one label; 1 at 6,
-- back 7 - 3; 8: jump_forward past the cycle, 14 - 9; 10: error 9; 12: jump_back, 13 - 1; 14: return
abbrev otherwise-exits : Fact
otherwise-exits =
    makes (procedure (cycle (choice by_token (alternative (1 ∷ []) done nil) (otherwise (plain exit ▸ done)) ▸ plain (error 9) ▸ done) ▸ done) ∷ [])
    (7 ∷ 3 ∷ 1 ∷ 6 ∷ 1 ∷ 1 ∷ 4 ∷ 1 ∷ 5 ∷ 6 ∷ 9 ∷ 2 ∷ 12 ∷ 9 ∷ [])

-- `{ [ | 1: [ f | 2: > | 3: ] | 4: ] }` with f = 768. 1: input_choice, 22 - 2; 3: f; 4: choice, 12 - 5; 6: jump_forward past the cycle,
-- 33 - 7; 8: jump_forward past the inner choice, 18 - 9; 10: jump_forward likewise, 18 - 11; 12: two labels; 2 at 13, back 14 - 6; 3 at 15,
-- back 16 - 10; 17: end_choice; 18: jump_forward past the outer choice, 31 - 19; 20: jump_forward likewise, 31 - 21; 22: two labels; 1 at 23,
-- back 24 - 3; 4 at 25, back 26 - 20; 27: input 1; 29: jump_back, 30 - 3; 31: jump_back, 32 - 1; 33: return
abbrev choice-in-choice : Fact
choice-in-choice =
    let inner : Acts = choice (by_operation 768) (alternative (2 ∷ []) (plain exit ▸ done) (alternative (3 ∷ []) done nil)) absent ▸ done in
    makes (procedure (cycle (choice by_token (alternative (1 ∷ []) inner (alternative (4 ∷ []) done nil)) absent ▸ done) ▸ done) ∷ [])
    (7 ∷ 20 ∷ 768 ∷ 11 ∷ 7 ∷ 1 ∷ 26 ∷ 1 ∷ 9 ∷ 1 ∷ 7 ∷ 2 ∷ 2 ∷ 8 ∷ 3 ∷ 6 ∷ 12 ∷ 1 ∷ 12 ∷ 1 ∷ 10 ∷ 2 ∷ 1 ∷ 21 ∷ 4 ∷ 6 ∷ 3 ∷ 1 ∷ 2 ∷ 27 ∷ 2 ∷ 31 ∷ 9 ∷ [])

-- `f(7) g` with f = 512, g = 256: set_parameter 7, f, g, return
abbrev updates : Fact
updates = makes (procedure (plain (update_with 512 7) ▸ plain (update 256) ▸ done) ∷ []) (13 ∷ 7 ∷ 512 ∷ 256 ∷ 9 ∷ [])

-- `M: >>; R >> t: >> v; N: @R;` M at 1: return for `>>`, return at its end; R at 3: set_result v, 5: return, and a choice rule has no other;
-- N at 6: call 3; 8: return
abbrev gives : Fact
gives =
    makes (procedure (plain back ▸ done) ∷ valued (plain (give 65535) ▸ done) ∷ procedure (plain (call 1) ▸ done) ∷ [])
    (9 ∷ 9 ∷ 10 ∷ 65535 ∷ 9 ∷ 8 ∷ 3 ∷ 9 ∷ [])

-- `M: @N ?; N: @M @N;` M at 1: call 5; 3: input_any; 4: return; N at 5: call 1; 7: call 5; 9: return
abbrev calls : Fact
calls =
    makes (procedure (plain (call 1) ▸ plain any ▸ done) ∷ procedure (plain (call 0) ▸ plain (call 1) ▸ done) ∷ [])
    (8 ∷ 5 ∷ 4 ∷ 9 ∷ 8 ∷ 1 ∷ 8 ∷ 5 ∷ 9 ∷ [])

-- no rule, no word
abbrev nothing : Fact
nothing = makes [] []

pub tables : List Fact
tables =
    P1 ∷ P2 ∷ P3 ∷ P4 ∷ P5 ∷ P6 ∷ P7 ∷ by-rule ∷ by-operation ∷ by-operation-with ∷ by-operation-with-only ∷ by-rule-else ∷ two-labels ∷ only-otherwise ∷ nested ∷ followed ∷ second_exits ∷ otherwise-exits ∷ choice-in-choice ∷ updates ∷ gives ∷ calls ∷ nothing ∷ []

-- What goes past itself

pub pasts : List Fact
pasts =
    -- nothing; `(? a).1 #2 @R f g(3)`
    passes done
    ∷ passes (plain any ▸ plain (match 0) ▸ plain (emit 1) ▸ plain (error 2) ▸ plain (call 0) ▸ plain (update 256) ▸ plain (update_with 512 3) ▸ done)
    -- "`>>` and `>` never go past themselves": `>`, `>>`, `>> v`, `>> v ?`, `? >> v`
    ∷ stays (plain exit ▸ done)
    ∷ stays (plain back ▸ done)
    ∷ stays (plain (give 0) ▸ done)
    ∷ stays (plain (give 0) ▸ plain any ▸ done)
    ∷ stays (plain any ▸ plain (give 0) ▸ done)
    -- "a cycle goes past if some `>` belongs to it": `{ }`, `{ > }`, `{ >> v > }`, `{ { > } }`, `{ { > } > }`
    ∷ stays (cycle done ▸ done)
    ∷ passes (cycle (plain exit ▸ done) ▸ done)
    ∷ passes (cycle (plain (give 0) ▸ plain exit ▸ done) ▸ done)
    ∷ stays (cycle (cycle (plain exit ▸ done) ▸ done) ▸ done)
    ∷ passes (cycle (cycle (plain exit ▸ done) ▸ plain exit ▸ done) ▸ done)
    -- in a choice too: `{ [ | a: >> v | *: > ] }`, `{ [ | a: > ] }`, `{ [ | a: | b: > ] }`, `{ [ | a: { > } | *: ? ] }`
    ∷ passes (cycle (choice by_token (alternative (0 ∷ []) (plain (give 0) ▸ done) nil) (otherwise (plain exit ▸ done)) ▸ done) ▸ done)
    ∷ passes (cycle (choice by_token (alternative (0 ∷ []) (plain exit ▸ done) nil) absent ▸ done) ▸ done)
    ∷ passes (cycle (choice by_token (alternative (0 ∷ []) done (alternative (1 ∷ []) (plain exit ▸ done) nil)) absent ▸ done) ▸ done)
    ∷ stays (cycle (choice by_token (alternative (0 ∷ []) (cycle (plain exit ▸ done) ▸ done) nil) (otherwise (plain any ▸ done)) ▸ done) ▸ done)
    -- "a choice if some alternative does": `[ | a: >> v ]`, `[ | a: >> v | b: ]`, `[ | a: >> v | *: ]`, `[ | a: >> v | *: >> v ]`, `[ | *: ]`
    ∷ stays (choice by_token (alternative (0 ∷ []) (plain (give 0) ▸ done) nil) absent ▸ done)
    ∷ passes (choice by_token (alternative (0 ∷ []) (plain (give 0) ▸ done) (alternative (1 ∷ []) done nil)) absent ▸ done)
    ∷ passes (choice by_token (alternative (0 ∷ []) (plain (give 0) ▸ done) nil) (otherwise done) ▸ done)
    ∷ stays (choice by_token (alternative (0 ∷ []) (plain (give 0) ▸ done) nil) (otherwise (plain (give 0) ▸ done)) ▸ done)
    ∷ passes (choice by_token nil (otherwise done) ▸ done)
    -- "a list if each of its actions does": `{ > } >> v`, `>> v { > }`, `[ | a: | *: ] { > }`
    ∷ stays (cycle (plain exit ▸ done) ▸ plain (give 0) ▸ done)
    ∷ stays (plain (give 0) ▸ cycle (plain exit ▸ done) ▸ done)
    ∷ passes (choice by_token (alternative (0 ∷ []) done nil) (otherwise done) ▸ cycle (plain exit ▸ done) ▸ done)
    ∷ []

pub cases : List Fact
cases = tables ++ pasts

pub all_hold : T (all cases)
unfolding holds all tables pasts cases Program.opened Past.opened Table.opened
all_hold = tt
