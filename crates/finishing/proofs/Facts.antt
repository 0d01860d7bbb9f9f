-- Programs that are finishing and programs that are not, by the definition, worked out by hand from document 01, section "Finishing", and 02,
-- A.3. Each way that a path goes on and each place of a cycle has a program that is not finishing because of it ("no"), and one beside it that
-- is ("yes"). The comments give the programs' texts: `a` and `b` are tokens, `e` is an error, `x`, `y` and `z` are values of a type, `u` and
-- `u(x)` are update operations, `f` and `g(x)` choice operations.
use mathlib.Core.Path.{◌≡◌, refl}
use mathlib.Core.Bool.{Bool, true, false, ◌&&◌, not}
use mathlib.Core.List.{List, [], ◌∷◌, ◌++◌}
use Rattle.base.specs.Bools.{and, not_both}
use Rattle.base.specs.Tree.{plain, cycle, choice, done, ◌▸◌, nil, alternative, absent, otherwise}
use Rattle.program.specs.Program
use Rattle.program.specs.Program.{match, any, emit, error, exit, call, back, give, update, update_with, Selector, by_token, by_rule, by_operation, by_operation_with, Act, Acts, Rule}
use Rattle.finishing.specs.Finishing.{Finishing}
use Rattle.finishing.specs.Test
use Rattle.finishing.specs.Test.{finishing}
use Rattle.finishing.proofs.Exact.{finishing-sound, finishing-complete}

-- a program, and whether it is finishing
pub data Fact : Type 0 where
  yes no : List Rule → Fact

pub Says : Fact → Type 0
Says (yes prog) = Finishing prog
Says (no prog) = ¬ (Finishing prog)

pub Every : List Fact → Type 0
Every [] = Unit {0}
Every (f ∷ fs) = Says f × Every fs

-- Writing programs down

abbrev procedure : Acts → Rule
procedure b = record { valued = false; body = b }

abbrev valued : Acts → Rule
valued b = record { valued = true; body = b }

-- `M: q;`
abbrev one : Acts → List Rule
one q = procedure q ∷ []

-- `M: { q };`
abbrev round : Acts → List Rule
round q = one (cycle q ▸ done)

-- `M: { q }; N: b;`
abbrev round_with : Acts → Acts → List Rule
round_with q b = procedure (cycle q ▸ done) ∷ procedure b ∷ []

-- `M: { q }; N >> t: b;`
abbrev round_by : Acts → Acts → List Rule
round_by q b = procedure (cycle q ▸ done) ∷ valued b ∷ []

-- `M: ; N >> t: b;`
abbrev valued-only : Acts → List Rule
valued-only b = procedure done ∷ valued b ∷ []

-- `a`
abbrev a : Act
a = plain (match 0)

-- `.a`
abbrev say : Act
say = plain (emit 0)

-- `@M`
abbrev call_m : Act
call_m = plain (call 0)

-- `@N`
abbrev call_n : Act
call_n = plain (call 1)

-- `@O`
abbrev call_o : Act
call_o = plain (call 2)

-- `>`
abbrev leave : Act
leave = plain exit

-- `>>`
abbrev return : Act
return = plain back

-- `>> x`
abbrev give_x : Act
give_x = plain (give 0)

-- `>> y`
abbrev give_y : Act
give_y = plain (give 1)

-- `>> z`
abbrev give_z : Act
give_z = plain (give 2)

-- one action alone
abbrev just : Act → Acts
just x = x ▸ done

-- `[s | x: q ]`
abbrev when : Selector → Acts → Act
when s q = choice s (alternative (0 ∷ []) q nil) absent

-- `[s | x: q | y: r ]`
abbrev either : Selector → Acts → Acts → Act
either s q r = choice s (alternative (0 ∷ []) q (alternative (1 ∷ []) r nil)) absent

-- `[s | x: q | *: r ]`
abbrev when-else : Selector → Acts → Acts → Act
when-else s q r = choice s (alternative (0 ∷ []) q nil) (otherwise r)

-- `[s | *: q ]`
abbrev always : Selector → Acts → Act
always s q = choice s nil (otherwise q)

-- `[s | x: q | y: r | *: o ]`
abbrev either-else : Selector → Acts → Acts → Acts → Act
either-else s q r o = choice s (alternative (0 ∷ []) q (alternative (1 ∷ []) r nil)) (otherwise o)

-- `[s | x, y: q | z: r ]`
abbrev both-or : Selector → Acts → Acts → Act
both-or s q r = choice s (alternative (0 ∷ 1 ∷ []) q (alternative (2 ∷ []) r nil)) absent

-- `[ | a: >> x | *: >> y ]`: x after reading, y quietly
abbrev x-reading : Acts
x-reading = just (when-else by_token (just give_x) (just give_y))

-- `[ | a: >> y | *: >> x ]`
abbrev y-reading : Acts
y-reading = just (when-else by_token (just give_y) (just give_x))

-- `f`
abbrev f : Selector
f = by_operation 768

-- `g(x)`
abbrev g : Selector
g = by_operation_with 1024 0

-- `@N`
abbrev by_n : Selector
by_n = by_rule 1

-- `@O`
abbrev by_o : Selector
by_o = by_rule 2

-- `[f | x: >> x | y: >> y ]`: either, quietly
abbrev x-or-y : Acts
x-or-y = just (either f (just give_x) (just give_y))

-- "It is quiet if it reads no token": each action in a cycle that it would be the whole of, and actions in a row
unfoldable pub plains : List Fact
plains =
    -- `M: { };`
    no (round done)
    -- `M: { a };`
    ∷ yes (round (just a))
    -- `M: { ? };`
    ∷ yes (round (just (plain any)))
    -- `M: { .a };`
    ∷ no (round (just say))
    -- `M: { #e };`
    ∷ no (round (just (plain (error 0))))
    -- `M: { u };`
    ∷ no (round (just (plain (update 256))))
    -- `M: { u(x) };`
    ∷ no (round (just (plain (update_with 512 0))))
    -- `M: { > };`
    ∷ yes (round (just leave))
    -- `M: { >> };`
    ∷ yes (round (just return))
    -- `M: ; N >> t: { >> x };`
    ∷ yes (valued-only (just (cycle (just give_x))))
    -- `M: { .a .a };`
    ∷ no (round (say ▸ say ▸ done))
    -- `M: { a.a };`
    ∷ yes (round (a ▸ say ▸ done))
    -- `M: { .a a };`
    ∷ yes (round (say ▸ a ▸ done))
    -- `M: { > .a };`
    ∷ yes (round (leave ▸ say ▸ done))
    -- `M: { .a > };`
    ∷ yes (round (say ▸ leave ▸ done))
    -- `M: { >> .a };`
    ∷ yes (round (return ▸ say ▸ done))
    -- `M: ; N >> t: { >> x.a };`
    ∷ yes (valued-only (just (cycle (give_x ▸ say ▸ done))))
    ∷ []

-- `>` leaves the nearest cycle, and a cycle is gone past by no other way
unfoldable pub exits : List Fact
exits =
    -- `M: { { > } };`
    no (round (just (cycle (just leave))))
    -- `M: { { .a > a } };`
    ∷ no (round (just (cycle (say ▸ leave ▸ a ▸ done))))
    -- `M: { { a > } };`
    ∷ yes (round (just (cycle (a ▸ leave ▸ done))))
    -- `M: { { a } };`
    ∷ yes (round (just (cycle (just a))))
    -- `M: { { >> } };`
    ∷ yes (round (just (cycle (just return))))
    -- `M: ; N >> t: { { >> x } };`
    ∷ yes (valued-only (just (cycle (just (cycle (just give_x))))))
    -- `M: { { > } a };`
    ∷ yes (round (cycle (just leave) ▸ a ▸ done))
    -- `M: { { > } > };`
    ∷ yes (round (cycle (just leave) ▸ leave ▸ done))
    -- `M: { { { > } a } };`
    ∷ yes (round (just (cycle (cycle (just leave) ▸ a ▸ done))))
    -- `M: { { { > } > } };`
    ∷ no (round (just (cycle (cycle (just leave) ▸ leave ▸ done))))
    -- `M: { { [ | a: > | *: a ] } };`
    ∷ yes (round (just (cycle (just (when-else by_token (just leave) (just a))))))
    -- `M: { { [ | a: | *: > ] } };`
    ∷ no (round (just (cycle (just (when-else by_token done (just leave))))))
    -- `M: { { [f | x: a | y: > ] } };`
    ∷ no (round (just (cycle (just (either f (just a) (just leave))))))
    ∷ []

-- a choice by the present token: a labelled alternative reads it, otherwise does not; "a choice without otherwise has only its labelled
-- ones"
unfoldable pub by_tokens : List Fact
by_tokens =
    -- `M: { [ | a: ] };`
    yes (round (just (when by_token done)))
    -- `M: { [ | a: .a ] };`
    ∷ yes (round (just (when by_token (just say))))
    -- `M: { [ | a: | *: ] };`
    ∷ no (round (just (when-else by_token done done)))
    -- `M: { [ | a: | *: a ] };`
    ∷ yes (round (just (when-else by_token done (just a))))
    -- `M: { [ | a: | *: > ] };`
    ∷ yes (round (just (when-else by_token done (just leave))))
    -- `M: { [ | a: | *: >> ] };`
    ∷ yes (round (just (when-else by_token done (just return))))
    -- `M: { [ | a: > | *: ] };`
    ∷ no (round (just (when-else by_token (just leave) done)))
    -- `M: { [ | *: ] };`
    ∷ no (round (just (always by_token done)))
    -- `M: { [ | *: ? ] };`
    ∷ yes (round (just (always by_token (just (plain any)))))
    ∷ []

-- a choice by an operation reads nothing: "A path takes any alternative and ignores answers"
unfoldable pub by_operations : List Fact
by_operations =
    -- `M: { [f | x: ] };`
    no (round (just (when f done)))
    -- `M: { [f | x: a ] };`
    ∷ yes (round (just (when f (just a))))
    -- `M: { [f | x: > ] };`
    ∷ yes (round (just (when f (just leave))))
    -- `M: { [f | x: | y: > ] };`
    ∷ no (round (just (either f done (just leave))))
    -- `M: { [f | x: > | y: ] };`
    ∷ no (round (just (either f (just leave) done)))
    -- `M: { [f | x: > | y: a ] };`
    ∷ yes (round (just (either f (just leave) (just a))))
    -- `M: { [f | x: | *: > ] };`
    ∷ no (round (just (when-else f done (just leave))))
    -- `M: { [f | x: > | *: ] };`
    ∷ no (round (just (when-else f (just leave) done)))
    -- `M: { [f | x: > | *: a ] };`
    ∷ yes (round (just (when-else f (just leave) (just a))))
    -- `M: { [f | *: ] };`
    ∷ no (round (just (always f done)))
    -- `M: { [f | *: > ] };`
    ∷ yes (round (just (always f (just leave))))
    -- `M: { [g(x) | x: ] };`
    ∷ no (round (just (when g done)))
    -- `M: { [g(x) | x: a ] };`
    ∷ yes (round (just (when g (just a))))
    -- `M: { [g(x) | x: > ] };`
    ∷ yes (round (just (when g (just leave))))
    -- `M: { [g(x) | x: | y: > ] };`
    ∷ no (round (just (either g done (just leave))))
    -- `M: { [g(x) | x: > | y: ] };`
    ∷ no (round (just (either g (just leave) done)))
    -- `M: { [g(x) | x: > | y: a ] };`
    ∷ yes (round (just (either g (just leave) (just a))))
    -- `M: { [g(x) | x: | *: > ] };`
    ∷ no (round (just (when-else g done (just leave))))
    -- `M: { [g(x) | x: > | *: ] };`
    ∷ no (round (just (when-else g (just leave) done)))
    -- `M: { [g(x) | x: > | *: a ] };`
    ∷ yes (round (just (when-else g (just leave) (just a))))
    -- `M: { [g(x) | *: ] };`
    ∷ no (round (just (always g done)))
    -- `M: { [g(x) | *: > ] };`
    ∷ yes (round (just (always g (just leave))))
    ∷ []

-- a choice by a rule: "only the alternative that matches a value which the rule can return quietly, and otherwise if it can quietly return a
-- value that no label names"
unfoldable pub by_rules : List Fact
by_rules =
    -- `M: { [@N | x: ] }; N >> t: >> x;`
    no (round_by (just (when by_n done)) (just give_x))
    -- `M: { [@N | x: ] }; N >> t: a >> x;`
    ∷ yes (round_by (just (when by_n done)) (a ▸ give_x ▸ done))
    -- `M: { [@N | x: a ] }; N >> t: >> x;`
    ∷ yes (round_by (just (when by_n (just a))) (just give_x))
    -- `M: { [@N | x: > ] }; N >> t: >> x;`
    ∷ yes (round_by (just (when by_n (just leave))) (just give_x))
    -- `M: { [@N | x: > | y: ] }; N >> t: >> x;`
    ∷ yes (round_by (just (either by_n (just leave) done)) (just give_x))
    -- `M: { [@N | x: > | y: ] }; N >> t: >> y;`
    ∷ no (round_by (just (either by_n (just leave) done)) (just give_y))
    -- `M: { [@N | x: > | *: ] }; N >> t: >> x;`
    ∷ yes (round_by (just (when-else by_n (just leave) done)) (just give_x))
    -- `M: { [@N | x: > | *: ] }; N >> t: >> y;`
    ∷ no (round_by (just (when-else by_n (just leave) done)) (just give_y))
    -- `M: { [@N | x: > | *: ] }; N >> t: a >> x;`
    ∷ yes (round_by (just (when-else by_n (just leave) done)) (a ▸ give_x ▸ done))
    -- `M: { [@N | *: ] }; N >> t: >> x;`
    ∷ no (round_by (just (always by_n done)) (just give_x))
    -- `M: { [@N | *: ] }; N >> t: a >> x;`
    ∷ yes (round_by (just (always by_n done)) (a ▸ give_x ▸ done))
    -- `M: { [@N | x: ] }; N >> t: { >> x };`
    ∷ no (round_by (just (when by_n done)) (just (cycle (just give_x))))
    -- `M: { [@N | x: ] }; N >> t: { ? >> x };`
    ∷ yes (round_by (just (when by_n done)) (just (cycle (plain any ▸ give_x ▸ done))))
    -- `M: { [@N | x: ] }; N >> t: [ | a: >> x | *: >> y ];`
    ∷ yes (round_by (just (when by_n done)) x-reading)
    -- `M: { [@N | x: ] }; N >> t: [ | a: >> y | *: >> x ];`
    ∷ no (round_by (just (when by_n done)) y-reading)
    -- `M: { [@N | x: ] }; N >> t: [ | a: >> x | *: ? >> y ];`
    ∷ yes (round_by (just (when by_n done)) (just (when-else by_token (just give_x) (plain any ▸ give_y ▸ done))))
    -- `M: { [@N | x: ] }; N >> t: [f | x: a >> x | y: >> y ];`
    ∷ yes (round_by (just (when by_n done)) (just (either f (a ▸ give_x ▸ done) (just give_y))))
    -- `M: { [@N | x: ] }; N >> t: [f | x: >> x | y: a >> y ];`
    ∷ no (round_by (just (when by_n done)) (just (either f (just give_x) (a ▸ give_y ▸ done))))
    ∷ []

-- what the request (02, A.3) is about: which values a rule can return quietly, and what they open
unfoldable pub returned : List Fact
returned =
    -- the request's example, x for true and y for false: `M: { [@N | x: | y: > ] }; N >> t: [ | a: >> x | *: >> y ];`
    yes (round_by (just (either by_n done (just leave))) x-reading)
    -- the two values changed over: `M: { [@N | x: | y: > ] }; N >> t: [ | a: >> y | *: >> x ];`
    ∷ no (round_by (just (either by_n done (just leave))) y-reading)
    -- both quietly: `M: { [@N | x: | y: > ] }; N >> t: [f | x: >> x | y: >> y ];`
    ∷ no (round_by (just (either by_n done (just leave))) x-or-y)
    -- `M: { [@N | x: a | y: > ] }; N >> t: [f | x: >> x | y: >> y ];`
    ∷ yes (round_by (just (either by_n (just a) (just leave))) x-or-y)
    -- the choice before goes by another return: `M: { [@N | x: | y: > ] [@N | x: > | y: ] }; N >> t: [f | x: >> x | y: >> y ];`
    ∷ no (round_by (either by_n done (just leave) ▸ either by_n (just leave) done ▸ done) x-or-y)
    -- `M: { [@N | x: | y: > ] [@N | x: > | y: ] }; N >> t: >> x;`
    ∷ yes (round_by (either by_n done (just leave) ▸ either by_n (just leave) done ▸ done) (just give_x))
    -- an alternative with two labels: `M: { [@N | x, y: | z: > ] }; N >> t: >> x;`
    ∷ no (round_by (just (both-or by_n done (just leave))) (just give_x))
    -- `M: { [@N | x, y: | z: > ] }; N >> t: >> y;`
    ∷ no (round_by (just (both-or by_n done (just leave))) (just give_y))
    -- `M: { [@N | x, y: | z: > ] }; N >> t: >> z;`
    ∷ yes (round_by (just (both-or by_n done (just leave))) (just give_z))
    -- otherwise, with one value that is not named: `M: { [@N | x: > | *: ] }; N >> t: [ | a: >> x | *: >> y ];`
    ∷ no (round_by (just (when-else by_n (just leave) done)) x-reading)
    -- with one that is: `M: { [@N | x: > | *: ] }; N >> t: [ | a: >> y | *: >> x ];`
    ∷ yes (round_by (just (when-else by_n (just leave) done)) y-reading)
    -- with both: `M: { [@N | x: > | *: ] }; N >> t: [f | x: >> x | y: >> y ];`
    ∷ no (round_by (just (when-else by_n (just leave) done)) x-or-y)
    -- `M: { [@N | x: | *: > ] }; N >> t: [f | x: >> x | y: >> y ];`
    ∷ no (round_by (just (when-else by_n done (just leave))) x-or-y)
    -- `M: { [@N | x: | *: > ] }; N >> t: [ | a: >> x | *: >> y ];`
    ∷ yes (round_by (just (when-else by_n done (just leave))) x-reading)
    -- with labels for both: `M: { [@N | x: > | y: a | *: ] }; N >> t: [f | x: >> x | y: >> y ];`
    ∷ yes (round_by (just (either-else by_n (just leave) (just a) done)) x-or-y)
    -- `M: { [@N | x: > | y: a | *: ] }; N >> t: >> z;`
    ∷ no (round_by (just (either-else by_n (just leave) (just a) done)) (just give_z))
    -- a value that no label names, without otherwise, where the walk stops: `M: { [@N | x: | y: > ] }; N >> t: [ | a: >> x | *: >> z ];`
    ∷ yes (round_by (just (either by_n done (just leave))) (just (when-else by_token (just give_x) (just give_z))))
    -- `M: [@N | x: ] @M; N >> t: >> y;`
    ∷ yes (procedure (when by_n done ▸ call_m ▸ done) ∷ valued (just give_y) ∷ [])
    -- `M: [@N | x: ] @M; N >> t: >> x;`
    ∷ no (procedure (when by_n done ▸ call_m ▸ done) ∷ valued (just give_x) ∷ [])
    -- a rule without a quiet return: `M: { [@N | x: | *: ] }; N >> t: a [f | x: >> x | y: >> y ];`
    ∷ yes (round_by (just (when-else by_n done done)) (a ▸ x-or-y))
    -- `M: { [@N | x: | *: ] }; N >> t: { a };`
    ∷ yes (round_by (just (when-else by_n done done)) (just (cycle (just a))))
    -- values from inside a cycle: `M: { [@N | x: | y: > ] }; N >> t: { [ | a: | *: >> y ] };`
    ∷ yes (round_by (just (either by_n done (just leave))) (just (cycle (just (when-else by_token done (just give_y))))))
    -- `M: { [@N | x: | y: > ] }; N >> t: { [ | a: | *: >> x ] };`
    ∷ no (round_by (just (either by_n done (just leave))) (just (cycle (just (when-else by_token done (just give_x))))))
    -- the first of two: `M: { [@N | x: > | y: ] }; N >> t: >> x >> y;`
    ∷ yes (round_by (just (either by_n (just leave) done)) (give_x ▸ give_y ▸ done))
    -- an exit that a value opens: `M: { { [@N | x: > | y: a ] } }; N >> t: >> x;`
    ∷ no (round_by (just (cycle (just (either by_n (just leave) (just a))))) (just give_x))
    -- `M: { { [@N | x: > | y: a ] } }; N >> t: >> y;`
    ∷ yes (round_by (just (cycle (just (either by_n (just leave) (just a))))) (just give_y))
    -- a rule that is passed by a value, or not: `M: { @O }; N >> t: >> x; O: [@N | x: >> | y: a ] a;`
    ∷ no (procedure (just (cycle (just call_o))) ∷ valued (just give_x) ∷ procedure (either by_n (just return) (just a) ▸ a ▸ done) ∷ [])
    -- `M: { @O }; N >> t: >> y; O: [@N | x: >> | y: a ] a;`
    ∷ yes (procedure (just (cycle (just call_o))) ∷ valued (just give_y) ∷ procedure (either by_n (just return) (just a) ▸ a ▸ done) ∷ [])
    -- `M: { @O }; N >> t: >> y; O: [@N | x: ];`
    ∷ yes (procedure (just (cycle (just call_o))) ∷ valued (just give_y) ∷ procedure (just (when by_n done)) ∷ [])
    -- a value by another rule's: `M: { [@N | x: | y: > ] }; N >> t: [@O | x: >> x | y: >> y ]; O >> t: [ | a: >> x | *: >> y ];`
    ∷ yes (procedure (just (cycle (just (either by_n done (just leave))))) ∷ valued (just (either by_o (just give_x) (just give_y))) ∷ valued x-reading ∷ [])
    -- `M: { [@N | x: | y: > ] }; N >> t: [@O | x: >> y | y: >> x ]; O >> t: [ | a: >> x | *: >> y ];`
    ∷ no (procedure (just (cycle (just (either by_n done (just leave))))) ∷ valued (just (either by_o (just give_y) (just give_x))) ∷ valued x-reading ∷ [])
    -- `M: { [@N | x: | y: > ] }; N >> t: [@O | x: >> y | y: >> x ]; O >> t: [ | a: >> y | *: >> x ];`
    ∷ yes (procedure (just (cycle (just (either by_n done (just leave))))) ∷ valued (just (either by_o (just give_y) (just give_x))) ∷ valued y-reading ∷ [])
    -- the rule that gives it stands first: `M: ; N >> t: [ | a: >> x | *: >> y ]; O >> t: [@N | x: >> y | y: >> x ]; P: { [@O | x: > | y: ] };`
    ∷ yes (procedure done ∷ valued x-reading ∷ valued (just (either by_n (just give_y) (just give_x))) ∷ procedure (just (cycle (just (either by_o (just leave) done)))) ∷ [])
    -- `M: ; N >> t: [ | a: >> x | *: >> y ]; O >> t: [@N | x: >> y | y: >> x ]; P: { [@O | x: | y: > ] };`
    ∷ no (procedure done ∷ valued x-reading ∷ valued (just (either by_n (just give_y) (just give_x))) ∷ procedure (just (cycle (just (either by_o done (just leave))))) ∷ [])
    ∷ []

-- "A called rule is passed quietly if it has a quiet path to a return": to its end, or to a `>>` anywhere in it; directly, or because of
-- other rules
unfoldable pub passed : List Fact
passed =
    -- `M: { @N }; N: ;`
    no (round_with (just call_n) done)
    -- `M: { @N }; N: a;`
    ∷ yes (round_with (just call_n) (just a))
    -- `M: { @N }; N: .a;`
    ∷ no (round_with (just call_n) (just say))
    -- `M: { @N a }; N: ;`
    ∷ yes (round_with (call_n ▸ a ▸ done) done)
    -- `M: { @N > }; N: ;`
    ∷ yes (round_with (call_n ▸ leave ▸ done) done)
    -- `M: { @N }; N: >> ?;`
    ∷ no (round_with (just call_n) (return ▸ plain any ▸ done))
    -- `M: { @N }; N: a >>;`
    ∷ yes (round_with (just call_n) (a ▸ return ▸ done))
    -- `M: { @N }; N: { > };`
    ∷ no (round_with (just call_n) (just (cycle (just leave))))
    -- `M: { @N }; N: { > } a;`
    ∷ yes (round_with (just call_n) (cycle (just leave) ▸ a ▸ done))
    -- `M: { @N }; N: { >> } a;`
    ∷ no (round_with (just call_n) (cycle (just return) ▸ a ▸ done))
    -- `M: { @N }; N: { a >> };`
    ∷ yes (round_with (just call_n) (just (cycle (a ▸ return ▸ done))))
    -- `M: { @N }; N: { a };`
    ∷ yes (round_with (just call_n) (just (cycle (just a))))
    -- `M: { @N }; N: { [f | x: a | y: >> ] };`
    ∷ no (round_with (just call_n) (just (cycle (just (either f (just a) (just return))))))
    -- `M: { @N }; N: [f | x: >> | y: ] a;`
    ∷ no (round_with (just call_n) (either f (just return) done ▸ a ▸ done))
    -- `M: { @N }; N: [ | a: ];`
    ∷ yes (round_with (just call_n) (just (when by_token done)))
    -- `M: { @N }; N: [ | a: | *: ];`
    ∷ no (round_with (just call_n) (just (when-else by_token done done)))
    -- `M: { @N }; N: @O; O: ;`
    ∷ no (procedure (just (cycle (just call_n))) ∷ procedure (just call_o) ∷ procedure done ∷ [])
    -- `M: { @N }; N: @O; O: a;`
    ∷ yes (procedure (just (cycle (just call_n))) ∷ procedure (just call_o) ∷ procedure (just a) ∷ [])
    -- `M: { @O }; N: ; O: @N;`
    ∷ no (procedure (just (cycle (just call_o))) ∷ procedure done ∷ procedure (just call_n) ∷ [])
    -- `M: { @O }; N: ; O: @N a;`
    ∷ yes (procedure (just (cycle (just call_o))) ∷ procedure done ∷ procedure (call_n ▸ a ▸ done) ∷ [])
    -- `M: { @O }; N >> t: >> x; O: [@N | x: ];`
    ∷ no (procedure (just (cycle (just call_o))) ∷ valued (just give_x) ∷ procedure (just (when by_n done)) ∷ [])
    -- `M: { @O }; N >> t: a >> x; O: [@N | x: ];`
    ∷ yes (procedure (just (cycle (just call_o))) ∷ valued (a ▸ give_x ▸ done) ∷ procedure (just (when by_n done)) ∷ [])
    ∷ []

-- "no rule can quietly come to a call of itself, directly or through others"
unfoldable pub comes : List Fact
comes =
    -- `M: @M;`
    no (one (just call_m))
    -- `M: a @M;`
    ∷ yes (one (a ▸ call_m ▸ done))
    -- `M: @M a;`
    ∷ no (one (call_m ▸ a ▸ done))
    -- `M: .a @M;`
    ∷ no (one (say ▸ call_m ▸ done))
    -- `M: >> @M;`
    ∷ yes (one (return ▸ call_m ▸ done))
    -- `M: { @M > };`
    ∷ no (one (just (cycle (call_m ▸ leave ▸ done))))
    -- `M: { > @M };`
    ∷ yes (one (just (cycle (leave ▸ call_m ▸ done))))
    -- `M: { > } @M;`
    ∷ no (one (cycle (just leave) ▸ call_m ▸ done))
    -- `M: { a > } @M;`
    ∷ yes (one (cycle (a ▸ leave ▸ done) ▸ call_m ▸ done))
    -- `M: { >> } @M;`
    ∷ yes (one (cycle (just return) ▸ call_m ▸ done))
    -- `M: [ | a: @M ];`
    ∷ yes (one (just (when by_token (just call_m))))
    -- `M: [ | a: | *: @M ];`
    ∷ no (one (just (when-else by_token done (just call_m))))
    -- `M: [f | x: | y: @M ];`
    ∷ no (one (just (either f done (just call_m))))
    -- `M: [f | x: a | y: a ] @M;`
    ∷ yes (one (either f (just a) (just a) ▸ call_m ▸ done))
    -- `M: [f | x: | *: @M ];`
    ∷ no (one (just (when-else f done (just call_m))))
    -- `M: [g(x) | x: @M ];`
    ∷ no (one (just (when g (just call_m))))
    -- `M: [@N | x: @M ]; N >> t: >> x;`
    ∷ no (procedure (just (when by_n (just call_m))) ∷ valued (just give_x) ∷ [])
    -- `M: [@N | x: @M ]; N >> t: a >> x;`
    ∷ yes (procedure (just (when by_n (just call_m))) ∷ valued (a ▸ give_x ▸ done) ∷ [])
    -- `M: [@N | x: | *: @M ]; N >> t: >> x;`
    ∷ yes (procedure (just (when-else by_n done (just call_m))) ∷ valued (just give_x) ∷ [])
    -- `M: [@N | x: | *: @M ]; N >> t: >> y;`
    ∷ no (procedure (just (when-else by_n done (just call_m))) ∷ valued (just give_y) ∷ [])
    -- `M: [@N | x: | *: @M ]; N >> t: a >> x;`
    ∷ yes (procedure (just (when-else by_n done (just call_m))) ∷ valued (a ▸ give_x ▸ done) ∷ [])
    -- `M: [@N | x: @M | y: ]; N >> t: [ | a: >> x | *: >> y ];`
    ∷ yes (procedure (just (either by_n (just call_m) done)) ∷ valued x-reading ∷ [])
    -- `M: [@N | x: @M | y: ]; N >> t: [ | a: >> y | *: >> x ];`
    ∷ no (procedure (just (either by_n (just call_m) done)) ∷ valued y-reading ∷ [])
    -- `M: ; N >> t: [@N | x: a >> x ];`
    ∷ no (valued-only (just (when by_n (a ▸ give_x ▸ done))))
    -- `M: ; N >> t: a [@N | x: >> x ];`
    ∷ yes (valued-only (a ▸ when by_n (just give_x) ▸ done))
    -- `M: @N @M; N: ;`
    ∷ no (procedure (call_n ▸ call_m ▸ done) ∷ procedure done ∷ [])
    -- `M: @N @M; N: a;`
    ∷ yes (procedure (call_n ▸ call_m ▸ done) ∷ procedure (just a) ∷ [])
    -- `M: @N @M; N: { a };`
    ∷ yes (procedure (call_n ▸ call_m ▸ done) ∷ procedure (just (cycle (just a))) ∷ [])
    -- `M: @N; N: @M;`
    ∷ no (procedure (just call_n) ∷ procedure (just call_m) ∷ [])
    -- `M: @N; N: a @M;`
    ∷ yes (procedure (just call_n) ∷ procedure (a ▸ call_m ▸ done) ∷ [])
    -- `M: a @N; N: @M;`
    ∷ yes (procedure (a ▸ call_n ▸ done) ∷ procedure (just call_m) ∷ [])
    -- `M: [@N | x: ]; N >> t: @M >> x;`
    ∷ no (procedure (just (when by_n done)) ∷ valued (call_m ▸ give_x ▸ done) ∷ [])
    -- `M: [@N | x: ]; N >> t: a @M >> x;`
    ∷ yes (procedure (just (when by_n done)) ∷ valued (a ▸ call_m ▸ give_x ▸ done) ∷ [])
    -- `M: [@O | x: @N | y: ]; N: [@O | x: @M | y: ]; O >> t: [ | a: >> x | *: >> y ];`
    ∷ yes (procedure (just (either by_o (just call_n) done)) ∷ procedure (just (either by_o (just call_m) done)) ∷ valued x-reading ∷ [])
    -- `M: [@O | x: @N | y: ]; N: [@O | x: @M | y: ]; O >> t: [ | a: >> y | *: >> x ];`
    ∷ no (procedure (just (either by_o (just call_n) done)) ∷ procedure (just (either by_o (just call_m) done)) ∷ valued y-reading ∷ [])
    -- `M: ; N >> t: [@O | x: >> x ]; O >> t: [@N | x: >> x ];`
    ∷ no (procedure done ∷ valued (just (when by_o (just give_x))) ∷ valued (just (when by_n (just give_x))) ∷ [])
    -- `M: ; N >> t: a [@O | x: >> x ]; O >> t: [@N | x: >> x ];`
    ∷ yes (procedure done ∷ valued (a ▸ when by_o (just give_x) ▸ done) ∷ valued (just (when by_n (just give_x))) ∷ [])
    -- `M: ; N >> t: [@O | x: >> x | y: [@P | x: >> x ] ]; O >> t: [ | a: >> y | *: >> x ]; P >> t: [@N | x: >> x ];`
    ∷ yes (procedure done ∷ valued (just (either by_o (just give_x) (just (when (by_rule 3) (just give_x))))) ∷ valued y-reading ∷ valued (just (when by_n (just give_x))) ∷ [])
    -- `M: ; N >> t: [@O | x: >> x | y: [@P | x: >> x ] ]; O >> t: [ | a: >> x | *: >> y ]; P >> t: [@N | x: >> x ];`
    ∷ no (procedure done ∷ valued (just (either by_o (just give_x) (just (when (by_rule 3) (just give_x))))) ∷ valued x-reading ∷ valued (just (when by_n (just give_x))) ∷ [])
    -- `M: @N; N: @O; O: @M;`
    ∷ no (procedure (just call_n) ∷ procedure (just call_o) ∷ procedure (just call_m) ∷ [])
    -- `M: @N; N: @O; O: a @M;`
    ∷ yes (procedure (just call_n) ∷ procedure (just call_o) ∷ procedure (a ▸ call_m ▸ done) ∷ [])
    -- `M: @O; N: @M; O: @N;`
    ∷ no (procedure (just call_o) ∷ procedure (just call_m) ∷ procedure (just call_n) ∷ [])
    -- `M: @N; N: @O; O: @P; P: @M;`
    ∷ no (procedure (just call_n) ∷ procedure (just call_o) ∷ procedure (just (plain (call 3))) ∷ procedure (just call_m) ∷ [])
    -- `M: @N; N: @O; O: @P; P: a @M;`
    ∷ yes (procedure (just call_n) ∷ procedure (just call_o) ∷ procedure (just (plain (call 3))) ∷ procedure (a ▸ call_m ▸ done) ∷ [])
    -- `M: @N @N; N: @O; O: ;`
    ∷ yes (procedure (call_n ▸ call_n ▸ done) ∷ procedure (just call_o) ∷ procedure done ∷ [])
    ∷ []

-- "no cycle has a quiet path from its start to its end", wherever it stands and whether or not a path comes to it
unfoldable pub places : List Fact
places =
    -- `M: a { };`
    no (one (a ▸ cycle done ▸ done))
    -- `M: { } a;`
    ∷ no (one (cycle done ▸ a ▸ done))
    -- `M: >> { };`
    ∷ no (one (return ▸ cycle done ▸ done))
    -- `M: { > { } };`
    ∷ no (round (leave ▸ cycle done ▸ done))
    -- `M: { a { } };`
    ∷ no (round (a ▸ cycle done ▸ done))
    -- `M: { a { > } };`
    ∷ yes (round (a ▸ cycle (just leave) ▸ done))
    -- `M: [ | a: { } ];`
    ∷ no (one (just (when by_token (just (cycle done)))))
    -- `M: [ | a: { a } ];`
    ∷ yes (one (just (when by_token (just (cycle (just a))))))
    -- `M: [ | a: | b: { } ];`
    ∷ no (one (just (either by_token done (just (cycle done)))))
    -- `M: [ | a: | b: { > } ];`
    ∷ yes (one (just (either by_token done (just (cycle (just leave))))))
    -- `M: [ | a: | *: { } ];`
    ∷ no (one (just (when-else by_token done (just (cycle done)))))
    -- `M: [ | a: | *: { > } ];`
    ∷ yes (one (just (when-else by_token done (just (cycle (just leave))))))
    -- `M: [@N | x: { } ]; N >> t: a >> x;`
    ∷ no (procedure (just (when by_n (just (cycle done)))) ∷ valued (a ▸ give_x ▸ done) ∷ [])
    -- an alternative that no value opens: `M: [@N | x: { } ]; N >> t: >> y;`
    ∷ no (procedure (just (when by_n (just (cycle done)))) ∷ valued (just give_y) ∷ [])
    -- `M: [@N | x: { > } ]; N >> t: >> y;`
    ∷ yes (procedure (just (when by_n (just (cycle (just leave))))) ∷ valued (just give_y) ∷ [])
    -- `M: [@N | x: | *: { } ]; N >> t: >> x;`
    ∷ no (procedure (just (when-else by_n done (just (cycle done)))) ∷ valued (just give_x) ∷ [])
    -- `M: [f | x: { } | y: ];`
    ∷ no (one (just (either f (just (cycle done)) done)))
    ∷ []

-- "All rules count, called or not."
unfoldable pub uncalled : List Fact
uncalled =
    -- `M: ;`
    yes (one done)
    -- `M: ; N: ;`
    ∷ yes (procedure done ∷ procedure done ∷ [])
    -- `M: ; N: { };`
    ∷ no (procedure done ∷ procedure (just (cycle done)) ∷ [])
    -- `M: ; N: { > };`
    ∷ yes (procedure done ∷ procedure (just (cycle (just leave))) ∷ [])
    -- `M: ; N: @N;`
    ∷ no (procedure done ∷ procedure (just call_n) ∷ [])
    -- `M: ; N: a @N;`
    ∷ yes (procedure done ∷ procedure (a ▸ call_n ▸ done) ∷ [])
    -- `M: ; N: { }; O: ;`
    ∷ no (procedure done ∷ procedure (just (cycle done)) ∷ procedure done ∷ [])
    -- `M: ; N: @N; O: ;`
    ∷ no (procedure done ∷ procedure (just call_n) ∷ procedure done ∷ [])
    -- `M: ; N: @O; O: @N;`
    ∷ no (procedure done ∷ procedure (just call_o) ∷ procedure (just call_n) ∷ [])
    -- `M: ; N: @O; O: a @N;`
    ∷ yes (procedure done ∷ procedure (just call_o) ∷ procedure (a ▸ call_n ▸ done) ∷ [])
    -- `M: ; N: { @O }; O: ;`
    ∷ no (procedure done ∷ procedure (just (cycle (just call_o))) ∷ procedure done ∷ [])
    -- `M: ; N >> t: { [f | x: >> x | y: ] };`
    ∷ no (valued-only (just (cycle (just (either f (just give_x) done)))))
    -- `M: ; N >> t: { [f | x: >> x | y: a ] };`
    ∷ yes (valued-only (just (cycle (just (either f (just give_x) (just a))))))
    ∷ []

unfoldable pub cases : List Fact
unfolding plains exits by_tokens by_operations by_rules returned passed comes places uncalled
cases = plains ++ exits ++ by_tokens ++ by_operations ++ by_rules ++ returned ++ passed ++ comes ++ places ++ uncalled

-- The test computes them; it is exact, so they hold of the definition.

unfoldable pub holds : Fact → Bool
holds (yes prog) = finishing prog
holds (no prog) = not (finishing prog)

unfoldable pub all : List Fact → Bool
all [] = true
all (f ∷ fs) = holds f && all fs

says : (f : Fact) → holds f ≡ true → Says f
unfolding holds Says
says (yes prog) e = finishing-sound prog e
says (no prog) e = λ fin. not_both (finishing prog) e (finishing-complete prog fin)

every : (fs : List Fact) → all fs ≡ true → Every fs
unfolding all Every
every [] e = tt
every (f ∷ fs) e = let x = and (holds f) (all fs) e in (says f x.0, every fs x.1)

all_hold : all cases ≡ true
unfolding holds all cases Program.opened Test.opened
all_hold = refl

-- every program of the table is finishing, or not, as the table says
pub examples : Every cases
examples = every cases all_hold
