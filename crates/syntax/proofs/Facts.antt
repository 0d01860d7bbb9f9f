-- Texts that are read, and those where reading stops: number, start and length of the word at fault, worked out from document 01 by hand.
-- `^` marks the start of that word and is not in the text.
use mathlib.Core.Bool.{Bool, true, false, ◌&&◌}
use mathlib.Core.List.{List, [], ◌∷◌, ◌++◌}
use Prim.Native.Char.{code}
use Prim.Native.Nat.{ℕ, zero, suc}
use Prim.Native.String.{String}
use lib.Dec.{T, eqb}
use lib.ListN.{length, replicate}
use Rattle.base.specs.Common.{bytes}
use Rattle.syntax.proofs.Marks.{mark_at, unmarked}
use Rattle.syntax.specs.Actions
use Rattle.syntax.specs.Parse
use Rattle.syntax.specs.Parse.{parse}
use Rattle.syntax.specs.Reading
use Rattle.syntax.specs.Reading.{Read, got, fault}
use Rattle.syntax.specs.Sections
use Rattle.syntax.specs.Sections.{an_operation}
use Rattle.words.specs.Words
use Rattle.words.specs.Words.{words}

-- reading is opened by this name
unfoldable pub reading : Unit {0}
unfolding Words.opened Reading.opened Actions.opened Sections.opened Parse.opened
reading = tt

-- read to the end; or a fault's number, start and length
pub data Outcome : Type 0 where
  reads : Outcome
  stops : ℕ → ℕ → ℕ → Outcome

pub record Line : Type 0 where
  pub text : List ℕ
  pub outcome : Outcome

unfoldable pub agrees : {A : Type 0} → Read A → Outcome → Bool
agrees (got p ws) reads = true
agrees (got p ws) (stops n s l) = false
agrees (fault m w) reads = false
agrees (fault m w) (stops n s l) = eqb m n && eqb w.start s && eqb (length w.text) l

unfoldable pub all_agree : List Line → Bool
all_agree [] = true
all_agree (l ∷ ls) = agrees (parse l.text) l.outcome && all_agree ls

-- so many times the same bytes
unfoldable pub times : ℕ → String → List ℕ
times zero s = []
times (suc n) s = bytes s ++ times n s

-- a text that is read; a marked text, its number and the length of the word; the same for bytes
abbrev pub fine : String → Line
fine t = record { text = bytes t; outcome = reads }

abbrev pub fine_of : List ℕ → Line
fine_of t = record { text = t; outcome = reads }

abbrev pub at_of : List ℕ → ℕ → ℕ → Line
at_of t n l = record { text = unmarked (code "^") t; outcome = stops n (mark_at (code "^") t) l }

abbrev pub at : String → ℕ → ℕ → Line
at t n l = at_of (bytes t) n l

-- "A program is sections, then `rules`, one rule or more, `end`, and no word after it."
pub programs : List Line
programs =
    fine "rules M: ; end"
    ∷ fine "rules M:;end"
    ∷ fine "rules M: ; end % x"
    ∷ fine "rules\tM\r\n: ; % ; \n end\n"
    ∷ fine "rules M: ; N: ; M: ; end"
    ∷ at "^" 2 0
    ∷ at " \n^" 2 0
    ∷ at "rules^" 2 0
    ∷ at "rules M:\n;\n^" 2 0
    ∷ at "input: a;^" 2 0
    ∷ at "rules ^end" 2 3
    ∷ at "^end" 2 3
    ∷ at "^M: ; end" 2 1
    ∷ at "input: a; ^end" 2 3
    ∷ at "rules M: ; end ^end" 2 3
    ∷ at "rules M: ; end ^;" 2 1
    ∷ at "rules M: ; end ^$" 1 1
    ∷ at "rules M: ; ^rules N: ; end" 2 5
    ∷ at "rules M: ; ^input: a; end" 2 5
    ∷ at "rules M: ; ^; end" 2 1
    ∷ at "rules M: ; END^" 2 0
    ∷ []

pub programs-agree : T (all_agree programs)
unfolding reading agrees all_agree mark_at unmarked programs
programs-agree = tt

-- "A section is a head, a colon, one entry or more, a semicolon."
pub heads : List Line
heads =
    fine "input: a; output: a; input output: b; error: e; type t: v; mechanism m: f; rules M: ; end"
    ∷ fine "mechanism m: f; mechanism m: f; type t: v; type t: v; input: a; input: a; rules M: ; end"
    ∷ at "input: ^; rules M: ; end" 2 1
    ∷ at "output: ^; rules M: ; end" 2 1
    ∷ at "input output: ^; rules M: ; end" 2 1
    ∷ at "error: ^; rules M: ; end" 2 1
    ∷ at "type t: ^; rules M: ; end" 2 1
    ∷ at "mechanism m: ^; rules M: ; end" 2 1
    ∷ at "output ^input: a;" 2 5
    ∷ at "input output ^output: a;" 2 6
    ∷ at "error ^output: a;" 2 6
    ∷ at "input ^a;" 2 1
    ∷ at "input ^; a" 2 1
    ∷ at "type ^: v;" 2 1
    ∷ at "type t ^v;" 2 1
    ∷ at "type ^'t': v;" 2 3
    ∷ at "type ^end: v;" 2 3
    ∷ at "mechanism ^: f;" 2 1
    ∷ at "mechanism ^'m': f;" 2 3
    ∷ at "input: a ^rules M: ; end" 2 5
    ∷ at "^; rules M: ; end" 2 1
    ∷ at "input: a; ^; rules M: ; end" 2 1
    ∷ []

pub heads-agree : T (all_agree heads)
unfolding reading agrees all_agree mark_at unmarked heads
heads-agree = tt

-- "A token entry is a name, an optional string, an optional `= number`; error and type entries have no string."
pub entries : List Line
entries =
    fine "input: a 'x' = 5 b 'y' c = 0 d; rules M: ; end"
    ∷ fine "output: a'x'=5b'y'c=0d; rules M: ; end"
    ∷ fine "input output: a 'x' = 007 b; rules M: ; end"
    ∷ fine "error: e = 4 f; type t: v = 3 u; rules M: ; end"
    ∷ at "input: a = 5 ^'x'; rules M: ; end" 2 3
    ∷ at "input: a 'x' ^'y'; rules M: ; end" 2 3
    ∷ at "output: a = 5 ^'x'; rules M: ; end" 2 3
    ∷ at "error: e ^'x'; rules M: ; end" 2 3
    ∷ at "type t: v ^'x'; rules M: ; end" 2 3
    ∷ at "input: ^'x' a; rules M: ; end" 2 3
    ∷ at "input: ^5; rules M: ; end" 2 1
    ∷ at "input: ^do; rules M: ; end" 2 2
    ∷ at "input: a = ^b; rules M: ; end" 2 1
    ∷ at "input: a = ^'5'; rules M: ; end" 2 3
    ∷ at "input: a = 5 ^= 6; rules M: ; end" 2 1
    ∷ at "input: a = 5 ^6; rules M: ; end" 2 1
    ∷ at "input: a ^6; rules M: ; end" 2 1
    ∷ at "input: a^, b; rules M: ; end" 2 1
    ∷ at "input: a ^>> t; rules M: ; end" 2 2
    ∷ at "input: a ^(t); rules M: ; end" 2 1
    ∷ at "input: a = ^_; rules M: ; end" 1 1
    ∷ []

pub entries-agree : T (all_agree entries)
unfolding reading agrees all_agree mark_at unmarked entries
entries-agree = tt

-- "An operation entry is a name, an optional `(type)`, an optional `>> type`"; R2: types are names
pub operations : List Line
operations =
    fine "mechanism m: f g(t) h >> t i(t) >> t j; rules M: ; end"
    ∷ fine "mechanism m: f>>t g(t)h; rules M: ; end"
    ∷ at "mechanism m: f ^= 3; rules M: ; end" 2 1
    ∷ at "mechanism m: f ^'x'; rules M: ; end" 2 3
    ∷ at "mechanism m: f >> t ^(t); rules M: ; end" 2 1
    ∷ at "mechanism m: f(t) ^(t); rules M: ; end" 2 1
    ∷ at "mechanism m: f(^); rules M: ; end" 2 1
    ∷ at "mechanism m: f(t ^t); rules M: ; end" 2 1
    ∷ at "mechanism m: f(^'t'); rules M: ; end" 2 3
    ∷ at "mechanism m: f(^3); rules M: ; end" 2 1
    ∷ at "mechanism m: f >> ^'t'; rules M: ; end" 2 3
    ∷ at "mechanism m: f >> ^; rules M: ; end" 2 1
    ∷ at "mechanism m: f >> t ^>> t; rules M: ; end" 2 2
    ∷ at "mechanism m: f ^> t; rules M: ; end" 2 1
    ∷ at "mechanism m: f^, g; rules M: ; end" 2 1
    ∷ []

pub operations-agree : T (all_agree operations)
unfolding reading agrees all_agree mark_at unmarked operations
operations-agree = tt

-- "A rule is a name, an optional `>> type` (a choice rule), a colon, actions (perhaps none), a semicolon."
pub heading : List Line
heading =
    fine "rules M >> t: ; end"
    ∷ fine "rules M: ; N >> t: >> v; end"
    ∷ at "rules M ^; end" 2 1
    ∷ at "rules ^: ; end" 2 1
    ∷ at "rules ^'M': ; end" 2 3
    ∷ at "rules ^if: ; end" 2 2
    ∷ at "rules M >> ^: ; end" 2 1
    ∷ at "rules M >> ^'t': ; end" 2 3
    ∷ at "rules M >> t ^u: ; end" 2 1
    ∷ at "rules M ^(t): ; end" 2 1
    ∷ at "rules M ^'t': ; end" 2 3
    ∷ at "rules M: ^end" 2 3
    ∷ at "rules M: a N^: ; end" 2 1
    ∷ []

pub heading-agree : T (all_agree heading)
unfolding reading agrees all_agree mark_at unmarked heading
heading-agree = tt

-- "Actions: match a token; `?`; `.token`; `#error`; a cycle `{ }`; `>` ..; a choice `[ ]`; `@rule`; `>>`; an update operation, with its
-- constant in parentheses"; R1 to R4
pub actions : List Line
actions =
    fine "rules M: a ? 'x' . b # 'e' @ N > op(v) op('v') 'x'(v) a (v) >>; end"
    ∷ fine "rules M: ??.a.'x'#e{>>>}>>a>>'x'>>; end"
    ∷ fine "rules M: { { ? } [ | a: { > } | *: >> ] } ; end"
    ∷ fine "rules M: >> a b; end"
    ∷ at "rules M: @^'x'; end" 2 3
    ∷ at "rules M: @^; end" 2 1
    ∷ at "rules M: @N^(v); end" 2 1
    ∷ at "rules M: .a^(v); end" 2 1
    ∷ at "rules M: .'x'^(v); end" 2 1
    ∷ at "rules M: #e^(v); end" 2 1
    ∷ at "rules M: >> a^(v); end" 2 1
    ∷ at "rules M: >> 'x'^(v); end" 2 1
    ∷ at "rules M: >> ^(v); end" 2 1
    ∷ at "rules M: >> ^5; end" 2 1
    ∷ at "rules M: ?^(v); end" 2 1
    ∷ at "rules M: ^(v); end" 2 1
    ∷ at "rules M: op(^); end" 2 1
    ∷ at "rules M: op(^5); end" 2 1
    ∷ at "rules M: op(v ^w); end" 2 1
    ∷ at "rules M: op(v)^(w); end" 2 1
    ∷ at "rules M: op(v^, w); end" 2 1
    ∷ at "rules M: .^; end" 2 1
    ∷ at "rules M: .^?; end" 2 1
    ∷ at "rules M: #^5; end" 2 1
    ∷ at "rules M: #^.a; end" 2 1
    ∷ at "rules M: ^5; end" 2 1
    ∷ at "rules M: a^, b; end" 2 1
    ∷ at "rules M: ^*; end" 2 1
    ∷ at "rules M: a ^= 3; end" 2 1
    ∷ at "rules M: ^input; end" 2 5
    ∷ []

pub actions-agree : T (all_agree actions)
unfolding reading agrees all_agree mark_at unmarked actions
actions-agree = tt

-- cycles and choices; "`*` alone, in the last place, is otherwise and may be the only alternative"
pub nested : List Line
nested =
    fine "rules M: [ | *: ]; end"
    ∷ fine "rules M: [ | a: ]; end"
    ∷ fine "rules M: [ | a, 'x', b: ? | c: | *: a ]; end"
    ∷ fine "rules M: [@R | a: ] [ op | a: ] [ op(v) | a: ] [ op('v') | 'a': | *: ]; end"
    ∷ fine "rules M: if!a:fi do od { od do } [ ! a: fi if | a: ]; end"
    ∷ at "rules M: [ | *: ^| a: ]; end" 2 1
    ∷ at "rules M: [ | *: ^! a: ]; end" 2 1
    ∷ at "rules M: [ | *: ^| *: ]; end" 2 1
    ∷ at "rules M: [ | a, ^*: ]; end" 2 1
    ∷ at "rules M: [ | *^, a: ]; end" 2 1
    ∷ at "rules M: [ | * ^a: ]; end" 2 1
    ∷ at "rules M: [ | a, ^: ]; end" 2 1
    ∷ at "rules M: [ | ^, a: ]; end" 2 1
    ∷ at "rules M: [ | ^: ]; end" 2 1
    ∷ at "rules M: [ | a: | ^: ]; end" 2 1
    ∷ at "rules M: [ | a ^b: ]; end" 2 1
    ∷ at "rules M: [ | a ^]; end" 2 1
    ∷ at "rules M: [ | ^]; end" 2 1
    ∷ at "rules M: [ | ^5: ]; end" 2 1
    ∷ at "rules M: [ | ^?: ]; end" 2 1
    ∷ at "rules M: [ | a: ^, b: ]; end" 2 1
    ∷ at "rules M: [ ^]; end" 2 1
    ∷ at "rules M: [@R ^]; end" 2 1
    ∷ at "rules M: [@R ^a: ]; end" 2 1
    ∷ at "rules M: [@R^(v) | a: ]; end" 2 1
    ∷ at "rules M: [@^'x' | a: ]; end" 2 3
    ∷ at "rules M: [ ^'x' | a: ]; end" 2 3
    ∷ at "rules M: [ a^: ]; end" 2 1
    ∷ at "rules M: [ a ^b | x: ]; end" 2 1
    ∷ at "rules M: [ a(^) | x: ]; end" 2 1
    ∷ at "rules M: [ ^*: ]; end" 2 1
    ∷ at "rules M: [ ^? | a: ]; end" 2 1
    ∷ at "rules M: { ^; end" 2 1
    ∷ at "rules M: { ^]; end" 2 1
    ∷ at "rules M: { ^| a: }; end" 2 1
    ∷ at "rules M: [ | a: ^} ]; end" 2 1
    ∷ at "rules M: [ | a: ^; end" 2 1
    ∷ at "rules M: [ | *: ^; end" 2 1
    ∷ at "rules M: ^}; end" 2 1
    ∷ at "rules M: ^]; end" 2 1
    ∷ at "rules M: ^fi; end" 2 2
    ∷ at "rules M: ^| a: ; end" 2 1
    ∷ at "rules M: { ? } ^}; end" 2 1
    ∷ at "rules M: {{{ ^" 2 0
    ∷ []

pub nested-agree : T (all_agree nested)
unfolding reading agrees all_agree mark_at unmarked nested
nested-agree = tt

-- "Then 1, 2, 9 by the first word in the text, the lower number where one word has two"
pub order : List Line
order =
    at "rules ^; $" 2 1
    ∷ at "rules M: ^$ ( ;" 1 1
    ∷ at "rules M: ^( $ ;" 2 1
    ∷ at "input: a = ^65536 $" 9 5
    ∷ at "input: ^$ = 65536" 1 1
    ∷ at "input: ^; = 65536" 2 1
    ∷ at "input: a = ^'65536" 1 1
    ∷ at "rules M: > @N >> x ; N: ^$" 1 1
    ∷ at "rules M: ^'' abcdefghijklmnopqrstuvwxyz1234567 ; end" 1 1
    ∷ at "rules M: ^abcdefghijklmnopqrstuvwxyz1234567 '' ; end" 9 33
    ∷ []

pub order-agree : T (all_agree order)
unfolding reading agrees all_agree mark_at unmarked order
order-agree = tt

-- "32 bytes a name", where a name may stand, and 2 where none may
pub long_names : List Line
long_names =
    fine "input: abcdefghijklmnopqrstuvwxyz123456; rules abcdefghijklmnopqrstuvwxyz123456: abcdefghijklmnopqrstuvwxyz123456; end"
    ∷ at "input: ^abcdefghijklmnopqrstuvwxyz1234567;" 9 33
    ∷ at "type ^abcdefghijklmnopqrstuvwxyz1234567: v;" 9 33
    ∷ at "mechanism ^abcdefghijklmnopqrstuvwxyz1234567: f;" 9 33
    ∷ at "mechanism m: ^abcdefghijklmnopqrstuvwxyz1234567;" 9 33
    ∷ at "mechanism m: f(^abcdefghijklmnopqrstuvwxyz1234567);" 9 33
    ∷ at "mechanism m: f >> ^abcdefghijklmnopqrstuvwxyz1234567;" 9 33
    ∷ at "rules ^abcdefghijklmnopqrstuvwxyz1234567 $" 9 33
    ∷ at "rules M >> ^abcdefghijklmnopqrstuvwxyz1234567:" 9 33
    ∷ at "rules M: ^abcdefghijklmnopqrstuvwxyz1234567" 9 33
    ∷ at "rules M: .^abcdefghijklmnopqrstuvwxyz1234567" 9 33
    ∷ at "rules M: #^abcdefghijklmnopqrstuvwxyz1234567" 9 33
    ∷ at "rules M: @^abcdefghijklmnopqrstuvwxyz1234567" 9 33
    ∷ at "rules M: >> ^abcdefghijklmnopqrstuvwxyz1234567" 9 33
    ∷ at "rules M: op(^abcdefghijklmnopqrstuvwxyz1234567" 9 33
    ∷ at "rules M: [ ^abcdefghijklmnopqrstuvwxyz1234567" 9 33
    ∷ at "rules M: [@^abcdefghijklmnopqrstuvwxyz1234567" 9 33
    ∷ at "rules M: [ | ^abcdefghijklmnopqrstuvwxyz1234567" 9 33
    ∷ at "rules M: [ | a, ^abcdefghijklmnopqrstuvwxyz1234567" 9 33
    ∷ at "input ^abcdefghijklmnopqrstuvwxyz1234567: a;" 2 33
    ∷ at "rules M: ; end ^abcdefghijklmnopqrstuvwxyz1234567" 2 33
    ∷ at "rules M: op(v ^abcdefghijklmnopqrstuvwxyz1234567" 2 33
    ∷ []

pub long_names-agree : T (all_agree long_names)
unfolding reading agrees all_agree mark_at unmarked long_names
long_names-agree = tt

-- "values to 65,535": a number, or the name that counting on comes to; where a number may not stand it is 2 (R9)
pub big_values : List Line
big_values =
    fine "input: a = 65535; output: b; error: e; type t: v = 65535; type u: v; rules M: ; end"
    ∷ fine "input: a = 0000065535 b = 0 c; rules M: ; end"
    ∷ fine "input: a = 65534 b; rules M: ; end"
    ∷ fine "input: a = 65535; input: b = 0; rules M: ; end"
    ∷ at "input: a = ^65536" 9 5
    ∷ at "input: a = ^00065536;" 9 8
    ∷ at "type t: a = ^99999999999999999999999999;" 9 26
    ∷ at "input: a = 65535 ^b; rules M: ; end" 9 1
    ∷ at "input: a = 65535 ^b $" 9 1
    ∷ at "input: a = 65535 ^b 'x' $" 9 1
    ∷ at "input: a = 65535 b = ^$" 1 1
    ∷ at "input: a = 65535 b 'x' = ^;" 2 1
    ∷ at "input: a = 65535 ^b 5" 9 1
    ∷ at "input: a = 65535 b = ^65536" 9 5
    ∷ at "input: a = 65535 ^b '' = 3;" 9 1
    ∷ at "input: a = 65535 ^abcdefghijklmnopqrstuvwxyz1234567 = 65536;" 9 33
    ∷ at "error: a = 65534 b ^c" 9 1
    ∷ at "type t: a = 65535 ^b" 9 1
    ∷ at "input: a = 65535; input: ^b; rules M: ; end" 9 1
    ∷ at "input: a = 65535; output: b; input output: ^c; rules M: ; end" 9 1
    ∷ at "output: a = 65535; input: b; input output: ^c; rules M: ; end" 9 1
    ∷ at "error: a = 65535 b = 3; error: ^c; rules M: ; end" 9 1
    ∷ at "rules M: ^99999; end" 2 5
    ∷ at "input: ^99999;" 2 5
    ∷ at "rules M: op(^99999); end" 2 5
    ∷ []

pub big_values-agree : T (all_agree big_values)
unfolding reading agrees all_agree mark_at unmarked big_values
big_values-agree = tt

-- R8: "at most 32 deep", cycles and choices counted together, anew in each rule; the word at fault is the 33rd that opens
pub deep : List Line
deep =
    fine_of (bytes "rules M:" ++ (times 32 "{" ++ (times 32 "}" ++ bytes ";end")))
    ∷ fine_of (bytes "rules M:" ++ (times 32 "[|a:" ++ (times 32 "]" ++ bytes ";end")))
    ∷ fine_of (bytes "rules M:" ++ (times 16 "{[@R|*:" ++ (times 16 "]}" ++ (bytes ";N:" ++ (times 16 "[op|a:{" ++ (times 16 "}]" ++ bytes ";end"))))))
    ∷ fine_of (bytes "rules M:" ++ (times 40 "{}[|*:]" ++ bytes ";end"))
    ∷ fine_of (bytes "rules M:" ++ (times 31 "{" ++ (times 3 "{}[|a:|*:]" ++ (times 31 "}" ++ bytes ";end"))))
    ∷ at_of (bytes "rules M:" ++ (times 32 "{" ++ bytes "^{")) 9 1
    ∷ at_of (bytes "rules M:" ++ (times 32 "{" ++ bytes "^do od")) 9 2
    ∷ at_of (bytes "rules M:" ++ (times 16 "{[|*:" ++ bytes "^[ $")) 9 1
    ∷ at_of (bytes "rules M:" ++ (times 32 "{" ++ bytes "^[abcdefghijklmnopqrstuvwxyz1234567 | a: ]")) 9 1
    ∷ at_of (bytes "rules M:" ++ (times 16 "[|a:{" ++ bytes "^if")) 9 2
    ∷ at_of (bytes "rules M:;N:" ++ (times 31 "[|a:|b:" ++ bytes "{ ? } {} [ | *: ^{")) 9 1
    ∷ at_of (bytes "rules M:" ++ (times 32 "{" ++ bytes "^$")) 1 1
    ∷ at_of (bytes "rules M:" ++ (times 32 "{" ++ bytes "^(")) 2 1
    ∷ at_of (bytes "rules M:" ++ (times 32 "{" ++ bytes "? ^;")) 2 1
    ∷ []

-- "64 labels a choice", over all its alternatives; a 65th that is no label is 1 or 2
pub labels : List Line
labels =
    fine_of (bytes "rules M:[|a" ++ (times 63 ",a" ++ bytes ":|*:];end"))
    ∷ fine_of (bytes "rules M:[|a" ++ (times 31 ",a" ++ (bytes ":|b" ++ (times 31 ",'b'" ++ bytes ":];end"))))
    ∷ fine_of (bytes "rules M:[|a" ++ (times 31 ",a" ++ (bytes ":[|c" ++ (times 63 ",c" ++ (bytes ":]|b" ++ (times 31 ",b" ++ bytes ":];end"))))))
    ∷ fine_of (bytes "rules M:[" ++ (times 64 "|a:" ++ bytes "|*:];end"))
    ∷ at_of (bytes "rules M:[|a" ++ (times 63 ",a" ++ bytes ",^bc:];end")) 9 2
    ∷ at_of (bytes "rules M:[|a" ++ (times 63 ",a" ++ bytes ",^'x'")) 9 3
    ∷ at_of (bytes "rules M:[|a" ++ (times 63 ",a" ++ bytes ",^abcdefghijklmnopqrstuvwxyz1234567:];end")) 9 33
    ∷ at_of (bytes "rules M:[|a" ++ (times 63 ",a" ++ bytes ":|^d")) 9 1
    ∷ at_of (bytes "rules M:[|a" ++ (times 31 ",a" ++ (bytes ":|b" ++ (times 31 ",b" ++ bytes ":|^d:];end")))) 9 1
    ∷ at_of (bytes "rules M:[|a" ++ (times 31 ",a" ++ (bytes ":[|c:]|b" ++ (times 31 ",b" ++ bytes ",^d:];end")))) 9 1
    ∷ at_of (bytes "rules M:[" ++ (times 64 "|a:" ++ bytes "|^a:];end")) 9 1
    ∷ at_of (bytes "rules M:[|a" ++ (times 63 ",a" ++ bytes ",^$")) 1 1
    ∷ at_of (bytes "rules M:[|a" ++ (times 63 ",a" ++ bytes ",^''")) 1 1
    ∷ at_of (bytes "rules M:[|a" ++ (times 63 ",a" ++ bytes ",^*:]")) 2 1
    ∷ at_of (bytes "rules M:[|a" ++ (times 63 ",a" ++ bytes ":|^:]")) 2 1
    ∷ at_of (bytes "rules M:[|a" ++ (times 63 ",a" ++ bytes ",^")) 2 0
    ∷ []

-- "Limits: 128 rules, 512 names of entries, types and rules, 256 operations a kind" (R7, R9); "Text over 32,768 bytes is 9 before all else"
pub many : List Line
many =
    at_of (bytes "rules " ++ (times 128 "r:;" ++ bytes "^q $")) 9 1
    ∷ at_of (bytes "input:" ++ (times 512 "a " ++ bytes ";type ^t $")) 9 1
    ∷ at_of (bytes "input:" ++ (times 512 "a " ++ bytes ";mechanism m:^f(abcdefghijklmnopqrstuvwxyz1234567);")) 9 1
    ∷ at_of (bytes "mechanism m:" ++ (times 200 "f " ++ (bytes ";mechanism m:" ++ (times 56 "f " ++ bytes "^g;")))) 9 1
    ∷ record { text = replicate 32768 (code "$"); outcome = stops 1 0 1 }
    ∷ record { text = replicate 32769 (code "$"); outcome = stops 9 32769 0 }
    ∷ []

pub limits-agree : T (all_agree (deep ++ (labels ++ many)))
unfolding reading agrees all_agree mark_at unmarked times deep labels many
limits-agree = tt

-- an operation entry, and where the kind begins of which 256 operations stand before it
pub record Full : Type 0 where
  pub kind : ℕ
  pub entry : Line

abbrev full : ℕ → Line → Full
full b l = record { kind = b; entry = l }

pub entries_agree : List Full → Bool
entries_agree [] = true
entries_agree (f ∷ fs) = agrees (an_operation 256 (replicate 256 f.kind) (words f.entry.text)) f.entry.outcome && entries_agree fs

-- the 257th of its kind is at fault at its name, whatever faults stand behind it; while the kind is open it is not at fault yet (R9)
pub crowded : List Full
crowded =
    full 512 (at "^g(abcdefghijklmnopqrstuvwxyz1234567);" 9 1)
    ∷ full 512 (at "^g(abcdefghijklmnopqrstuvwxyz1234567) $" 9 1)
    ∷ full 512 (at "^g(abcdefghijklmnopqrstuvwxyz1234567)" 9 1)
    ∷ full 512 (at "^g(t) h" 9 1)
    ∷ full 512 (at "^abcdefghijklmnopqrstuvwxyz1234567(abcdefghijklmnopqrstuvwxyz1234567);" 9 33)
    ∷ full 512 (at "g(^abcdefghijklmnopqrstuvwxyz1234567" 9 33)
    ∷ full 512 (at "g(^abcdefghijklmnopqrstuvwxyz1234567 $" 9 33)
    ∷ full 512 (at "g(^abcdefghijklmnopqrstuvwxyz1234567 t);" 9 33)
    ∷ full 512 (at "g(t ^abcdefghijklmnopqrstuvwxyz1234567);" 2 33)
    ∷ full 512 (at "g(^abcdefghijklmnopqrstuvwxyz1234567) >> t;" 9 33)
    ∷ full 512 (at "g(t) >> ^abcdefghijklmnopqrstuvwxyz1234567;" 9 33)
    ∷ full 512 (at "g >> ^abcdefghijklmnopqrstuvwxyz1234567;" 9 33)
    ∷ full 512 (at "g(^$" 1 1)
    ∷ full 512 (at "g(t ^$" 1 1)
    ∷ full 512 (at "g(^" 2 0)
    ∷ full 512 (at "g(t ^;" 2 1)
    ∷ full 512 (at "g(^'t');" 2 3)
    ∷ full 512 (fine "g;")
    ∷ full 512 (fine "g >> t;")
    ∷ full 512 (fine "g(t) >> t;")
    ∷ full 1024 (at "^g(abcdefghijklmnopqrstuvwxyz1234567) >> abcdefghijklmnopqrstuvwxyz1234567;" 9 1)
    ∷ full 1024 (at "^g(t) >> abcdefghijklmnopqrstuvwxyz1234567;" 9 1)
    ∷ full 1024 (at "^g(abcdefghijklmnopqrstuvwxyz1234567) >> $" 9 1)
    ∷ full 1024 (at "g(^abcdefghijklmnopqrstuvwxyz1234567);" 9 33)
    ∷ full 1024 (at "g(^abcdefghijklmnopqrstuvwxyz1234567) > t;" 9 33)
    ∷ full 1024 (fine "g(t) $")
    ∷ full 256 (at "^g;" 9 1)
    ∷ full 256 (at "^g $" 9 1)
    ∷ full 256 (at "^g = 3;" 9 1)
    ∷ full 256 (at "g(^abcdefghijklmnopqrstuvwxyz1234567);" 9 33)
    ∷ full 256 (at "g(^$" 1 1)
    ∷ full 256 (at "g >> ^abcdefghijklmnopqrstuvwxyz1234567;" 9 33)
    ∷ full 768 (at "^g >> abcdefghijklmnopqrstuvwxyz1234567;" 9 1)
    ∷ full 768 (at "^g >> $" 9 1)
    ∷ full 768 (at "g(^abcdefghijklmnopqrstuvwxyz1234567) >> t;" 9 33)
    ∷ full 768 (at "g(t) >> ^abcdefghijklmnopqrstuvwxyz1234567;" 9 33)
    ∷ full 768 (at "g(t ^>> abcdefghijklmnopqrstuvwxyz1234567;" 2 2)
    ∷ []

pub crowded-agree : T (entries_agree crowded)
unfolding reading agrees entries_agree mark_at unmarked crowded
crowded-agree = tt
