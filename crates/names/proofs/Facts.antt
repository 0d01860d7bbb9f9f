-- Texts that have a meaning, as their tables, and those with a fault 3 to 8: number, start and length of the word at fault, worked out from
-- document 01 by hand. `^` marks the start of that word and is not in the text. Further ones stand in crate cases.
use mathlib.Core.Bool.{Bool, true, false, ◌&&◌}
use mathlib.Core.List.{List, [], ◌∷◌}
use Prim.Native.Char.{code}
use Prim.Native.Nat.{ℕ}
use Prim.Native.String.{String}
use lib.Dec.{T, eqb}
use lib.ListN.{length}
use Rattle.base.specs.Common.{bytes, same}
use Rattle.names.specs.Declare
use Rattle.names.specs.Known
use Rattle.names.specs.Known.{Checked, good, wrong}
use Rattle.names.specs.Resolve
use Rattle.names.specs.Understand
use Rattle.names.specs.Uses
use Rattle.names.specs.Understand.{understand}
use Rattle.program.specs.Made
use Rattle.program.specs.Past
use Rattle.program.specs.Program
use Rattle.program.specs.Program.{Rule}
use Rattle.program.specs.Table
use Rattle.program.specs.Table.{table}
use Rattle.syntax.proofs.Marks.{mark_at, unmarked}
use Rattle.syntax.specs.Actions
use Rattle.syntax.specs.Parse
use Rattle.syntax.specs.Parse.{parse}
use Rattle.syntax.specs.Reading
use Rattle.syntax.specs.Reading.{Read, got, fault}
use Rattle.syntax.specs.Sections
use Rattle.syntax.specs.Written as written
use Rattle.words.specs.Words

unfoldable pub understanding : Unit {0}
unfolding Words.opened Reading.opened Actions.opened Sections.opened Parse.opened Known.opened Declare.opened Uses.opened Resolve.opened Understand.opened Made.opened Program.opened Past.opened Table.opened
understanding = tt

-- a table's words; or a fault's number, start and length
pub data Outcome : Type 0 where
  means : List ℕ → Outcome
  stops : ℕ → ℕ → ℕ → Outcome

pub record Line : Type 0 where
  pub text : List ℕ
  pub outcome : Outcome

unfoldable pub is_checked : Checked (List Rule) → Outcome → Bool
is_checked (good prog) (means ws) = same (table prog) ws
is_checked (good prog) (stops n s l) = false
is_checked (wrong m w) (means ws) = false
is_checked (wrong m w) (stops n s l) = eqb m n && eqb w.start s && eqb (length w.text) l

-- every text below is read with no fault 1, 2 or 9
unfoldable pub agrees : Read written.Program → Outcome → Bool
agrees (got p ws) x = is_checked (understand p) x
agrees (fault n w) x = false

unfoldable pub all_agree : List Line → Bool
all_agree [] = true
all_agree (l ∷ ls) = agrees (parse l.text) l.outcome && all_agree ls

-- a text and its table; a marked text, its number and the length of the word
abbrev pub fine : String → List ℕ → Line
fine t ws = record { text = bytes t; outcome = means ws }

abbrev pub at : String → ℕ → ℕ → Line
at t n l = record { text = unmarked (code "^") (bytes t); outcome = stops n (mark_at (code "^") (bytes t)) l }

-- the classes are apart: input tokens, output tokens, errors, type names, the values of each type, rules with operations; "A string is a
-- second name in its class"; "Mechanism names declare nothing and may repeat"
pub classes : List Line
classes =
    fine "input: a = 1; output: a = 2; error: a = 3; rules M: a .a #a; end" (3 ∷ 1 ∷ 5 ∷ 2 ∷ 6 ∷ 3 ∷ 9 ∷ [])
    ∷ fine "input: a 'x' = 4; output: b 'x' = 3; rules M: a 'x' .b .'x'; end" (3 ∷ 4 ∷ 3 ∷ 4 ∷ 5 ∷ 3 ∷ 5 ∷ 3 ∷ 9 ∷ [])
    ∷ fine "input output: c 'z'; rules M: c .c 'z' .'z'; end" (3 ∷ 0 ∷ 5 ∷ 0 ∷ 3 ∷ 0 ∷ 5 ∷ 0 ∷ 9 ∷ [])
    ∷ fine "input: a 'a'; rules M: a 'a'; end" (3 ∷ 0 ∷ 3 ∷ 0 ∷ 9 ∷ [])
    ∷ fine "input: a 'x' = 4; rules M: [ | 'x': ]; end" (7 ∷ 3 ∷ 1 ∷ 8 ∷ 1 ∷ 4 ∷ 4 ∷ 3 ∷ 4 ∷ 2 ∷ 8 ∷ 9 ∷ [])
    ∷ fine "input: a = 5 b = 4; input: c; rules M: c; end" (3 ∷ 6 ∷ 9 ∷ [])
    ∷ fine "type t: x = 1; type u: x = 2; mechanism m: f(t) g(u); rules M: f(x) g(x); end" (13 ∷ 1 ∷ 512 ∷ 13 ∷ 2 ∷ 513 ∷ 9 ∷ [])
    ∷ fine "type t: x = 1; type u: x = 2; mechanism m: h(t) >> u; rules M: [ h(x) | x: ]; end"
    (13 ∷ 1 ∷ 1024 ∷ 11 ∷ 3 ∷ 1 ∷ 5 ∷ 1 ∷ 2 ∷ 4 ∷ 12 ∷ 9 ∷ [])
    ∷ fine "type t: x = 4 y; rules M: [@N | y: ]; N >> t: >> y; end" (8 ∷ 12 ∷ 11 ∷ 3 ∷ 1 ∷ 5 ∷ 1 ∷ 5 ∷ 4 ∷ 12 ∷ 9 ∷ 10 ∷ 5 ∷ 9 ∷ [])
    ∷ fine "output: f; error: f; type f: f; mechanism f: f; rules M: f .f #f; end" (256 ∷ 5 ∷ 0 ∷ 6 ∷ 0 ∷ 9 ∷ [])
    ∷ fine "input: M; output: M; error: M; type M: M; mechanism M: f; rules M: M f @M; end" (3 ∷ 0 ∷ 256 ∷ 8 ∷ 1 ∷ 9 ∷ [])
    ∷ fine "input: a; rules M: [ | a: [ | a: ] ] [ | a: | *: ]; end"
    (7 ∷ 14 ∷ 7 ∷ 3 ∷ 1 ∷ 8 ∷ 1 ∷ 0 ∷ 4 ∷ 3 ∷ 0 ∷ 2 ∷ 8 ∷ 1 ∷ 8 ∷ 1 ∷ 0 ∷ 15 ∷ 3 ∷ 0 ∷ 2 ∷ 19 ∷ 7 ∷ 3 ∷ 1 ∷ 4 ∷ 1 ∷ 0 ∷ 4 ∷ 9 ∷ [])
    ∷ fine "mechanism m: f; input: g 'f'; rules M: f 'f'; end" (256 ∷ 3 ∷ 0 ∷ 9 ∷ [])
    ∷ fine "mechanism m: f; output: f; rules M: f .f; end" (256 ∷ 5 ∷ 0 ∷ 9 ∷ [])
    ∷ fine "mechanism m: f; error: f; rules M: f #f; end" (256 ∷ 6 ∷ 0 ∷ 9 ∷ [])
    ∷ fine "mechanism m: f; type t: f; mechanism n: g(t); rules M: f g(f); end" (256 ∷ 13 ∷ 0 ∷ 512 ∷ 9 ∷ [])
    ∷ fine "mechanism m: f; type f: v; mechanism n: g(f); rules M: f g(v); end" (256 ∷ 13 ∷ 0 ∷ 512 ∷ 9 ∷ [])
    ∷ []

pub classes-agree : T (all_agree classes)
unfolding understanding is_checked agrees all_agree mark_at unmarked classes
classes-agree = tt

-- 3, "name or string declared nowhere, or a type not yet declared" (R1, R6, R11, R12)
pub faults3 : List Line
faults3 =
    at "rules M: ^'M'; end" 3 3
    ∷ at "input: a 'q'; rules M: ^q; end" 3 1
    ∷ at "input: q; rules M: ^'q'; end" 3 3
    ∷ at "rules M: ^q(v); end" 3 1
    ∷ at "rules M: .^q; end" 3 1
    ∷ at "rules M: #^q; end" 3 1
    ∷ at "rules M: [@^q | *: ]; end" 3 1
    ∷ at "rules M: [ ^q | *: ]; end" 3 1
    ∷ at "rules M: [ | ^q: ]; end" 3 1
    ∷ at "rules M: [ | ^'q': ]; end" 3 3
    ∷ at "rules M: [@N | ^q: ]; N >> t: ; end" 3 1
    ∷ at "rules M: [@N | *: ]; N >> ^t: ; end" 3 1
    ∷ at "type t: v; mechanism m: f(t); rules M: f(^q); end" 3 1
    ∷ at "type t: v; mechanism m: f(t); rules M: f(^'v'); end" 3 3
    ∷ at "type t: v; mechanism m: g >> t; rules M: [ g | ^q: ]; end" 3 1
    ∷ at "type t: v; rules M: ; N >> t: >> ^q; end" 3 1
    ∷ at "type t: v; rules M: ; N >> t: >> ^'v'; end" 3 3
    ∷ at "mechanism m: f(^q); rules M: ; end" 3 1
    ∷ at "mechanism m: f >> ^q; rules M: ; end" 3 1
    ∷ at "mechanism m: f >> ^t; type t: v; rules M: ; end" 3 1
    ∷ at "output: t; mechanism m: f >> ^t; type t: v; rules M: ; end" 3 1
    ∷ at "input: a 'q'; mechanism m: f(^q); rules M: ; end" 3 1
    ∷ at "mechanism m: f; rules M: ^m; end" 3 1
    ∷ at "mechanism m: f(^m); rules M: ; end" 3 1
    ∷ at "mechanism m: h(^q) >> r; rules M: ; end" 3 1
    ∷ at "input: a; mechanism m: h(^q) >> a; rules M: ; end" 3 1
    ∷ at "input: a; mechanism m: h(^t) >> a; type t: v; rules M: ; end" 3 1
    ∷ at "mechanism m: h(^t) >> u; type u: v; type t: v; rules M: ; end" 3 1
    ∷ at "type t: v; mechanism m: h(t) >> ^q; rules M: ; end" 3 1
    ∷ at "type t: v; mechanism m: h(^q) >> t; rules M: ; end" 3 1
    ∷ []

pub faults3-agree : T (all_agree faults3)
unfolding understanding is_checked agrees all_agree mark_at unmarked faults3
faults3-agree = tt

-- 4, "declared twice, or a value repeated, at the entry's name" (R5); "rules and operations form one class, and an operation may not
-- bear an input token's name (4 at the later)"
pub faults4 : List Line
faults4 =
    at "output: b ^b; rules M: ; end" 4 1
    ∷ at "output: b 'x' ^c 'x'; rules M: ; end" 4 1
    ∷ at "error: e; error: ^e; rules M: ; end" 4 1
    ∷ at "error: e = 2 ^f = 2; rules M: ; end" 4 1
    ∷ at "type t: v ^v; rules M: ; end" 4 1
    ∷ at "type t: v = 1 ^w = 1; rules M: ; end" 4 1
    ∷ at "type t: v = 1 w = 0 ^x; rules M: ; end" 4 1
    ∷ at "type t: v; type ^t: w; rules M: ; end" 4 1
    ∷ at "input: a b ^a; rules M: ; end" 4 1
    ∷ at "input: a = 5; input: ^b = 5; rules M: ; end" 4 1
    ∷ at "input: a; input output: ^a; rules M: ; end" 4 1
    ∷ at "input: a = 7; input output: ^c = 7; rules M: ; end" 4 1
    ∷ at "output: a = 7; input output: ^c = 7; rules M: ; end" 4 1
    ∷ at "input: a 'x'; input output: ^c 'x'; rules M: ; end" 4 1
    ∷ at "output: a 'x'; input output: ^c 'x'; rules M: ; end" 4 1
    ∷ at "input output: c; input: ^c; rules M: ; end" 4 1
    ∷ at "input output: c; output: ^c; rules M: ; end" 4 1
    ∷ at "input output: c = 3; output: ^d = 3; rules M: ; end" 4 1
    ∷ at "input output: c 'x'; input: ^d 'x'; rules M: ; end" 4 1
    ∷ at "mechanism m: f ^f; rules M: ; end" 4 1
    ∷ at "mechanism m: f; mechanism n: ^f; rules M: ; end" 4 1
    ∷ at "mechanism m: f g ^f; rules M: ; end" 4 1
    ∷ at "mechanism m: f ^f(q); rules M: ; end" 4 1
    ∷ at "mechanism m: f; input: ^f; rules M: ; end" 4 1
    ∷ at "input: f; mechanism m: ^f; rules M: ; end" 4 1
    ∷ at "mechanism m: f; input output: ^f; rules M: ; end" 4 1
    ∷ at "input output: f; mechanism m: ^f; rules M: ; end" 4 1
    ∷ at "rules M: ; ^M: ; end" 4 1
    ∷ at "rules M: @N; N: ; ^N >> t: ; end" 4 1
    ∷ at "rules M: ; N: ; ^M: ; end" 4 1
    ∷ at "mechanism m: M; rules ^M: ; end" 4 1
    ∷ at "input: a ^a; rules M: > ; end" 4 1
    ∷ []

pub faults4-agree : T (all_agree faults4)
unfolding understanding is_checked agrees all_agree mark_at unmarked faults4
faults4-agree = tt

-- 5, "declared, but not in the class wanted here, wrong sort of rule or operation, first rule with a type (at its name), parameter
-- missing (at the name) or extra (at the `(`, after a token's name too)" (R1, R3, R6, R10, R11)
pub faults5 : List Line
faults5 =
    at "rules M: ^N; N: ; end" 5 1
    ∷ at "error: e; rules M: ^e; end" 5 1
    ∷ at "type t: v; rules M: ^t; end" 5 1
    ∷ at "type t: v; rules M: ^v; end" 5 1
    ∷ at "output: b 'x'; rules M: ^'x'; end" 5 3
    ∷ at "output: b; rules M: ^b(v); end" 5 1
    ∷ at "input: a; rules M: .^a; end" 5 1
    ∷ at "input: a 'x'; rules M: .^'x'; end" 5 3
    ∷ at "output: b; rules M: #^b; end" 5 1
    ∷ at "input: a; rules M: @^a; end" 5 1
    ∷ at "mechanism m: f; rules M: [@^f | *: ]; end" 5 1
    ∷ at "type t: v; rules M: [@^t | *: ]; end" 5 1
    ∷ at "rules M: [@^N | *: ]; N: ; end" 5 1
    ∷ at "rules M: [ ^N | *: ]; N: ; end" 5 1
    ∷ at "input: a; rules M: [ ^a | *: ]; end" 5 1
    ∷ at "output: b; rules M: [ | ^b: ]; end" 5 1
    ∷ at "output: b 'x'; rules M: [ | ^'x': ]; end" 5 3
    ∷ at "type t: v; type u: w; mechanism m: g >> t; rules M: [ g | v: | ^w: ]; end" 5 1
    ∷ at "type t: v; type u: w; rules M: [@N | ^w: ]; N >> t: >> v; end" 5 1
    ∷ at "input: t; rules M: [@N | *: ]; N >> ^t: ; end" 5 1
    ∷ at "input: a; rules M: [@N | ^a: ]; N >> t: ; end" 5 1
    ∷ at "output: a; rules M: [@N | ^a: ]; N >> t: ; end" 5 1
    ∷ at "type t: v; type u: w; mechanism m: f(t); rules M: f(^w); end" 5 1
    ∷ at "input: a 'v'; type t: v; mechanism m: f(t); rules M: f(^'v'); end" 5 3
    ∷ at "type t: v; type u: w; rules M: ; N >> t: >> ^w; end" 5 1
    ∷ at "input: a 'v'; type t: v; rules M: ; N >> t: >> ^'v'; end" 5 3
    ∷ at "type t: v; mechanism m: h(t) >> t; rules M: ^h(v); end" 5 1
    ∷ at "type t: v; mechanism m: h(t) >> t; rules M: ^h(q); end" 5 1
    ∷ at "type t: v; mechanism m: g >> t; rules M: ^g; end" 5 1
    ∷ at "type t: v; mechanism m: g >> t; rules M: ^g(v); end" 5 1
    ∷ at "type t: v; mechanism m: h(t) >> t; rules M: [ ^h | v: ]; end" 5 1
    ∷ at "type t: v; mechanism m: g >> t; rules M: [ g^(v) | v: ]; end" 5 1
    ∷ at "type t: v; mechanism m: f(t); rules M: [ ^f(v) | v: ]; end" 5 1
    ∷ at "type t: v; mechanism m: f(t); rules M: [ ^f(q) | *: ]; end" 5 1
    ∷ at "mechanism m: f; rules M: [ ^f | *: ]; end" 5 1
    ∷ at "mechanism m: f; rules M: [ ^f(q) | *: ]; end" 5 1
    ∷ at "type t: v; mechanism m: h(t) >> t; rules M: [ h(^M) | v: ]; end" 5 1
    ∷ at "input: a 'x'; rules M: 'x'^(q); end" 5 1
    ∷ at "input: a; rules M: a^(q); end" 5 1
    ∷ at "mechanism m: f; rules M: f^(q); end" 5 1
    ∷ at "type t: v; rules M: @^N; N >> t: >> v; N: ; end" 5 1
    ∷ at "mechanism m: f; type t: v; rules M: [@^f | v: ]; f >> t: >> v; end" 5 1
    ∷ at "rules ^M >> t: ; end" 5 1
    ∷ at "type t: v; rules ^M >> t: ; end" 5 1
    ∷ at "mechanism m: f(^a); input: a; rules M: ; end" 5 1
    ∷ at "mechanism m: f >> ^M; rules M: ; end" 5 1
    ∷ at "type t: v; mechanism m: f(^v); rules M: ; end" 5 1
    ∷ at "mechanism m: f(^f); rules M: ; end" 5 1
    ∷ at "input: a b; mechanism m: h(^a) >> b; rules M: ; end" 5 1
    ∷ at "input: a; mechanism m: h(^a) >> q; rules M: ; end" 5 1
    ∷ at "input: a; mechanism m: h(^a) >> t; type t: v; rules M: ; end" 5 1
    ∷ at "input: a; type t: v; mechanism m: h(t) >> ^a; rules M: ; end" 5 1
    ∷ []

pub faults5-agree : T (all_agree faults5)
unfolding understanding is_checked agrees all_agree mark_at unmarked faults5
faults5-agree = tt

-- 5 of a word that is declared under `input output` alone, which feeds two classes, in each of the others
pub both5 : List Line
both5 =
    at "input output: c; rules M: #^c; end" 5 1
    ∷ at "input output: c 'z'; rules M: #^'z'; end" 5 3
    ∷ at "input output: c; rules M: @^c; end" 5 1
    ∷ at "input output: c; rules M: [@^c | *: ]; end" 5 1
    ∷ at "input output: c; rules M: [ ^c | *: ]; end" 5 1
    ∷ at "input output: c; mechanism m: f(^c); rules M: ; end" 5 1
    ∷ at "input output: c; mechanism m: f >> ^c; rules M: ; end" 5 1
    ∷ at "input output: c; rules M: ; N >> ^c: ; end" 5 1
    ∷ at "input output: c; type t: v; mechanism m: f(t); rules M: f(^c); end" 5 1
    ∷ at "input output: c; type t: v; mechanism m: g >> t; rules M: [ g | ^c: ]; end" 5 1
    ∷ at "input output: c 'z'; type t: v; rules M: ; N >> t: >> ^'z'; end" 5 3
    ∷ at "input output: c; rules M: c^(q); end" 5 1
    ∷ []

pub both5-agree : T (all_agree both5)
unfolding understanding is_checked agrees all_agree mark_at unmarked both5
both5-agree = tt

-- 6, "label repeated", by value, over all the alternatives of the choice; 7, "`>` outside a cycle"
pub faults67 : List Line
faults67 =
    at "input: a b; rules M: [ | a: | b: | ^a: ]; end" 6 1
    ∷ at "input: a b; rules M: [ | a, b: ? | ^b: | *: ]; end" 6 1
    ∷ at "input: a 'x'; rules M: [ | 'x', ^a: ]; end" 6 1
    ∷ at "input: a 'x'; rules M: [ | 'x', ^'x': ]; end" 6 3
    ∷ at "input: a b; rules M: [ | a: [ | b: ] | ^a: ]; end" 6 1
    ∷ at "type t: v; mechanism m: g >> t; rules M: [ g | v: | ^v: ]; end" 6 1
    ∷ at "type t: v; rules M: [@N | v, ^v: ]; N >> t: >> v; end" 6 1
    ∷ at "input: a; rules M: [ | a: ^> | a: ]; end" 7 1
    ∷ at "input: a; rules M: { [ | a: > | ^a: ] }; end" 6 1
    ∷ at "input: a; rules M: [ | a: { > } ^> ]; end" 7 1
    ∷ at "rules M: { } ^>; end" 7 1
    ∷ at "rules M: { ? } [ | *: ^> ]; end" 7 1
    ∷ at "rules M: { @N }; N: ^> ; end" 7 1
    ∷ at "rules M: ^> q; end" 7 1
    ∷ at "rules M: [ | *: { [ | *: > ] } ^>]; end" 7 1
    ∷ fine "rules M: { [ | *: { > } > ] }; end" (7 ∷ 1 ∷ 0 ∷ 1 ∷ 3 ∷ 2 ∷ 3 ∷ 1 ∷ 3 ∷ 2 ∷ 10 ∷ 9 ∷ [])
    ∷ []

pub faults67-agree : T (all_agree faults67)
unfolding understanding is_checked agrees all_agree mark_at unmarked faults67
faults67-agree = tt

-- 8, "choice rule reaches its semicolon, `>>` without a value in one, or a name or string after `>>` in a procedure rule" (R4): "`>>` and `>`
-- never go past themselves; a cycle goes past if some `>` belongs to it; a choice if some alternative does; a list if each of its actions does"
pub faults8 : List Line
faults8 =
    at "type t: v; rules M: ; N >> t: @M ^; end" 8 1
    ∷ at "type t: v; rules M: ; N >> t: ? .^b ; end" 3 1
    ∷ at "type t: v; rules M: ; N >> t: { > } ^; end" 8 1
    ∷ at "type t: v; rules M: ; N >> t: { > >> v } ^; end" 8 1
    ∷ at "type t: v; rules M: ; N >> t: { { > } > } ^; end" 8 1
    ∷ at "type t: v; rules M: ; N >> t: { [ | *: >> v > ] } ^; end" 8 1
    ∷ at "type t: v; rules M: ; N >> t: [ | *: ] ^; end" 8 1
    ∷ at "input: a; type t: v; rules M: ; N >> t: [ | a: >> v | *: ] ^; end" 8 1
    ∷ at "input: a; type t: v; rules M: ; N >> t: [ | a: | *: >> v ] ^; end" 8 1
    ∷ at "input: a b; type t: v; rules M: ; N >> t: [ | a: >> v | b: ] ^; end" 8 1
    ∷ at "input: a; type t: v; rules M: ; N >> t: { [ | a: > | *: >> v ] } ^; end" 8 1
    ∷ at "type t: v; rules M: ; N >> t: { ^>> }; end" 8 2
    ∷ at "type t: v; rules M: ; N >> t: >> v ^>> ; end" 8 2
    ∷ at "type t: v; rules M: ; N >> t: ^>> ? ; end" 8 2
    ∷ at "rules M: >> ^'x' ; end" 8 3
    ∷ at "input: a 'x'; rules M: { >> ^a }; end" 8 1
    ∷ at "type t: v; rules M: >> ^v > ; end" 8 1
    ∷ at "type t: v; rules M: >> >> ^q ; end" 8 1
    ∷ at "type t: v; rules M: ; N >> t: >> v; K: >> ^v; end" 8 1
    ∷ fine "type t: v = 5; rules M: ; N >> t: ? >> v ; end" (9 ∷ 4 ∷ 10 ∷ 5 ∷ 9 ∷ [])
    ∷ fine "type t: v = 5; rules M: ; N >> t: >> v ? ; end" (9 ∷ 10 ∷ 5 ∷ 9 ∷ 4 ∷ [])
    ∷ fine "type t: v = 5; rules M: ; N >> t: { } ; end" (9 ∷ 2 ∷ 1 ∷ [])
    ∷ fine "type t: v = 5; rules M: ; N >> t: { ? } ; end" (9 ∷ 4 ∷ 2 ∷ 2 ∷ [])
    ∷ fine "type t: v = 5; rules M: ; N >> t: { >> v } ; end" (9 ∷ 10 ∷ 5 ∷ 9 ∷ 2 ∷ 4 ∷ [])
    ∷ fine "type t: v = 5; rules M: ; N >> t: { { > } } ; end" (9 ∷ 1 ∷ 3 ∷ 2 ∷ 3 ∷ 2 ∷ 5 ∷ [])
    ∷ fine "type t: v = 5; rules M: ; N >> t: { > } >> v ; end" (9 ∷ 1 ∷ 3 ∷ 2 ∷ 3 ∷ 10 ∷ 5 ∷ 9 ∷ [])
    ∷ fine "type t: v = 5; input: a; rules M: ; N >> t: [ | a: >> v ] ; end" (9 ∷ 7 ∷ 6 ∷ 10 ∷ 5 ∷ 9 ∷ 1 ∷ 8 ∷ 1 ∷ 0 ∷ 7 ∷ 3 ∷ 0 ∷ 2 ∷ 11 ∷ [])
    ∷ fine "type t: v = 5; input: a; rules M: ; N >> t: [ | a: >> v | *: { } ] ; end" (9 ∷ 7 ∷ 6 ∷ 10 ∷ 5 ∷ 9 ∷ 1 ∷ 6 ∷ 1 ∷ 0 ∷ 7 ∷ 2 ∷ 1 ∷ [])
    ∷ fine "rules M: >> ; N: >> >> ; end" (9 ∷ 9 ∷ 9 ∷ 9 ∷ 9 ∷ [])
    ∷ []

pub faults8-agree : T (all_agree faults8)
unfolding understanding is_checked agrees all_agree mark_at unmarked faults8
faults8-agree = tt

-- "then 3 to 8 likewise": by the first word in the text, the lower number where one word has two
pub order : List Line
order =
    at "mechanism m: f(^q) f; rules M: > ; end" 3 1
    ∷ at "mechanism m: f ^f(q) g(q); rules M: > ; end" 4 1
    ∷ at "input: a; rules M: [ | a, ^a, q: ] > ; end" 6 1
    ∷ at "input: a; rules M: [ | ^q, a, a: ] > ; end" 3 1
    ∷ at "mechanism m: M; rules ^M >> t: ; end" 4 1
    ∷ at "input: f; mechanism m: ^f(q) >> r; rules M: ; end" 4 1
    ∷ at "rules M: ; ^M >> t: ; end" 4 1
    ∷ at "rules M: ; N >> ^t: > ; end" 3 1
    ∷ at "type t: v; rules M: ; N >> t: ^q ; end" 3 1
    ∷ at "type t: v; rules M: ; N >> t: { ^q > } ; end" 3 1
    ∷ at "type t: v; rules M: >> ^v ; N >> t: ; end" 8 1
    ∷ at "type t: v; rules M: ; N >> t: ^; M: ; end" 8 1
    ∷ at "type t: v; rules M: @^N > ; N >> t: ; end" 5 1
    ∷ []

pub order-agree : T (all_agree order)
unfolding understanding is_checked agrees all_agree mark_at unmarked order
order-agree = tt
