-- Operators under precedence: tables, and the faults 3, 4, 45, 5 and 9. `~` marks the start of the word at fault and is not in the text.
use mathlib.Core.Bool.{Bool, true, false, ◌&&◌}
use mathlib.Core.List.{List, [], ◌∷◌, ◌++◌}
use Prim.Native.Char.{code}
use Prim.Native.Nat.{ℕ}
use Prim.Native.String.{String}
use lib.Dec.{T}
use Rattle.base.specs.Common.{bytes, same}
use Rattle.names.proofs.Facts.{understanding, means, stops, Line, is_checked, agrees, all_agree, fine}
use Rattle.names.specs.Known.{Checked, good, wrong}
use Rattle.names.specs.Understand.{understand}
use Rattle.program.specs.Program.{Rule}
use Rattle.program.specs.Table.{table}
use Rattle.syntax.proofs.Marks.{mark_at, unmarked}
use Rattle.syntax.specs.Parse.{parse}
use Rattle.syntax.specs.Reading.{Read, got, fault}
use Rattle.syntax.specs.Written as written

abbrev pub fine_of : List ℕ → List ℕ → Line
fine_of t ws = record { text = t; outcome = means ws }

abbrev pub at_of : List ℕ → ℕ → ℕ → Line
at_of t n l = record { text = unmarked (code "~") t; outcome = stops n (mark_at (code "~") t) l }

abbrev pub at : String → ℕ → ℕ → Line
at t n l = at_of (bytes t) n l

-- two left levels; a right level; one output for two tokens, alternatives in the section's order; a section not used makes nothing
pub tables : List Line
tables =
    fine "input: a plus times; output: add mul; operators E: plus 1 left add times 2 left mul; rules M: ^E @P; P: a; end"
    (8 ∷ 7 ∷ 9 ∷ 3 ∷ 0 ∷ 9
    ∷ 8 ∷ 25 ∷ 7 ∷ 7 ∷ 8 ∷ 25 ∷ 5 ∷ 0 ∷ 1 ∷ 6 ∷ 1 ∷ 1 ∷ 8 ∷ 1 ∷ 3 ∷ 2 ∷ 14 ∷ 9
    ∷ 8 ∷ 4 ∷ 7 ∷ 7 ∷ 8 ∷ 4 ∷ 5 ∷ 1 ∷ 1 ∷ 6 ∷ 1 ∷ 2 ∷ 8 ∷ 1 ∷ 3 ∷ 2 ∷ 14 ∷ 9 ∷ [])
    ∷ fine "input: a up; output: pow; operators E: up 9 right pow; rules M: ^E @P; P: a; end"
    (8 ∷ 7 ∷ 9 ∷ 3 ∷ 0 ∷ 9 ∷ 8 ∷ 4 ∷ 7 ∷ 7 ∷ 8 ∷ 7 ∷ 5 ∷ 0 ∷ 1 ∷ 4 ∷ 1 ∷ 1 ∷ 8 ∷ 9 ∷ [])
    ∷ fine "operators E: 'p' 1 left 'x'; input: p 'p'; output: x 'x'; rules M: ; end" (9 ∷ [])
    ∷ []

pub tables_agree : T (all_agree tables)
unfolding understanding is_checked agrees all_agree tables
tables_agree = tt

-- a text with operators and one with its rules written out have one table
pub table_of : Checked (List Rule) → List ℕ
table_of (good prog) = table prog
table_of (wrong n w) = []

pub words_of : Read written.Program → List ℕ
words_of (got p ws) = table_of (understand p)
words_of (fault n w) = []

pub some_words : List ℕ → Bool
some_words [] = false
some_words (w ∷ ws) = true

pub written_out :
    let head : String = "input: a p q r; output: x y z; operators E: p 3 left x r 7 right z q 3 left x; operators F: q 15 right y; rules " in
    let with : List ℕ = words_of (parse (bytes head ++ bytes "M: ^E @P ^F @P ^E @M ^E @P; P: [ | a: ^F @P | *: ] ^F @M; end")) in
    let without : List ℕ = words_of (parse (bytes head ++ bytes "M: @A @C @D @A; P: [ | a: @C | *: ] @G; A: @B {[ | p: @B .x | q: @B .x | *: > ]}; B: @P [ | r: @B .z | *: ]; C: @P [ | q: @C .y | *: ]; D: @F {[ | p: @F .x | q: @F .x | *: > ]}; F: @M [ | r: @F .z | *: ]; G: @M [ | q: @G .y | *: ]; end")) in
    T (some_words with && same with without)
unfolding understanding table_of words_of some_words
written_out = tt

-- uses in text order: labelled alternatives one after the other, then otherwise, inside a cycle
pub in_order :
    let head : String = "input: a p q r; output: x y z; operators E: p 3 left x r 7 right z q 3 left x; operators F: q 15 right y; rules " in
    let with : List ℕ = words_of (parse (bytes head ++ bytes "M: {[ | a: ^F @M > | p: ^E @P | *: ^E @M ]}; P: a; end")) in
    let without : List ℕ = words_of (parse (bytes head ++ bytes "M: {[ | a: @A > | p: @B | *: @D ]}; P: a; A: @M [ | q: @A .y | *: ]; B: @C {[ | p: @C .x | q: @C .x | *: > ]}; C: @P [ | r: @C .z | *: ]; D: @F {[ | p: @F .x | q: @F .x | *: > ]}; F: @M [ | r: @F .z | *: ]; end")) in
    T (some_words with && same with without)
unfolding understanding table_of words_of some_words
in_order = tt

-- 3, 4, 45, 5 in the section and at the action; "a class of their own"
pub faults : List Line
faults =
    at "output: x; operators E: ~p 1 left q; rules M: ; end" 3 1
    ∷ at "input: p; operators E: p 1 left ~'q'; rules M: ; end" 3 3
    ∷ at "input: p; output: x; operators E: ~x 1 left x; rules M: ; end" 5 1
    ∷ at "input: p; output: x; operators E: p 1 left ~p; rules M: ; end" 5 1
    ∷ at "input: p; output: x; operators E: ~E 1 left x; rules M: ; end" 5 1
    ∷ at "input: p; output: x; operators E: p 1 left x; operators ~E: p 1 left q; rules M: ; end" 4 1
    ∷ at "input: p q; output: x; operators E: p 1 left x ~p 2 right y; rules M: ; end" 45 1
    ∷ at "input: p q; output: x; operators E: p 1 left x ~q 01 right y; rules M: ; end" 45 1
    ∷ at "input: p 'p'; output: x; operators E: p 1 left x ~'p' 3 left x; rules M: ; end" 45 3
    -- the same of an entry that is not the first
    ∷ at "input: p q; output: x; operators E: p 1 left x q 2 left x ~q 3 left x; rules M: ; end" 45 1
    ∷ at "input: p q r; output: x; operators E: p 1 left x q 2 left x ~r 2 right x; rules M: ; end" 45 1
    -- the token before the output
    ∷ at "input: p; output: x; operators E: ~x 1 left p; rules M: ; end" 5 1
    ∷ at "input: p q; output: x; operators E: p 1 left x ~r 1 right x; rules M: ; end" 3 1
    ∷ at "input: p q; output: x; operators E: p 1 left x ~x 1 right x; rules M: ; end" 45 1
    ∷ at "input: p q; output: x; operators E: p 1 left x ~x 1 left x; rules M: ; end" 5 1
    ∷ at "input: p q; output: x; operators E: p 1 left ~p p 1 left x; rules M: ; end" 5 1
    ∷ at "operators E: p 1 left x ~p 2 left x; input: p p; output: x; rules M: ; end" 45 1
    ∷ at "operators E: p 1 left x ~q 2 left x; input: p p; output: x; rules M: q; end" 3 1
    ∷ at "input: p; output: x; operators E: p 1 left x; rules M: ^~F @N; end" 3 1
    ∷ at "input: p; output: x; operators E: p 1 left x; rules M: ^~M @N; end" 5 1
    ∷ at "input: p; output: x; operators E: p 1 left x; mechanism m: f; rules M: ^~m @N; end" 3 1
    ∷ at "input: p; output: x; operators E: p 1 left x; rules M: ^E @~N; end" 3 1
    ∷ at "input: p; output: x; operators E: p 1 left x; rules M: ^E @~E; end" 5 1
    ∷ at "input: p; output: x; operators E: p 1 left x; mechanism m: f; rules M: ^E @~f; end" 5 1
    ∷ at "input: p; output: x; operators E: p 1 left x; type t: v; rules M: ^E @~N; N >> t: >> v; end" 5 1
    ∷ at "input: p; output: x; operators E: p 1 left x; rules M: @~E; end" 5 1
    ∷ at "input: p; output: x; operators E: p 1 left x; rules M: ~E; end" 5 1
    ∷ at "input: p; output: x; operators E: p 1 left x; mechanism m: f(~E); rules M: ; end" 5 1
    ∷ at "input: p; output: x; operators E: p 1 left x; type t: v; rules M: ; N >> t: ^E @M ~; end" 8 1
    ∷ fine "input: E p; output: E; error: E; operators E: E 1 left E; type E: E; mechanism m: f; rules M: ; E: ; end" (9 ∷ 9 ∷ [])
    ∷ []

pub faults-agree : T (all_agree faults)
unfolding understanding is_checked agrees all_agree mark_at unmarked faults
faults-agree = tt

-- "9 .. after all of 3 to 8, at the `^` whose rules pass a limit": 128 rules with those made; 64 labels a choice, where the section is used

-- empty rules, one for each pair of letters
pub rules_for : List ℕ → List ℕ → List ℕ
rules_for [] all = []
rules_for (a ∷ as') all = row all ++ rules_for as' all
  where
    row : List ℕ → List ℕ
    row [] = []
    row (b ∷ bs) = a ∷ b ∷ (bytes ":;" ++ row bs)

-- operators of one level, one for each pair of letters
pub entries_for : List ℕ → List ℕ → String → List ℕ
entries_for [] all tail = []
entries_for (a ∷ as') all tail = row all ++ entries_for as' all tail
  where
    row : List ℕ → List ℕ
    row [] = []
    row (b ∷ bs) = a ∷ b ∷ (bytes tail ++ row bs)

-- 9 times 14 rules, and M: 127
pub most : List ℕ
most = rules_for (bytes "ABCDEFGHI") (bytes "ABCDEFGHIJKLNO")

pub many_rules : List Line
many_rules =
    at_of (bytes "input: p q; output: x; operators E: p 1 left x; rules M: ^E @M ~^E @AA; " ++ (most ++ bytes "end")) 9 1
    ∷ at_of (bytes "input: p q; output: x; operators E: p 1 left x q 2 left x; rules M: ~^E @M ^E @AA; " ++ (most ++ bytes "end")) 9 1
    ∷ at_of (bytes "input: p q; output: x; operators E: p 1 left x; rules M: ^E @M ^E @AA ~> ; " ++ (most ++ bytes "end")) 7 1
    ∷ []

-- 5 times 13 operators
pub many_labels : String → List ℕ
many_labels rules =
    bytes "input: " ++ (entries_for (bytes "ABCDE") (bytes "ABCDEFGHIJKLM") " " ++ (bytes "; output: x; operators E: " ++ (entries_for (bytes "ABCDE") (bytes "ABCDEFGHIJKLM") " 5 left x " ++ (bytes "; rules " ++ bytes rules))))

pub crowds : List Line
crowds =
    at_of (many_labels "M: AA ~^E @M ^E @M; end") 9 1
    ∷ fine_of (many_labels "M: ; end") (9 ∷ [])
    ∷ []

-- 13 types of 38 values: 507 names before the rest
pub types_for : List ℕ → List ℕ
types_for [] = []
types_for (a ∷ as') = bytes "type T" ++ (a ∷ (bytes ": " ++ (entries_for (bytes "AB") (bytes "ABCDEFGHIJKLMNOPQRS") " " ++ (bytes "; " ++ types_for as'))))

pub many_names : String → List ℕ
many_names rest = types_for (bytes "ABCDEFGHIJKLM") ++ bytes rest

-- a rule made is the 512th name, or the 513th
pub named : List Line
named =
    fine_of (many_names "input: p; output: x; operators E: p 1 left x; rules M: ^E @M; end")
    (8 ∷ 4 ∷ 9 ∷ 8 ∷ 1 ∷ 7 ∷ 7 ∷ 8 ∷ 1 ∷ 5 ∷ 0 ∷ 1 ∷ 6 ∷ 1 ∷ 0 ∷ 8 ∷ 1 ∷ 3 ∷ 2 ∷ 14 ∷ 9 ∷ [])
    ∷ at_of (many_names "input: p; output: x y; operators E: p 1 left x; rules M: ~^E @M; end") 9 1
    ∷ at_of (many_names "input output: p; operators E: p 1 left p; rules M: ^E @M ~^E @N ^E @M; N: ; end") 9 1
    ∷ []

pub many-names : T (all_agree named)
unfolding understanding is_checked agrees all_agree mark_at unmarked entries_for types_for many_names named
many-names = tt

pub many-rules : T (all_agree many_rules)
unfolding understanding is_checked agrees all_agree mark_at unmarked rules_for most many_rules
many-rules = tt

pub many-labels : T (all_agree crowds)
unfolding understanding is_checked agrees all_agree mark_at unmarked entries_for many_labels crowds
many-labels = tt
