-- The trees that texts are read as: values and instruction numbers, and the rules written out again in one spelling.
use mathlib.Core.Bool.{Bool, true, false, ◌&&◌}
use mathlib.Core.List.{List, [], ◌∷◌, ◌++◌}
use mathlib.Core.Option.{Option, none, some}
use Prim.Native.Nat.{ℕ}
use Prim.Native.String.{String}
use lib.Dec.{T}
use Rattle.std.specs.Prelude.{if◌then◌else◌}
use Rattle.base.specs.Common.{bytes, same}
use Rattle.base.specs.Tree.{plain, cycle, choice, done, ◌▸◌, nil, alternative, absent, otherwise}
use Rattle.syntax.proofs.Facts.{reading}
use Rattle.syntax.specs.Parse.{parse}
use Rattle.syntax.specs.Reading.{Read, got, fault}
use Rattle.syntax.specs.Written.{Constant, Plain, named, any, exit, emit, error, call, give, ranked, Selector, by_token, by_rule, by_operation, Act, Acts, Alts, Other, Entry, Operation, Operator, Section, inputs, outputs, both, errors, values, operations, operators, Rule, Program}
use Rattle.words.specs.Words.{Word}

unfoldable pub sections_of : Read Program → List Section
sections_of (got p ws) = p.sections
sections_of (fault n w) = []

pub rules_of : Read Program → List Rule
rules_of (got p ws) = p.rules
rules_of (fault n w) = []

-- Values and instruction numbers

unfoldable pub values_of : List Entry → List ℕ
values_of [] = []
values_of (e ∷ es) = e.value ∷ values_of es

unfoldable pub instructions_of : List Operation → List ℕ
instructions_of [] = []
instructions_of (o ∷ os) = o.instruction ∷ instructions_of os

-- an operator's level, and 1 for right
unfoldable pub rankings_of : List Operator → List ℕ
rankings_of [] = []
rankings_of (o ∷ os) = o.level ∷ (if o.right then 1 else 0) ∷ rankings_of os

unfoldable pub counts_in : Section → List ℕ
counts_in (inputs es) = values_of es
counts_in (outputs es) = values_of es
counts_in (both es) = values_of es
counts_in (errors es) = values_of es
counts_in (values w es) = values_of es
counts_in (operations os) = instructions_of os
counts_in (operators w os) = rankings_of os

unfoldable pub counts : List Section → List (List ℕ) → Bool
counts [] [] = true
counts [] (x ∷ xs) = false
counts (s ∷ ss) [] = false
counts (s ∷ ss) (x ∷ xs) = same (counts_in s) x && counts ss xs

-- a text and the numbers of each of its sections
pub record Counted : Type 0 where
  pub text : String
  pub numbers : List (List ℕ)

abbrev pub counted : String → List (List ℕ) → Counted
counted t ns = record { text = t; numbers = ns }

unfoldable pub all_count : List Counted → Bool
all_count [] = true
all_count (c ∷ cs) = counts (sections_of (parse (bytes c.text))) c.numbers && all_count cs

-- "types count from 0; a token or error section begins one above the greatest number so far in any class it feeds, or at 0. `= number`
-- sets a value and counting goes on from it."; "updates from 256, updates with a parameter from 512, choice operations from 768, with a
-- parameter from 1,024", over all mechanisms
pub countings : List Counted
countings =
    counted
    "input: a b = 5 c; output: x; input: d; input output: y z = 2 w; output: v; error: e = 3 f g = 1 h; error: i; type t: p q = 4 r; type u: s; input: k; rules M: ; end"
    ((0 ∷ 5 ∷ 6 ∷ []) ∷ (0 ∷ []) ∷ (7 ∷ []) ∷ (8 ∷ 2 ∷ 3 ∷ []) ∷ (9 ∷ []) ∷ (3 ∷ 4 ∷ 1 ∷ 2 ∷ []) ∷ (5 ∷ []) ∷ (0 ∷ 4 ∷ 5 ∷ []) ∷ (0 ∷ []) ∷ (9 ∷ []) ∷ [])
    ∷ counted "input: a 'x' b 'y' = 9 c 'z' d = 007 e; rules M: ; end" ((0 ∷ 9 ∷ 10 ∷ 7 ∷ 8 ∷ []) ∷ [])
    ∷ counted "input: a = 65535 b = 0 c; output: d; rules M: ; end" ((65535 ∷ 0 ∷ 1 ∷ []) ∷ (0 ∷ []) ∷ [])
    ∷ counted "output: a = 4; input output: b; input: c; output: d; rules M: ; end" ((4 ∷ []) ∷ (5 ∷ []) ∷ (6 ∷ []) ∷ (6 ∷ []) ∷ [])
    ∷ counted "input: a = 4; input output: b; output: c; error: e; rules M: ; end" ((4 ∷ []) ∷ (5 ∷ []) ∷ (6 ∷ []) ∷ (0 ∷ []) ∷ [])
    ∷ counted "input: a = 9 b = 2; input: c; rules M: ; end" ((9 ∷ 2 ∷ []) ∷ (10 ∷ []) ∷ [])
    ∷ counted "type t: v; mechanism m: a b(t) c >> t d(t) >> t e f(t); mechanism m: g h >> t i(t) >> t j(t); rules M: ; end"
    ((0 ∷ []) ∷ (256 ∷ 512 ∷ 768 ∷ 1024 ∷ 257 ∷ 513 ∷ []) ∷ (258 ∷ 769 ∷ 1025 ∷ 514 ∷ []) ∷ [])
    ∷ []

pub all-counted : T (all_count countings)
unfolding reading sections_of values_of instructions_of rankings_of counts_in counts all_count countings
all-counted = tt

-- Rules

pub constant_text : Option Constant → List ℕ
constant_text none = []
constant_text (some c) = c.paren.text ++ (c.constant.text ++ bytes ")")

-- a value after `>>`, or `-`
pub given_text : Option Word → List ℕ
given_text none = bytes "-"
given_text (some v) = v.text

pub plain_text : Plain → List ℕ
plain_text (named w c) = w.text ++ constant_text c
plain_text (any w) = w.text
plain_text (exit w) = w.text
plain_text (emit w) = bytes "." ++ w.text
plain_text (error w) = bytes "#" ++ w.text
plain_text (call w) = bytes "@" ++ w.text
plain_text (give w v) = w.text ++ given_text v
plain_text (ranked s w r) = s.text ++ (w.text ++ (bytes "@" ++ r.text))

pub selector_text : Selector → List ℕ
selector_text by_token = []
selector_text (by_rule w) = bytes "@" ++ w.text
selector_text (by_operation w c) = w.text ++ constant_text c

pub labels_text : List Word → List ℕ
labels_text [] = bytes ":"
labels_text (w ∷ ws) = bytes "," ++ (w.text ++ labels_text ws)

-- the actions, each with a space after it
mutual
  pub act_text : Act → List ℕ
  act_text (plain p) = plain_text p ++ bytes " "
  act_text (cycle b) = bytes "{" ++ (acts_text b ++ bytes "}")
  act_text (choice s q o) = bytes "[" ++ (selector_text s ++ (alts_text q ++ (other_text o ++ bytes "]")))

  pub acts_text : Acts → List ℕ
  acts_text done = []
  acts_text (a ▸ q) = act_text a ++ acts_text q

  pub alts_text : Alts → List ℕ
  alts_text nil = []
  alts_text (alternative ls b q) = bytes "|" ++ (labels_text ls ++ (acts_text b ++ alts_text q))

  pub other_text : Other → List ℕ
  other_text absent = []
  other_text (otherwise b) = bytes "|*" ++ acts_text b

pub head_text : Option Word → List ℕ
head_text none = []
head_text (some t) = bytes ">>" ++ t.text

pub rules_text : List Rule → List ℕ
rules_text [] = []
rules_text (r ∷ rs) = r.rule.text ++ (head_text r.gives ++ (bytes ":" ++ (acts_text r.body ++ (r.closing.text ++ rules_text rs))))

-- a text and its rules in one spelling
pub record Spelt : Type 0 where
  pub text : String
  pub again : String

abbrev pub spelt : String → String → Spelt
spelt t a = record { text = t; again = a }

pub all_spell : List Spelt → Bool
all_spell [] = true
all_spell (x ∷ xs) = same (rules_text (rules_of (parse (bytes x.text)))) (bytes x.again) && all_spell xs

pub spellings : List Spelt
spellings =
    spelt "rules M: ; end" "M:;"
    ∷ spelt "rules M: a ? 'x' . b # 'e' @ N op(v) op ( 'v' ) > >>; end" "M:a ? 'x' .b #'e' @N op(v) op('v') > >>- ;"
    ∷ spelt "rules M: >> a b; N >> t: >> 'x' ? >>; end" "M:>>a b ;N>>t:>>'x' ? >>- ;"
    ∷ spelt "rules M: { >>> }; end" "M:{>>- > };"
    ∷ spelt "rules M: { } { ? { > } }; end" "M:{}{? {> }};"
    ∷ spelt "rules M: do if ! a , 'x' : ? ! b : fi od a; end" "M:{[|,a,'x':? |,b:]}a ;"
    ∷ spelt "rules M: [ | *: ] [ | a: | *: b ] [ | a: [ | b: ] c ]; end" "M:[|*][|,a:|*b ][|,a:[|,b:]c ];"
    ∷ spelt "rules M: [@R | a: ] [ op | a: ] [ op(v) | a: > ] [ op('v') | a: ? | *: {}]; end" "M:[@R|,a:][op|,a:][op(v)|,a:> ][op('v')|,a:? |*{}];"
    ∷ spelt "rules M: a % b ;\n c % ; end\n; N: ; end" "M:a c ;N:;"
    ∷ []

pub all-spelt : T (all_spell spellings)
unfolding reading rules_of constant_text given_text plain_text selector_text labels_text act_text head_text rules_text all_spell spellings
all-spelt = tt
