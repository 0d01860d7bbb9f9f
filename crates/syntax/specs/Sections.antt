-- Sections: "A section is a head, a colon, one entry or more, a semicolon." Values and instruction numbers are counted here, since a
-- value past 65,535 and a 257th operation are limits.
--
-- A picture: sections, what is read of them, and what `after` keeps for the next one. The grammar is in what is read (`entries`, `some_operations`,
-- `some_operators`, `a_section`), the counting in `after` and in the values and instruction numbers, the limits where a name is read (`one_name left`),
-- where a value is counted (`a_count`) and where an operation's kind is full (`is_full`).
--
--                                                                                  left  input  output  seen
--                                                                                   512      0       0  []
--     input: a b = 5 c;             inputs, a 0, b 5, c 6                           509      7       0  []
--     output: o;                    outputs, o 0                                    508      7       1  []
--     input output: d;              both, d 7: above the greatest of either         507      8       8  []
--     type T: y n;                  values, T, y 0, n 1                             504      8       8  []
--     mechanism P: f g(T) h>>T;     operations, f 256, g 512, h 768                 501      8       8  [256, 512, 768]
--     operators E: a 1 left o;      operators, E, one operator                      500      8       8  [256, 512, 768]
use Rattle.std.specs.Prelude.{Bool, true, false, ◌&&◌, ◌||◌, List, [], ◌∷◌, ◌++◌, ℕ, zero, suc, ◌+◌, ◌-◌, max, eqb, leb, ltb, length, drop, if◌then◌else◌}
use Rattle.std.proofs.Math.Option.{Option, none, some}
use Prim.Native.Char.{code}
use Rattle.base.specs.Common.{given, bytes, same}
use Rattle.syntax.specs.Reading.{got, fault, Reader, onward, ◌>>=◌, ◌>>◌, pure, peek, pass, refuse, on◌then◌else◌, expect, a_name, one_name, a_number, optional, over, name_or_string}
use Rattle.syntax.specs.Written.{Entry, Operation, Section, inputs, outputs, both, errors, values, operations, Operator, operators}
use Rattle.words.specs.Words.{Word, twice, name, string, input, output, error, type, mechanism, rules, number, value}

-- Entries

-- "an optional string; .. error and type entries have no string"
unfoldable pub a_spelling : Bool → Reader (Option Word)
a_spelling false = pure none
a_spelling true = on string then (do w ← pass; pure (some w)) else pure none

-- the value of the entry named w: "`= number` sets a value and counting goes on from it"; counted past 65,535, the name is at fault
unfoldable pub a_count : Word → ℕ → Reader ℕ
a_count w v = on code "=" then (do pass; a_number) else (λ ws. if ltb 65535 v then fault 9 w else got v ws)

unfoldable pub an_entry : ℕ → Bool → ℕ → Reader Entry
an_entry left strings v = do
  w ← one_name left
  s ← a_spelling strings
  n ← a_count w v
  pure (record { entry = w; spelt = s; value = n })

-- entries to the semicolon, where `left` more names may be declared, counting from v
unfoldable pub entries : ℕ → ℕ → Bool → ℕ → Reader (List Entry)
entries zero left strings v ws = refuse ws
entries (suc k) left strings v ws =
    (do
      e ← an_entry left strings v
      more ← on code ";" then (do pass; pure []) else entries k (left - 1) strings (e.value + 1)
      pure (e ∷ more)) ws

-- Operations

-- "updates from 256, updates with a parameter from 512, choice operations from 768, with a parameter from 1,024"
unfoldable pub first_of : Bool → Bool → ℕ
first_of false false = 256
first_of true false = 512
first_of false true = 768
first_of true true = 1024

-- how many of the instruction numbers are of the kind that begins at b
unfoldable pub of_kind : ℕ → List ℕ → ℕ
of_kind b [] = 0
of_kind b (i ∷ is) = (if leb b i && ltb i (b + 256) then 1 else 0) + of_kind b is

-- the kind of the word that stands i words on
unfoldable pub kind_at : ℕ → List Word → ℕ
kind_at i ws = (peek (drop i ws)).kind

-- where the kind of an operation begins, told by the kinds of the words after its name: it takes a parameter if `( name )` stands there, and is
-- a choice operation if `>>` stands behind that; none where `(` stands without the rest, which leaves the kind open
unfoldable pub kind_ahead : List Word → Option ℕ
kind_ahead ws =
    if eqb (kind_at 0 ws) (code "(") then
    (if eqb (kind_at 1 ws) name && eqb (kind_at 2 ws) (code ")") then some (first_of true (eqb (kind_at 3 ws) twice)) else none)
    else some (first_of false (eqb (kind_at 0 ws) twice))

-- "256 operations a kind": no more may stand
unfoldable pub is_full : Option ℕ → List ℕ → Bool
is_full none seen = false
is_full (some b) seen = leb 256 (of_kind b seen)

unfoldable pub a_parameter : Reader (Option Word)
a_parameter = on code "(" then (do pass; t ← a_name; expect (code ")"); pure (some t)) else pure none

-- the rest of the operation w, and its instruction number
unfoldable pub numbered : Word → List ℕ → Reader Operation
numbered w seen = do
  t ← a_parameter
  g ← optional twice a_name
  let b = first_of (given t) (given g) in pure (record { operation = w; takes = t; gives = g; instruction = b + of_kind b seen })

-- "by the first word in the text": the 257th of its kind is at fault at its name, before the words behind it are judged
unfoldable pub an_operation : ℕ → List ℕ → Reader Operation
an_operation left seen = do
  w ← one_name left
  λ ws. (if is_full (kind_ahead ws) seen then (λ _. fault 9 w) else numbered w seen) ws

-- operations to the semicolon, after those with the instruction numbers `seen`
unfoldable pub some_operations : ℕ → ℕ → List ℕ → Reader (List Operation)
some_operations zero left seen ws = refuse ws
some_operations (suc k) left seen ws =
    (do
      o ← an_operation left seen
      more ← on code ";" then (do pass; pure []) else some_operations k (left - 1) (o.instruction ∷ seen)
      pure (o ∷ more)) ws

-- Operators

-- "`operators`, `left` and `right` stay free as names": the next word is a name, and this one
unfoldable pub spells : List ℕ → List Word → Bool
spells s ws = eqb (peek ws).kind name && same (peek ws).text s

-- "9 for a level outside 1 to 15": the next word, a number
unfoldable pub ranking : Reader ℕ
ranking ws = let n = value 0 (peek ws).text in if eqb n 0 || ltb 15 n then over ws else onward (pass ws) (λ w. pure n)

unfoldable pub a_level : Reader ℕ
a_level = on number then ranking else refuse

unfoldable pub a_side : Reader Bool
a_side ws = (if spells (bytes "left") ws then (do pass; pure false) else if spells (bytes "right") ws then (do pass; pure true) else refuse) ws

-- "lists input token, level 1 to 15, `left` or `right`, and output token"
unfoldable pub an_operator : Reader Operator
an_operator = do
  t ← name_or_string
  l ← a_level
  s ← a_side
  o ← name_or_string
  pure (record { token = t; level = l; right = s; emits = o })

-- operators to the semicolon
unfoldable pub some_operators : ℕ → Reader (List Operator)
some_operators zero ws = refuse ws
some_operators (suc k) ws =
    (do
      o ← an_operator
      more ← on code ";" then (do pass; pure []) else some_operators k
      pure (o ∷ more)) ws

-- Sections

-- what the sections so far leave: names that may still be declared, for each class of tokens and errors "one above the greatest number
-- so far .., or .. 0", the operations' instruction numbers
pub record Sofar : Type 0 where
  pub left : ℕ
  pub input : ℕ
  pub output : ℕ
  pub error : ℕ
  pub seen : List ℕ

-- "512 names of entries, types and rules"
unfoldable pub nothing : Sofar
nothing = record { left = 512; input = 0; output = 0; error = 0; seen = [] }

-- each entry, type, operation and operators section is one of the names
unfoldable pub names_in : Section → ℕ
names_in (inputs es) = length es
names_in (outputs es) = length es
names_in (both es) = length es
names_in (errors es) = length es
names_in (values w es) = 1 + length es
names_in (operations os) = length os
names_in (operators w os) = 1

unfoldable pub names_in_all : List Section → ℕ
names_in_all [] = 0
names_in_all (x ∷ xs) = names_in x + names_in_all xs

unfoldable pub next_of : ℕ → List Entry → ℕ
next_of n [] = n
next_of n (e ∷ es) = next_of (max n (e.value + 1)) es

unfoldable pub instructions : List Operation → List ℕ
instructions [] = []
instructions (o ∷ os) = o.instruction ∷ instructions os

unfoldable pub after : Sofar → Section → Sofar
after s (inputs es) = record { left = s.left - length es; input = next_of s.input es; output = s.output; error = s.error; seen = s.seen }
after s (outputs es) = record { left = s.left - length es; input = s.input; output = next_of s.output es; error = s.error; seen = s.seen }
after s (both es) = record { left = s.left - length es; input = next_of s.input es; output = next_of s.output es; error = s.error; seen = s.seen }
after s (errors es) = record { left = s.left - length es; input = s.input; output = s.output; error = next_of s.error es; seen = s.seen }
after s (values w es) = record { left = s.left - suc (length es); input = s.input; output = s.output; error = s.error; seen = s.seen }
after s (operations os) = record { left = s.left - length os; input = s.input; output = s.output; error = s.error; seen = instructions os ++ s.seen }
after s (operators w os) = record { left = s.left - 1; input = s.input; output = s.output; error = s.error; seen = s.seen }

-- "a token or error section begins one above the greatest number so far in any class it feeds, or at 0"
unfoldable pub token_section : ℕ → Sofar → Reader Section
token_section k s =
    on output then (do pass; expect (code ":"); es ← entries k s.left true (max s.input s.output); pure (both es))
    else (do expect (code ":"); es ← entries k s.left true s.input; pure (inputs es))

-- a section of operators, after its `operators`: "only section names are declared, .. within the 512"
unfoldable pub operator_section : ℕ → Sofar → Reader Section
operator_section k s = do w ← one_name s.left; expect (code ":"); os ← some_operators k; pure (operators w os)

unfoldable pub mechanism_section : ℕ → Sofar → Reader Section
mechanism_section k s = do expect mechanism; a_name; expect (code ":"); os ← some_operations k s.left s.seen; pure (operations os)

-- where a head is due the name `operators` is one
unfoldable pub other_section : ℕ → Sofar → Reader Section
other_section k s ws = (if spells (bytes "operators") ws then (do pass; operator_section k s) else mechanism_section k s) ws

-- "types count from 0"; "Mechanism names declare nothing and may repeat."
unfoldable pub a_section : ℕ → Sofar → Reader Section
a_section k s =
    on input then (do pass; token_section k s)
    else on output then (do pass; expect (code ":"); es ← entries k s.left true s.output; pure (outputs es))
    else on error then (do pass; expect (code ":"); es ← entries k s.left false s.error; pure (errors es))
    else on type then (do pass; w ← one_name s.left; expect (code ":"); es ← entries k (s.left - 1) false 0; pure (values w es))
    else other_section k s

-- the sections, and how many names they leave for the rules
pub record Sections : Type 0 where
  pub sections : List Section
  pub left : ℕ

-- sections up to the word `rules`
unfoldable pub some_sections : ℕ → Sofar → Reader Sections
some_sections zero s ws = refuse ws
some_sections (suc k) s ws =
    (on rules then pure (record { sections = []; left = s.left })
    else do
      x ← a_section k s
      more ← some_sections k (after s x)
      pure (record { sections = x ∷ more.sections; left = more.left })) ws

-- all of this file computes where this is unfolded
unfoldable pub opened : Unit {0}
unfolding a_spelling a_count an_entry entries first_of of_kind kind_at kind_ahead is_full a_parameter numbered an_operation some_operations spells ranking a_level a_side an_operator some_operators nothing names_in names_in_all next_of instructions after token_section operator_section mechanism_section other_section a_section some_sections
opened = tt
