-- Carrying a walk to new rules: "A walk is carried between accepted programs to the new table where the rule it is in, and every rule on
-- its return stack, has the same words as before, calls being compared by the called rule's name."
use Rattle.std.specs.Prelude.{Bool, true, false, ◌&&◌, List, [], ◌∷◌, ◌++◌, ℕ, zero, suc, ◌+◌, ◌-◌, eqb, ltb, length, get_or, if◌then◌else◌}
use Rattle.std.proofs.Math.Option.{Option, none, some}
use Rattle.base.specs.Common.{same}
use Rattle.machine.specs.Walk.{Walk, moved, with_returns}
use Rattle.names.specs.Declare.{declare_sections}
use Rattle.names.specs.Known.{Checked, good, wrong, Names}
use Rattle.names.specs.Understand.{nobody, understand}
use Rattle.names.specs.Uses.{Use, pairs_of, levels_used}
use Rattle.program.specs.Made.{Operator, Level}
use Rattle.program.specs.Program.{Rule, rule_of}
use Rattle.program.specs.Table.{codes, end_words, size_rule, place}
use Rattle.syntax.specs.Parse.{parse}
use Rattle.syntax.specs.Reading.{Read, got, fault}
use Rattle.syntax.specs.Written as syntax
use Rattle.syntax.specs.Written.{Program}
use Rattle.words.specs.Words.{Word, words, rules}

-- Names

-- a rule's name; "A rule made for A.7 is named by its section, operand rule and level."
pub data Name : Type 0 where
  written : List ℕ → Name
  made : List ℕ → List ℕ → ℕ → Name

unfoldable pub same_name : Name → Name → Bool
same_name (written v) (written w) = same v w
same_name (written v) (made s r l) = false
same_name (made s r l) (written w) = false
same_name (made s r l) (made t q m) = same s t && same r q && eqb l m

-- what carrying looks at: the words of the sections, the rules' names, the rules
pub record Source : Type 0 where
  pub sections : List (List ℕ)
  pub names : List Name
  pub rules : List Rule

-- the number of the rule with this name, from r on
unfoldable pub number_of : Name → ℕ → List Name → Option ℕ
number_of w r [] = none
number_of w r (v ∷ vs) = let later = number_of w (suc r) vs in if same_name w v then some r else later

unfoldable pub name_of : List Name → ℕ → Name
name_of names r = get_or names r (written [])

-- Places

-- a rule's number, and so many words after its first
pub record Place : Type 0 where
  pub rule : ℕ
  pub offset : ℕ

-- the word i places after the first of the rules, which are numbered from r
unfoldable pub place_in : ℕ → ℕ → List Rule → Option Place
place_in i r [] = none
place_in i r (b ∷ bs) =
    let later = place_in (i - size_rule b) (suc r) bs in
    if ltb i (size_rule b) then some (record { rule = r; offset = i }) else later

-- "Rules stand in text order from location 1."; "a place in no rule" has none
unfoldable pub place_of : List Rule → ℕ → Option Place
place_of prog zero = none
place_of prog (suc i) = place_in i 0 prog

-- Words, "calls being compared by the called rule's name": in place of its location a call has a number for that name, above all words. A
-- name has the number of its rule in the old program, one that the old program has not a number past those.

unfoldable pub numbered : ℕ → Option ℕ → ℕ
numbered r none = r
numbered r (some i) = i

unfoldable pub mark : List Name → List Name → ℕ → ℕ
mark old names r = 65536 + numbered (length old + r) (number_of (name_of names r) 0 old)

unfoldable pub marked_words : (ℕ → ℕ) → Rule → List ℕ
marked_words to r = codes to r.body 0 ++ end_words r.valued

-- rule r of the old program and rule s of the new one have the same words
unfoldable pub same_words : Source → Source → ℕ → ℕ → Bool
same_words p q r s =
    same (marked_words (mark p.names p.names) (rule_of p.rules r)) (marked_words (mark p.names q.names) (rule_of q.rules s))

-- Carrying

-- the place of the new program's rule s that a place of rule r becomes
unfoldable pub in_rule : Source → Source → Place → Option ℕ → Option ℕ
in_rule p q at none = none
in_rule p q at (some s) = if same_words p q at.rule s then some (place 1 q.rules s + at.offset) else none

unfoldable pub carried_at : Source → Source → Option Place → Option ℕ
carried_at p q none = none
carried_at p q (some at) = in_rule p q at (number_of (name_of p.names at.rule) 0 q.names)

-- the new location of an old one
unfoldable pub carry_place : Source → Source → ℕ → Option ℕ
carry_place p q l = carried_at p q (place_of p.rules l)

unfoldable pub beside : Option ℕ → Option (List ℕ) → Option (List ℕ)
beside none ls = none
beside (some l) none = none
beside (some l) (some ls) = some (l ∷ ls)

unfoldable pub carry_places : Source → Source → List ℕ → Option (List ℕ)
carry_places p q [] = some []
carry_places p q (l ∷ ls) = beside (carry_place p q l) (carry_places p q ls)

-- a carried walk, or a number; "the walk comes back unchanged"
pub data Carried : Type 0 where
  carried : Walk → Carried
  stays : ℕ → Carried

-- "with all else it holds kept"
unfoldable pub put_at : Walk → Option ℕ → Option (List ℕ) → Carried
put_at w none rs = stays 52
put_at w (some l) none = stays 52
put_at w (some l) (some rs) = carried (moved l (with_returns rs w))

unfoldable pub same_all : List (List ℕ) → List (List ℕ) → Bool
same_all [] [] = true
same_all [] (w ∷ ws) = false
same_all (v ∷ vs) [] = false
same_all (v ∷ vs) (w ∷ ws) = let r = same_all vs ws in if same v w then r else false

-- "51 for sections that differ, then 52 for a rule in progress that differs or is gone, or a place in no rule"
unfoldable pub carry : Source → Source → Walk → Carried
carry p q w = if same_all p.sections q.sections then put_at w (carry_place p q w.location) (carry_places p q w.returns) else stays 51

-- Sources of texts

-- "Sections must be equal word for word": the words before `rules`, each by its bytes
unfoldable pub section_words : List Word → List (List ℕ)
section_words [] = []
section_words (w ∷ ws) = let more = w.text ∷ section_words ws in if eqb w.kind rules then [] else more

unfoldable pub written_names : List syntax.Rule → List Name
written_names [] = []
written_names (r ∷ rs) = written r.rule.text ∷ written_names rs

-- the level of a rule made for operators: that of each of its operators
unfoldable pub level_of : List Operator → ℕ
level_of [] = 0
level_of (o ∷ os) = o.level

unfoldable pub level_names : Use → List Level → List Name
level_names u [] = []
level_names u (l ∷ ls) = made u.section.text u.operand.text (level_of l.operators) ∷ level_names u ls

-- "for each pair of section and operand rule in the order of first use, lowest level first"
unfoldable pub made_names : Names → List Use → List Name
made_names n [] = []
made_names n (u ∷ us) = level_names u (levels_used n u) ++ made_names n us

-- the rules as written, then those made
unfoldable pub names_of : Program → Checked Names → List Name
names_of p (good n) = written_names p.rules ++ made_names n (pairs_of p.rules)
names_of p (wrong m w) = []

-- the source of a program that is understood; of any other, nothing
unfoldable pub with_rules : List Word → List Name → Checked (List Rule) → Source
with_rules ws names (good prog) = record { sections = section_words ws; names = names; rules = prog }
with_rules ws names (wrong n w) = record { sections = []; names = []; rules = [] }

unfoldable pub of_read : List Word → Read Program → Source
of_read ws (got p vs) = with_rules ws (names_of p (declare_sections p p.sections nobody)) (understand p)
of_read ws (fault n w) = record { sections = []; names = []; rules = [] }

unfoldable pub source_of : List ℕ → Source
source_of text = of_read (words text) (parse text)

-- all of this file computes where this is unfolded
unfoldable pub opened : Unit {0}
unfolding same_name number_of name_of place_in place_of numbered mark marked_words same_words in_rule carried_at carry_place beside carry_places put_at same_all carry section_words written_names level_of level_names made_names names_of with_rules of_read source_of
opened = tt
