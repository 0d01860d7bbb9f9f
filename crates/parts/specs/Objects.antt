-- A part "translated by itself with the common part, calls to rules elsewhere left open": its rules, in which a call is a number, and what each
-- number stands for.
use Rattle.std.specs.Prelude.{false, ◌&&◌, List, [], ◌∷◌, ◌++◌, ℕ, zero, suc, ◌-◌, length, if◌then◌else◌}
use Rattle.std.proofs.Math.Option.{Option, none, some}
use Rattle.base.specs.Common.{given}
use Rattle.base.specs.Tree.{plain, cycle, choice, done, ◌▸◌, nil, alternative, absent, otherwise}
use Rattle.names.specs.Declare.{declare_sections}
use Rattle.names.specs.Known.{Checked, good, wrong, ◌>>=◌, fault_if, KnownOperators, KnownRule, Names, lookup_type, optional_type}
use Rattle.names.specs.Resolve.{acts_of}
use Rattle.names.specs.Understand.{nobody, is_one, taken}
use Rattle.names.specs.Uses.{Use, rules_uses, pairs_of}
use Rattle.processor.specs.Process.{Part, part_of}
use Rattle.program.specs.Made.{Level}
use Rattle.program.specs.Past.{past_all}
use Rattle.program.specs.Program as means
use Rattle.syntax.specs.Parse.{end_of}
use Rattle.syntax.specs.Reading.{Read, got, fault}
use Rattle.syntax.specs.Texts.{Head, Common, too_long, read_common, read_part}
use Rattle.syntax.specs.Written as written
use Rattle.syntax.specs.Written.{Program}
use Rattle.words.specs.Words.{Word}

-- The words after `@`, in text order

unfoldable pub call_of : written.Plain → List Word
call_of (written.named w c) = []
call_of (written.any w) = []
call_of (written.exit w) = []
call_of (written.emit w) = []
call_of (written.error w) = []
call_of (written.call w) = w ∷ []
call_of (written.give w v) = []
call_of (written.ranked s w o) = o ∷ []

unfoldable pub selects : written.Selector → List Word
selects written.by_token = []
selects (written.by_rule w) = w ∷ []
selects (written.by_operation w c) = []

unfoldable mutual
  pub calls : written.Act → List Word
  calls (plain p) = call_of p
  calls (cycle b) = calls_all b
  calls (choice s q o) = selects s ++ (calls_some q ++ calls_other o)

  pub calls_all : written.Acts → List Word
  calls_all done = []
  calls_all (a ▸ q) = calls a ++ calls_all q

  pub calls_some : written.Alts → List Word
  calls_some nil = []
  calls_some (alternative ls b q) = calls_all b ++ calls_some q

  pub calls_other : written.Other → List Word
  calls_other absent = []
  calls_other (otherwise b) = calls_all b

unfoldable pub calls_in : List written.Rule → List Word
calls_in [] = []
calls_in (r ∷ rs) = calls_all r.body ++ calls_in rs

-- the names of the rules and of those that they call, in text order
unfoldable pub mentions : List written.Rule → List Word
mentions [] = []
mentions (r ∷ rs) = r.rule ∷ (calls_all r.body ++ mentions rs)

-- The numbers of a part's calls

-- what a number stands for: the rule of a name, or the rules of a pair of section and operand rule
pub data Aim : Type 0 where
  named : List ℕ → Aim
  ranked : Use → Aim

unfoldable pub head_aims : List Head → List Aim
head_aims [] = []
head_aims (h ∷ hs) = named h.rule.text ∷ head_aims hs

unfoldable pub use_aims : List Use → List Aim
use_aims [] = []
use_aims (u ∷ us) = ranked u ∷ use_aims us

unfoldable pub call_aims : List Word → List Aim
call_aims [] = []
call_aims (w ∷ ws) = named w.text ∷ call_aims ws

-- the first word of each name that is not yet seen
unfoldable pub fresh : List (List ℕ) → List Word → List Word
fresh seen [] = []
fresh seen (w ∷ ws) =
    let again = fresh seen ws in
    let first = w ∷ fresh (w.text ∷ seen) ws in
    if is_one w.text seen then again else first

unfoldable pub names_of : List Head → List (List ℕ)
names_of [] = []
names_of (h ∷ hs) = h.rule.text ∷ names_of hs

-- every other rule that a part names, its own or a rule elsewhere: the first word of each name that is not on the list
unfoldable pub others : List Head → List written.Rule → List Word
others hs rs = fresh (names_of hs) (mentions rs)

-- numbered from 0: the names of the list, the other names, the part's pairs
unfoldable pub aims_of : List Head → List written.Rule → List Aim
aims_of hs rs = head_aims hs ++ (call_aims (others hs rs) ++ use_aims (pairs_of rs))

-- "calls go by this list": a name of the list is a choice rule of that type, any other a procedure rule, here or elsewhere
unfoldable pub by_list : ℕ → List Head → List KnownRule
by_list i [] = []
by_list i (h ∷ hs) = record { named = h.rule.text; place = i; gives = some h.gives.text } ∷ by_list (suc i) hs

unfoldable pub by_calls : ℕ → List Word → List KnownRule
by_calls i [] = []
by_calls i (w ∷ ws) = record { named = w.text; place = i; gives = none } ∷ by_calls (suc i) ws

unfoldable pub open_rules : List Head → List written.Rule → List KnownRule
open_rules hs rs = by_list 0 hs ++ by_calls (length hs) (others hs rs)

-- the rules of a pair are made in linking: in a part they are one open call
unfoldable pub one_each : List KnownOperators → List KnownOperators
one_each [] = []
one_each (k ∷ ks) =
    let open₁ : Level = record { right = false; operators = [] } in
    record { named = k.named; levels = open₁ ∷ [] } ∷ one_each ks

unfoldable pub open_names : Names → Names
open_names n = record { inputs = n.inputs; outputs = n.outputs; errors = n.errors; types = n.types; operations = n.operations; operators = one_each n.operators }

-- Objects

pub record OpenRule : Type 0 where
  pub name : Word
  pub gives : Option Word
  pub calls : List Word  -- where it calls, in text order
  pub means : means.Rule

pub record Object : Type 0 where
  pub rules : List OpenRule
  pub uses : List Use  -- the first use of each of its pairs
  pub aims : List Aim

-- what is declared, as far as the two texts show it: a name of the list is, and so is any other rule that the part names
unfoldable pub as_rules : List Head → List written.Rule
as_rules [] = []
as_rules (h ∷ hs) = record { rule = h.rule; gives = some h.gives; body = done; closing = h.rule } ∷ as_rules hs

unfoldable pub called_rules : List Word → List written.Rule
called_rules [] = []
called_rules (w ∷ ws) = record { rule = w; gives = none; body = done; closing = w } ∷ called_rules ws

-- the uses of operators of a part, all in the first of these rules: "the order of first use" is the part's own
unfoldable pub as_acts : List Use → written.Acts
as_acts [] = done
as_acts (u ∷ us) = plain (written.ranked u.sign u.section u.operand) ▸ as_acts us

unfoldable pub used_in : List Use → List written.Rule → List written.Rule
used_in us [] = []
used_in us (r ∷ rs) = record { rule = r.rule; gives = r.gives; body = as_acts us; closing = r.closing } ∷ rs

-- the program in which a part is resolved: as many rules as names, and the part's uses
unfoldable pub together : Common → List written.Rule → Program
together c rs = record { sections = c.sections; rules = used_in (rules_uses rs) (as_rules c.listed ++ called_rules (others c.listed rs)) }

-- the list: a name once, and no operation's; its type declared
unfoldable pub list_means : Program → Names → List (List ℕ) → List Head → Checked (Unit {0})
list_means p n seen [] = good tt
list_means p n seen (h ∷ hs) = do
  _ ← fault_if (taken h.rule n seen) 4 h.rule
  _ ← lookup_type p n.types h.gives
  list_means p n (h.rule.text ∷ seen) hs

-- a rule of a part: as in the base, but "the first rule may have a type"
unfoldable pub open_rule : Program → Names → List KnownRule → List (List ℕ) → written.Rule → Checked OpenRule
open_rule p n rules seen r = do
  _ ← fault_if (taken r.rule n seen) 4 r.rule
  g ← optional_type p n.types r.gives
  b ← acts_of p (open_names n) rules r.body (record { inside = false; gives = g })
  _ ← fault_if (given g && past_all b) 8 r.closing
  good (record { name = r.rule; gives = r.gives; calls = calls_all r.body; means = record { valued = given g; body = b } })

unfoldable pub open_all : Program → Names → List KnownRule → List (List ℕ) → List written.Rule → Checked (List OpenRule)
open_all p n rules seen [] = good []
open_all p n rules seen (r ∷ rs) = do
  first ← open_rule p n rules seen r
  rest ← open_all p n rules (r.rule.text ∷ seen) rs
  good (first ∷ rest)

-- Translating: a fault is in the common part or in the further one, whose words come after those of the common part

pub data Translated : Type 0 where
  object : Object → Translated
  in_common in_part : ℕ → Part → Translated

unfoldable pub of_common : {A : Type 0} → Checked A → (A → Translated) → Translated
of_common (good a) f = f a
of_common (wrong n w) f = in_common n (part_of w)

unfoldable pub of_part : {A : Type 0} → Checked A → (A → Translated) → Translated
of_part (good a) f = f a
of_part (wrong n w) f = in_part n (part_of w)

-- the names of the common part beside these rules: its sections, then its list
unfoldable pub common_means : Common → List written.Rule → Checked Names
common_means c rs = do
  n ← declare_sections (together c rs) c.sections nobody
  _ ← list_means (together c rs) n [] c.listed
  good n

unfoldable pub meaning : Common → List written.Rule → Translated
meaning c rs =
    of_common (common_means c rs) (λ n.
    of_part (open_all (together c rs) n (open_rules c.listed rs) [] rs) (λ os.
    object (record { rules = os; uses = pairs_of rs; aims = aims_of c.listed rs })))

-- "512 names of entries, types and rules": the first word past so many
unfoldable pub past_names : ℕ → List Word → Option Word
past_names left [] = none
past_names zero (w ∷ ws) = some w
past_names (suc left) (w ∷ ws) = past_names left ws

unfoldable pub unless_past : Option Word → Translated → Translated
unless_past none t = t
unless_past (some w) t = in_part 9 (part_of w)

-- the list's names and the others beside those of the sections
unfoldable pub read_on : Common → Read (List written.Rule) → Translated
read_on c (got rs ws) = unless_past (past_names (c.left - length c.listed) (others c.listed rs)) (meaning c rs)
read_on c (fault n w) = in_part n (part_of w)

unfoldable pub read_both : Read Common → List ℕ → Translated
read_both (got c ws) part = read_on c (read_part c.left part)
read_both (fault n w) part = in_common n (part_of w)

-- "Text over 32,768 bytes is 9 before all else"; then 1, 2, 9, then 3 to 8, the words of the common part before those of the further one
unfoldable pub translate : List ℕ → List ℕ → Translated
translate common part =
    if too_long common then in_common 9 (part_of (end_of common))
    else if too_long part then in_part 9 (part_of (end_of part))
    else read_both (read_common common) part

-- all of this file computes where this is unfolded
unfoldable pub opened : Unit {0}
unfolding call_of selects calls calls_in mentions head_aims use_aims call_aims fresh names_of others aims_of by_list by_calls open_rules one_each open_names as_rules called_rules as_acts used_in together list_means open_rule open_all of_common of_part common_means meaning past_names unless_past read_on read_both translate
opened = tt
