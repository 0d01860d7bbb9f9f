-- Linking: "Linking parts of one common part in order gives the very words of translating their rules as one text, and the verdict of the
-- whole." Checks: 9, 5, 49, 50, then 9 or 20 for the whole.
use Rattle.std.specs.Prelude.{Bool, true, false, ◌||◌, not, List, [], ◌∷◌, ◌++◌, ℕ, zero, suc, ◌+◌, ◌-◌, min, eqb, ltb, length, get_or, if◌then◌else◌}
use Rattle.std.proofs.Math.Option.{Option, none, some}
use Rattle.base.specs.Common.{same, given}
use Rattle.calls.specs.Renumber.{renumber_rule}
use Rattle.figure.specs.Told.{Told, told_if}
use Rattle.names.specs.Known.{Checked, good, wrong, KnownRule, Names, find_rule}
use Rattle.names.specs.Uses.{Use, is_used, firsts, levels_used, lowest_of, made_for}
use Rattle.processor.specs.Process as one
use Rattle.processor.specs.Process.{Part, part_of, Answer, accepted, answer_for}
use Rattle.program.specs.Made.{Level, crowded}
use Rattle.program.specs.Program.{Rule}
use Rattle.syntax.specs.Parse.{end_of}
use Rattle.syntax.specs.Reading.{Read, got, fault}
use Rattle.syntax.specs.Sections.{names_in_all}
use Rattle.syntax.specs.Texts.{Head, Common, read_common}
use Rattle.words.specs.Words.{Word}
use Rattle.parts.specs.Objects.{Aim, named, ranked, OpenRule, Object, Translated, object, in_common, in_part, common_means, translate}

-- what linking answers: the table, the verdict and the figure; or a number, the text that shows it (0 the common part, then the parts from 1)
-- and the part of that text
pub data Linked : Type 0 where
  linked : List ℕ → Bool → Told → Linked
  refused : ℕ → ℕ → Part → Linked

-- Finding

-- a fault's word and the text that it stands in
pub record Found : Type 0 where
  pub text : ℕ
  pub word : Word

-- the first fault of the left, else that of the right
unfoldable pub or◌else◌ : Option Found → Option Found → Option Found
or none else b = b
or (some f) else b = some f

infixr 10 or◌else◌
unfoldable pub found_if : Bool → ℕ → Word → Option Found
found_if true i w = some (record { text = i; word = w })
found_if false i w = none

-- all rules in order, and whether one has the name
unfoldable pub rules_of : List Object → List OpenRule
rules_of [] = []
rules_of (o ∷ os) = o.rules ++ rules_of os

unfoldable pub is_named : List ℕ → List OpenRule → Bool
is_named w [] = false
is_named w (r ∷ rs) = same w r.name.text || is_named w rs

-- "then 5 for that type": "the first rule may have a type except in the part linked first"
unfoldable pub first_typed : List OpenRule → Option Found
first_typed [] = none
first_typed (r ∷ rs) = found_if (given r.gives) 1 r.name

-- "then 49 for a called rule in no part or a rule of another sort or type than the common part says"

-- the type that the list gives a name
unfoldable pub listed_type : List ℕ → List Head → Option (List ℕ)
listed_type w [] = none
listed_type w (h ∷ hs) = let later = listed_type w hs in if same w h.rule.text then some h.gives.text else later

unfoldable pub agrees : Option Word → Option (List ℕ) → Bool
agrees none none = true
agrees none (some t) = false
agrees (some w) none = false
agrees (some w) (some t) = same w.text t

module _ (listed : List Head) (all : List OpenRule) where
  unfoldable pub open_call : ℕ → List Word → Option Found
  open_call i [] = none
  open_call i (w ∷ ws) = or found_if (not (is_named w.text all)) i w else open_call i ws

  unfoldable pub unlike : ℕ → List OpenRule → Option Found
  unlike i [] = none
  unlike i (r ∷ rs) =
      or found_if (not (agrees r.gives (listed_type r.name.text listed))) i r.name
      else or open_call i r.calls
      else unlike i rs

  unfoldable pub unlike_in : ℕ → List Object → Option Found
  unlike_in i [] = none
  unlike_in i (o ∷ os) = or unlike i o.rules else unlike_in (suc i) os

-- "then 50 for a rule name in two parts": a rule's name that a part before has
unfoldable pub twice : List OpenRule → ℕ → List OpenRule → Option Found
twice before i [] = none
twice before i (r ∷ rs) = or found_if (is_named r.name.text before) i r.name else twice before i rs

unfoldable pub twice_in : List OpenRule → ℕ → List Object → Option Found
twice_in before i [] = none
twice_in before i (o ∷ os) = or twice before i o.rules else twice_in (before ++ o.rules) (suc i) os

-- "then 9 .. for the whole": the name of the first rule past the limit
unfoldable pub past_limit : ℕ → ℕ → List OpenRule → Option Found
past_limit left i [] = none
past_limit zero i (r ∷ rs) = some (record { text = i; word = r.name })
past_limit (suc left) i (r ∷ rs) = past_limit left i rs

unfoldable pub past_limit_in : ℕ → ℕ → List Object → Option Found
past_limit_in left i [] = none
past_limit_in left i (o ∷ os) = or past_limit left i o.rules else past_limit_in (left - length o.rules) (suc i) os

-- Operators: "as if written after the last rule, for each pair of section and operand rule in the order of first use", over the parts in order

unfoldable pub uses_of : List Object → List Use
uses_of [] = []
uses_of (o ∷ os) = o.uses ++ uses_of os

unfoldable pub pairs_in : List Object → List Use
pairs_in os = firsts [] (uses_of os)

-- the text with the first use of a pair
unfoldable pub text_using : Use → ℕ → List Object → ℕ
text_using u i [] = i
text_using u i (o ∷ os) = let later = text_using u (suc i) os in if is_used u o.uses then i else later

-- the rules of these levels pass a limit, beside so many other names and behind so many rules
unfoldable pub passes : ℕ → ℕ → List Level → Bool
passes others own ls = ltb 128 (own + length ls) || ltb 512 (others + (own + length ls)) || crowded ls

-- "[9] at the `^` whose rules pass a limit"
unfoldable pub past_made : Names → ℕ → ℕ → List Object → List Use → Option Found
past_made n others own os [] = none
past_made n others own os (u ∷ us) =
    or found_if (passes others own (levels_used n u)) (text_using u 1 os) u.sign
    else past_made n others (own + length (levels_used n u)) os us

-- The rules linked

unfoldable pub text_of : Option Word → Option (List ℕ)
text_of none = none
text_of (some w) = some w.text

unfoldable pub known_of : ℕ → List OpenRule → List KnownRule
known_of i [] = []
known_of i (r ∷ rs) = record { named = r.name.text; place = i; gives = text_of r.gives } ∷ known_of (suc i) rs

-- the rule that a call's number stands for: that of its name, or the lowest of its pair, those made standing behind `own` rules
unfoldable pub place_for : Names → List KnownRule → ℕ → List Use → Aim → ℕ
place_for n known own us (named w) = elim (find_rule w known) [ some k ↦ k.place | none ↦ 0 ]
place_for n known own us (ranked u) = lowest_of n u own us

unfoldable pub closing : Names → List KnownRule → ℕ → List Use → List Aim → ℕ → ℕ
closing n known own us aims i = place_for n known own us (get_or aims i (named []))

unfoldable pub closed : (ℕ → ℕ) → List OpenRule → List Rule
closed to [] = []
closed to (r ∷ rs) = renumber_rule to r.means ∷ closed to rs

unfoldable pub closed_in : Names → List KnownRule → ℕ → List Use → List Object → List Rule
closed_in n known own us [] = []
closed_in n known own us (o ∷ os) = closed (closing n known own us o.aims) o.rules ++ closed_in n known own us os

unfoldable pub or_none : Checked (List Rule) → List Rule
or_none (good rs) = rs
or_none (wrong n w) = []

-- the rules of all parts, then those made for operators
unfoldable pub program : Names → ℕ → List Object → List Rule
program n others os =
    let known = known_of 0 (rules_of os) in
    let own = length (rules_of os) in
    let us = pairs_in os in
    closed_in n known own us os ++ or_none (made_for n known others own us)

-- The answer

unfoldable pub refused_at : ℕ → Option Found → Linked → Linked
refused_at n none other = other
refused_at n (some f) other = refused n f.text (part_of f.word)

-- an answer of the processor, the fault being in this text
unfoldable pub in_text : ℕ → Answer → Told → Linked
in_text i (accepted words verdict) figure = linked words verdict figure
in_text i (one.refused n at) figure = refused n i at

-- as the processor answers for rules that it has understood
unfoldable pub as_one : ℕ → List ℕ → ℕ → List Rule → Linked
as_one i text room prog = let a = answer_for text room (one.meaning prog) in in_text i a (told_if a prog)

-- where 9 for the count of parts and 20 are shown: the empty part at the end of the text at hand, the common part's and the last part's
unfoldable pub link : List ℕ → Common → Names → List ℕ → List Object → ℕ → Linked
link common_text c n last_text os room =
    let all = rules_of os in
    let others = names_in_all c.sections in
    if eqb (length os) 0 || ltb 16 (length os) then refused 9 0 (part_of (end_of common_text))
    else refused_at 5 (first_typed all)
    (refused_at 49 (unlike_in c.listed all 1 os)
    (refused_at 50 (twice_in [] 1 os)
    (refused_at 9 (past_limit_in (min 128 c.left) 1 os)
    (refused_at 9 (past_made n others (length all) os (pairs_in os))
    (as_one (length os) last_text room (program n others os))))))

-- "what was lent": the table, or zero words, as the processor leaves it
unfoldable pub as_answer : Linked → Answer
as_answer (linked words verdict figure) = accepted words verdict
as_answer (refused n i at) = one.refused n at

unfoldable pub lent_bytes : Linked → List ℕ → List ℕ
lent_bytes l lent = one.lent_bytes (as_answer l) lent

-- From texts: each part translated by itself, then linked

unfoldable pub last_of : List (List ℕ) → List ℕ
last_of [] = []
last_of (t ∷ []) = t
last_of (t ∷ u ∷ ts) = last_of (u ∷ ts)

-- the objects of the parts from the i-th on; or the first fault
unfoldable pub at_part : ℕ → Translated → (Object → Linked) → Linked
at_part i (object o) f = f o
at_part i (in_common n p) f = refused n 0 p
at_part i (in_part n p) f = refused n i p

unfoldable pub collect : List ℕ → ℕ → List (List ℕ) → (List Object → Linked) → Linked
collect common i [] k = k []
collect common i (t ∷ ts) k = at_part i (translate common t) (λ o. collect common (suc i) ts (λ os. k (o ∷ os)))

-- the common part, translated
unfoldable pub with_names : Checked Names → (Names → Linked) → Linked
with_names (good n) f = f n
with_names (wrong n w) f = refused n 0 (part_of w)

unfoldable pub with_common : Read Common → (Common → Names → Linked) → Linked
with_common (got c ws) f = with_names (common_means c []) (f c)
with_common (fault n w) f = refused n 0 (part_of w)

unfoldable pub link_texts : List ℕ → List (List ℕ) → ℕ → Linked
link_texts common parts room =
    if eqb (length parts) 0 || ltb 16 (length parts) then refused 9 0 (part_of (end_of common))
    else collect common 1 parts (λ os. with_common (read_common common) (λ c n. link common c n (last_of parts) os room))

-- all of this file computes where this is unfolded
unfoldable pub opened : Unit {0}
unfolding or◌else◌ found_if rules_of is_named first_typed listed_type agrees open_call unlike unlike_in twice twice_in past_limit past_limit_in uses_of pairs_in text_using passes past_made text_of known_of place_for closing closed closed_in or_none program refused_at in_text as_one link as_answer lent_bytes last_of at_part collect with_names with_common link_texts
opened = tt
