-- An object as its words show it: names with their places, and cells; of a `^` its place and its length, of a word no kind. Words and views are one to
-- one; what has to be found in a view for it to be that of a sound object is another file's.
use Rattle.std.specs.Prelude.{List, [], ◌∷◌, ◌++◌, ℕ, zero, suc, ◌/◌, ◌%◌, eqb, length, if◌then◌else◌}
use Rattle.std.proofs.Math.Option.{Option, none, some}
use Rattle.names.specs.Uses.{Use}
use Rattle.parts.specs.Form.{packed, body_cells, first_pair}
use Rattle.parts.specs.Objects.{Aim, OpenRule, Object}
use Rattle.words.specs.Words.{Word}
use Rattle.objects.specs.Take.{Taken, took, missing, Taker, ◌>>=◌, pure, refuse, a_word, some_words, the_word, the_words, times, sized}

-- a name: where it stands, and its bytes
pub record Name : Type 0 where
  pub start : ℕ
  pub text : List ℕ

-- a pair of section and operand rule: where the `^` of its first use stands, and its length
pub record Pair : Type 0 where
  pub start : ℕ
  pub size : ℕ
  pub section : Name
  pub operand : Name

pub record RuleView : Type 0 where
  pub name : Name
  pub gives : Option Name
  pub calls : List Name
  pub cells : List ℕ

pub record View : Type 0 where
  pub size : ℕ  -- of the part's text, in bytes
  pub pairs : List Pair
  pub rules : List RuleView

-- The view of an object

unfoldable pub name_of : Word → Name
name_of w = record { start = w.start; text = w.text }

unfoldable pub names_of : List Word → List Name
names_of [] = []
names_of (w ∷ ws) = name_of w ∷ names_of ws

unfoldable pub option_of : Option Word → Option Name
option_of none = none
option_of (some w) = some (name_of w)

unfoldable pub pair_of : Use → Pair
pair_of u = record { start = u.sign.start; size = length u.sign.text; section = name_of u.section; operand = name_of u.operand }

unfoldable pub pairs_of : List Use → List Pair
pairs_of [] = []
pairs_of (u ∷ us) = pair_of u ∷ pairs_of us

module _ (aims : List Aim) (first : ℕ) where
  unfoldable pub rule_of : OpenRule → RuleView
  rule_of r = record { name = name_of r.name; gives = option_of r.gives; calls = names_of r.calls; cells = body_cells aims first r.means.body }

  unfoldable pub rules_of : List OpenRule → List RuleView
  rules_of [] = []
  rules_of (r ∷ rs) = rule_of r ∷ rules_of rs

-- of an object of a part of `size` bytes
unfoldable pub view_of : ℕ → Object → View
view_of size o = record { size = size; pairs = pairs_of o.uses; rules = rules_of o.aims (first_pair o) o.rules }

-- the views of objects, with the lengths of their parts
unfoldable pub views_of : List ℕ → List Object → List View
views_of [] os = []
views_of (n ∷ ns) [] = []
views_of (n ∷ ns) (o ∷ os) = view_of n o ∷ views_of ns os

-- The words of a view

unfoldable pub name_words : Name → List ℕ
name_words n = n.start ∷ length n.text ∷ n.text

unfoldable pub option_words : Option Name → List ℕ
option_words none = 0 ∷ []
option_words (some n) = 1 ∷ name_words n

-- of a list, one behind the other
unfoldable pub all : {A : Type 0} → (A → List ℕ) → List A → List ℕ
all f [] = []
all f (a ∷ as') = f a ++ all f as'

unfoldable pub pair_words : Pair → List ℕ
pair_words p = p.start ∷ p.size ∷ (name_words p.section ++ name_words p.operand)

unfoldable pub rule_words : RuleView → List ℕ
rule_words r = name_words r.name ++ (option_words r.gives ++ (length r.calls ∷ (all name_words r.calls ++ (length r.cells ∷ r.cells))))

module _ (common : List ℕ) where
  unfoldable pub body_words : View → List ℕ
  body_words v =
      length common ∷ v.size ∷ length v.rules ∷ length v.pairs
      ∷ (packed common ++ (all pair_words v.pairs ++ all rule_words v.rules))

  unfoldable pub view_words : View → List ℕ
  view_words v =
      let b = body_words v in
      20559 ∷ (length b / 65536) ∷ (length b % 65536) ∷ b

-- Words read as views

unfoldable pub a_name : Taker Name
a_name = do
  start ← a_word
  size ← a_word
  text ← some_words size
  pure (record { start = start; text = text })

unfoldable pub if_named : ℕ → Taker (Option Name)
if_named x = if eqb x 0 then pure none else if eqb x 1 then (do n ← a_name; pure (some n)) else refuse

-- 0, or 1 and a name
unfoldable pub an_option : Taker (Option Name)
an_option = do x ← a_word; if_named x

unfoldable pub a_pair : Taker Pair
a_pair = do
  start ← a_word
  size ← a_word
  section ← a_name
  operand ← a_name
  pure (record { start = start; size = size; section = section; operand = operand })

-- as many names as a word says
unfoldable pub some_calls : Taker (List Name)
some_calls = do n ← a_word; times n a_name

-- as many cells as a word says
unfoldable pub some_cells : Taker (List ℕ)
some_cells = do n ← a_word; some_words n

unfoldable pub a_rule : Taker RuleView
a_rule = do
  name ← a_name
  gives ← an_option
  calls ← some_calls
  cells ← some_cells
  pure (record { name = name; gives = gives; calls = calls; cells = cells })

unfoldable pub before : View → Option (List View) → Option (List View)
before v none = none
before v (some vs) = some (v ∷ vs)

unfoldable pub behind : Taken View → (List ℕ → Option (List View)) → Option (List View)
behind (took v rest) more = before v (more rest)
behind missing more = none

module _ (common : List ℕ) where
  -- the common part, the pairs and the rules
  unfoldable pub some_parts : ℕ → ℕ → ℕ → Taker View
  some_parts size rules pairs = do
    _ ← the_words (packed common)
    ps ← times pairs a_pair
    rs ← times rules a_rule
    pure (record { size = size; pairs = ps; rules = rs })

  unfoldable pub a_content : Taker View
  a_content = do
    size ← a_word
    rules ← a_word
    pairs ← a_word
    some_parts size rules pairs

  unfoldable pub a_body : Taker View
  a_body = do
    _ ← the_word (length common)
    a_content

  unfoldable pub a_view : Taker View
  a_view = do
    _ ← the_word 20559
    sized a_body

  -- views one behind the other, to the end of the words; k is at least the number of the words
  unfoldable pub views : ℕ → List ℕ → Option (List View)
  views zero [] = some []
  views zero (w ∷ ws) = none
  views (suc k) [] = some []
  views (suc k) (w ∷ ws) = behind (a_view (w ∷ ws)) (λ rest. views k rest)

-- all of this file computes where this is unfolded
unfoldable pub opened : Unit {0}
unfolding name_of names_of option_of pair_of pairs_of rule_of rules_of view_of views_of name_words option_words all pair_words rule_words body_words view_words a_name if_named an_option a_pair some_calls some_cells a_rule before behind some_parts a_content a_body a_view views
opened = tt
