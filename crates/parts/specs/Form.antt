-- An object as words: what `sst_part` writes and `sst_link` reads. Nothing of the part's text is in it but the names of its rules and of those that they
-- call, each with its place; and the common part that it was made with stands in front, so that parts of two common parts are never linked.
use Rattle.std.specs.Prelude.{List, [], ◌∷◌, ◌++◌, ◌≡◌, ℕ, ◌+◌, ◌*◌, ◌/◌, ◌%◌, ◌-◌, leb, length, get_or, replicate, if◌then◌else◌}
use Rattle.std.proofs.Math.Option.{Option, none, some}
use Rattle.acceptance.proofs.Shape.{Each}
use Rattle.calls.specs.Renumber.{renumbers}
use Rattle.cells.specs.Cells.{acts_cells}
use Rattle.names.specs.Known.{good, Names}
use Rattle.names.specs.Uses.{Use}
use Rattle.processor.specs.Process.{Part, part_of}
use Rattle.program.specs.Program.{Acts}
use Rattle.syntax.specs.Parse.{end_of}
use Rattle.syntax.specs.Reading.{got}
use Rattle.syntax.specs.Texts.{Common, read_common}
use Rattle.words.specs.Words.{Word}
use Rattle.parts.specs.Link.{Linked, refused, link}
use Rattle.parts.specs.Objects.{Aim, named, ranked, OpenRule, Object, Translated, object, in_common, in_part, translate, common_means}
use Rattle.parts.specs.Sound.{Sound}

-- bytes two a word, high byte first, an odd one with 0 behind it
unfoldable pub packed : List ℕ → List ℕ
packed [] = []
packed (a ∷ []) = (256 * a) ∷ []
packed (a ∷ b ∷ s) = (256 * a + b) ∷ packed s

-- a name: where it stands, its length, its bytes, a word each
unfoldable pub name_words : Word → List ℕ
name_words w = w.start ∷ length w.text ∷ w.text

-- 0, or 1 and the name of the type
unfoldable pub type_words : Option Word → List ℕ
type_words none = 0 ∷ []
type_words (some w) = 1 ∷ name_words w

-- names one behind the other
unfoldable pub names_words : List Word → List ℕ
names_words [] = []
names_words (w ∷ ws) = name_words w ++ names_words ws

module _ (aims : List Aim) (first : ℕ) where
  -- what stands in an object for the number of a call: 0 for the rule of a name, 1 and the pair's place among the pairs for the rules of a pair
  unfoldable pub mark_of : ℕ → ℕ
  mark_of i = go (get_or aims i (named []))
    where
      go : Aim → ℕ
      go (named v) = 0
      go (ranked u) = 1 + (i - first)

  -- the cells of a rule's actions, as crate cells has them
  unfoldable pub body_cells : Acts → List ℕ
  body_cells b = acts_cells (renumbers mark_of b) []

  -- its name, its type; how many calls it has and the name of each, in text order; how many cells, and the cells
  unfoldable pub rule_words : OpenRule → List ℕ
  rule_words r =
      let cells = body_cells r.means.body in
      name_words r.name ++ (type_words r.gives ++ (length r.calls ∷ (names_words r.calls ++ (length cells ∷ cells))))

  unfoldable pub rules_words : List OpenRule → List ℕ
  rules_words [] = []
  rules_words (r ∷ rs) = rule_words r ++ rules_words rs

-- the first use of each pair: where its `^` stands and its length, its section, its operand rule
unfoldable pub uses_words : List Use → List ℕ
uses_words [] = []
uses_words (u ∷ us) = u.sign.start ∷ length u.sign.text ∷ (name_words u.section ++ (name_words u.operand ++ uses_words us))

-- the number of the first pair: pairs are numbered last
unfoldable pub first_pair : Object → ℕ
first_pair o = length o.aims - length o.uses

-- `PO`, the number of words behind these three (32 bits), the bytes of the common part and of the part, rules, pairs; the common part; pairs; rules
unfoldable pub body_of : List ℕ → ℕ → Object → List ℕ
body_of common part_length o =
    length common ∷ part_length ∷ length o.rules ∷ length o.uses
    ∷ (packed common ++ (uses_words o.uses ++ rules_words o.aims (first_pair o) o.rules))

unfoldable pub object_words : List ℕ → ℕ → Object → List ℕ
object_words common part_length o =
    let b = body_of common part_length o in
    20559 ∷ (length b / 65536) ∷ (length b % 65536) ∷ b

-- What `sst_part` answers: the object's words, or a number, the text (0 the common part, 1 the part) and its part at fault; "20" where they pass the lent words

pub data Made : Type 0 where
  made : List ℕ → Made
  unmade : ℕ → ℕ → Part → Made

unfoldable pub if_fits : List ℕ → ℕ → List ℕ → Made
if_fits part room ws = if leb (length ws) room then made ws else unmade 20 1 (part_of (end_of part))

unfoldable pub as_made : List ℕ → List ℕ → ℕ → Translated → Made
as_made common part room (object o) = if_fits part room (object_words common (length part) o)
as_made common part room (in_common n p) = unmade n 0 p
as_made common part room (in_part n p) = unmade n 1 p

unfoldable pub make_object : List ℕ → List ℕ → ℕ → Made
make_object common part room = as_made common part room (translate common part)

-- "what is lent is zeroed": the object and zero words, or zero words alone
unfoldable pub lent_object : Made → ℕ → List ℕ
lent_object (made ws) n = ws ++ replicate (n - length ws) 0
lent_object (unmade number text at) n = replicate n 0

-- What `sst_link` answers for words that are objects of the common part, one behind the other; and 40 for any others

unfoldable pub all_words : List ℕ → List ℕ → List Object → List ℕ
all_words common [] os = []
all_words common (n ∷ ns) [] = []
all_words common (n ∷ ns) (o ∷ os) = object_words common n o ++ all_words common ns os

-- the objects that the words are, and the lengths of their parts
pub record AreObjects (common : List ℕ) (c : Common) (n : Names) (words : List ℕ) : Type 0 where
  pub lengths : List ℕ
  pub objects : List Object
  pub as_many : length lengths ≡ length objects
  pub sound : Each (Sound c.listed n) objects
  pub are : words ≡ all_words common lengths objects

-- what is made of the parts of a common part, one behind the other, are its objects: linking never answers 40 for it
pub data Makes (common : List ℕ) : List (List ℕ) → List ℕ → Type 0 where
  makes_none : Makes common [] []
  makes_more : {t : List ℕ} {ts : List (List ℕ)} {ws more : List ℕ} (room : ℕ) → make_object common t room ≡ made ws → Makes common ts more → Makes common (t ∷ ts) (ws ++ more)

abbrev pub MadeAreObjects : Type 0
MadeAreObjects =
    (common : List ℕ) (c : Common) (rest : List Word) → read_common common ≡ got c rest → (n : Names) → common_means c [] ≡ good n → (ts : List (List ℕ)) (words : List ℕ)
    → Makes common ts words → AreObjects common c n words

-- any text of the length: only its end is shown
unfoldable pub last_length : List ℕ → ℕ
last_length [] = 0
last_length (n ∷ []) = n
last_length (n ∷ m ∷ ns) = last_length (m ∷ ns)

pub record LinksWords (common : List ℕ) (c : Common) (n : Names) (words : List ℕ) (room : ℕ) (answer : Linked) : Type 0 where
  pub linked_so : (h : AreObjects common c n words) → answer ≡ link common c n (replicate (last_length h.lengths) 0) h.objects room
  pub not_objects : (AreObjects common c n words → ⊥) → (text : ℕ) × (answer ≡ refused 40 text (record { start = 0; size = 0 }))

-- all of this file computes where this is unfolded
unfoldable pub opened : Unit {0}
unfolding packed name_words type_words names_words mark_of body_cells rule_words rules_words uses_words first_pair body_of object_words if_fits as_made make_object lent_object all_words last_length
opened = tt
