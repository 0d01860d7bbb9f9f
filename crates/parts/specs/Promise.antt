-- What is promised of parts and linking, in the words of the request. The proofs are in proofs/Linking.antt and proofs/Accepted.antt.
use Rattle.std.specs.Prelude.{Bool, true, List, [], ◌∷◌, ◌++◌, ◌≡◌, ℕ, ◌*◌, ◌≤◌, min, length, drop, replicate}
use Rattle.std.proofs.Math.Option.{some}
use Rattle.acceptance.proofs.Shape.{Each}
use Rattle.agreement.specs.Demand as walks
use Rattle.agreement.specs.Demand.{Finishes}
use Rattle.figure.specs.Count.{figure}
use Rattle.figure.specs.Promise.{EnoughFor}
use Rattle.figure.specs.Told.{Told, told_if, figure_of}
use Rattle.finishing.specs.Finishing.{Finishing}
use Rattle.finishing.specs.Test.{finishing}
use Rattle.loading.specs.Reach.{Taken}
use Rattle.machine.specs.Bytes.{count, bytes_of}
use Rattle.names.specs.Known.{good, Names}
use Rattle.names.specs.Understand.{understand}
use Rattle.processor.specs.Process.{Part, accepted, process}
use Rattle.program.specs.Accepted.{Accepted}
use Rattle.program.specs.Program as means
use Rattle.program.specs.Table.{table}
use Rattle.syntax.specs.Parse.{parse}
use Rattle.syntax.specs.Reading.{got}
use Rattle.syntax.specs.Texts.{Head, Common, read_common, read_part}
use Rattle.syntax.specs.Written.{Rule, Program}
use Rattle.words.specs.Words.{Word}
use Rattle.parts.specs.Blank.{blank_program}
use Rattle.parts.specs.Link.{linked, refused, lent_bytes, listed_type, agrees, as_one, link, link_texts}
use Rattle.parts.specs.Objects.{Object, object, common_means, meaning}

-- "translating their rules as one text": the sections of the common part, and the rules of all parts in order
unfoldable pub joined : List (List Rule) → List Rule
joined [] = []
joined (rs ∷ rss) = rs ++ joined rss

abbrev pub one_text : Common → List (List Rule) → Program
one_text c rss = record { sections = c.sections; rules = joined rss }

-- "each translated by itself with the common part": parts and their objects
pub data Parts (c : Common) : List (List Rule) → List Object → Type 0 where
  parts_nil : Parts c [] []
  parts_cons : {rs : List Rule} {rss : List (List Rule)} {o : Object} {os : List Object} → meaning c rs ≡ object o → Parts c rss os → Parts c (rs ∷ rss) (o ∷ os)

-- "the very words of translating their rules as one text, and the verdict of the whole"; the figure is the whole's too
pub record Whole (c : Common) (rss : List (List Rule)) (room : ℕ) (words : List ℕ) (verdict : Bool) (told : Told) : Type 0 where
  pub prog : List means.Rule
  pub means : understand (one_text c rss) ≡ good prog
  pub words_are : words ≡ table prog
  pub verdict_is : verdict ≡ finishing prog
  pub figure_is : told ≡ told_if (accepted words verdict) prog
  pub fits : length words ≤ room
  pub within_4096 : length words ≤ 4096

abbrev pub VeryWords : Type 0
VeryWords =
    (common_text : List ℕ) (c : Common) (n : Names) (last_text : List ℕ) (rss : List (List Rule)) (os : List Object) (room : ℕ) (words : List ℕ) (verdict : Bool) (told : Told)
    → common_means c [] ≡ good n → Parts c rss os → link common_text c n last_text os room ≡ linked words verdict told → Whole c rss room words verdict told

-- "leaves the lent table all zeros": with every number, all lent words; an odd last byte is not touched
abbrev pub LentZero : Type 0
LentZero = (n i : ℕ) (at : Part) (lent : List ℕ) → lent_bytes (refused n i at) lent ≡ bytes_of (replicate (count lent) 0) ++ drop (2 * count lent) lent

-- The other way: rules that are accepted as one text are linked

-- a rule of the sort and type that "the common part says"
abbrev pub AsListed : List Head → Rule → Type 0
AsListed hs r = agrees r.gives (listed_type r.rule.text hs) ≡ true

-- what no check of linking but those of the whole's table asks for
pub record InOrder (c : Common) (n : Names) (rss : List (List Rule)) : Type 0 where
  pub common : common_means c [] ≡ good n
  pub some_part : 1 ≤ length rss
  pub few_parts : length rss ≤ 16
  pub listed : Each (AsListed c.listed) (joined rss)
  pub few_rules : length (joined rss) ≤ min 128 c.left

-- each part is translated by itself; and the parts are linked to the table, verdict and figure of the one text, or have 20 as it has
pub record Links (c : Common) (n : Names) (rss : List (List Rule)) (prog : List means.Rule) : Type 0 where
  pub objects : List Object
  pub parts : Parts c rss objects
  pub links : (common_text last_text : List ℕ) (room : ℕ) → link common_text c n last_text objects room ≡ as_one (length rss) last_text room prog

abbrev pub OneTextLinks : Type 0
OneTextLinks =
    (c : Common) (n : Names) (rss : List (List Rule)) (prog : List means.Rule) → InOrder c n rss → understand (one_text c rss) ≡ good prog → Links c n rss prog

-- As texts: any text that is read as the common part's sections and the parts' rules, whatever stands between its words

pub record ReadsAs (text : List ℕ) (c : Common) (rss : List (List Rule)) : Type 0 where
  pub tree : Program
  pub rest : List Word
  pub reads : parse text ≡ got tree rest
  pub same_words : blank_program tree ≡ blank_program (one_text c rss)

-- the processor's answer for it is what is linked: "the very words", "the verdict of the whole", and the figure
abbrev pub VeryText : Type 0
VeryText =
    (common_text : List ℕ) (c : Common) (n : Names) (last_text : List ℕ) (rss : List (List Rule)) (os : List Object) (room : ℕ) (words : List ℕ) (verdict : Bool) (told : Told)
    → common_means c [] ≡ good n → Parts c rss os → link common_text c n last_text os room ≡ linked words verdict told
    → (text : List ℕ) → ReadsAs text c rss → (process text room ≡ accepted words verdict) × (figure_of text room ≡ told)

-- and what the processor answers for it is linked
pub record LinksText (c : Common) (n : Names) (rss : List (List Rule)) (room : ℕ) (words : List ℕ) (verdict : Bool) (told : Told) : Type 0 where
  pub objects : List Object
  pub parts : Parts c rss objects
  pub links : (common_text last_text : List ℕ) → link common_text c n last_text objects room ≡ linked words verdict told

abbrev pub TextLinks : Type 0
TextLinks =
    (c : Common) (n : Names) (rss : List (List Rule)) → InOrder c n rss → (text : List ℕ) → ReadsAs text c rss → (room : ℕ) (words : List ℕ) (verdict : Bool)
    → process text room ≡ accepted words verdict → LinksText c n rss room words verdict (figure_of text room)

-- What holds of accepted programs holds of a linked one

-- the parts were read from texts
pub data ReadFrom (left : ℕ) : List (List Rule) → Type 0 where
  read_nil : ReadFrom left []
  read_cons : {rs : List Rule} {rss : List (List Rule)} (text : List ℕ) (rest : List Word) → read_part left text ≡ got rs rest → ReadFrom left rss → ReadFrom left (rs ∷ rss)

pub record Works (prog : List means.Rule) (words : List ℕ) (verdict : Bool) : Type 0 where
  pub accepts : Accepted prog
  -- demand 3
  pub agrees : (more tokens answers : List ℕ) (allowance : ℕ) → walks.Agrees prog (words ++ more) tokens answers allowance
  pub finishes : verdict ≡ true → Finishes prog words
  pub sound : verdict ≡ true → Finishing prog
  pub complete : Finishing prog → verdict ≡ true
  -- A.4: the loader takes it
  pub taken : Taken words
  -- A.11: Q is enough
  pub enough : verdict ≡ true → (q : ℕ) → figure prog ≡ some q → EnoughFor prog q

abbrev pub LinkedWorks : Type 0
LinkedWorks =
    (common_text : List ℕ) (c : Common) (rest : List Word) → read_common common_text ≡ got c rest → (rss : List (List Rule)) → ReadFrom c.left rss → 1 ≤ length rss
    → (room : ℕ) (words : List ℕ) (verdict : Bool) (told : Told) (w : Whole c rss room words verdict told) → Works w.prog words verdict

-- From texts: whatever common part and parts are handed in, what is linked is the whole's and works
pub record LinkedTexts (common : List ℕ) (parts : List (List ℕ)) (room : ℕ) (words : List ℕ) (verdict : Bool) (told : Told) : Type 0 where
  pub common_is : Common
  pub rest : List Word
  pub reads : read_common common ≡ got common_is rest
  pub rules : List (List Rule)
  pub as_many : length rules ≡ length parts
  pub read : ReadFrom common_is.left rules
  pub whole : Whole common_is rules room words verdict told
  pub works : Works whole.prog words verdict

abbrev pub TextsLinked : Type 0
TextsLinked =
    (common : List ℕ) (parts : List (List ℕ)) (room : ℕ) (words : List ℕ) (verdict : Bool) (told : Told) → link_texts common parts room ≡ linked words verdict told
    → LinkedTexts common parts room words verdict told

-- all of this file computes where this is unfolded
unfoldable pub opened : Unit {0}
unfolding joined
opened = tt
