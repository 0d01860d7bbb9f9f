-- Demand 3, the check on loading and the figure for a linked program, as a caller from C meets them: for the very bytes that `sst_link` left in a lent buffer, and calls of
-- `sst_whole` and `sst_paused` over them. "Linking parts of one common part in order gives the very words of translating their rules as one text, and the verdict of the
-- whole"; objects "may be handed in unexamined", so all of it holds whoever wrote them.
use Rattle.std.specs.Prelude.{Bool, true, List, [], ◌++◌, ◌≡◌, ℕ, ◌+◌, ◌*◌, ◌<◌, ◌≤◌, length, get_or}
use Rattle.figure.specs.Told.{untold}
use Rattle.finishing.specs.Finishing.{Finishing}
use Rattle.firmware.specs.Processing.{Numbers, flag_of, numbers_of}
use Rattle.loading.specs.File as files
use Rattle.loading.specs.File.{file_bytes}
use Rattle.loading.specs.Reach.{Taken}
use Rattle.machine.specs.Bytes.{count, words_of, table_of}
use Rattle.names.specs.Known.{good, Names}
use Rattle.parts.specs.Form.{AreObjects, Makes, LinksWords}
use Rattle.parts.specs.Joined.{joined_text}
use Rattle.parts.specs.Link.{Linked, linked, refused, program, lent_bytes}
use Rattle.parts.specs.Objects.{Object, common_means}
use Rattle.processor.specs.Process as one
use Rattle.processor.specs.Process.{Part, accepted}
use Rattle.program.specs.Accepted.{Accepted}
use Rattle.program.specs.Program.{Rule}
use Rattle.program.specs.Table as tables
use Rattle.safety.specs.Promise.{claim_of}
use Rattle.syntax.specs.Reading.{got}
use Rattle.syntax.specs.Sections.{names_in_all}
use Rattle.syntax.specs.Texts.{Common, read_common}
use Rattle.words.specs.Words.{Word}
use Rattle.bytewise.specs.AtEntries.{SufficesBytes, StepsBelowBytes, AgreesBytes, Processed}
use Rattle.bytewise.specs.AtLoading.{Loads}
use Rattle.bytewise.specs.ByteCalls.{Slice}

-- What the entry leaves

-- what `sst_link` writes: the text that shows a fault, and what `sst_process` writes
pub record LinkNumbers : Type 0 where
  pub text : ℕ
  pub others : Numbers

unfoldable pub link_numbers : Linked → LinkNumbers
link_numbers (linked words verdict told) = record { text = 0; others = numbers_of (accepted words verdict) told }
link_numbers (refused number text at) = record { text = text; others = numbers_of (one.refused number at) untold }

-- its answer for any bytes: as linking says for the words of the objects, where the common part is read and means something; or a refusal. Of a refusal nothing is
-- asked here but that its number is not 0
pub data LinkAnswer (common objects : List ℕ) (room : ℕ) : Linked → Type 0 where
  links : {c : Common} {rest : List Word} {n : Names} {answer : Linked} → read_common common ≡ got c rest → common_means c [] ≡ good n
      → LinksWords common c n (words_of objects) room answer → LinkAnswer common objects room answer
  refuses : {number text : ℕ} {at : Part} → (number ≡ 0 → ⊥) → LinkAnswer common objects room (refused number text at)

-- what `sst_link` leaves with its caller, by its contract: the numbers x, and `table` in the buffer where `lent` was
pub record LinksBytes (common objects lent table : List ℕ) (x : LinkNumbers) : Type 0 where
  pub source : Slice objects
  pub buffer : Slice lent
  pub answer : Linked
  pub answers : LinkAnswer common objects (count lent) answer
  pub numbers : x ≡ link_numbers answer
  pub bytes : table ≡ lent_bytes answer lent

-- What is claimed

-- the rules of all objects in order, then those made for operators
abbrev pub linked_rules : Common → Names → List Object → List Rule
linked_rules c n os = program n (names_in_all c.sections) os

-- bytes that begin with these words, whatever stands behind them: the lent buffer as it was left, or up to the table's end
pub record BeginsWith (words bytes : List ℕ) : Type 0 where
  pub are_bytes : (i : ℕ) → get_or bytes i 0 < 256
  pub more : List ℕ
  pub begins : table_of bytes ≡ words ++ more

-- `sst_load` has taken the file of these words and this verdict
pub record LoadedAs (words : List ℕ) (verdict : Bool) (bytes : List ℕ) (y : files.Numbers) : Type 0 where
  pub taken : y.number ≡ 0
  pub told_words : y.words ≡ length words
  pub told_verdict : y.verdict ≡ claim_of verdict
  pub left : BeginsWith words bytes

-- the whole claim for a program, the words of its table, its verdict and the figure that was told, over any bytes that begin with these words
pub record AtLinking (prog : List Rule) (words : List ℕ) (verdict : Bool) (q : ℕ) : Type 0 where
  -- demand 3; no call answers 37
  pub agrees : (bytes : List ℕ) → BeginsWith words bytes → (tokens answers : List ℕ) → Slice tokens → Slice answers
      → (allowance : ℕ) → allowance < 65536 → AgreesBytes prog bytes tokens answers allowance
  -- one budget, fixed by the program, the number of tokens and the allowance, suffices whatever stands behind the words, the tokens, the answers and the lists
  pub finishes : verdict ≡ true → (number allowance : ℕ) → allowance < 65536 → (b : ℕ) × ((bytes : List ℕ) → BeginsWith words bytes
      → (tokens answers : List ℕ) → Slice tokens → Slice answers → count tokens ≡ number → SufficesBytes prog bytes tokens answers allowance b)
  -- the verdict is the definition's
  pub sound : verdict ≡ true → Finishing prog
  pub complete : Finishing prog → verdict ≡ true
  -- the loader takes its file wherever it has room, and then all of this holds of the bytes that `sst_load` left
  pub takes : Taken words
  pub loads : (lent bytes : List ℕ) (y : files.Numbers) → Loads (file_bytes words (claim_of verdict)) lent bytes y → length words ≤ count lent → LoadedAs words verdict bytes y
  -- where a figure was told the verdict is "finishing", and "no walk of n tokens and repair allowance r .. needs more than 65 × Q × (n + r + 1) steps"
  pub figure_finishing : 0 < q → verdict ≡ true
  pub suffices : 0 < q → (bytes : List ℕ) → BeginsWith words bytes → (tokens answers : List ℕ) → Slice tokens → Slice answers
      → (allowance : ℕ) → allowance < 65536 → SufficesBytes prog bytes tokens answers allowance (65 * q * (count tokens + allowance + 1))
  pub steps : 0 < q → (bytes : List ℕ) → BeginsWith words bytes → (tokens answers : List ℕ) → Slice tokens → Slice answers
      → (allowance : ℕ) → allowance < 65536 → StepsBelowBytes bytes tokens answers allowance (65 * q * (count tokens + allowance + 1))

-- what a caller has whom `sst_link` answers 0: the bytes that he handed in are objects of the common part; the words left are the table of the rules of all of them,
-- an accepted program; and the claim for it
pub record ClaimedLinked (common objects table : List ℕ) (x : LinkNumbers) : Type 0 where
  pub common_is : Common
  pub rest : List Word
  pub reads : read_common common ≡ got common_is rest
  pub names : Names
  pub means : common_means common_is [] ≡ good names
  pub are : AreObjects common common_is names (words_of objects)
  pub words : List ℕ
  pub verdict : Bool
  pub told_words : x.others.words ≡ length words
  pub told_verdict : x.others.finishing ≡ flag_of verdict
  pub accepts : Accepted (linked_rules common_is names are.objects)
  pub words_are : words ≡ tables.table (linked_rules common_is names are.objects)
  pub left : BeginsWith words table
  pub claim : AtLinking (linked_rules common_is names are.objects) words verdict x.others.figure

abbrev pub FromLinking : Type 0
FromLinking = (common objects lent table : List ℕ) (x : LinkNumbers) → LinksBytes common objects lent table x → x.others.number ≡ 0 → ClaimedLinked common objects table x

-- "the very words of translating their rules as one text, and the verdict of the whole": where the objects were made of parts, each by itself with this common part, numbers
-- and bytes are those that `sst_process` leaves for the one text, if that is a text of at most 32,768 bytes
abbrev pub FromParts : Type 0
FromParts =
    (common objects lent table : List ℕ) (x : LinkNumbers) → LinksBytes common objects lent table x → x.others.number ≡ 0
    → (parts : List (List ℕ)) → Makes common parts (words_of objects) → length (joined_text common parts) ≤ 32768 → Processed (joined_text common parts) lent table x.others

-- all of this file computes where this is unfolded
unfoldable pub opened : Unit {0}
unfolding link_numbers
opened = tt
