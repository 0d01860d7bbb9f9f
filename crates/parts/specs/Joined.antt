-- The one text of "translating their rules as one text", as bytes: of the common part what stands before its word `rules`, then `rules`, of each part what stands
-- between its words `rules` and `end`, then `end`. Behind each piece stands a line feed, so that no word and no comment goes on into the next.
use Rattle.std.specs.Prelude.{Bool, List, [], ◌∷◌, ◌++◌, ◌≡◌, ℕ, ◌+◌, ◌≤◌, min, eqb, length, take, drop, if◌then◌else◌}
use Rattle.base.specs.Common.{bytes}
use Rattle.acceptance.proofs.Shape.{Each}
use Rattle.figure.specs.Told.{Told, figure_of}
use Rattle.names.specs.Known.{good, Names}
use Rattle.parts.specs.Form.{Makes, LinksWords}
use Rattle.parts.specs.Link.{linked, link_texts}
use Rattle.parts.specs.Objects.{others, common_means}
use Rattle.parts.specs.Promise.{joined, InOrder, ReadsAs}
use Rattle.syntax.specs.Texts.{Common, read_common, read_part}
use Rattle.processor.specs.Process.{accepted, process}
use Rattle.syntax.specs.Reading.{got, peek}
use Rattle.syntax.specs.Written.{Rule}
use Rattle.words.specs.Words.{Word, words, rules, end}

-- the first word of a kind, and the place behind a word
unfoldable pub first_word : ℕ → List Word → Word
first_word k [] = peek []
first_word k (w ∷ ws) = let more = first_word k ws in if eqb w.kind k then w else more

unfoldable pub behind : Word → ℕ
behind w = w.start + length w.text

-- the bytes of a text before its first word of a kind
unfoldable pub before : ℕ → List ℕ → List ℕ
before k text = take (first_word k (words text)).start text

-- "rules go, between `rules` and `end`, in up to 16 further parts": the bytes between the two words
unfoldable pub between : List ℕ → List ℕ
between text = drop (behind (first_word rules (words text))) (before end text)

unfoldable pub rules_text : List (List ℕ) → List ℕ
rules_text [] = bytes "end" ++ 10 ∷ []
rules_text (t ∷ ts) = between t ++ 10 ∷ rules_text ts

-- "Sections go in one common part, then `rules` ..": its list of choice rules is left out, since each is told by its rule
unfoldable pub joined_text : List ℕ → List (List ℕ) → List ℕ
joined_text common parts = before rules common ++ 10 ∷ (bytes "rules" ++ 10 ∷ rules_text parts)

-- What is promised of it

-- the parts' texts, and the rules that were read from each
pub data ReadsEach (left : ℕ) : List (List ℕ) → List (List Rule) → Type 0 where
  reads_nil : ReadsEach left [] []
  reads_cons : {t : List ℕ} {ts : List (List ℕ)} {rs : List Rule} {rss : List (List Rule)} (rest : List Word) → read_part left t ≡ got rs rest → ReadsEach left ts rss → ReadsEach left (t ∷ ts) (rs ∷ rss)

-- the processor reads it as the common part's sections and the rules of all parts in order, within the limits of one text: "32,768 bytes", "128 rules" and "512 names"
abbrev pub JoinedReads : Type 0
JoinedReads =
    (common : List ℕ) (parts : List (List ℕ)) (c : Common) (rest : List Word) (rss : List (List Rule)) → read_common common ≡ got c rest → ReadsEach c.left parts rss → 1 ≤ length rss
    → length (joined_text common parts) ≤ 32768 → length (joined rss) ≤ min 128 c.left → ReadsAs (joined_text common parts) c rss

-- "Linking parts of one common part in order gives the very words of translating their rules as one text, and the verdict of the whole": for any bytes; and the figure
abbrev pub VeryJoined : Type 0
VeryJoined =
    (common : List ℕ) (parts : List (List ℕ)) (room : ℕ) (words : List ℕ) (verdict : Bool) (told : Told) → link_texts common parts room ≡ linked words verdict told → length (joined_text common parts) ≤ 32768
    → (process (joined_text common parts) room ≡ accepted words verdict) × (figure_of (joined_text common parts) room ≡ told)

-- so of objects as words: each part made an object by itself, and these, one behind the other, linked
abbrev pub MadeJoined : Type 0
MadeJoined =
    (common : List ℕ) (c : Common) (rest : List Word) → read_common common ≡ got c rest → (n : Names) → common_means c [] ≡ good n → (parts : List (List ℕ)) (objects : List ℕ) → Makes common parts objects
    → (room : ℕ) (words : List ℕ) (verdict : Bool) (told : Told) → LinksWords common c n objects room (linked words verdict told) → length (joined_text common parts) ≤ 32768
    → (process (joined_text common parts) room ≡ accepted words verdict) × (figure_of (joined_text common parts) room ≡ told)

-- "512 names": each part by itself, with the common part, names no more (docs/DECISIONS.md, A.13 L12)
abbrev pub Named : Common → List (List Rule) → Type 0
Named c rss = Each (λ rs. length c.listed + length (others c.listed rs) ≤ c.left) rss

-- and the other way: what the processor accepts of it is linked, where no check of linking but those of the whole's table is against it. "The byte limit counts for each part"
abbrev pub JoinedLinks : Type 0
JoinedLinks =
    (common : List ℕ) (parts : List (List ℕ)) (c : Common) (rest : List Word) (n : Names) (rss : List (List Rule)) → read_common common ≡ got c rest → ReadsEach c.left parts rss → InOrder c n rss → Named c rss
    → length common ≤ 32768 → Each (λ t. length t ≤ 32768) parts → length (joined_text common parts) ≤ 32768
    → (room : ℕ) (words : List ℕ) (verdict : Bool) → process (joined_text common parts) room ≡ accepted words verdict
    → link_texts common parts room ≡ linked words verdict (figure_of (joined_text common parts) room)

-- all of this file computes where this is unfolded
unfoldable pub opened : Unit {0}
unfolding first_word behind before between rules_text joined_text
opened = tt
