-- From bytes to words. "the longest word is taken"
use Rattle.std.specs.Prelude.{Bool, ◌&&◌, ◌||◌, not, List, [], ◌∷◌, ℕ, zero, suc, ◌+◌, ◌*◌, ◌-◌, eqb, leb, take, drop, get_or, if◌then◌else◌}
use Prim.Native.Char.{code}
use Prim.Native.String.{String}
use Rattle.base.specs.Common.{bytes, same, member}

-- a word: its kind, the place where it starts, its bytes
pub record Word : Type 0 where
  pub kind : ℕ
  pub start : ℕ
  pub text : List ℕ

-- Kinds. A symbol's kind is its byte; the others are below.

-- a byte or quote that makes no word: the last of the words, so that a fault is always found at a word
abbrev pub bad : ℕ
bad = 0

-- the end of the text, an empty word
abbrev pub last : ℕ
last = 1

-- `>>`
abbrev pub twice : ℕ
twice = 256

abbrev pub name : ℕ
name = 257

abbrev pub number : ℕ
number = 258

abbrev pub string : ℕ
string = 259

abbrev pub input : ℕ
input = 260

abbrev pub output : ℕ
output = 261

abbrev pub error : ℕ
error = 262

abbrev pub type : ℕ
type = 263

abbrev pub mechanism : ℕ
mechanism = 264

abbrev pub rules : ℕ
rules = 265

abbrev pub end : ℕ
end = 266

pub record Spelling : Type 0 where
  pub spelt : List ℕ
  pub means : ℕ

abbrev pub spelling : String → ℕ → Spelling
spelling s k = record { spelt = bytes s; means = k }

-- "`do od if fi !` are spellings of `{ } [ ] |`. Reserved also: `input output error type mechanism rules end`." (`!` is below)
unfoldable pub reserved : List Spelling
reserved =
    spelling "do" (code "{") ∷ spelling "od" (code "}") ∷ spelling "if" (code "[") ∷ spelling "fi" (code "]")
    ∷ spelling "input" input ∷ spelling "output" output ∷ spelling "error" error ∷ spelling "type" type
    ∷ spelling "mechanism" mechanism ∷ spelling "rules" rules ∷ spelling "end" end ∷ []

-- the kind of a run of name bytes
unfoldable pub kind_of : List ℕ → List Spelling → ℕ
kind_of w [] = name
kind_of w (s ∷ more) = let later = kind_of w more in if same w s.spelt then s.means else later

-- Bytes

abbrev between : ℕ → ℕ → ℕ → Bool
between low high b = leb low b && leb b high

unfoldable pub letter : ℕ → Bool
letter b = between 97 122 b || between 65 90 b

unfoldable pub digit : ℕ → Bool
digit b = between 48 57 b

-- "names (a letter, then letters, digits, underscores; case counts)"
unfoldable pub name_byte : ℕ → Bool
name_byte b = letter b || digit b || eqb b (code "_")

-- a byte that may stand in a string: "no quote or line feed inside"; "Inside a string the percent sign is an ordinary byte"
unfoldable pub string_byte : ℕ → Bool
string_byte b = not (eqb b (code "'") || eqb b 10)

-- "Space, tab, carriage return and line feed separate words."
unfoldable pub blank : ℕ → Bool
blank b = eqb b 32 || eqb b 9 || eqb b 13 || eqb b 10

-- "`: ; , = ( ) [ ] { } | * ? . # @ > >>`" (`>>` is below); and `^`, of operators under precedence
unfoldable pub symbol : ℕ → Bool
symbol b = member b (bytes ":;,=()[]{}|*?.#@>^")

-- how many bytes from the start pass the test
unfoldable pub run : (ℕ → Bool) → List ℕ → ℕ
run p [] = 0
run p (b ∷ s) = let more = suc (run p s) in if p b then more else 0

-- Words

-- a kind and a length
pub record Found : Type 0 where
  pub kind : ℕ
  pub size : ℕ

abbrev found : ℕ → ℕ → Found
found k n = record { kind = k; size = n }

-- "strings in single quotes (1 to 32 bytes ..)": the word that begins with the quote before s
unfoldable pub string_here : List ℕ → Found
string_here s =
    let inside = run string_byte s in
    if leb 1 inside && leb inside 32 && eqb (get_or s inside 0) (code "'") then found string (inside + 2) else found bad 1

-- the word that begins with the byte b before s
unfoldable pub word_here : ℕ → List ℕ → Found
word_here b s =
    let letters = suc (run name_byte s) in
    let digits = suc (run digit s) in
    if letter b then found (kind_of (take letters (b ∷ s)) reserved) letters
    else if digit b then found number digits
    else if eqb b (code "'") then string_here s
    else if eqb b (code ">") && eqb (get_or s 0 0) (code ">") then found twice 2
    else if eqb b (code "!") then found (code "|") 1
    else if symbol b then found b 1
    else found bad 1

-- the words from the place `at` on, the next `skip` bytes belonging to the word or comment before. A percent sign "outside" a string
-- "begins a comment", the rest of its line. The end, or a bad word, is the last.
unfoldable pub words_from : ℕ → ℕ → List ℕ → List Word
words_from skip at [] = record { kind = last; start = at; text = [] } ∷ []
words_from (suc n) at (b ∷ s) = words_from n (suc at) s
words_from zero at (b ∷ s) =
    let gap = words_from 0 (suc at) s in
    let comment = words_from (run (λ c. not (eqb c 10)) s) (suc at) s in
    let here = word_here b s in
    let word : Word = record { kind = here.kind; start = at; text = take here.size (b ∷ s) } in
    let more = word ∷ words_from (here.size - 1) (suc at) s in
    if blank b then gap
    else if eqb b (code "%") then comment
    else if eqb here.kind bad then word ∷ []
    else more

unfoldable pub words : List ℕ → List Word
words text = words_from 0 0 text

-- the same from a place of the text on
unfoldable pub words_at : List ℕ → ℕ → List Word
words_at text at = words_from 0 at (drop at text)

-- the value of a number's digits
unfoldable pub value : ℕ → List ℕ → ℕ
value n [] = n
value n (d ∷ ds) = value (n * 10 + (d - 48)) ds

-- all of this file computes where this is unfolded
unfoldable pub opened : Unit {0}
unfolding reserved kind_of letter digit name_byte string_byte blank symbol run string_here word_here words_from words words_at value
opened = tt
