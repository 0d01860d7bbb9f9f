-- What the functions inside the scanner promise.
use Rattle.std.specs.Prelude.{◌≡◌, Bool, false, not, List, [], ◌∷◌, ℕ, suc, ◌+◌, ◌≤◌, ◌<◌, eqb, length, get_or, take, drop, if◌then◌else◌}
use Rattle.scanner.specs.declared.Class.{Class}
use Rattle.scanner.specs.declared.Class.TheVariants.{Name, Digit, Inside, Line}
use Rattle.scanner.specs.declared.WordAt.{WordAt}
use Rattle.words.specs.Words.{Found, Spelling, spelling, input, output, error, type, mechanism, rules, end, number, twice, bad, kind_of, reserved, run, digit, name_byte, string_byte, symbol, blank, words_at}
use Prim.Native.Char.{code}

abbrev pub in_class : Class → ℕ → Bool
in_class Name b = name_byte b
in_class Digit b = digit b
in_class Inside b = string_byte b
in_class Line b = not (eqb b 10)

-- r bytes from `at` on are of the class, and not the byte after them
pub record Ran (text : List ℕ) (at : ℕ) (class : Class) (r : ℕ) : Type 0 where
  pub count : r ≡ run (in_class class) (drop at text)
  pub inside : at + r ≤ length text

-- the reserved words in three parts
unfoldable pub brackets : List Spelling
brackets = spelling "do" (code "{") ∷ spelling "od" (code "}") ∷ spelling "if" (code "[") ∷ spelling "fi" (code "]") ∷ []

unfoldable pub heads : List Spelling
heads = spelling "input" input ∷ spelling "output" output ∷ spelling "error" error ∷ spelling "type" type ∷ []

unfoldable pub others : List Spelling
others = spelling "mechanism" mechanism ∷ spelling "rules" rules ∷ spelling "end" end ∷ []

abbrev pub found : ℕ → ℕ → Found
found k n = record { kind = k; size = n }

-- what `word_here` gives for a letter, a digit, `>` and any other byte
unfoldable pub name_here : ℕ → List ℕ → Found
name_here b s = found (kind_of (take (suc (run name_byte s)) (b ∷ s)) reserved) (suc (run name_byte s))

unfoldable pub number_here : List ℕ → Found
number_here s = found number (suc (run digit s))

unfoldable pub greater_here : List ℕ → Found
greater_here s = if eqb (get_or s 0 0) (code ">") then found twice 2 else found (code ">") 1

unfoldable pub symbol_here : ℕ → Found
symbol_here b = if eqb b (code "!") then found (code "|") 1 else if symbol b then found b 1 else found bad 1

abbrev pub word_found : ℕ → ℕ → ℕ → WordAt
word_found kind start len = record { kind = kind; start = start; len = len; next = start + len }

-- the word w at the place `at` has this kind and length
pub record Spelt (text : List ℕ) (at : ℕ) (is : Found) (w : WordAt) : Type 0 where
  pub kind : w.kind ≡ is.kind
  pub len : w.len ≡ is.size
  pub start : w.start ≡ at
  pub next : w.next ≡ at + w.len
  pub some : 0 < w.len
  pub inside : at + w.len ≤ length text

-- past all blanks and comments from `at` on
pub record Skipped (text : List ℕ) (at r : ℕ) : Type 0 where
  pub low : at ≤ r
  pub high : r ≤ length text
  pub same : words_at text at ≡ words_at text r
  pub solid : r < length text → blank (get_or text r 0) ≡ false
  pub plain : r < length text → get_or text r 0 ≡ 37 → ⊥
