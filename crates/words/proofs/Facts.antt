-- What the definitions give, against values worked out from document 01 by hand.
use mathlib.Core.Bool.{Bool, true, false, ◌&&◌}
use mathlib.Core.List.{List, [], ◌∷◌, ◌++◌}
use Prim.Native.Char.{code}
use Prim.Native.Nat.{ℕ, zero, suc}
use Prim.Native.String.{String}
use lib.Dec.{T, eqb}
use lib.ListN.{length, take, drop, replicate}
use Rattle.base.specs.Common.{bytes, same}
use Rattle.words.specs.Words
use Rattle.words.specs.Words.{Word, bad, last, twice, name, number, string, input, output, error, type, mechanism, rules, end, words, words_at, value}

-- Texts and their words

-- a word's kind, start and length
pub record Expected : Type 0 where
  pub kind : ℕ
  pub start : ℕ
  pub size : ℕ

abbrev pub w : ℕ → ℕ → ℕ → Expected
w k s l = record { kind = k; start = s; size = l }

pub record Line : Type 0 where
  pub text : List ℕ
  pub at : ℕ
  pub expected : List Expected

-- a word is of the kind, stands there, and its bytes are that part of the text
pub is_word : List ℕ → Word → Expected → Bool
is_word text x e = eqb x.kind e.kind && eqb x.start e.start && same x.text (take e.size (drop e.start text)) && eqb (length x.text) e.size

pub are_words : List ℕ → List Word → List Expected → Bool
are_words text [] [] = true
are_words text [] (e ∷ es) = false
are_words text (x ∷ xs) [] = false
are_words text (x ∷ xs) (e ∷ es) = is_word text x e && are_words text xs es

pub all_lines : List Line → Bool
all_lines [] = true
all_lines (l ∷ ls) = are_words l.text (words_at l.text l.at) l.expected && all_lines ls

-- a text from its start; the same where the bytes are given; a text from a place on
abbrev pub line : String → List Expected → Line
line t es = record { text = bytes t; at = 0; expected = es }

abbrev pub made : List ℕ → List Expected → Line
made t es = record { text = t; at = 0; expected = es }

abbrev pub from : ℕ → String → List Expected → Line
from n t es = record { text = bytes t; at = n; expected = es }

-- "`: ; , = ( ) [ ] { } | * ? . # @ > >>`; the longest word is taken"
pub symbols : List Line
symbols =
    line ":;,=()[]{}|*?.#@>"
    (w (code ":") 0 1 ∷ w (code ";") 1 1 ∷ w (code ",") 2 1 ∷ w (code "=") 3 1 ∷ w (code "(") 4 1 ∷ w (code ")") 5 1
    ∷ w (code "[") 6 1 ∷ w (code "]") 7 1 ∷ w (code "{") 8 1 ∷ w (code "}") 9 1 ∷ w (code "|") 10 1 ∷ w (code "*") 11 1
    ∷ w (code "?") 12 1 ∷ w (code ".") 13 1 ∷ w (code "#") 14 1 ∷ w (code "@") 15 1 ∷ w (code ">") 16 1 ∷ w last 17 0 ∷ [])
    ∷ line ">>" (w twice 0 2 ∷ w last 2 0 ∷ [])
    ∷ line ">>>" (w twice 0 2 ∷ w (code ">") 2 1 ∷ w last 3 0 ∷ [])
    ∷ line ">>>>" (w twice 0 2 ∷ w twice 2 2 ∷ w last 4 0 ∷ [])
    ∷ line "> >" (w (code ">") 0 1 ∷ w (code ">") 2 1 ∷ w last 3 0 ∷ [])
    ∷ line ">%\n>" (w (code ">") 0 1 ∷ w (code ">") 3 1 ∷ w last 4 0 ∷ [])
    ∷ line "" (w last 0 0 ∷ [])
    ∷ line " \t\r\n" (w last 4 0 ∷ [])
    ∷ line "a\tb\rc\nd e" (w name 0 1 ∷ w name 2 1 ∷ w name 4 1 ∷ w name 6 1 ∷ w name 8 1 ∷ w last 9 0 ∷ [])
    ∷ []

-- "names (a letter, then letters, digits, underscores; case counts), decimal numbers"; "`do od if fi !` are spellings of `{ } [ ] |`.
-- Reserved also: `input output error type mechanism rules end`."
pub names : List Line
names =
    line "a Z a1_b A__9z x_" (w name 0 1 ∷ w name 2 1 ∷ w name 4 4 ∷ w name 9 5 ∷ w name 15 2 ∷ w last 17 0 ∷ [])
    ∷ line "abcdefghijklmnopqrstuvwxyzabcdefg" (w name 0 33 ∷ w last 33 0 ∷ [])
    ∷ line "do od if fi !" (w (code "{") 0 2 ∷ w (code "}") 3 2 ∷ w (code "[") 6 2 ∷ w (code "]") 9 2 ∷ w (code "|") 12 1 ∷ w last 13 0 ∷ [])
    ∷ line "do1 END If dO od_ ifx d" (w name 0 3 ∷ w name 4 3 ∷ w name 8 2 ∷ w name 11 2 ∷ w name 14 3 ∷ w name 18 3 ∷ w name 22 1 ∷ w last 23 0 ∷ [])
    ∷ line "!!a" (w (code "|") 0 1 ∷ w (code "|") 1 1 ∷ w name 2 1 ∷ w last 3 0 ∷ [])
    ∷ line "input output error type mechanism rules end"
    (w input 0 5 ∷ w output 6 6 ∷ w error 13 5 ∷ w type 19 4 ∷ w mechanism 24 9 ∷ w rules 34 5 ∷ w end 40 3 ∷ w last 43 0 ∷ [])
    ∷ line "inputs outpu Error types mechanis rule ends"
    (w name 0 6 ∷ w name 7 5 ∷ w name 13 5 ∷ w name 19 5 ∷ w name 25 8 ∷ w name 34 4 ∷ w name 39 4 ∷ w last 43 0 ∷ [])
    ∷ line "12b" (w number 0 2 ∷ w name 2 1 ∷ w last 3 0 ∷ [])
    ∷ line "1a2 3end" (w number 0 1 ∷ w name 1 2 ∷ w number 4 1 ∷ w end 5 3 ∷ w last 8 0 ∷ [])
    ∷ line "007 99999999999999999999999999999999999" (w number 0 3 ∷ w number 4 35 ∷ w last 39 0 ∷ [])
    ∷ line "12_" (w number 0 2 ∷ w bad 2 1 ∷ [])
    ∷ []

-- "strings in single quotes (1 to 32 bytes, no quote or line feed inside)"; a fault is the opening quote, the last word
pub strings : List Line
strings =
    line "'x'" (w string 0 3 ∷ w last 3 0 ∷ [])
    ∷ line "'abcdefghijklmnopqrstuvwxyz123456'" (w string 0 34 ∷ w last 34 0 ∷ [])
    ∷ line "'abcdefghijklmnopqrstuvwxyz1234567'" (w bad 0 1 ∷ [])
    ∷ line "'abcdefghijklmnopqrstuvwxyz123456" (w bad 0 1 ∷ [])
    ∷ line "a 'abcdefghijklmnopqrstuvwxyz123456\n'" (w name 0 1 ∷ w bad 2 1 ∷ [])
    ∷ line "a '' b" (w name 0 1 ∷ w bad 2 1 ∷ [])
    ∷ line "'''" (w bad 0 1 ∷ [])
    ∷ line "ab 'cd" (w name 0 2 ∷ w bad 3 1 ∷ [])
    ∷ line "'ab\n'" (w bad 0 1 ∷ [])
    ∷ line "'" (w bad 0 1 ∷ [])
    ∷ line "x '\n' y" (w name 0 1 ∷ w bad 2 1 ∷ [])
    -- the percent sign is an ordinary byte of a string, the last of its bytes too
    ∷ line "'a%b'" (w string 0 5 ∷ w last 5 0 ∷ [])
    ∷ line "'%'" (w string 0 3 ∷ w last 3 0 ∷ [])
    ∷ line "'%%'%'" (w string 0 4 ∷ w last 6 0 ∷ [])
    ∷ line "'a'%b\nc" (w string 0 3 ∷ w name 6 1 ∷ w last 7 0 ∷ [])
    ∷ line "% 'x\n'%'" (w string 5 3 ∷ w last 8 0 ∷ [])
    ∷ line "'a%' %'b\n'c'" (w string 0 4 ∷ w string 9 3 ∷ w last 12 0 ∷ [])
    ∷ line "'%abcdefghijklmnopqrstuvwxyz12345'" (w string 0 34 ∷ w last 34 0 ∷ [])
    ∷ line "'%abcdefghijklmnopqrstuvwxyz123456'" (w bad 0 1 ∷ [])
    -- an unclosed quote, with a percent sign after it, at once or later, to the line feed or the end
    ∷ line "'a%\n'b'" (w bad 0 1 ∷ [])
    ∷ line "'a%" (w bad 0 1 ∷ [])
    ∷ line "'%\n'" (w bad 0 1 ∷ [])
    ∷ line "a '%" (w name 0 1 ∷ w bad 2 1 ∷ [])
    ∷ line "a 'b % c\nd" (w name 0 1 ∷ w bad 2 1 ∷ [])
    ∷ line "''%'" (w bad 0 1 ∷ [])
    ∷ line "'\r\t\0È'" (w string 0 6 ∷ w last 6 0 ∷ [])
    ∷ line "'>> {_\"+ ' ;" (w string 0 10 ∷ w (code ";") 11 1 ∷ w last 12 0 ∷ [])
    ∷ line "'a''b'" (w string 0 3 ∷ w string 3 3 ∷ w last 6 0 ∷ [])
    ∷ line "a'b'c12'd'" (w name 0 1 ∷ w string 1 3 ∷ w name 4 3 ∷ w string 7 3 ∷ w last 10 0 ∷ [])
    ∷ line "'end'" (w string 0 5 ∷ w last 5 0 ∷ [])
    ∷ []

-- "A percent sign, wherever it stands, makes the rest of its line a comment."
pub comments : List Line
comments =
    line "%" (w last 1 0 ∷ [])
    ∷ line "% all a comment" (w last 15 0 ∷ [])
    ∷ line "a % b\nc" (w name 0 1 ∷ w name 6 1 ∷ w last 7 0 ∷ [])
    ∷ line "a % b\rc" (w name 0 1 ∷ w last 7 0 ∷ [])
    ∷ line "a%b" (w name 0 1 ∷ w last 3 0 ∷ [])
    ∷ line "12%\n" (w number 0 2 ∷ w last 4 0 ∷ [])
    ∷ line "% %\n%" (w last 5 0 ∷ [])
    ∷ line "% 'x\n'y'" (w string 5 3 ∷ w last 8 0 ∷ [])
    ∷ line "% $ \u{80} '\n!%!" (w (code "|") 8 1 ∷ w last 11 0 ∷ [])
    ∷ line "'a'%'b'\n" (w string 0 3 ∷ w last 8 0 ∷ [])
    ∷ []

-- bytes that make no word: each the last word, one byte long
pub bad_bytes : List Line
bad_bytes =
    line "a \0 b" (w name 0 1 ∷ w bad 2 1 ∷ [])
    ∷ line "\u{c}a" (w bad 0 1 ∷ [])
    ∷ line "a\u{b}" (w name 0 1 ∷ w bad 1 1 ∷ [])
    ∷ line "_a" (w bad 0 1 ∷ [])
    ∷ line "a + b" (w name 0 1 ∷ w bad 2 1 ∷ [])
    ∷ line "\"a\"" (w bad 0 1 ∷ [])
    ∷ line ">\u{80}>" (w (code ">") 0 1 ∷ w bad 1 1 ∷ [])
    ∷ line "aÈ" (w name 0 1 ∷ w bad 1 1 ∷ [])
    ∷ line "$ $" (w bad 0 1 ∷ [])
    ∷ []

-- the words from a place on stand where they stand in the text
pub places : List Line
places =
    from 3 "ab cd" (w name 3 2 ∷ w last 5 0 ∷ [])
    ∷ from 2 "ab cd" (w name 3 2 ∷ w last 5 0 ∷ [])
    ∷ from 5 "ab cd" (w last 5 0 ∷ [])
    ∷ from 1 ">>>" (w twice 1 2 ∷ w last 3 0 ∷ [])
    ∷ []

-- the longest string in the middle of a text, and one byte more
pub long : List Line
long =
    made (bytes "a '" ++ (replicate 32 200 ++ bytes "' b")) (w name 0 1 ∷ w string 2 34 ∷ w name 37 1 ∷ w last 38 0 ∷ [])
    ∷ made (bytes "a '" ++ (replicate 33 200 ++ bytes "' b")) (w name 0 1 ∷ w bad 2 1 ∷ [])
    ∷ []

pub lines-read : T (all_lines (symbols ++ (names ++ (strings ++ (comments ++ (bad_bytes ++ (places ++ long)))))))
unfolding symbols names strings comments bad_bytes places long is_word are_words all_lines Words.opened
lines-read = tt

-- Every byte

-- so many times this kind
pub record Run : Type 0 where
  pub times : ℕ
  pub kind : ℕ

abbrev pub r : ℕ → ℕ → Run
r n k = record { times = n; kind = k }

pub spread : List Run → List ℕ
spread [] = []
spread (x ∷ xs) = replicate x.times x.kind ++ spread xs

-- the kind of the n-th word, from 0
pub kind_at : ℕ → List Word → ℕ
kind_at n [] = 999
kind_at zero (x ∷ xs) = x.kind
kind_at (suc n) (x ∷ xs) = kind_at n xs

-- the kinds of the n-th words of texts that differ in one byte, for so many bytes from b on
pub kinds_from : ℕ → ℕ → ℕ → (ℕ → List ℕ) → List ℕ
kinds_from zero b n text = []
kinds_from (suc k) b n text = kind_at n (words (text b)) ∷ kinds_from k (suc b) n text

-- each byte as the whole text: blanks 9, 10, 13, 32 and `%` leave the end alone, a single quote is not closed
pub alone : List Run
alone =
    r 9 bad ∷ r 2 last ∷ r 2 bad ∷ r 1 last ∷ r 18 bad ∷ r 1 last
    ∷ r 1 (code "|") ∷ r 1 bad ∷ r 1 (code "#") ∷ r 1 bad ∷ r 1 last ∷ r 2 bad
    ∷ r 1 (code "(") ∷ r 1 (code ")") ∷ r 1 (code "*") ∷ r 1 bad ∷ r 1 (code ",") ∷ r 1 bad ∷ r 1 (code ".") ∷ r 1 bad
    ∷ r 10 number ∷ r 1 (code ":") ∷ r 1 (code ";") ∷ r 1 bad ∷ r 1 (code "=") ∷ r 1 (code ">") ∷ r 1 (code "?") ∷ r 1 (code "@")
    ∷ r 26 name ∷ r 1 (code "[") ∷ r 1 bad ∷ r 1 (code "]") ∷ r 1 (code "^") ∷ r 2 bad
    ∷ r 26 name ∷ r 1 (code "{") ∷ r 1 (code "|") ∷ r 1 (code "}") ∷ r 130 bad ∷ []

pub bytes-alone : T (same (kinds_from 256 0 0 (λ b. b ∷ [])) (spread alone))
unfolding spread kind_at kinds_from alone Words.opened
bytes-alone = tt

-- each byte between quotes: all but line feed and the quote make a string
pub quoted : List Run
quoted = r 10 string ∷ r 1 bad ∷ r 28 string ∷ r 1 bad ∷ r 216 string ∷ []

pub bytes-quoted : T (same (kinds_from 256 0 0 (λ b. code "'" ∷ b ∷ code "'" ∷ [])) (spread quoted))
unfolding spread kind_at kinds_from quoted Words.opened
bytes-quoted = tt

-- each byte in a comment before `:`: line feed alone ends it
pub commented : List Run
commented = r 10 last ∷ r 1 (code ":") ∷ r 245 last ∷ []

pub bytes-commented : T (same (kinds_from 256 0 0 (λ b. code "%" ∷ b ∷ code ":" ∷ [])) (spread commented))
unfolding spread kind_at kinds_from commented Words.opened
bytes-commented = tt

-- each byte from 0 to 127 between `a` and `:`: a digit, a letter or an underscore goes on with the name, so that `:` is the second word
pub joined : List Run
joined =
    r 9 bad ∷ r 2 (code ":") ∷ r 2 bad ∷ r 1 (code ":") ∷ r 18 bad ∷ r 1 (code ":")
    ∷ r 1 (code "|") ∷ r 1 bad ∷ r 1 (code "#") ∷ r 1 bad ∷ r 1 last ∷ r 2 bad
    ∷ r 1 (code "(") ∷ r 1 (code ")") ∷ r 1 (code "*") ∷ r 1 bad ∷ r 1 (code ",") ∷ r 1 bad ∷ r 1 (code ".") ∷ r 1 bad
    ∷ r 10 (code ":") ∷ r 1 (code ":") ∷ r 1 (code ";") ∷ r 1 bad ∷ r 1 (code "=") ∷ r 1 (code ">") ∷ r 1 (code "?") ∷ r 1 (code "@")
    ∷ r 26 (code ":") ∷ r 1 (code "[") ∷ r 1 bad ∷ r 1 (code "]") ∷ r 1 (code "^") ∷ r 1 (code ":") ∷ r 1 bad
    ∷ r 26 (code ":") ∷ r 1 (code "{") ∷ r 1 (code "|") ∷ r 1 (code "}") ∷ r 2 bad ∷ []

pub bytes-joined : T (same (kinds_from 128 0 1 (λ b. code "a" ∷ b ∷ code ":" ∷ [])) (spread joined))
unfolding spread kind_at kinds_from joined Words.opened
bytes-joined = tt

-- Numbers

-- the value of the digits, leading zeros or not
pub values : T (eqb (value 0 (bytes "0")) 0 && eqb (value 0 (bytes "7")) 7 && eqb (value 0 (bytes "007")) 7 && eqb (value 0 (bytes "10")) 10
    && eqb (value 0 (bytes "65535")) 65535 && eqb (value 0 (bytes "65536")) 65536
    && eqb (value 0 (bytes "99999999999999999999999999999999999")) 99999999999999999999999999999999999)
unfolding Words.opened
values = tt
