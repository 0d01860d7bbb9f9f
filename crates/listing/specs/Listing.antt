-- What the lister prints: the bytes, with a line feed after each line.
use Rattle.std.specs.Prelude.{Bool, true, false, List, [], ◌∷◌, ◌++◌, ℕ, zero, suc, ◌+◌, ◌/◌, ◌%◌, eqb, ltb, length, take, if◌then◌else◌}
use Rattle.base.specs.Common.{bytes}
use Rattle.processor.specs.Process.{Answer, accepted, refused}

-- the last k decimal digits of n, no zero in front
unfoldable pub digits : ℕ → ℕ → List ℕ
digits zero n = []
digits (suc k) n = let front = digits k (n / 10) in (if ltb n 10 then [] else front) ++ ((48 + n % 10) ∷ [])

-- a number in decimal: n + 1 digits are always enough
unfoldable pub decimal : ℕ → List ℕ
decimal n = digits (suc n) n

-- the line feeds in a text
unfoldable pub line_feeds : List ℕ → ℕ
line_feeds [] = 0
line_feeds (b ∷ s) = let rest = line_feeds s in if eqb b 10 then suc rest else rest

-- "line of the word, from 1": of the word that starts there
unfoldable pub line_at : List ℕ → ℕ → ℕ
line_at text start = 1 + line_feeds (take start text)

-- a location and its word
unfoldable pub word_line : ℕ → ℕ → List ℕ
word_line location word = decimal location ++ bytes " " ++ decimal word ++ bytes "\n"

-- the lines of words that stand from that location on
unfoldable pub word_lines : ℕ → List ℕ → List ℕ
word_lines location [] = []
word_lines location (w ∷ ws) = let rest = word_lines (suc location) ws in word_line location w ++ rest

-- "verdict (yes or no)", and the end of its line
unfoldable pub verdict_end : Bool → List ℕ
verdict_end true = bytes "yes\n"
verdict_end false = bytes "no\n"

-- "`table 1 finishing yes`": "the count of words and verdict (yes or no)"
unfoldable pub heading : ℕ → Bool → List ℕ
heading n verdict = bytes "table " ++ decimal n ++ bytes " finishing " ++ verdict_end verdict

-- "The lister prints Q, alone and decimal, on a second line before the words for finishing programs; with 47 that line is absent": 0 stands for no Q
unfoldable pub figure_line : ℕ → List ℕ
figure_line zero = []
figure_line (suc q) = decimal (suc q) ++ bytes "\n"

-- "then a line for each location and its word"; "locations from 1"
unfoldable pub table_listing : List ℕ → Bool → ℕ → List ℕ
table_listing words verdict figure = heading (length words) verdict ++ figure_line figure ++ word_lines 1 words

-- "`refused 7 line 1`: number, and line of the word"
unfoldable pub refusal_listing : ℕ → ℕ → List ℕ
refusal_listing number line = bytes "refused " ++ decimal number ++ bytes " line " ++ decimal line ++ bytes "\n"

-- what is printed for a text that got this answer and has this figure
unfoldable pub listing : List ℕ → Answer → ℕ → List ℕ
listing text (accepted words verdict) figure = table_listing words verdict figure
listing text (refused number part) figure = refusal_listing number (line_at text part.start)

-- all of this file computes where this is unfolded
unfoldable pub opened : Unit {0}
unfolding digits decimal line_feeds line_at word_line word_lines verdict_end heading figure_line table_listing refusal_listing listing
opened = tt
