-- Words as they were while a percent sign made a comment "wherever it stands", behind a quote too. Kept for the one theorem that compares
-- (`same_words`, proofs/Before.antt): a text that had words then has the same words now.
use Rattle.std.specs.Prelude.{Bool, true, false, ◌&&◌, ◌||◌, not, List, [], ◌∷◌, ℕ, zero, suc, ◌+◌, ◌-◌, eqb, leb, take, get_or, if◌then◌else◌}
use Prim.Native.Char.{code}
use Rattle.words.specs.Words.{Word, bad, last, string, run, blank, Found, word_here}

-- a byte that might stand in a string
unfoldable pub string_byte_before : ℕ → Bool
string_byte_before b = not (eqb b (code "'") || eqb b 10 || eqb b (code "%"))

unfoldable pub string_here_before : List ℕ → Found
string_here_before s =
    let inside = run string_byte_before s in
    if leb 1 inside && leb inside 32 && eqb (get_or s inside 0) (code "'") then record { kind = string; size = inside + 2 } else record { kind = bad; size = 1 }

-- the word that begins with the byte b before s: but for a string as now
unfoldable pub word_here_before : ℕ → List ℕ → Found
word_here_before b s = if eqb b (code "'") then string_here_before s else word_here b s

unfoldable pub words_from_before : ℕ → ℕ → List ℕ → List Word
words_from_before skip at [] = record { kind = last; start = at; text = [] } ∷ []
words_from_before (suc n) at (b ∷ s) = words_from_before n (suc at) s
words_from_before zero at (b ∷ s) =
    let gap = words_from_before 0 (suc at) s in
    let comment = words_from_before (run (λ c. not (eqb c 10)) s) (suc at) s in
    let here = word_here_before b s in
    let word : Word = record { kind = here.kind; start = at; text = take here.size (b ∷ s) } in
    let more = word ∷ words_from_before (here.size - 1) (suc at) s in
    if blank b then gap
    else if eqb b (code "%") then comment
    else if eqb here.kind bad then word ∷ []
    else more

unfoldable pub words_before : List ℕ → List Word
words_before text = words_from_before 0 0 text

-- every byte and quote makes a word, up to the end of the text
unfoldable pub well_spelt : List Word → Bool
well_spelt [] = true
well_spelt (w ∷ ws) = let rest = well_spelt ws in if eqb w.kind bad then false else if eqb w.kind last then true else rest

-- all of this file computes where this is unfolded
unfoldable pub opened : Unit {0}
unfolding string_byte_before string_here_before word_here_before words_from_before words_before well_spelt
opened = tt
