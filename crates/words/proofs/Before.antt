-- "Inside a string the percent sign is an ordinary byte; outside it begins a comment as before.": a text that had words keeps them.
use mathlib.Core.Bool.{Bool, true, false, ◌&&◌, ◌||◌, not}
use mathlib.Core.List.{List, [], ◌∷◌}
use mathlib.Core.Path.{◌≡◌, refl, sym, ap, subst, ◌∙◌}
use Prim.Native.Nat.{ℕ, zero, suc, ◌+◌, ◌-◌}
use native.Mathlib.Omega.{arith}
use lib.Dec.{eqb, leb}
use lib.ListN.{take, get_or}
use borrow.Author.Tests.{eqb-true}
use Rattle.std.specs.Prelude.{if◌then◌else◌}
use Rattle.base.specs.Common.{same}
use Rattle.words.specs.Words.{Word, Spelling, reserved, kind_of, letter, digit, name_byte, symbol, bad, last, string, run, blank, string_byte, string_here, Found, word_here, words_from, words}
use Rattle.words.specs.Words
use Rattle.words.specs.Before.{string_byte_before, string_here_before, word_here_before, words_from_before, words_before, well_spelt}

-- a byte of a string then is one now
byte-now : (b : ℕ) → string_byte_before b ≡ true → string_byte b ≡ true
unfolding string_byte_before string_byte
byte-now b h = go (eqb b 39) (eqb b 10) (eqb b 37) h
  where
    go : (x y z : Bool) → not (x || y || z) ≡ true → not (x || y) ≡ true
    go true y z h = h
    go false true z h = h
    go false false z h = refl

quote-now : (b : ℕ) → b ≡ 39 → string_byte b ≡ false
unfolding string_byte
quote-now b e = rw e refl

-- a string that was closed has the same bytes
run-now : (s : List ℕ) → get_or s (run string_byte_before s) 0 ≡ 39 → run string_byte s ≡ run string_byte_before s
unfolding run
run-now [] h = refl
run-now (b ∷ s) h = go (string_byte_before b) refl h (run-now s)
  where
    go : (t : Bool) → string_byte_before b ≡ t → get_or (b ∷ s) (if t then suc (run string_byte_before s) else 0) 0 ≡ 39
        → (get_or s (run string_byte_before s) 0 ≡ 39 → run string_byte s ≡ run string_byte_before s)
        → (if string_byte b then suc (run string_byte s) else 0) ≡ (if t then suc (run string_byte_before s) else 0)
    go true e h same = rw (byte-now b e) (ap (λ n. suc n) (same h))
    go false e h same = rw (quote-now b h) refl

abbrev picked : Bool → Bool → Bool → ℕ → Found
picked a b c n = if a && b && c then record { kind = string; size = n + 2 } else record { kind = bad; size = 1 }

not_both : {A : Type 0} → true ≡ false → A
not_both e = let z : ◌≡◌ {A = ℕ} 0 1 = cc in absurd (omega arith)

-- what is not closed is bad
unclosed : (a b c : Bool) (n : ℕ) → c ≡ false → eqb (picked a b c n).kind bad ≡ false → ⊥
unclosed true true true n e h = not_both e
unclosed true true false n e h = not_both h
unclosed true false c n e h = not_both h
unclosed false b c n e h = not_both h

-- a string then is the same string now
string-now : (s : List ℕ) → eqb (string_here_before s).kind bad ≡ false → string_here s ≡ string_here_before s
unfolding string_here string_here_before
string-now s h = go (eqb (get_or s (run string_byte_before s) 0) 39) refl h
  where
    go : (c : Bool) → eqb (get_or s (run string_byte_before s) 0) 39 ≡ c → eqb (string_here_before s).kind bad ≡ false → string_here s ≡ string_here_before s
    go true e h = let n = run-now s (eqb-true (get_or s (run string_byte_before s) 0) 39 e) in ap (λ k. picked (leb 1 k) (leb k 32) (eqb (get_or s k 0) 39) k) n
    go false e h =
        absurd (unclosed (leb 1 (run string_byte_before s)) (leb (run string_byte_before s) 32) (eqb (get_or s (run string_byte_before s) 0) 39) (run string_byte_before s) e h)

pub word-string : (b : ℕ) (s : List ℕ) → b ≡ 39 → word_here b s ≡ string_here s
unfolding Words.opened
word-string b s e = rw e refl

-- a word then is the same word now
word-now : (b : ℕ) (s : List ℕ) → eqb (word_here_before b s).kind bad ≡ false → word_here b s ≡ word_here_before b s
unfolding word_here_before
word-now b s h = go (eqb b 39) refl h
  where
    go : (t : Bool) → eqb b 39 ≡ t → eqb (if◌then◌else◌ {A = Found} t (string_here_before s) (word_here b s)).kind bad ≡ false
        → word_here b s ≡ (if t then string_here_before s else word_here b s)
    go true e h = word-string b s (eqb-true b 39 e) ∙ string-now s h
    go false e h = refl

-- No word that is found is the end of the text

-- what is found in either case has the property
either : (P : Found → Type 0) (t : Bool) (f g : Found) → (t ≡ true → P f) → (t ≡ false → P g) → P (if t then f else g)
either P true f g h h' = h refl
either P false f g h h' = h' refl

abbrev Found-before-end : Found → Type 0
Found-before-end f = eqb f.kind last ≡ false

-- no spelling means the end
none-ends : List Spelling → Bool
none-ends [] = true
none-ends (s ∷ more) = not (eqb s.means last) && none-ends more

kind-known : (w : List ℕ) (l : List Spelling) → none-ends l ≡ true → eqb (kind_of w l) last ≡ false
unfolding kind_of none-ends
kind-known w [] h = refl
kind-known w (s ∷ more) h = go (same w s.spelt) (eqb s.means last) refl h (kind-known w more)
  where
    go : (t e : Bool) → eqb s.means last ≡ e → not e && none-ends more ≡ true → (none-ends more ≡ true → eqb (kind_of w more) last ≡ false)
        → eqb (if t then s.means else kind_of w more) last ≡ false
    go true true d h later = not_both (sym h)
    go true false d h later = d
    go false true d h later = not_both (sym h)
    go false false d h later = later h

symbol-known : (b : ℕ) → symbol b ≡ true → eqb b last ≡ false
unfolding symbol
symbol-known b h = go (eqb b last) refl
  where
    go : (t : Bool) → eqb b last ≡ t → t ≡ false
    go true e = not_both (sym h ∙ ap symbol (eqb-true b last e))
    go false e = refl

string-known : (s : List ℕ) → Found-before-end (string_here s)
unfolding string_here
string-known s = go (leb 1 (run string_byte s)) (leb (run string_byte s) 32) (eqb (get_or s (run string_byte s) 0) 39) (run string_byte s)
  where
    go : (a b c : Bool) (n : ℕ) → Found-before-end (picked a b c n)
    go true true true n = refl
    go true true false n = refl
    go true false c n = refl
    go false b c n = refl

word-known : (b : ℕ) (s : List ℕ) → Found-before-end (word_here b s)
unfolding word_here reserved none-ends
word-known b s =
    either Found-before-end (letter b) _ _ (λ _. kind-known (take (suc (run name_byte s)) (b ∷ s)) reserved refl) (λ _.
    either Found-before-end (digit b) _ _ (λ _. refl) (λ _.
    either Found-before-end (eqb b 39) _ _ (λ _. string-known s) (λ _.
    either Found-before-end (eqb b 62 && eqb (get_or s 0 0) 62) _ _ (λ _. refl) (λ _.
    either Found-before-end (eqb b 33) _ _ (λ _. refl) (λ _.
    either Found-before-end (symbol b) _ _ (λ t. symbol-known b t) (λ _. refl))))))

-- the words from a place on: the word found there, and behind it what `rest` has, which is told how many bytes to skip
abbrev going : ℕ → ℕ → List ℕ → (ℕ → List Word) → Found → List Word
going at b s rest f =
    let word : Word = record { kind = f.kind; start = at; text = take f.size (b ∷ s) } in
    if eqb f.kind bad then word ∷ [] else word ∷ rest (f.size - 1)

going-now : (at b : ℕ) (s : List ℕ) (rest before : ℕ → List Word) (f : Found) → Found-before-end f → ((n : ℕ) → well_spelt (before n) ≡ true → rest n ≡ before n)
    → well_spelt (going at b s before f) ≡ true → going at b s rest f ≡ going at b s before f
unfolding well_spelt
going-now at b s rest before f k same h = go (eqb f.kind bad) refl h
  where
    word : Word
    word = record { kind = f.kind; start = at; text = take f.size (b ∷ s) }

    go : (t : Bool) → eqb f.kind bad ≡ t → well_spelt (if t then word ∷ [] else word ∷ before (f.size - 1)) ≡ true
        → (if t then word ∷ [] else word ∷ rest (f.size - 1)) ≡ (if t then word ∷ [] else word ∷ before (f.size - 1))
    go true e h = refl
    go false e h = ap (λ ws. word ∷ ws) (same (f.size - 1) (rw (e, k) at h))

not_bad : (at b : ℕ) (s : List ℕ) (rest : ℕ → List Word) (f : Found) → well_spelt (going at b s rest f) ≡ true → eqb f.kind bad ≡ false
unfolding well_spelt
not_bad at b s rest f h = go (eqb f.kind bad) refl h
  where
    word : Word
    word = record { kind = f.kind; start = at; text = take f.size (b ∷ s) }

    go : (t : Bool) → eqb f.kind bad ≡ t → well_spelt (if t then word ∷ [] else word ∷ rest (f.size - 1)) ≡ true → eqb f.kind bad ≡ false
    go true e h = not_both (sym (rw e at h))
    go false e h = e

from-now : (skip at : ℕ) (s : List ℕ) → well_spelt (words_from_before skip at s) ≡ true → words_from skip at s ≡ words_from_before skip at s
unfolding words_from words_from_before
from-now skip at [] h = refl
from-now (suc n) at (b ∷ s) h = from-now n (suc at) s h
from-now zero at (b ∷ s) h = go (blank b) (eqb b 37) h (λ n. from-now n (suc at) s)
  where
    go : (x y : Bool)
        → well_spelt (if x then words_from_before 0 (suc at) s else if y then words_from_before (run (λ c. not (eqb c 10)) s) (suc at) s
        else going at b s (λ n. words_from_before n (suc at) s) (word_here_before b s)) ≡ true
        → ((n : ℕ) → well_spelt (words_from_before n (suc at) s) ≡ true → words_from n (suc at) s ≡ words_from_before n (suc at) s)
        → (if x then words_from 0 (suc at) s else if y then words_from (run (λ c. not (eqb c 10)) s) (suc at) s
        else going at b s (λ n. words_from n (suc at) s) (word_here b s))
        ≡ (if x then words_from_before 0 (suc at) s else if y then words_from_before (run (λ c. not (eqb c 10)) s) (suc at) s
        else going at b s (λ n. words_from_before n (suc at) s) (word_here_before b s))
    go true y h same = same 0 h
    go false true h same = same (run (λ c. not (eqb c 10)) s) h
    go false false h same =
        let e = word-now b s (not_bad at b s (λ n. words_from_before n (suc at) s) (word_here_before b s) h) in
        ap (going at b s (λ n. words_from n (suc at) s)) e
        ∙ going-now at b s (λ n. words_from n (suc at) s) (λ n. words_from_before n (suc at) s) (word_here_before b s) (subst Found-before-end e (word-known b s)) same h

-- a text each of whose bytes and quotes made a word has the same words now; no other text was accepted
pub same_words : (text : List ℕ) → well_spelt (words_before text) ≡ true → words text ≡ words_before text
unfolding words words_before
same_words text h = from-now 0 0 text h
