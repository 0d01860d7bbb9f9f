-- Lines: of a text, and of a table's words.
use mathlib.Core.Bool.{Bool, true, false, cond}
use mathlib.Core.List.{List, [], ◌∷◌, ◌++◌}
use mathlib.Core.Path.{◌≡◌, refl, sym, ap, ◌∙◌}
use Prim.Native.Nat.{ℕ, suc, ◌+◌, ◌*◌, ◌/◌, ◌<◌, ◌≤◌, min}
use native.Mathlib.Nat.{min-eq_left, min-eq_right}
use native.Mathlib.Omega.{arith}
use native.Mathlib.Numerals.{add-one}
use borrow.Author.Tests.{ltb-true, ltb-false}
use lib.Dec.{eqb, ltb}
use lib.ListN.{length, get_or, take, drop, length-append, length-take}
use lib.Seq.{get_or-take, length-take-le, take_all, take-length, take-take, drop-cons, drop-length}
use Rattle.std.specs.Prelude.{if◌then◌else◌, count_by}
use Rattle.std.proofs.lemmas.List.Recursion.{is_count_by}
use Rattle.machine.specs.Bytes.{count, words_of, table_of}
use Rattle.machine.proofs.Bytes.{length-words_of}
use Rattle.listing.specs.Listing.{line_feeds, line_at, word_line, word_lines, decimal}
use Rattle.listing.specs.Written.{Puts}
use Rattle.listing.proofs.Laws.{Left, left-then, left-done, length-4, length-5}

pub feeds-append : (s t : List ℕ) → line_feeds (s ++ t) ≡ line_feeds s + line_feeds t
unfolding line_feeds
feeds-append [] t = omega arith
feeds-append (b ∷ s) t = go (eqb b 10) (feeds-append s t)
  where
    go : (e : Bool) → line_feeds (s ++ t) ≡ line_feeds s + line_feeds t
        → (if e then suc (line_feeds (s ++ t)) else line_feeds (s ++ t)) ≡ (if e then suc (line_feeds s) else line_feeds s) + line_feeds t
    go true h = omega arith
    go false h = omega arith

-- Counting a text byte by byte

-- the same by std's count
pub feeds-counted : (text : List ℕ) → line_feeds text ≡ count_by (λ (b : ℕ). eqb b 10) text
unfolding line_feeds
feeds-counted text = is_count_by line_feeds (λ (b : ℕ). eqb b 10) refl step text
  where
    step : (b : ℕ) (rest : List ℕ) → line_feeds (b ∷ rest) ≡ cond (eqb b 10) (1 + line_feeds rest) (line_feeds rest)
    step b rest = go (eqb b 10)
      where
        go : (t : Bool) → (if t then suc (line_feeds rest) else line_feeds rest) ≡ cond t (1 + line_feeds rest) (line_feeds rest)
        go true = omega arith
        go false = refl

pub feeds-few : (s : List ℕ) → line_feeds s ≤ length s
unfolding line_feeds
feeds-few [] = omega arith
feeds-few (b ∷ s) = go (eqb b 10) (feeds-few s)
  where
    go : (t : Bool) → line_feeds s ≤ length s → (if t then suc (line_feeds s) else line_feeds s) ≤ suc (length s)
    go true h = omega arith
    go false h = omega arith

take_min : (n : ℕ) (s : List ℕ) → take (min n (length s)) s ≡ take n s
take_min n s = go (ltb n (length s)) refl
  where
    go : (t : Bool) → ltb n (length s) ≡ t → take (min n (length s)) s ≡ take n s
    go true e = let h : n ≤ length s = omega (arith, ltb-true n (length s) e) in rw (min-eq_left h) refl
    go false e = let h : length s ≤ n = omega (arith, ltb-false n (length s) e) in rw (min-eq_right h) (take-length s ∙ sym (take_all n s h))

-- past the end there are no more
pub line-end : (text : List ℕ) (start : ℕ) {feeds : ℕ} → feeds ≡ line_feeds (take (min start (length text)) text) → 1 + feeds ≡ line_at text start
unfolding line_at
line-end text start e = ap (λ (n : ℕ). 1 + n) e ∙ ap (λ (s : List ℕ). 1 + line_feeds s) (take_min start text)

-- The lines of words

-- the first n words of a buffer
pub first-words : (s : List ℕ) (n : ℕ) → 2 * n ≤ length s → length (take n (words_of s)) ≡ n
unfolding count
first-words s n h = length-take-le n (words_of s) (omega (arith, length-words_of s))

take-both : (a b : ℕ) (l : List ℕ) → take (min (min a b) (length l)) l ≡ take a (take b l)
take-both a b l = take_min (min a b) l ∙ go (ltb a b) refl
  where
    go : (t : Bool) → ltb a b ≡ t → take (min a b) l ≡ take a (take b l)
    go true e = let h : a ≤ b = omega (arith, ltb-true a b e) in rw (min-eq_left h) (sym (take-take a b l h))
    go false e = let h : b ≤ a = omega (arith, ltb-false a b e) in rw (min-eq_right h) (sym (take_all a (take b l) (omega (arith, length-take b l))))

-- the words that are listed
pub listed-words : (s : List ℕ) (words n : ℕ) → n ≡ min words (min (length s / 2) 4096) → take n (words_of s) ≡ take words (table_of s)
unfolding table_of count
listed-words s words n e =
    let q : n ≡ min (min words 4096) (length (words_of s)) = omega (arith, length-words_of s) in
    rw q (take-both words 4096 (words_of s))

lines_next : (ws : List ℕ) (i : ℕ) → i < length ws → word_lines (i + 1) (drop i ws) ≡ word_line (i + 1) (get_or ws i 0) ++ word_lines (i + 1 + 1) (drop (i + 1) ws)
unfolding word_lines
lines_next ws i h =
    let e : i + 1 + 1 ≡ suc (i + 1) = omega arith in
    rw (drop-cons ws i 0 h, e, add-one i) refl

lines_none : (ws : List ℕ) (n : ℕ) → word_lines n (drop (length ws) ws) ≡ []
unfolding word_lines
lines_none ws n = rw (drop-length ws) refl

-- one line more is written
pub left-line : {xs old t u : List ℕ} {i j k w : ℕ} (s : List ℕ) (n m : ℕ) → 2 * n ≤ length s → m < n → w ≡ get_or (words_of s) m 0
    → Left xs old i (word_lines (m + 1) (drop m (take n (words_of s)))) t j → Puts (word_line (m + 1) w) t j u k
    → Left xs old i (word_lines (m + 1 + 1) (drop (m + 1) (take n (words_of s)))) u k
left-line {w = w} s n m h g e l p =
    let x : get_or (take n (words_of s)) m 0 ≡ w = get_or-take n (words_of s) m 0 g ∙ sym e in
    let y = lines_next (take n (words_of s)) m (omega (arith, first-words s n h)) in
    left-then (rw (y ∙ ap (λ (v : ℕ). word_line (m + 1) v ++ word_lines (m + 1 + 1) (drop (m + 1) (take n (words_of s)))) x) at l) p

pub left-lines : {xs old t : List ℕ} {i j : ℕ} (s : List ℕ) (n m : ℕ) → 2 * n ≤ length s → m ≡ n → Left xs old i (word_lines (m + 1) (drop m (take n (words_of s)))) t j → Puts xs old i t j
left-lines s n m h e l =
    let z : m ≡ length (take n (words_of s)) = e ∙ sym (first-words s n h) in
    let y : word_lines (m + 1) (drop m (take n (words_of s))) ≡ [] = ap (λ (k : ℕ). word_lines (m + 1) (drop k (take n (words_of s)))) z ∙ lines_none (take n (words_of s)) (m + 1) in
    left-done (rw y at l)

pub line-short : (location word : ℕ) → location < 10000 → word < 65536 → length (word_line location word) ≤ 11
unfolding word_line
line-short l w h g =
    let a = length-4 l h in
    let b = length-5 w g in
    omega (arith, length-append (decimal l ++ (32 ∷ []) ++ decimal w) (10 ∷ []), length-append (decimal l ++ (32 ∷ [])) (decimal w), length-append (decimal l) (32 ∷ []))
