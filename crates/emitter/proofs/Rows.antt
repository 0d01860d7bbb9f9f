-- A buffer as the row of words that is written into it so far. Assumes nothing.
use Prim.Native.Nat.{ℕ, zero, suc, ◌+◌, ◌*◌, ◌/◌, ◌%◌, ◌<◌, ◌≤◌}
use mathlib.Core.Path.{◌≡◌, refl, sym, ap, ◌∙◌}
use mathlib.Core.List.{List, [], ◌∷◌, ◌++◌}
use native.Mathlib.Omega.{arith}
use native.Mathlib.Nat.{add-zero}
use lib.ListN.{length, get_or, set, length-set}
use lib.Seq.{set-set, set_comm, get_or-set_same, get_or-set_other}
use Rattle.machine.specs.Bytes.{words_of, word_at, count}
use Rattle.machine.proofs.Bytes.{get_d-words_of}
use Rattle.emitter.specs.Words.{words, set_word, puts}
use Rattle.emitter.proofs.Laws.{set-in, length-set_word, length-puts, puts-append}

set-two : (s : List ℕ) (i j a b : ℕ) → i < words s → j < words s → set_word (set_word s i a) j b ≡ set (set (set (set s (2 * i) (a / 256)) (2 * i + 1) (a % 256)) (2 * j) (b / 256)) (2 * j + 1) (b % 256)
set-two s i j a b h k = set-in (set_word s i a) j b (omega (arith, length-set_word s i a)) ∙ ap (λ (t : List ℕ). set (set t (2 * j) (b / 256)) (2 * j + 1) (b % 256)) (set-in s i a h)

set-word-same : (s : List ℕ) (i a b : ℕ) → i < words s → set_word (set_word s i a) i b ≡ set_word s i b
set-word-same s i a b h =
    set-two s i i a b h h
    ∙ (ap (λ (t : List ℕ). set t (2 * i + 1) (b % 256)) (set_comm (set s (2 * i) (a / 256)) (2 * i + 1) (2 * i) (a % 256) (b / 256) (λ h. omega arith))
    ∙ (set-set (set (set s (2 * i) (a / 256)) (2 * i) (b / 256)) (2 * i + 1) (a % 256) (b % 256)
    ∙ (ap (λ (t : List ℕ). set t (2 * i + 1) (b % 256)) (set-set s (2 * i) (a / 256) (b / 256)) ∙ sym (set-in s i b h))))

set-word-comm : (s : List ℕ) (i j a b : ℕ) → i < words s → j < words s → (i ≡ j → ⊥) → set_word (set_word s i a) j b ≡ set_word (set_word s j b) i a
set-word-comm s i j a b x y h =
    let c00 : (2 * i ≡ 2 * j → ⊥) = λ e. h (omega arith) in
    let c10 : (2 * i + 1 ≡ 2 * j → ⊥) = λ e. omega arith in
    let c01 : (2 * i ≡ 2 * j + 1 → ⊥) = λ e. omega arith in
    let c11 : (2 * i + 1 ≡ 2 * j + 1 → ⊥) = λ e. h (omega arith) in
    set-two s i j a b x y
    ∙ (ap (λ (t : List ℕ). set t (2 * j + 1) (b % 256)) (set_comm (set s (2 * i) (a / 256)) (2 * i + 1) (2 * j) (a % 256) (b / 256) c10 ∙ ap (λ (t : List ℕ). set t (2 * i + 1) (a % 256)) (set_comm s (2 * i) (2 * j) (a / 256) (b / 256) c00))
    ∙ (set_comm (set (set s (2 * j) (b / 256)) (2 * i) (a / 256)) (2 * i + 1) (2 * j + 1) (a % 256) (b % 256) c11
    ∙ (ap (λ (t : List ℕ). set t (2 * i + 1) (a % 256)) (set_comm (set s (2 * j) (b / 256)) (2 * i) (2 * j + 1) (a / 256) (b % 256) c01) ∙ sym (set-two s j i b a y x))))

-- a word before a row
pub set_before : (s : List ℕ) (i j a : ℕ) (ws : List ℕ) → j < i → i + length ws ≤ words s → set_word (puts s i ws) j a ≡ puts (set_word s j a) i ws
unfolding puts
set_before s i j a [] h k = refl
set_before s i j a (w ∷ ws) h k =
    set_before (set_word s i w) (i + 1) j a ws (omega arith) (omega (arith, length-set_word s i w)) ∙ ap (λ (t : List ℕ). puts t (i + 1) ws) (set-word-comm s i j w a (omega arith) (omega arith) (λ e. omega arith))

-- a word of a row
pub set-inside : (s : List ℕ) (i k a : ℕ) (ws : List ℕ) → k < length ws → i + length ws ≤ words s → set_word (puts s i ws) (i + k) a ≡ puts s i (set ws k a)
unfolding puts
set-inside s i k a [] h l = absurd (omega arith)
set-inside s i zero a (w ∷ ws) h l =
    ap (λ (j : ℕ). set_word (puts (set_word s i w) (i + 1) ws) j a) (add-zero i)
    ∙ (set_before (set_word s i w) (i + 1) i a ws (omega arith) (omega (arith, length-set_word s i w)) ∙ ap (λ (t : List ℕ). puts t (i + 1) ws) (set-word-same s i w a (omega arith)))
set-inside s i (suc k) a (w ∷ ws) h l =
    let e : i + suc k ≡ i + 1 + k = omega arith in
    ap (λ (j : ℕ). set_word (puts (set_word s i w) (i + 1) ws) j a) e ∙ set-inside (set_word s i w) (i + 1) k a ws (omega arith) (omega (arith, length-set_word s i w))

pub set-row : (s : List ℕ) (k a : ℕ) (ws : List ℕ) → k < length ws → length ws ≤ words s → set_word (puts s 0 ws) k a ≡ puts s 0 (set ws k a)
set-row s k a ws h l = let e : k ≡ 0 + k = omega arith in ap (λ (j : ℕ). set_word (puts s 0 ws) j a) e ∙ set-inside s 0 k a ws h (omega arith)

-- two rows, the second before the first
pub puts-before : (s : List ℕ) (i j : ℕ) (xs ys : List ℕ) → j + length ys ≤ i → i + length xs ≤ words s → puts (puts s i xs) j ys ≡ puts (puts s j ys) i xs
unfolding puts
puts-before s i j xs [] h k = refl
puts-before s i j xs (y ∷ ys) h k =
    ap (λ (t : List ℕ). puts t (j + 1) ys) (set_before s i j y xs (omega arith) k) ∙ puts-before (set_word s j y) i (j + 1) xs ys (omega arith) (omega (arith, length-set_word s j y))

-- words behind a row
pub row-append : (s : List ℕ) (ws vs : List ℕ) (l : ℕ) → length ws ≡ l → puts (puts s 0 ws) l vs ≡ puts s 0 (ws ++ vs)
row-append s ws vs l e = let z : 0 + length ws ≡ l = omega arith in sym (puts-append s 0 ws vs ∙ ap (λ (j : ℕ). puts (puts s 0 ws) j vs) z)

-- reading back
word-other : (s : List ℕ) (i j a : ℕ) → i < words s → (j ≡ i → ⊥) → word_at (set_word s i a) j ≡ word_at s j
unfolding word_at
word-other s i j a k h =
    let c00 : (2 * j ≡ 2 * i → ⊥) = λ e. h (omega arith) in
    let c10 : (2 * j + 1 ≡ 2 * i → ⊥) = λ e. omega arith in
    let c01 : (2 * j ≡ 2 * i + 1 → ⊥) = λ e. omega arith in
    let c11 : (2 * j + 1 ≡ 2 * i + 1 → ⊥) = λ e. h (omega arith) in
    let t = set s (2 * i) (a / 256) in
    ap (λ (u : List ℕ). get_or u (2 * j) 0 * 256 + get_or u (2 * j + 1) 0) (set-in s i a k)
    ∙ (ap (λ (v : ℕ). v * 256 + get_or (set t (2 * i + 1) (a % 256)) (2 * j + 1) 0) (get_or-set_other t (2 * i + 1) (2 * j) (a % 256) 0 c01 ∙ get_or-set_other s (2 * i) (2 * j) (a / 256) 0 c00)
    ∙ ap (λ (v : ℕ). get_or s (2 * j) 0 * 256 + v) (get_or-set_other t (2 * i + 1) (2 * j + 1) (a % 256) 0 c11 ∙ get_or-set_other s (2 * i) (2 * j + 1) (a / 256) 0 c10))

word_same : (s : List ℕ) (i a : ℕ) → i < words s → word_at (set_word s i a) i ≡ a
unfolding word_at
word_same s i a h =
    let t = set s (2 * i) (a / 256) in
    let l : length t ≡ length s = length-set s (2 * i) (a / 256) in
    let x : get_or (set t (2 * i + 1) (a % 256)) (2 * i) 0 ≡ a / 256 = get_or-set_other t (2 * i + 1) (2 * i) (a % 256) 0 (λ e. omega arith) ∙ get_or-set_same s (2 * i) (a / 256) 0 (omega arith) in
    let y : get_or (set t (2 * i + 1) (a % 256)) (2 * i + 1) 0 ≡ a % 256 = get_or-set_same t (2 * i + 1) (a % 256) 0 (omega arith) in
    ap (λ (u : List ℕ). get_or u (2 * i) 0 * 256 + get_or u (2 * i + 1) 0) (set-in s i a h) ∙ omega (arith, x, y)

word-before : (s : List ℕ) (i j : ℕ) (ws : List ℕ) → j < i → i + length ws ≤ words s → word_at (puts s i ws) j ≡ word_at s j
unfolding puts
word-before s i j [] h k = refl
word-before s i j (w ∷ ws) h k = word-before (set_word s i w) (i + 1) j ws (omega arith) (omega (arith, length-set_word s i w)) ∙ word-other s i j w (omega arith) (λ e. omega arith)

word-inside : (s : List ℕ) (i k : ℕ) (ws : List ℕ) → k < length ws → i + length ws ≤ words s → word_at (puts s i ws) (i + k) ≡ get_or ws k 0
unfolding puts
word-inside s i k [] h l = absurd (omega arith)
word-inside s i zero (w ∷ ws) h l =
    ap (λ (j : ℕ). word_at (puts (set_word s i w) (i + 1) ws) j) (add-zero i) ∙ (word-before (set_word s i w) (i + 1) i ws (omega arith) (omega (arith, length-set_word s i w)) ∙ word_same s i w (omega arith))
word-inside s i (suc k) (w ∷ ws) h l =
    let e : i + suc k ≡ i + 1 + k = omega arith in
    ap (λ (j : ℕ). word_at (puts (set_word s i w) (i + 1) ws) j) e ∙ word-inside (set_word s i w) (i + 1) k ws (omega arith) (omega (arith, length-set_word s i w))

counted : (s : List ℕ) (i : ℕ) → i < words s → i < count s
unfolding count
counted s i h = h

-- a word of a row, under another row behind it
pub word_row : (s ws xs : List ℕ) (l k : ℕ) → k < length ws → length ws ≤ l → l + length xs ≤ words s → get_or (words_of (puts (puts s 0 ws) l xs)) k 0 ≡ get_or ws k 0
word_row s ws xs l k h i f =
    let e : 0 + k ≡ k = omega arith in
    let L = length-puts s 0 ws in
    get_d-words_of (puts (puts s 0 ws) l xs) k (counted (puts (puts s 0 ws) l xs) k (omega (arith, L, length-puts (puts s 0 ws) l xs)))
    ∙ (word-before (puts s 0 ws) l k xs (omega arith) (omega arith) ∙ (ap (λ (j : ℕ). word_at (puts s 0 ws) j) (sym e) ∙ word-inside s 0 k ws h (omega arith)))

pub word_of : (s ws : List ℕ) (k : ℕ) → k < length ws → length ws ≤ words s → get_or (words_of (puts s 0 ws)) k 0 ≡ get_or ws k 0
unfolding puts
word_of s ws k h i = word_row s ws [] (length ws) k h (omega arith) (omega arith)
