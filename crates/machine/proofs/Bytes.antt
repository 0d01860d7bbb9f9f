-- Words and bytes: each is the other, and an odd last byte counts for nothing.
use mathlib.Core.Path.{◌≡◌, refl, sym, ap, ◌∙◌}
use mathlib.Core.List.{List, [], ◌∷◌, ◌++◌, append-nil}
use mathlib.Core.Option.{none, some}
use Prim.Native.Nat.{ℕ, zero, suc, ◌+◌, ◌*◌, ◌/◌, ◌%◌, ◌<◌, ◌≤◌}
use native.Mathlib.Omega.{arith}
use lib.ListN.{length, get_or, get_elem?, length-take, replicate}
use Rattle.machine.specs.Bytes.{count, words_of, word_at, table_of, bytes_of}
use Rattle.machine.specs.Decode.{fetch}

pub length-words_of : (s : List ℕ) → length (words_of s) ≡ count s
unfolding words_of count
length-words_of [] = refl
length-words_of (h ∷ []) = refl
length-words_of (h ∷ l ∷ s) = let ih = length-words_of s in omega arith

pub get_d-words_of : (s : List ℕ) (i : ℕ) → i < count s → get_or (words_of s) i 0 ≡ word_at s i
unfolding words_of count word_at
get_d-words_of [] i h = absurd (omega arith)
get_d-words_of (h ∷ []) i b = absurd (omega arith)
get_d-words_of (h ∷ l ∷ s) zero b = refl
get_d-words_of (h ∷ l ∷ s) (suc i) b =
    let e : 2 * suc i ≡ suc (suc (2 * i)) = omega arith in
    let f : 2 * suc i + 1 ≡ suc (suc (2 * i + 1)) = omega arith in
    get_d-words_of s i (omega arith) ∙ rw (f, e)

pub words_of-append : (ws r : List ℕ) → words_of (bytes_of ws ++ r) ≡ ws ++ words_of r
unfolding words_of bytes_of
words_of-append [] r = refl
words_of-append (w ∷ ws) r =
    let e : w / 256 * 256 + w % 256 ≡ w = omega arith in
    λ i. e i ∷ words_of-append ws r i

pub words_of-bytes_of : (ws : List ℕ) → words_of (bytes_of ws) ≡ ws
unfolding words_of
words_of-bytes_of ws = ap words_of (sym (append-nil (bytes_of ws))) ∙ words_of-append ws [] ∙ append-nil ws

pub bytes_of-append : (a b : List ℕ) → bytes_of (a ++ b) ≡ bytes_of a ++ bytes_of b
unfolding bytes_of
bytes_of-append [] b = refl
bytes_of-append (x ∷ a) b = ap (λ (l : List ℕ). x / 256 ∷ x % 256 ∷ l) (bytes_of-append a b)

pub length-bytes_of : (ws : List ℕ) → length (bytes_of ws) ≡ 2 * length ws
unfolding bytes_of
length-bytes_of [] = refl
length-bytes_of (w ∷ ws) = let ih = length-bytes_of ws in omega arith

pub zero-bytes : (n : ℕ) → bytes_of (replicate n 0) ≡ replicate (2 * n) 0
unfolding bytes_of
zero-bytes zero = refl
zero-bytes (suc n) = let e : 2 * suc n ≡ suc (suc (2 * n)) = omega arith in rw e (ap (λ (z : List ℕ). 0 ∷ 0 ∷ z) (zero-bytes n))

pub bytes_of-words_of : (s : List ℕ) → ((i : ℕ) → get_or s i 0 < 256) → length s % 2 ≡ 0 → bytes_of (words_of s) ≡ s
unfolding words_of bytes_of
bytes_of-words_of [] b e = refl
bytes_of-words_of (h ∷ []) b e = absurd (omega arith)
bytes_of-words_of (h ∷ l ∷ s) b e =
    let x : h < 256 = b 0 in
    let y : l < 256 = b 1 in
    let hi : (h * 256 + l) / 256 ≡ h = omega arith in
    let lo : (h * 256 + l) % 256 ≡ l = omega arith in
    λ i. hi i ∷ lo i ∷ bytes_of-words_of s (λ k. b (suc (suc k))) (omega arith) i

pub length-table_of : (s : List ℕ) → length (table_of s) ≤ 4096
unfolding table_of
length-table_of s = let e = length-take 4096 (words_of s) in omega arith

pub elem_in : (l : List ℕ) (i : ℕ) → i < length l → get_elem? l i ≡ some (get_or l i 0)
elem_in [] i h = absurd (omega arith)
elem_in (x ∷ l) zero h = refl
elem_in (x ∷ l) (suc i) h = elem_in l i (omega arith)

pub past_end : (l : List ℕ) (i : ℕ) → length l ≤ i → get_elem? l i ≡ none
past_end [] i h = refl
past_end (x ∷ l) zero h = absurd (omega arith)
past_end (x ∷ l) (suc i) h = past_end l i (omega arith)

-- "Table words past 4,096 are outside the table."
pub fetch-past : (s : List ℕ) (l : ℕ) → 4096 < l → fetch (table_of s) l ≡ none
unfolding fetch
fetch-past s zero h = absurd (omega arith)
fetch-past s (suc i) h = let b = length-table_of s in past_end (table_of s) i (omega arith)
