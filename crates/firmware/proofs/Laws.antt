-- Words written one after the other are the words of one list, and all the words of a buffer are the buffer.
use mathlib.Core.List.{List, [], ◌∷◌, ◌++◌, append-nil, reverse, reverse-reverse}
use mathlib.Core.Path.{◌≡◌, refl, ap, ◌∙◌}
use Prim.Native.Nat.{ℕ, suc, ◌+◌, ◌*◌, ◌-◌, ◌/◌, ◌%◌, ◌<◌, ◌≤◌}
use native.Mathlib.Nat.{add-zero}
use native.Mathlib.Numerals.{add-one}
use native.Mathlib.Omega.{arith}
use lib.ListN.{length, take, drop, get_or, set, replicate, length-append, length-take, length-reverse, length-replicate, drop_of_length-le, get_or-append}
use lib.Seq.{sets, length-sets, sets-eq, get_or-take, get_or-append-add}
use Rattle.base.proofs.Laws.{zeros-at}
use Rattle.machine.proofs.Bytes.{length-bytes_of, bytes_of-append}
use Rattle.machine.specs.Bytes.{bytes_of}
use Rattle.machine.specs.Form.{words64, return_words}
use Rattle.buffers.specs.Words.{put_word, put64}
use Rattle.firmware.specs.Writes.{puts}

-- Writing

sets_then : (l : List ℕ) (i : ℕ) (a b : List ℕ) → sets (sets l i a) (i + length a) b ≡ sets l i (a ++ b)
sets_then l i [] b = rw add-zero
sets_then l i (x ∷ a) b =
    let e : i + suc (length a) ≡ suc i + length a = omega arith in
    rw e (sets_then (set l i x) (suc i) a b)

pub puts_then : (s : List ℕ) (i : ℕ) (a b : List ℕ) (j : ℕ) → j ≡ i + length a → puts (puts s i a) j b ≡ puts s i (a ++ b)
unfolding puts
puts_then s i a b j e =
    let n = length-bytes_of a in
    let d : 2 * j ≡ 2 * i + length (bytes_of a) = omega arith in
    rw (d, sets_then s (2 * i) (bytes_of a) (bytes_of b), bytes_of-append a b)

pub length-puts : (s : List ℕ) (i : ℕ) (ws : List ℕ) → length (puts s i ws) ≡ length s
unfolding puts
length-puts s i ws = length-sets s (2 * i) (bytes_of ws)

-- one word
pub puts_one : (s : List ℕ) (i x : ℕ) → put_word s i x ≡ puts s i (x ∷ [])
unfolding put_word puts bytes_of
puts_one s i x = rw add-one

-- the four words of a number
pub puts-64 : (s : List ℕ) (i n : ℕ) → put64 s i n ≡ puts s i (words64 n)
unfolding put64 words64
puts-64 s i n =
    let a = n / 281474976710656 ∷ [] in
    let b = n / 4294967296 % 65536 ∷ [] in
    let d = n / 65536 % 65536 ∷ [] in
    let e = n % 65536 ∷ [] in
    rw (puts_one s i (n / 281474976710656), puts_one (puts s i a) (i + 1) (n / 4294967296 % 65536), puts_one (puts (puts s i a) (i + 1) b) (i + 2) (n / 65536 % 65536), puts_one (puts (puts (puts s i a) (i + 1) b) (i + 2) d) (i + 3) (n % 65536))
    (ap (λ (t : List ℕ). puts (puts t (i + 2) d) (i + 3) e) (puts_then s i a b (i + 1) refl) ∙ ap (λ (t : List ℕ). puts t (i + 3) e) (puts_then s i (a ++ b) d (i + 2) refl)
    ∙ puts_then s i ((a ++ b) ++ d) e (i + 3) refl)

-- nothing is left of a buffer that is written whole
pub puts-all : (s ws : List ℕ) → length s ≡ 2 * length ws → puts s 0 ws ≡ bytes_of ws
unfolding puts
puts-all s ws e =
    let n = length-bytes_of ws in
    let h : length s ≤ 0 + length (bytes_of ws) = omega arith in
    let d : drop (0 + length (bytes_of ws)) s ≡ [] = drop_of_length-le s h in
    sets-eq (bytes_of ws) s 0 (omega arith) ∙ rw (d, append-nil)

-- The words of the return locations

-- those that are held, the oldest first, and then 0
return-words : (d : ℕ) (rs : List ℕ) → return_words (reverse (take d rs)) ≡ take d rs ++ replicate (64 - length (take d rs)) 0
unfolding return_words
return-words d rs = rw (reverse-reverse, length-reverse)

pub length-return-words : (d : ℕ) (rs : List ℕ) → length rs ≡ 64 → length (return_words (reverse (take d rs))) ≡ 64
length-return-words d rs e = rw return-words (simp (length-append, length-replicate, length-take) (omega arith))

pub return_held : (d : ℕ) (rs : List ℕ) (i : ℕ) → i < d → i < length rs → get_or (return_words (reverse (take d rs))) i 0 ≡ get_or rs i 0
return_held d rs i h l =
    let n : i < length (take d rs) = simp length-take (omega arith) in
    rw return-words (get_or-append (take d rs) (replicate (64 - length (take d rs)) 0) 0 i n ∙ get_or-take d rs i 0 h)

pub return-free : (d : ℕ) (rs : List ℕ) (i : ℕ) → d ≤ i → get_or (return_words (reverse (take d rs))) i 0 ≡ 0
return-free d rs i h =
    let n : length (take d rs) ≤ i = simp length-take (omega arith) in
    let e : i ≡ length (take d rs) + (i - length (take d rs)) = omega arith in
    rw (return-words, e) (get_or-append-add (take d rs) (replicate (64 - length (take d rs)) 0) (i - length (take d rs)) 0 ∙ zeros-at (64 - length (take d rs)) (i - length (take d rs)))
