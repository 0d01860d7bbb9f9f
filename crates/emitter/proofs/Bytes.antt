-- The words of a buffer as bytes. Assumes nothing.
use Prim.Native.Nat.{ℕ, suc, ◌+◌, ◌*◌, ◌-◌, ◌/◌, ◌%◌, ◌<◌, ◌≤◌}
use mathlib.Core.Path.{◌≡◌, refl, sym, ap, ◌∙◌}
use mathlib.Core.List.{List, [], ◌∷◌, ◌++◌, append_assoc}
use native.Mathlib.Omega.{arith}
use native.Mathlib.Numerals.{add-one}
use lib.ListN.{length, set, take, drop, replicate, length-replicate, length-append}
use lib.Seq.{sets, sets-eq}
use Rattle.machine.proofs.Bytes.{length-bytes_of}
use Rattle.machine.specs.Bytes.{bytes_of}
use Rattle.emitter.specs.Words.{words, set_word, puts}
use Rattle.emitter.proofs.Laws.{puts-append, set-in, length-set_word}

pub puts-sets : (s : List ℕ) (i : ℕ) (ws : List ℕ) → i + length ws ≤ words s → puts s i ws ≡ sets s (2 * i) (bytes_of ws)
unfolding puts bytes_of
puts-sets s i [] h = refl
puts-sets s i (w ∷ ws) h =
    let a : 2 * i + 1 ≡ suc (2 * i) = add-one (2 * i) in
    let b : 2 * (i + 1) ≡ suc (suc (2 * i)) = omega arith in
    puts-sets (set_word s i w) (i + 1) ws (omega (arith, length-set_word s i w)) ∙ ap (λ (t : List ℕ). sets t (2 * (i + 1)) (bytes_of ws)) (set-in s i w (omega arith))
    ∙ ap (λ (j : ℕ). sets (set (set s (2 * i) (w / 256)) j (w % 256)) (2 * (i + 1)) (bytes_of ws)) a ∙ ap (λ (j : ℕ). sets (set (set s (2 * i) (w / 256)) (suc (2 * i)) (w % 256)) j (bytes_of ws)) b

-- the whole buffer: what stood before, the words, what stood behind them
pub puts-eq : (s : List ℕ) (i : ℕ) (ws : List ℕ) → i + length ws ≤ words s → puts s i ws ≡ take (2 * i) s ++ (bytes_of ws ++ drop (2 * i + 2 * length ws) s)
puts-eq s i ws h =
    puts-sets s i ws h ∙ sets-eq (bytes_of ws) s (2 * i) (omega (arith, length-bytes_of ws)) ∙ append_assoc (take (2 * i) s) (bytes_of ws) (drop (2 * i + length (bytes_of ws)) s) ∙ ap (λ (j : ℕ). take (2 * i) s ++ (bytes_of ws ++ drop (2 * i + j) s)) (length-bytes_of ws)

pub lengths : (ws : List ℕ) (k n : ℕ) → length ws + k ≡ n → length (ws ++ replicate {A = ℕ} k 0) ≡ n
lengths ws k n h = length-append ws (replicate {A = ℕ} k 0) ∙ ap (λ (j : ℕ). length ws + j) (length-replicate {A = ℕ} k 0) ∙ h

-- a table and zeros up to the last whole word: an odd last byte is what it was
pub whole : (s ws : List ℕ) (t : List ℕ) → length ws ≤ words s → t ≡ puts (puts s 0 ws) (length ws) (replicate {A = ℕ} (words s - length ws) 0) → t ≡ bytes_of (ws ++ replicate {A = ℕ} (words s - length ws) 0) ++ drop (2 * words s) s
whole s ws t h e =
    let z = replicate {A = ℕ} (words s - length ws) 0 in
    let n : length (ws ++ z) ≡ words s = lengths ws (words s - length ws) (words s) (omega arith) in
    let a : 0 + length ws ≡ length ws = omega arith in
    let b : 2 * 0 + 2 * length (ws ++ z) ≡ 2 * words s = omega arith in
    e ∙ sym (puts-append s 0 ws z ∙ ap (λ (j : ℕ). puts (puts s 0 ws) j z) a) ∙ puts-eq s 0 (ws ++ z) (omega arith) ∙ ap (λ (j : ℕ). bytes_of (ws ++ z) ++ drop j s) b

pub zeros-more : (s : List ℕ) (i n : ℕ) → i < n → puts s i (replicate {A = ℕ} (n - i) 0) ≡ puts (set_word s i 0) (i + 1) (replicate {A = ℕ} (n - (i + 1)) 0)
unfolding puts
zeros-more s i n h =
    let e : n - i ≡ suc (n - (i + 1)) = omega arith in
    ap (λ (j : ℕ). puts s i (replicate {A = ℕ} j 0)) e

pub zeros-none : (s : List ℕ) (i n : ℕ) → n ≤ i → puts s i (replicate {A = ℕ} (n - i) 0) ≡ s
unfolding puts
zeros-none s i n h =
    let e : n - i ≡ 0 = omega arith in
    ap (λ (j : ℕ). puts s i (replicate {A = ℕ} j 0)) e
