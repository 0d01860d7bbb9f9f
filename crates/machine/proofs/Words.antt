-- Lists whose numbers are words, and a number of 64 bits as four words.
use mathlib.Core.List.{List, [], ◌∷◌, ◌++◌, reverse_aux}
use mathlib.Core.Path.{◌≡◌}
use Prim.Native.Nat.{ℕ, zero, suc, ◌+◌, ◌*◌, ◌/◌, ◌%◌, ◌<◌}
use native.Mathlib.Omega.{arith}
use native.Mathlib.Nat.{div-div-eq-div-mul}
use lib.ListN.{take, drop, get_or}
use Rattle.machine.specs.Bytes.{words_of, table_of}
use Rattle.machine.specs.Form.{words64, number64}
use Rattle.machine.specs.Small.{Small}

pub small-words : (s : List ℕ) → ((i : ℕ) → get_or s i 0 < 256) → Small (words_of s)
unfolding words_of
small-words [] b i = omega arith
small-words (h ∷ []) b i = omega arith
small-words (h ∷ l ∷ s) b zero = omega (arith, b 0, b 1)
small-words (h ∷ l ∷ s) b (suc i) = small-words s (λ k. b (suc (suc k))) i

pub small-take : (n : ℕ) (l : List ℕ) → Small l → Small (take n l)
small-take zero l b i = omega arith
small-take (suc n) [] b i = omega arith
small-take (suc n) (x ∷ l) b zero = b 0
small-take (suc n) (x ∷ l) b (suc i) = small-take n l (λ k. b (suc k)) i

pub small-table : (s : List ℕ) → ((i : ℕ) → get_or s i 0 < 256) → Small (table_of s)
unfolding table_of
small-table s b = small-take 4096 (words_of s) (small-words s b)

pub small-drop : (n : ℕ) (l : List ℕ) → Small l → Small (drop n l)
small-drop zero l b i = b i
small-drop (suc n) [] b i = omega arith
small-drop (suc n) (x ∷ l) b i = small-drop n l (λ k. b (suc k)) i

pub small-cons : (x : ℕ) (l : List ℕ) → x < 65536 → Small l → Small (x ∷ l)
small-cons x l h b zero = h
small-cons x l h b (suc i) = b i

pub small-reverse : (l r : List ℕ) → Small l → Small r → Small (reverse_aux l r)
small-reverse [] r b c i = c i
small-reverse (x ∷ l) r b c i = small-reverse l (x ∷ r) (λ k. b (suc k)) (small-cons x r (b 0) c) i

-- Four words and their number

pub small-number : (ws : List ℕ) → Small ws → number64 ws < 18446744073709551616
unfolding number64
small-number ws b = omega (arith, b 0, b 1, b 2, b 3)

pub number64-words64 : (n : ℕ) (rest : List ℕ) → number64 (words64 n ++ rest) ≡ n
unfolding number64 words64
number64-words64 n rest =
    let a = div-div-eq-div-mul n 65536 65536 in
    let b = div-div-eq-div-mul n 4294967296 65536 in
    omega arith

pub words64-number64 : (a b c d : ℕ) (rest : List ℕ) → b < 65536 → c < 65536 → d < 65536 → words64 (number64 (a ∷ b ∷ c ∷ d ∷ rest)) ≡ a ∷ b ∷ c ∷ d ∷ []
unfolding words64 number64
words64-number64 a b c d rest h i j =
    let n = a * 281474976710656 + b * 4294967296 + c * 65536 + d in
    let p : n / 281474976710656 ≡ a = omega arith in
    let q : n / 4294967296 % 65536 ≡ b = omega arith in
    let r : n / 65536 % 65536 ≡ c = omega arith in
    let s : n % 65536 ≡ d = omega arith in
    λ i. p i ∷ q i ∷ r i ∷ s i ∷ []
