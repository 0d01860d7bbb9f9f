-- Bytes cut out of a record, and put into it.
use mathlib.Core.List.{List, [], ◌∷◌, ◌++◌}
use mathlib.Core.Path.{◌≡◌, refl, sym, ap, ◌∙◌}
use Prim.Native.Nat.{ℕ, zero, suc, ◌+◌, ◌*◌, ◌≤◌, ◌<◌}
use native.Mathlib.Omega.{arith}
use lib.ListN.{length, take, drop, get_or, length-append, length-drop, take-append-drop}
use lib.Seq.{length-take-le, take-append-le, drop-append-le, take-append_seam, drop_at, drop-append-add, drop-drop, drop-nil, get_or-drop, get_or-take}
use Rattle.machine.specs.Bytes.{words_of}
use Rattle.machine.specs.Form.{number64}
use Rattle.screen.specs.Screen.{cut, patch}

pub length_cut : (f n : ℕ) (r : List ℕ) → f + n ≤ length r → length (cut f n r) ≡ n
unfolding cut
length_cut f n r h = length-take-le n (drop f r) (omega (arith, length-drop f r))

pub length-patch : (f : ℕ) (new r : List ℕ) → f + length new ≤ length r → length (patch f new r) ≡ length r
unfolding patch
length-patch f new r h =
    let a = length-append (take f r) (new ++ drop (f + length new) r) in
    let b = length-append new (drop (f + length new) r) in
    omega (arith, length-take-le f r (omega arith), length-drop (f + length new) r)

-- what was put in
pub cut-patch : (f n : ℕ) (new r : List ℕ) → length new ≡ n → f + n ≤ length r → cut f n (patch f new r) ≡ new
unfolding cut patch
cut-patch f n new r e h =
    let a : length (take f r) ≡ f = length-take-le f r (omega arith) in
    ap (take n) (drop_at (take f r) (new ++ drop (f + length new) r) f a)
    ∙ (rw (sym e) (take-append_seam new (drop (f + length new) r)))

cut-front : (g n : ℕ) (a b : List ℕ) → g + n ≤ length a → cut g n (a ++ b) ≡ cut g n a
unfolding cut
cut-front g n a b h =
    ap (take n) (drop-append-le g a b (omega arith)) ∙ take-append-le n (drop g a) b (omega (arith, length-drop g a))

-- what stands before it
pub cut-before : (g n f : ℕ) (new r : List ℕ) → g + n ≤ f → f ≤ length r → cut g n (patch f new r) ≡ cut g n r
unfolding patch
cut-before g n f new r h k =
    let a : length (take f r) ≡ f = length-take-le f r k in
    cut-front g n (take f r) (new ++ drop (f + length new) r) (omega arith)
    ∙ sym (cut-front g n (take f r) (drop f r) (omega arith)) ∙ ap (cut g n) (take-append-drop f r)

-- what stands behind it
pub cut-behind : (g n f k : ℕ) (new r : List ℕ) → g ≡ f + length new + k → f ≤ length r → cut g n (patch f new r) ≡ cut g n r
unfolding cut patch
cut-behind g n f k new r e h =
    let a : length (take f r) ≡ f = length-take-le f r h in
    let R = drop (f + length new) r in
    let e₁ : g ≡ length (take f r) + (length new + k) = omega arith in
    ap (take n)
    (ap (λ (x : ℕ). drop x (take f r ++ (new ++ R))) e₁ ∙ drop-append-add (take f r) (new ++ R) (length new + k) ∙ drop-append-add new R k
    ∙ drop-drop k (f + length new) r ∙ ap (λ (x : ℕ). drop x r) (sym e))

-- what was there put in again
pub patch-same : (f n : ℕ) (r : List ℕ) → f + n ≤ length r → patch f (cut f n r) r ≡ r
unfolding cut patch
patch-same f n r h =
    let l : length (take n (drop f r)) ≡ n = length_cut f n r h in
    ap (λ (x : ℕ). take f r ++ (take n (drop f r) ++ drop (f + x) r)) l
    ∙ ap (λ (x : List ℕ). take f r ++ (take n (drop f r) ++ x)) (sym (drop-drop n f r))
    ∙ ap (λ (x : List ℕ). take f r ++ x) (take-append-drop n (drop f r)) ∙ take-append-drop f r

-- bytes stay bytes

abbrev Small : List ℕ → Type 0
Small s = (i : ℕ) → get_or s i 0 < 256

small-drop : (n : ℕ) (r : List ℕ) → Small r → Small (drop n r)
small-drop n r b i = rw (get_or-drop n r i 0) (b (n + i))

small-take : (n : ℕ) (r : List ℕ) → Small r → Small (take n r)
small-take zero r b i = omega arith
small-take (suc n) [] b i = omega arith
small-take (suc n) (x ∷ r) b zero = b 0
small-take (suc n) (x ∷ r) b (suc i) = small-take n r (λ k. b (suc k)) i

pub small_cut : (f n : ℕ) (r : List ℕ) → Small r → Small (cut f n r)
unfolding cut
small_cut f n r b = small-take n (drop f r) (small-drop f r b)

-- words from an index on
pub words-drop : (i : ℕ) (s : List ℕ) → drop i (words_of s) ≡ words_of (drop (2 * i) s)
unfolding words_of
words-drop zero s = refl
words-drop (suc i) s = let e : 2 * suc i ≡ suc (suc (2 * i)) = omega arith in rw e (go s (words-drop i))
  where
    go : (s : List ℕ) → ((t : List ℕ) → drop i (words_of t) ≡ words_of (drop (2 * i) t)) → drop (suc i) (words_of s) ≡ words_of (drop (suc (suc (2 * i))) s)
    go [] h = refl
    go (x ∷ []) h = ap words_of (sym (drop-nil (suc (2 * i))))
    go (x ∷ y ∷ s) h = h s

-- words up to an index
words_take : (i : ℕ) (s : List ℕ) → words_of (take (2 * i) s) ≡ take i (words_of s)
unfolding words_of
words_take zero s = refl
words_take (suc i) s = let e : 2 * suc i ≡ suc (suc (2 * i)) = omega arith in rw e (go s (words_take i))
  where
    go : (s : List ℕ) → ((t : List ℕ) → words_of (take (2 * i) t) ≡ take i (words_of t)) → words_of (take (suc (suc (2 * i))) s) ≡ take (suc i) (words_of s)
    go [] h = refl
    go (x ∷ []) h = refl
    go (x ∷ y ∷ s) h = ap (λ (l : List ℕ). (x * 256 + y) ∷ l) (h s)

-- a number of 64 bits is that of its eight bytes
pub number_cut : (s : List ℕ) → number64 (words_of (take 8 s)) ≡ number64 (words_of s)
unfolding number64
number_cut s =
    let ws = words_of s in
    rw (words_take 4 s, get_or-take 4 ws 0 0 (omega arith), get_or-take 4 ws 1 0 (omega arith), get_or-take 4 ws 2 0 (omega arith), get_or-take 4 ws 3 0 (omega arith))
