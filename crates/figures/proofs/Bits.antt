-- The bits are those of the counts, and counting them counts the locations executed.
use mathlib.Core.Bool.{true, false}
use mathlib.Core.List.{List, [], ◌∷◌, ◌++◌}
use mathlib.Core.Path.{◌≡◌, refl, sym, ap, ap₂, ◌∙◌}
use Prim.Native.Nat.{ℕ, zero, suc, ◌+◌, ◌*◌, ◌-◌, ◌/◌, ◌%◌, ◌^◌, ◌≤◌, ◌<◌, max}
use native.Mathlib.Omega.{arith}
use native.Mathlib.Nat.{pow-suc, max-zero, mul_comm, zero-div, div-one, div-div-eq-div-mul}
use lib.Bits.{bit_or, or_step, or_zero_r}
use lib.Count.{ones, ones_step}
use lib.Dec.{ltb}
use lib.ListN.{length, take, drop, get_or, set, length-take, length-drop}
use lib.Seq.{drop-drop, take-set-lt, take-set-le, drop-set-lt, drop-set-add, take-add, take_all, get_or-drop, get_or-take}
use borrow.Author.Tests.{ltb-true, ltb-false}
use Rattle.base.specs.Bools.{split}
use Rattle.figures.proofs.Steps.{Every, Inside}
use Rattle.figures.proofs.Sums.{length-bump}
use Rattle.figures.specs.Figures.{bump, mark, bumps, marks, covered, flag, packed, bits_of}
use Rattle.figures.specs.Shelf.{executed, bit_at}

flag_small : (c : ℕ) → flag c < 2
unfolding flag
flag_small zero = omega arith
flag_small (suc c) = omega arith

half : (a b : ℕ) → b < 2 → (a * 2 + b) / 2 ≡ a
half a b h = omega arith

odd : (a b : ℕ) → b < 2 → (a * 2 + b) % 2 ≡ b
odd a b h = omega arith

-- The ones of the bits

ones-packed : (cs : List ℕ) → ones (packed cs) ≡ executed cs
unfolding packed executed ones lib.Count.ones_in
ones-packed [] = refl
ones-packed (c ∷ cs) =
    ones_step (packed cs * 2 + flag c)
    ∙ ap₂ (λ (x y : ℕ). x + ones y) (odd (packed cs) (flag c) (flag_small c)) (half (packed cs) (flag c) (flag_small c))
    ∙ ap (λ (x : ℕ). flag c + x) (ones-packed cs)

executed-append : (a b : List ℕ) → executed (a ++ b) ≡ executed a + executed b
unfolding executed
executed-append [] b = omega arith
executed-append (c ∷ a) b = let ih = executed-append a b in omega arith

covered-bits : (n : ℕ) (cs : List ℕ) → covered (bits_of n cs) ≡ executed (take (n * 64) cs)
unfolding covered bits_of executed
covered-bits zero cs = refl
covered-bits (suc n) cs =
    let e : suc n * 64 ≡ 64 + n * 64 = omega arith in
    ap₂ (λ (x y : ℕ). x + y) (ones-packed (take 64 cs)) (covered-bits n (drop 64 cs))
    ∙ sym (ap (λ (k : ℕ). executed (take k cs)) e ∙ ap executed (take-add 64 (n * 64) cs) ∙ executed-append (take 64 cs) (take (n * 64) (drop 64 cs)))

-- "how many locations were executed at all .. counted from those bits"
pub covered-is : (cs : List ℕ) → length cs ≡ 4096 → covered (bits_of 64 cs) ≡ executed cs
covered-is cs h = covered-bits 64 cs ∙ ap executed (take_all 4096 cs (omega arith))

-- A bit by itself

bit-packed : (cs : List ℕ) (k : ℕ) → packed cs / 2 ^ k % 2 ≡ flag (get_or cs k 0)
unfolding packed flag
bit-packed [] k = ap (λ (n : ℕ). n % 2) (zero-div (2 ^ k))
bit-packed (c ∷ cs) zero = ap (λ (n : ℕ). n % 2) (div-one (packed cs * 2 + flag c)) ∙ odd (packed cs) (flag c) (flag_small c)
bit-packed (c ∷ cs) (suc k) =
    ap (λ (p : ℕ). (packed cs * 2 + flag c) / p % 2) (pow-suc 2 k ∙ mul_comm (2 ^ k) 2)
    ∙ ap (λ (n : ℕ). n % 2) (sym (div-div-eq-div-mul (packed cs * 2 + flag c) 2 (2 ^ k)) ∙ ap (λ (n : ℕ). n / 2 ^ k) (half (packed cs) (flag c) (flag_small c)))
    ∙ bit-packed cs k

-- word j of the bits
pub get_d_bits : (n : ℕ) (cs : List ℕ) (j : ℕ) → j < n → get_or (bits_of n cs) j 0 ≡ packed (take 64 (drop (j * 64) cs))
unfolding bits_of
get_d_bits zero cs j h = absurd (omega arith)
get_d_bits (suc n) cs zero h = refl
get_d_bits (suc n) cs (suc j) h =
    let e : 64 + j * 64 ≡ suc j * 64 = omega arith in
    get_d_bits n (drop 64 cs) j (omega arith) ∙ ap (λ (l : List ℕ). packed (take 64 l)) (drop-drop (j * 64) 64 cs ∙ ap (λ (k : ℕ). drop k cs) e)

-- "one bit a location": set exactly if the count is not 0
pub bit_is : (cs : List ℕ) (l : ℕ) → 0 < l → l ≤ 4096 → bit_at (bits_of 64 cs) l ≡ flag (get_or cs (l - 1) 0)
unfolding bit_at
bit_is cs l p h =
    let i = l - 1 in
    let e : i / 64 * 64 + i % 64 ≡ i = omega arith in
    let b : i % 64 < 64 = omega arith in
    ap (λ (w : ℕ). w / 2 ^ (i % 64) % 2) (get_d_bits 64 cs (i / 64) (omega arith)) ∙ bit-packed (take 64 (drop (i / 64 * 64) cs)) (i % 64)
    ∙ ap flag (get_or-take 64 (drop (i / 64 * 64) cs) (i % 64) 0 b ∙ get_or-drop (i / 64 * 64) cs (i % 64) 0 ∙ ap (λ (k : ℕ). get_or cs k 0) e)

-- A bit set

or-one : (a b : ℕ) → b < 2 → bit_or (a * 2 + b) 1 ≡ a * 2 + 1
or-one a zero h = or_step (a * 2 + 0) 1 ∙ ap₂ (λ (x y : ℕ). bit_or x 0 * 2 + max y 1) (half a 0 (omega arith)) (odd a 0 (omega arith)) ∙ ap (λ (x : ℕ). x * 2 + 1) (or_zero_r a)
or-one a (suc zero) h = or_step (a * 2 + 1) 1 ∙ ap₂ (λ (x y : ℕ). bit_or x 0 * 2 + max y 1) (half a 1 (omega arith)) (odd a 1 (omega arith)) ∙ ap (λ (x : ℕ). x * 2 + 1) (or_zero_r a)
or-one a (suc (suc b)) h = absurd (omega arith)

or-twice : (a b p : ℕ) → b < 2 → bit_or (a * 2 + b) (p * 2) ≡ bit_or a p * 2 + b
or-twice a b p h =
    let e : p * 2 / 2 ≡ p = omega arith in
    let o : p * 2 % 2 ≡ 0 = omega arith in
    or_step (a * 2 + b) (p * 2)
    ∙ ap₂ (λ (x y : ℕ). bit_or x y * 2 + max ((a * 2 + b) % 2) (p * 2 % 2)) (half a b h) e
    ∙ ap₂ (λ (x y : ℕ). bit_or a p * 2 + max x y) (odd a b h) o
    ∙ ap (λ (x : ℕ). bit_or a p * 2 + x) (max-zero b)

or-packed : (cs : List ℕ) (k y : ℕ) → k < length cs → bit_or (packed cs) (2 ^ k) ≡ packed (set cs k (suc y))
unfolding packed flag
or-packed [] k y h = absurd (omega arith)
or-packed (c ∷ cs) zero y h = or-one (packed cs) (flag c) (flag_small c)
or-packed (c ∷ cs) (suc k) y h =
    ap (λ (p : ℕ). bit_or (packed cs * 2 + flag c) p) (pow-suc 2 k) ∙ or-twice (packed cs) (flag c) (2 ^ k) (flag_small c)
    ∙ ap (λ (x : ℕ). x * 2 + flag c) (or-packed cs k y (omega arith))

abbrev set_bit : List ℕ → ℕ → List ℕ
set_bit ws i = set ws (i / 64) (bit_or (get_or ws (i / 64) 0) (2 ^ (i % 64)))

bits-set : (n : ℕ) (cs : List ℕ) (i y : ℕ) → i < n * 64 → i < length cs → bits_of n (set cs i (suc y)) ≡ set_bit (bits_of n cs) i
unfolding bits_of
bits-set zero cs i y h k = absurd (omega arith)
bits-set (suc n) cs i y h k = split (ltb i 64) near (far (λ j a b. bits-set n (drop 64 cs) j y a b))
  where
    near : ltb i 64 ≡ true → bits_of (suc n) (set cs i (suc y)) ≡ set_bit (bits_of (suc n) cs) i
    near t =
        let b = ltb-true i 64 t in
        let q : i / 64 ≡ 0 = omega arith in
        let m : i % 64 ≡ i = omega arith in
        let l = length-take 64 cs in
        rw (q, m) (ap₂ (λ (x : ℕ) (l : List ℕ). x ∷ bits_of n l)
        (ap packed (take-set-lt 64 cs i (suc y) b) ∙ sym (or-packed (take 64 cs) i y (omega arith))) (drop-set-lt 64 cs i (suc y) b))

    far : ((j : ℕ) → j < n * 64 → j < length (drop 64 cs) → bits_of n (set (drop 64 cs) j (suc y)) ≡ set_bit (bits_of n (drop 64 cs)) j) → ltb i 64 ≡ false → bits_of (suc n) (set cs i (suc y)) ≡ set_bit (bits_of (suc n) cs) i
    far ih f =
        let b = ltb-false i 64 f in
        let j = i - 64 in
        let e : i ≡ 64 + j = omega arith in
        let q : i / 64 ≡ suc (j / 64) = omega arith in
        let m : i % 64 ≡ j % 64 = omega arith in
        rw (q, m) (ap₂ (λ (x : List ℕ) (l : List ℕ). packed x ∷ bits_of n l) (take-set-le 64 cs i (suc y) b) (ap (λ (d : ℕ). drop 64 (set cs d (suc y))) e ∙ drop-set-add 64 cs j (suc y))
        ∙ ap (λ (l : List ℕ). packed (take 64 cs) ∷ l) (ih j (omega arith) (omega (arith, length-drop 64 cs))))

bits-bump : (cs : List ℕ) (l : ℕ) → length cs ≡ 4096 → Inside 4096 l → bits_of 64 (bump cs l) ≡ mark (bits_of 64 cs) l
unfolding bump mark
bits-bump cs l h k = bits-set 64 cs (l - 1) (get_or cs (l - 1) 0) (omega (arith, k.0, k.1)) (omega (arith, k.0, k.1))

-- the bits stay those of the counts
pub bits-bumps : (cs ls : List ℕ) → length cs ≡ 4096 → Every (Inside 4096) ls → bits_of 64 (bumps cs ls) ≡ marks (bits_of 64 cs) ls
unfolding bumps marks
bits-bumps cs [] h k = refl
bits-bumps cs (l ∷ ls) h k =
    bits-bumps (bump cs l) ls (length-bump cs l ∙ h) k.1 ∙ ap (λ (ws : List ℕ). marks ws ls) (bits-bump cs l h k.0)
