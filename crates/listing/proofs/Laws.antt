-- Writing one run of bytes behind another, and the length of a number in decimal.
use mathlib.Core.Bool.{Bool, true, false}
use mathlib.Core.List.{List, [], ◌∷◌, ◌++◌, append-nil}
use mathlib.Core.Path.{◌≡◌, refl, sym, ap, ◌∙◌}
use Prim.Native.Nat.{ℕ, zero, suc, ◌+◌, ◌*◌, ◌/◌, ◌%◌, ◌<◌, ◌≤◌}
use native.Mathlib.Omega.{arith}
use native.Mathlib.Numerals.{add-one}
use borrow.Author.Tests.{ltb-true, ltb-false}
use lib.Dec.{ltb}
use lib.ListN.{length, get_or, set, take, drop, length-append, length-drop, take-append-drop}
use lib.Seq.{sets, sets-eq, length-sets, set_out, drop-cons, drop-length, length-take-le, take_all, take-append-le, take-take, take-append_seam}
use Rattle.std.specs.Prelude.{if◌then◌else◌}
use Rattle.machine.specs.Bytes.{over}
use Rattle.listing.specs.Listing.{digits, decimal, figure_line}
use Rattle.listing.specs.Written.{Puts, filled, longest, Listed}

-- Writing

sets-append : (s : List ℕ) (i : ℕ) (xs ys : List ℕ) → sets s i (xs ++ ys) ≡ sets (sets s i xs) (i + length xs) ys
sets-append s i [] ys = let e : i + 0 ≡ i = omega arith in rw e refl
sets-append s i (x ∷ xs) ys = let e : i + suc (length xs) ≡ suc i + length xs = omega arith in sets-append (set s i x) (suc i) xs ys ∙ rw e refl

pub puts_then : {xs ys s t u : List ℕ} {i j k : ℕ} → Puts xs s i t j → Puts ys t j u k → Puts (xs ++ ys) s i u k
puts_then {xs} {ys} {s} {t} {u} {i} {j} {k} p q = record {
  bytes = q.bytes ∙ rw (p.bytes, p.next) (sym (sets-append s i xs ys));
  next = omega (arith, p.next, q.next, length-append xs ys);
}

pub puts-length : {xs s t : List ℕ} {i j : ℕ} → Puts xs s i t j → length t ≡ length s
puts-length {xs} {s} {t} {i} {j} p = ap length p.bytes ∙ length-sets s i xs

-- a byte, in the buffer or past its end
pub byte-in : (s : List ℕ) (i b : ℕ) → Puts (b ∷ []) s i (set s i b) (i + 1)
byte-in s i b = record { bytes = refl; next = omega arith }

pub byte-out : (s : List ℕ) (i b : ℕ) → length s ≤ i → Puts (b ∷ []) s i s (i + 1)
byte-out s i b h = record { bytes = sym (set_out s i b h); next = omega arith }

-- xs written from i on is the same as ys written from j on into t
pub record Left (xs s : List ℕ) (i : ℕ) (ys t : List ℕ) (j : ℕ) : Type 0 where
  pub bytes : sets s i xs ≡ sets t j ys
  pub next : i + length xs ≡ j + length ys

pub left-all : (xs s : List ℕ) (i : ℕ) → Left xs s i xs s i
left-all xs s i = record { bytes = refl; next = refl }

pub left-then : {xs s zs ys t u : List ℕ} {i j k : ℕ} → Left xs s i (zs ++ ys) t j → Puts zs t j u k → Left xs s i ys u k
left-then {xs} {s} {zs} {ys} {t} {u} {i} {j} {k} l p = record {
  bytes = l.bytes ∙ sets-append t j zs ys ∙ rw (p.bytes, p.next) refl;
  next = omega (arith, l.next, p.next, length-append zs ys);
}

pub left-done : {xs s t : List ℕ} {i j : ℕ} → Left xs s i [] t j → Puts xs s i t j
left-done l = record { bytes = sym l.bytes; next = omega (arith, l.next) }

-- one byte more of xs
pub left-byte : {xs s t u : List ℕ} {i j k : ℕ} (zs : List ℕ) (n : ℕ) → n < length zs → Left xs s i (drop n zs) t j → Puts (get_or zs n 0 ∷ []) t j u k → Left xs s i (drop (n + 1) zs) u k
left-byte zs n h l p =
    let e : drop n zs ≡ (get_or zs n 0 ∷ []) ++ drop (n + 1) zs = rw (drop-cons zs n 0 h, add-one n) refl in
    left-then (rw e at l) p

pub left_end : {xs s t : List ℕ} {i j : ℕ} (zs : List ℕ) (n : ℕ) → n ≡ length zs → Left xs s i (drop n zs) t j → Puts xs s i t j
left_end zs n e l = let f : drop n zs ≡ [] = rw e (drop-length zs) in left-done (rw f at l)

-- past the buffer's end nothing is written
sets-past : (s : List ℕ) (i : ℕ) (xs : List ℕ) → length s ≤ i → sets s i xs ≡ s
sets-past s i [] h = refl
sets-past s i (x ∷ xs) h = rw (set_out s i x h) (sets-past s (suc i) xs (omega arith))

sets_over : (xs s : List ℕ) → length xs ≤ length s → sets s 0 xs ≡ over xs s
unfolding over
sets_over xs s h = sets-eq xs s 0 (omega arith) ∙ (let e : 0 + length xs ≡ length xs = omega arith in rw e refl)

length_over : (xs s : List ℕ) → length xs ≤ length s → length (over xs s) ≡ length s
unfolding over
length_over xs s h = simp (length-append, length-drop) (omega arith)

-- of more bytes than there is room for, the first are written
sets_first : (xs s : List ℕ) → length s ≤ length xs → sets s 0 xs ≡ take (length s) xs
unfolding over
sets_first xs s h =
    let head : List ℕ = take (length s) xs in
    let n : length head ≡ length s = length-take-le (length s) xs h in
    let m : length (sets s 0 head) ≡ length s = length-sets s 0 head in
    let none : drop (length head) s ≡ [] = rw n (drop-length s) in
    ap (λ (l : List ℕ). sets s 0 l) (sym (take-append-drop (length s) xs))
    ∙ sets-append s 0 head (drop (length s) xs)
    ∙ sets-past (sets s 0 head) (0 + length head) (drop (length s) xs) (omega arith)
    ∙ sets_over head s (omega arith)
    ∙ ap (λ (l : List ℕ). head ++ l) none
    ∙ append-nil head

sets-filled : (xs s : List ℕ) → sets s 0 xs ≡ filled xs s
unfolding over filled
sets-filled xs s = go (ltb (length s) (length xs)) refl
  where
    go : (t : Bool) → ltb (length s) (length xs) ≡ t → sets s 0 xs ≡ take (length s) (over xs s)
    go true e =
        let h : length s ≤ length xs = omega (arith, ltb-true (length s) (length xs) e) in
        sets_first xs s h ∙ sym (take-append-le (length s) xs (drop (length xs) s) h)
    go false e =
        let h : length xs ≤ length s = omega (arith, ltb-false (length s) (length xs) e) in
        sets_over xs s h ∙ sym (take_all (length s) (over xs s) (omega (arith, length_over xs s h)))

-- a whole listing
pub listed : {xs s t : List ℕ} {r : ℕ} → Puts xs s 0 t r → r ≤ longest → Listed xs s t r
listed {xs} {s} p h = record { bytes = p.bytes ∙ sets-filled xs s; count = omega (arith, p.next); short = h }

-- a buffer that is long enough begins with the whole listing
pub listed-whole : {xs s t : List ℕ} {r : ℕ} → Listed xs s t r → longest ≤ length s → take r t ≡ xs
unfolding over filled
listed-whole {xs} {s} {t} {r} l h =
    let b : take (length xs) t ≡ xs = ap (take (length xs)) l.bytes ∙ take-take (length xs) (length s) (over xs s) (omega (arith, l.count, l.short)) ∙ take-append_seam xs (drop (length xs) s) in
    rw l.count b

-- Numbers in decimal

-- more digits than there are change nothing
digits_more : (k j n : ℕ) → n < k → n < j → digits k n ≡ digits j n
unfolding digits
digits_more zero j n h g = absurd (omega arith)
digits_more (suc k) zero n h g = absurd (omega arith)
digits_more (suc k) (suc j) n h g = go (ltb n 10) refl (digits_more k j (n / 10))
  where
    go : (t : Bool) → ltb n 10 ≡ t → (n / 10 < k → n / 10 < j → digits k (n / 10) ≡ digits j (n / 10))
        → (if t then [] else digits k (n / 10)) ++ ((48 + n % 10) ∷ []) ≡ (if t then [] else digits j (n / 10)) ++ ((48 + n % 10) ∷ [])
    go true e f = refl
    go false e f = ap (λ (l : List ℕ). l ++ ((48 + n % 10) ∷ [])) (f (omega (arith, ltb-false n 10 e)) (omega (arith, ltb-false n 10 e)))

pub decimal-one : (n : ℕ) → n < 10 → decimal n ≡ (48 + n % 10) ∷ []
unfolding decimal digits
decimal-one n h = go (ltb n 10) refl
  where
    go : (t : Bool) → ltb n 10 ≡ t → (if t then [] else digits n (n / 10)) ++ ((48 + n % 10) ∷ []) ≡ (48 + n % 10) ∷ []
    go true e = refl
    go false e = absurd (omega (arith, ltb-false n 10 e))

pub decimal-more : (n : ℕ) → (n < 10 → ⊥) → decimal n ≡ decimal (n / 10) ++ ((48 + n % 10) ∷ [])
unfolding decimal digits
decimal-more n h = go (ltb n 10) refl
  where
    go : (t : Bool) → ltb n 10 ≡ t → (if t then [] else digits n (n / 10)) ++ ((48 + n % 10) ∷ []) ≡ digits (suc (n / 10)) (n / 10) ++ ((48 + n % 10) ∷ [])
    go true e = absurd (h (ltb-true n 10 e))
    go false e = ap (λ (l : List ℕ). l ++ ((48 + n % 10) ∷ [])) (digits_more n (suc (n / 10)) (n / 10) (omega arith) (omega arith))

-- a last digit
pub puts_one : {n b : ℕ} {s t : List ℕ} {i j : ℕ} → n < 10 → b ≡ 48 + n % 10 → Puts (b ∷ []) s i t j → Puts (decimal n) s i t j
puts_one {n} h e p = rw (decimal-one n h, ← e) p

pub puts-more : {n b : ℕ} {s t u : List ℕ} {i j k : ℕ} → (n < 10 → ⊥) → b ≡ 48 + n % 10 → Puts (decimal (n / 10)) s i t j → Puts (b ∷ []) t j u k → Puts (decimal n) s i u k
puts-more {n} h e p q = rw (decimal-more n h, ← e) (puts_then p q)

-- one digit more for ten times as much
length-one : (n : ℕ) → n < 10 → length (decimal n) ≤ 1
length-one n h = rw (decimal-one n h) (omega arith)

length_more : (m k n : ℕ) → ((i : ℕ) → i < m → length (decimal i) ≤ k) → 0 < k → n < 10 * m → length (decimal n) ≤ k + 1
length_more m k n ih z h = go (ltb n 10) refl
  where
    go : (t : Bool) → ltb n 10 ≡ t → length (decimal n) ≤ k + 1
    go true e = let l = length-one n (ltb-true n 10 e) in omega arith
    go false e =
        rw (decimal-more n (λ q. omega (arith, ltb-false n 10 e))) (omega (arith, length-append (decimal (n / 10)) ((48 + n % 10) ∷ []), ih (n / 10) (omega arith)))

-- ten to the k
abbrev tens : ℕ → ℕ
tens zero = 1
tens (suc k) = 10 * tens k

length-tens : (k n : ℕ) → n < 10 * tens k → length (decimal n) ≤ k + 1
length-tens zero n h = length-one n (omega arith)
length-tens (suc k) n h = let l = length_more (10 * tens k) (k + 1) n (length-tens k) (omega arith) (omega arith) in omega arith

pub length-4 : (n : ℕ) → n < 10000 → length (decimal n) ≤ 4
length-4 n h = length-tens 3 n h

pub length-5 : (n : ℕ) → n < 65536 → length (decimal n) ≤ 5
length-5 n h = length-tens 4 n (omega arith)

pub decimal-short : {n : ℕ} {s t : List ℕ} {i j : ℕ} → n < 18446744073709551616 → Puts (decimal n) s i t j → j ≤ i + 20
decimal-short {n} h p = omega (arith, length-tens 19 n (omega arith), p.next)

-- The line of the figure

pub figure-none : {q : ℕ} (s : List ℕ) (i : ℕ) → q ≡ 0 → Puts (figure_line q) s i s i
unfolding figure_line
figure-none s i e = rw e (record { bytes = refl; next = omega arith })

pub figure-some : (n : ℕ) {s t u : List ℕ} {i j k : ℕ} → (n ≡ 0 → ⊥) → Puts (decimal n) s i t j → Puts (10 ∷ []) t j u k → Puts (figure_line n) s i u k
unfolding figure_line
figure-some zero z p q = absurd (z refl)
figure-some (suc n) z p q = puts_then p q
