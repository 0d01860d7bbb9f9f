-- The byte form of figures, and back.
use mathlib.Core.Bool.{true}
use mathlib.Core.List.{List, [], ◌∷◌, ◌++◌}
use mathlib.Core.Option.{Option, none, some}
use mathlib.Core.Path.{◌≡◌, refl, sym, ap, ap₂, ◌∙◌, subst}
use Prim.Native.Nat.{ℕ, zero, suc, ◌+◌, ◌*◌, ◌≤◌, ◌<◌}
use native.Mathlib.Omega.{arith}
use lib.Dec.{eqb}
use lib.ListN.{length, take, drop, get_or, length-append}
use lib.Seq.{drop-drop, drop-cons, take-add, take_all, take-append-le, drop-append-add, get_or-drop}
use borrow.Author.Tests.{eq-eqb, eqb-true}
use Rattle.base.specs.Bools.{split}
use Rattle.figures.proofs.Shelves.{Balanced, balanced}
use Rattle.figures.specs.Figures.{Figures, bits_of, sound}
use Rattle.figures.specs.Form.{number_words, numbers, figures_bytes, number_at, numbers_at, figures_named, figures_of}
use Rattle.machine.proofs.Bytes.{length-words_of, length-bytes_of, words_of-bytes_of, bytes_of-words_of}
use Rattle.machine.specs.Bytes.{count, words_of, bytes_of}
use Rattle.machine.proofs.Words.{small-words, number64-words64, words64-number64}
use Rattle.machine.specs.Form.{words64, number64}
use Rattle.machine.specs.Small.{Small}

-- Numbers and their words

pub length-number_words : (ns : List ℕ) → length (number_words ns) ≡ 4 * length ns
unfolding number_words words64
length-number_words [] = refl
length-number_words (n ∷ ns) = let ih = length-number_words ns in omega arith

pub length-numbers_at : (ws : List ℕ) (i n : ℕ) → length (numbers_at ws i n) ≡ n
unfolding numbers_at
length-numbers_at ws i zero = refl
length-numbers_at ws i (suc n) = ap suc (length-numbers_at ws (i + 1) n)

pub get_d-numbers_at : (ws : List ℕ) (i n j : ℕ) → j < n → get_or (numbers_at ws i n) j 0 ≡ number_at ws (i + j)
unfolding numbers_at
get_d-numbers_at ws i zero j h = absurd (omega arith)
get_d-numbers_at ws i (suc n) zero h = let e : i ≡ i + 0 = omega arith in ap (number_at ws) e
get_d-numbers_at ws i (suc n) (suc j) h = let e : i + 1 + j ≡ i + suc j = omega arith in get_d-numbers_at ws (i + 1) n j (omega arith) ∙ ap (number_at ws) e

drop-number_words : (ns : List ℕ) (i : ℕ) → drop (4 * i) (number_words ns) ≡ number_words (drop i ns)
unfolding number_words words64
drop-number_words ns zero = refl
drop-number_words [] (suc i) = let e : 4 * suc i ≡ suc (suc (suc (suc (4 * i)))) = omega arith in rw e refl
drop-number_words (n ∷ ns) (suc i) = let e : 4 * suc i ≡ suc (suc (suc (suc (4 * i)))) = omega arith in rw e (drop-number_words ns i)

pub number-words : (ns : List ℕ) (i : ℕ) → i < length ns → number_at (number_words ns) i ≡ get_or ns i 0
unfolding number_at number_words
number-words ns i h =
    ap number64 (drop-number_words ns i ∙ ap number_words (drop-cons ns i 0 h)) ∙ number64-words64 (get_or ns i 0) (number_words (drop (suc i) ns))

numbers-words : (ns : List ℕ) (i n : ℕ) → i + n ≤ length ns → numbers_at (number_words ns) i n ≡ take n (drop i ns)
unfolding numbers_at
numbers-words ns i zero h = refl
numbers-words ns i (suc n) h =
    let e : i + 1 ≡ suc i = omega arith in
    ap₂ (λ (x : ℕ) (l : List ℕ). x ∷ l) (number-words ns i (omega arith)) (numbers-words ns (i + 1) n (omega arith) ∙ ap (λ (k : ℕ). take n (drop k ns)) e)
    ∙ sym (ap (take (suc n)) (drop-cons ns i 0 (omega arith)))

-- Figures as bytes name the figures

module _ (f : Figures) (size : length f.counts ≡ 4096) (words : length f.bits ≡ 64) where
  pub length-numbers : length (numbers f) ≡ 4162
  unfolding numbers
  length-numbers = omega (arith, length-append f.counts (f.bits ++ (f.books ∷ f.total ∷ [])), length-append f.bits (f.books ∷ f.total ∷ []))

  behind : (i : ℕ) → drop (4096 + i) (numbers f) ≡ drop i (f.bits ++ (f.books ∷ f.total ∷ []))
  unfolding numbers
  behind i = ap (λ (n : ℕ). drop (n + i) (f.counts ++ (f.bits ++ (f.books ∷ f.total ∷ [])))) (sym size) ∙ drop-append-add f.counts (f.bits ++ (f.books ∷ f.total ∷ [])) i

  behind-bits : (i : ℕ) → drop (4160 + i) (numbers f) ≡ drop i (f.books ∷ f.total ∷ [])
  behind-bits i =
      let e : 4160 + i ≡ 4096 + (64 + i) = omega arith in
      ap (λ (n : ℕ). drop n (numbers f)) e ∙ behind (64 + i) ∙ ap (λ (n : ℕ). drop (n + i) (f.bits ++ (f.books ∷ f.total ∷ []))) (sym words) ∙ drop-append-add f.bits (f.books ∷ f.total ∷ []) i

  last : (i : ℕ) → i < 2 → number_at (number_words (numbers f)) (4160 + i) ≡ get_or (f.books ∷ f.total ∷ []) i 0
  last i h =
      let z : i + 0 ≡ i = omega arith in
      number-words (numbers f) (4160 + i) (omega (arith, length-numbers))
      ∙ ap (λ (k : ℕ). get_or (numbers f) k 0) (omega arith)
      ∙ sym (get_or-drop (4160 + i) (numbers f) 0 0) ∙ ap (λ (l : List ℕ). get_or l 0 0) (behind-bits i) ∙ get_or-drop i (f.books ∷ f.total ∷ []) 0 0
      ∙ ap (λ (k : ℕ). get_or (f.books ∷ f.total ∷ []) k 0) z

  named_again : figures_named (number_words (numbers f)) ≡ f
  unfolding figures_named numbers
  named_again =
      let c : numbers_at (number_words (numbers f)) 0 4096 ≡ f.counts =
      numbers-words (numbers f) 0 4096 (omega (arith, length-numbers)) ∙ take-append-le 4096 f.counts (f.bits ++ (f.books ∷ f.total ∷ [])) (omega arith) ∙ take_all 4096 f.counts (omega arith) in
      let b : numbers_at (number_words (numbers f)) 4096 64 ≡ f.bits =
      numbers-words (numbers f) 4096 64 (omega (arith, length-numbers)) ∙ ap (take 64) (behind 0) ∙ take-append-le 64 f.bits (f.books ∷ f.total ∷ []) (omega arith) ∙ take_all 64 f.bits (omega arith) in
      λ i. record { counts = c i; bits = b i; books = last 0 (omega arith) i; total = last 1 (omega arith) i }

  pub length-bytes : length (figures_bytes f) ≡ 33296
  unfolding figures_bytes
  length-bytes = omega (arith, length-bytes_of (number_words (numbers f)), length-number_words (numbers f), length-numbers)

pub length-bits : (n : ℕ) (cs : List ℕ) → length (bits_of n cs) ≡ n
unfolding bits_of
length-bits zero cs = refl
length-bits (suc n) cs = ap suc (length-bits n (drop 64 cs))

pub sixty-four : (f : Figures) → Balanced f → length f.bits ≡ 64
sixty-four f b = ap (λ (l : List ℕ). length l) b.bits ∙ length-bits 64 f.counts

-- the bytes of figures that an entry takes are these figures
pub figures_of-bytes : (f : Figures) → sound f ≡ true → figures_of (figures_bytes f) ≡ some f
unfolding figures_of figures_bytes
figures_of-bytes f e =
    let b = balanced f e in
    let w = sixty-four f b in
    let n : figures_named (words_of (bytes_of (number_words (numbers f)))) ≡ f = ap figures_named (words_of-bytes_of (number_words (numbers f))) ∙ named_again f b.size w in
    rw (eq-eqb (length (bytes_of (number_words (numbers f)))) 33296 (length-bytes f b.size w), n, e) refl

-- And the other way round: bytes that are figures are written so

module _ (ws : List ℕ) (small : Small ws) where
  one_written : (i : ℕ) → 4 * i + 4 ≤ length ws → words64 (number_at ws i) ≡ take 4 (drop (4 * i) ws)
  unfolding number_at
  one_written i h =
      let k = 4 * i in
      let d₀ = drop-cons ws k 0 (omega arith) in
      let d₁ = drop-cons ws (suc k) 0 (omega arith) in
      let d₂ = drop-cons ws (suc (suc k)) 0 (omega arith) in
      let d₃ = drop-cons ws (suc (suc (suc k))) 0 (omega arith) in
      rw (d₀, d₁, d₂, d₃) (words64-number64 (get_or ws k 0) (get_or ws (suc k) 0) (get_or ws (suc (suc k)) 0) (get_or ws (suc (suc (suc k))) 0) (drop (suc (suc (suc (suc k)))) ws) (small (suc k)) (small (suc (suc k))) (small (suc (suc (suc k)))))

  all-written : (i n : ℕ) → 4 * (i + n) ≤ length ws → number_words (numbers_at ws i n) ≡ take (4 * n) (drop (4 * i) ws)
  unfolding number_words numbers_at
  all-written i zero h = refl
  all-written i (suc n) h =
      let e : 4 * suc n ≡ 4 + 4 * n = omega arith in
      let g : 4 * i + 4 ≡ 4 * (i + 1) = omega arith in
      ap₂ (λ (a b : List ℕ). a ++ b) (one_written i (omega arith)) (all-written (i + 1) n (omega arith))
      ∙ sym (ap (λ (k : ℕ). take k (drop (4 * i) ws)) e ∙ take-add 4 (4 * n) (drop (4 * i) ws)
      ∙ ap (λ (l : List ℕ). take 4 (drop (4 * i) ws) ++ take (4 * n) l) (drop-drop 4 (4 * i) ws ∙ ap (λ (k : ℕ). drop k ws) g))

numbers-append : (ws : List ℕ) (i m n : ℕ) → numbers_at ws i (m + n) ≡ numbers_at ws i m ++ numbers_at ws (i + m) n
unfolding numbers_at
numbers-append ws i zero n =
    let e : 0 + n ≡ n = omega arith in
    let z : i ≡ i + 0 = omega arith in
    ap (numbers_at ws i) e ∙ ap (λ (k : ℕ). numbers_at ws k n) z
numbers-append ws i (suc m) n =
    let e : suc m + n ≡ suc (m + n) = omega arith in
    let z : i + 1 + m ≡ i + suc m = omega arith in
    ap (numbers_at ws i) e ∙ ap (λ (l : List ℕ). number_at ws i ∷ l) (numbers-append ws (i + 1) m n ∙ ap (λ (k : ℕ). numbers_at ws (i + 1) m ++ numbers_at ws k n) z)

two-numbers : (ws : List ℕ) (i : ℕ) → numbers_at ws i 2 ≡ number_at ws i ∷ number_at ws (i + 1) ∷ []
unfolding numbers_at
two-numbers ws i = refl

-- figures as they are named are all the numbers
all_named : (ws : List ℕ) → numbers (figures_named ws) ≡ numbers_at ws 0 4162
unfolding numbers figures_named
all_named ws =
    sym (numbers-append ws 0 4096 66
    ∙ ap (λ (l : List ℕ). numbers_at ws 0 4096 ++ l) (numbers-append ws 4096 64 2 ∙ ap (λ (l : List ℕ). numbers_at ws 4096 64 ++ l) (two-numbers ws 4160)))

-- what bytes that are figures are
pub record Figured (s : List ℕ) (f : Figures) : Type 0 where
  pub long : length s ≡ 33296
  pub is : f ≡ figures_named (words_of s)
  pub sounds : sound f ≡ true

pub figured : (s : List ℕ) (f : Figures) → figures_of s ≡ some f → Figured s f
unfolding figures_of
figured s f e =
    split (eqb (length s) 33296)
    (λ a. split (sound (figures_named (words_of s)))
    (λ b. let q : some (figures_named (words_of s)) ≡ some f = rw (a, b) at e in
    let r = some_inj q in
    record { long = eqb-true (length s) 33296 a; is = sym r; sounds = ap sound (sym r) ∙ b })
    (λ b. let q : none ≡ some f = rw (a, b) at e in absurd (none-some q)))
    (λ a. let q : none ≡ some f = rw a at e in absurd (none-some q))
  where
    or-empty : Option Figures → Figures
    or-empty none = f
    or-empty (some g) = g

    some_inj : {g h : Figures} → some g ≡ some h → g ≡ h
    some_inj q = ap or-empty q

    given : Option Figures → Type 0
    given none = Unit {0}
    given (some g) = ⊥

    none-some : none ≡ some f → ⊥
    none-some q = subst given q tt

pub bytes-figures_of : (s : List ℕ) (f : Figures) → ((i : ℕ) → get_or s i 0 < 256) → figures_of s ≡ some f → figures_bytes f ≡ s
unfolding figures_bytes count
bytes-figures_of s f b e =
    let g = figured s f e in
    let ws = words_of s in
    let n : length ws ≡ 16648 = omega (arith, length-words_of s, g.long) in
    ap (λ (x : Figures). bytes_of (number_words (numbers x))) g.is ∙ ap (λ (l : List ℕ). bytes_of (number_words l)) (all_named ws)
    ∙ ap bytes_of (all-written ws (small-words s b) 0 4162 (omega arith) ∙ take_all 16648 ws (omega arith)) ∙ bytes_of-words_of s b (omega (arith, g.long))
