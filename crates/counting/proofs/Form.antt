-- The laws of the byte form's loops: reading, comparing, adding up, writing.
use mathlib.Core.Bool.{Bool, true, false, ◌&&◌, and-true}
use mathlib.Core.List.{List, [], ◌∷◌, ◌++◌, append-nil}
use mathlib.Core.Option.{none}
use mathlib.Core.Path.{◌≡◌, refl, sym, ap, ◌∙◌}
use Prim.Native.Nat.{ℕ, zero, suc, ◌+◌, ◌*◌, ◌-◌, ◌/◌, ◌%◌, ◌^◌, ◌<◌, ◌≤◌}
use native.Mathlib.Nat.{pow-suc}
use native.Mathlib.Numerals.{add-one}
use native.Mathlib.Omega.{arith}
use lib.Count.{ones}
use lib.Dec.{eqb}
use lib.ListN.{length, take, drop, get_or, drop_of_length-le, length-append, length-drop, length-take}
use lib.Pow.{pow_mono}
use lib.Seq.{drop-cons, get_or-drop, get_or-take}
use borrow.Author.Tests.{eq-eqb, ne_eqb, eqb-true}
use Rattle.base.specs.Bools.{split}
use Rattle.std.specs.Prelude.{if◌then◌else◌}
use Rattle.base.specs.Common.{same}
use Rattle.buffers.proofs.Writes.{upto_put, upto-end}
use Rattle.buffers.specs.Words.{put64}
use Rattle.counting.specs.Counting.{numbers_of}
use Rattle.figures.proofs.Bits.{get_d_bits}
use Rattle.figures.proofs.Form.{length-number_words, length-bits}
use Rattle.figures.specs.Figures.{Figures, sum, covered, flag, packed, bits_of, sound}
use Rattle.figures.specs.Form.{number_words, figures_named, figures_of}
use Rattle.machine.proofs.Bytes.{length-bytes_of}
use Rattle.machine.specs.Bytes.{words_of, bytes_of, over}
use Rattle.machine.specs.Form.{words64}

-- The bits of 64 counts, from the last

pub packed-next : (l : List ℕ) (i : ℕ) → i < length l → packed (drop i l) ≡ packed (drop (i + 1) l) * 2 + flag (get_or l i 0)
unfolding packed
packed-next l i h = rw (add-one) (ap packed (drop-cons l i 0 h))

flag-most : (c : ℕ) → flag c ≤ 1
unfolding flag
flag-most zero = omega arith
flag-most (suc c) = omega arith

packed-below : (l : List ℕ) → packed l < 2 ^ length l
unfolding packed
packed-below [] = omega arith
packed-below (c ∷ l) = let ih = packed-below l in omega (arith, flag-most c, pow-suc 2 (length l))

-- of fewer than 64
pub packed-small : (l : List ℕ) → length l ≤ 63 → packed l < 9223372036854775808
packed-small l h = let p : 2 ^ length l ≤ 2 ^ 63 = pow_mono h in omega (arith, packed-below l)

abbrev pub chunk : List ℕ → ℕ → List ℕ
chunk counts j = take 64 (drop (j * 64) counts)

module _ (counts : List ℕ) (j : ℕ) (size : length counts ≡ 4096) (inside : j < 64) where
  pub length-chunk : length (chunk counts j) ≡ 64
  length-chunk = omega (arith, length-take 64 (drop (j * 64) counts), length-drop (j * 64) counts)

  pub get_d_chunk : (i : ℕ) → i < 64 → get_or (chunk counts j) i 0 ≡ get_or counts (j * 64 + i) 0
  get_d_chunk i h = get_or-take 64 (drop (j * 64) counts) i 0 h ∙ get_or-drop (j * 64) counts i 0

-- what holds at the head of the loop of `bits_of`
pub record Packs (counts : List ℕ) (j w i : ℕ) : Type 0 where
  pub within : i ≤ 64
  pub is : w ≡ packed (drop i (chunk counts j))

module _ (counts : List ℕ) (j w i : ℕ) (size : length counts ≡ 4096) (inside : j < 64) (p : Packs counts j w i) (more : 0 < i) where
  pub packs-room : w < 9223372036854775808
  packs-room = let s = packed-small (drop i (chunk counts j)) (omega (arith, p.within, length-chunk counts j size inside, length-drop i (chunk counts j))) in omega (arith, p.is)

  pub packs-again : (x : ℕ) → x ≡ flag (get_or counts (j * 64 + (i - 1)) 0) → Packs counts j (w * 2 + x) (i - 1)
  packs-again x e =
      let z : i - 1 + 1 ≡ i = omega arith in
      let n = packed-next (chunk counts j) (i - 1) (omega (arith, p.within, length-chunk counts j size inside)) in
      let d : packed (drop (i - 1 + 1) (chunk counts j)) ≡ packed (drop i (chunk counts j)) = ap (λ (k : ℕ). packed (drop k (chunk counts j))) z in
      let f : flag (get_or (chunk counts j) (i - 1) 0) ≡ x = ap flag (get_d_chunk counts j size inside (i - 1) (omega (arith, p.within))) ∙ sym e in
      record { within = omega (arith, p.within); is = omega (arith, n, d, f, p.is) }

pub packs-start : (counts : List ℕ) (j : ℕ) → length counts ≡ 4096 → j < 64 → Packs counts j 0 64
unfolding packed
packs-start counts j size inside = record { within = omega arith; is = sym (ap packed (drop_of_length-le (chunk counts j) {i = 64} (omega (arith, length-chunk counts j size inside)))) }

-- Adding up

pub sum-next : (cs : List ℕ) (i : ℕ) → i < length cs → sum (take (i + 1) cs) ≡ sum (take i cs) + get_or cs i 0
unfolding sum
sum-next [] i h = absurd (omega arith)
sum-next (c ∷ cs) zero h = omega arith
sum-next (c ∷ cs) (suc i) h =
    let ih = sum-next cs i (omega arith) in
    let e : suc i + 1 ≡ suc (i + 1) = omega arith in
    rw e (omega arith)

pub sum-most : (cs : List ℕ) (i : ℕ) → sum (take i cs) ≤ sum cs
unfolding sum
sum-most cs zero = omega arith
sum-most [] (suc i) = omega arith
sum-most (c ∷ cs) (suc i) = let ih = sum-most cs i in omega arith

-- Counting ones

pub covered_next : (ws : List ℕ) (j : ℕ) → j < length ws → covered (take (j + 1) ws) ≡ covered (take j ws) + ones (get_or ws j 0)
unfolding covered
covered_next [] j h = absurd (omega arith)
covered_next (w ∷ ws) zero h = omega arith
covered_next (w ∷ ws) (suc j) h =
    let ih = covered_next ws j (omega arith) in
    let e : suc j + 1 ≡ suc (j + 1) = omega arith in
    rw e (omega arith)

-- Writing

pub get_d_words : (ns : List ℕ) (i j : ℕ) → i < length ns → j < 4 → get_or (number_words ns) (4 * i + j) 0 ≡ get_or (words64 (get_or ns i 0)) j 0
unfolding number_words words64
get_d_words [] i j h k = absurd (omega arith)
get_d_words (n ∷ ns) zero zero h k = refl
get_d_words (n ∷ ns) zero (suc zero) h k = refl
get_d_words (n ∷ ns) zero (suc (suc zero)) h k = refl
get_d_words (n ∷ ns) zero (suc (suc (suc zero))) h k = refl
get_d_words (n ∷ ns) zero (suc (suc (suc (suc j)))) h k = absurd (omega arith)
get_d_words (n ∷ ns) (suc i) j h k =
    let e : 4 * suc i + j ≡ suc (suc (suc (suc (4 * i + j)))) = omega arith in
    rw e (get_d_words ns i j (omega arith) k)

module _ (ns out₀ : List ℕ) (fits : 8 * length ns ≤ length out₀) where
  abbrev pub written : ℕ → List ℕ
  written k = over (bytes_of (take k (number_words ns))) out₀

  enough : 2 * length (number_words ns) ≤ length out₀
  enough = omega (arith, length-number_words ns)

  -- one number more
  pub written_next : (out out' : List ℕ) (i n : ℕ) → out' ≡ put64 out (4 * i) n → out ≡ written (4 * i) → i < length ns → n ≡ get_or ns i 0 → out' ≡ written (4 * (i + 1))
  unfolding put64 words64
  written_next out out' i n e o h f =
      let ws = number_words ns in
      let l = length-number_words ns in
      let g : (j : ℕ) → j < 4 → get_or (words64 n) j 0 ≡ get_or ws (4 * i + j) 0 = λ j b. ap (λ (m : ℕ). get_or (words64 m) j 0) f ∙ sym (get_d_words ns i j h b) in
      let z : 4 * i + 0 ≡ 4 * i = omega arith in
      let s₀ = upto_put ws out₀ enough (4 * i) (n / 281474976710656) refl o (omega arith) (g 0 (omega arith) ∙ ap (λ (k : ℕ). get_or ws k 0) z) in
      let s₁ = upto_put ws out₀ enough (4 * i + 1) (n / 4294967296 % 65536) refl s₀ (omega arith) (g 1 (omega arith)) in
      let a₁ : 4 * i + 1 + 1 ≡ 4 * i + 2 = omega arith in
      let s₂ = upto_put ws out₀ enough (4 * i + 2) (n / 65536 % 65536) refl (s₁ ∙ ap written a₁) (omega arith) (g 2 (omega arith)) in
      let a₂ : 4 * i + 2 + 1 ≡ 4 * i + 3 = omega arith in
      let s₃ = upto_put ws out₀ enough (4 * i + 3) (n % 65536) refl (s₂ ∙ ap written a₂) (omega arith) (g 3 (omega arith)) in
      let a₃ : 4 * i + 3 + 1 ≡ 4 * (i + 1) = omega arith in
      e ∙ s₃ ∙ ap written a₃

  -- a buffer of the very length is all written
  pub written_all : 8 * length ns ≡ length out₀ → written (4 * length ns) ≡ bytes_of (number_words ns)
  unfolding over
  written_all e =
      let l = length-number_words ns in
      upto-end (number_words ns) out₀ enough (4 * length ns) (omega arith)
      ∙ ap (λ (r : List ℕ). bytes_of (number_words ns) ++ r) (drop_of_length-le out₀ {i = length (bytes_of (number_words ns))} (omega (arith, length-bytes_of (number_words ns))))
      ∙ append-nil (bytes_of (number_words ns))

-- The numbers of figures, one by one

get_d_front : (a b : List ℕ) (i : ℕ) → i < length a → get_or (a ++ b) i 0 ≡ get_or a i 0
get_d_front [] b i h = absurd (omega arith)
get_d_front (x ∷ a) b zero h = refl
get_d_front (x ∷ a) b (suc i) h = get_d_front a b i (omega arith)

get_d-behind : (a b : List ℕ) (i j : ℕ) → i ≡ length a + j → get_or (a ++ b) i 0 ≡ get_or b j 0
get_d-behind [] b i j e = ap (λ (k : ℕ). get_or b k 0) (omega (arith, e))
get_d-behind (x ∷ a) b zero j e = absurd (omega (arith, e))
get_d-behind (x ∷ a) b (suc i) j e = get_d-behind a b i j (omega (arith, e))

module _ (counts : List ℕ) (books total : ℕ) (size : length counts ≡ 4096) where
  pub length-numbers_of : length (numbers_of counts books total) ≡ 4162
  unfolding numbers_of
  length-numbers_of = omega (arith, length-append counts (bits_of 64 counts ++ (books ∷ total ∷ [])), length-append (bits_of 64 counts) (books ∷ total ∷ []), length-bits 64 counts)

  pub a-count : (i : ℕ) → i < 4096 → get_or counts i 0 ≡ get_or (numbers_of counts books total) i 0
  unfolding numbers_of
  a-count i h = sym (get_d_front counts (bits_of 64 counts ++ (books ∷ total ∷ [])) i (omega arith))

  pub a_word : (i : ℕ) → 4096 ≤ i → i < 4160 → packed (chunk counts (i - 4096)) ≡ get_or (numbers_of counts books total) i 0
  unfolding numbers_of
  a_word i h k =
      let rest = bits_of 64 counts ++ (books ∷ total ∷ []) in
      sym (get_d-behind counts rest i (i - 4096) (omega arith) ∙ get_d_front (bits_of 64 counts) (books ∷ total ∷ []) (i - 4096) (omega (arith, length-bits 64 counts)) ∙ get_d_bits 64 counts (i - 4096) (omega arith))

  last : (i j : ℕ) → i ≡ 4160 + j → get_or (books ∷ total ∷ []) j 0 ≡ get_or (numbers_of counts books total) i 0
  unfolding numbers_of
  last i j e =
      let rest = bits_of 64 counts ++ (books ∷ total ∷ []) in
      sym (get_d-behind counts rest i (64 + j) (omega arith) ∙ get_d-behind (bits_of 64 counts) (books ∷ total ∷ []) (64 + j) j (omega (arith, length-bits 64 counts)))

  pub the-books : (i : ℕ) → i ≡ 4160 → books ≡ get_or (numbers_of counts books total) i 0
  the-books i e = last i 0 (omega arith)

  pub the-total : (i : ℕ) → i ≡ 4161 → total ≡ get_or (numbers_of counts books total) i 0
  the-total i e = last i 1 (omega arith)

-- The test of figures

module _ (f : Figures) (size : length f.counts ≡ 4096) where
  abbrev last-test : Bool
  last-test = if eqb f.books 0 then eqb f.total 0 else true

  sound-is : sound f ≡ (same f.bits (bits_of 64 f.counts) && (eqb f.total (sum f.counts) && last-test))
  unfolding sound
  sound-is = rw (eq-eqb (length f.counts) 4096 size) refl

  and_off : (a b : Bool) → (a && (b && false)) ≡ false
  and_off true true = refl
  and_off true false = refl
  and_off false b = refl

  pub total-of-none : f.books ≡ 0 → (f.total ≡ 0 → ⊥) → false ≡ sound f
  total-of-none b t =
      let e : last-test ≡ false = rw (eq-eqb f.books 0 b) (ne_eqb f.total 0 t) in
      sym (sound-is ∙ ap (λ (x : Bool). same f.bits (bits_of 64 f.counts) && (eqb f.total (sum f.counts) && x)) e ∙ and_off (same f.bits (bits_of 64 f.counts)) (eqb f.total (sum f.counts)))

  pub bits-differ : same f.bits (bits_of 64 f.counts) ≡ false → false ≡ sound f
  bits-differ e = sym (sound-is ∙ ap (λ (x : Bool). x && (eqb f.total (sum f.counts) && last-test)) e)

  pub fits-together : same f.bits (bits_of 64 f.counts) ≡ true → (f.books ≡ 0 → f.total ≡ 0) → eqb f.total (sum f.counts) ≡ sound f
  fits-together e h =
      let l : last-test ≡ true = split (eqb f.books 0) (λ t. rw t (eq-eqb f.total 0 (h (eqb-true f.books 0 t)))) (λ t. rw t refl) in
      sym (sound-is ∙ ap (λ (x : Bool). x && (eqb f.total (sum f.counts) && last-test)) e ∙ ap (λ (x : Bool). eqb f.total (sum f.counts) && x) l ∙ and-true (eqb f.total (sum f.counts)))

-- Bytes that are no figures

module _ (fs : List ℕ) where
  pub other-length : (length fs ≡ 33296 → ⊥) → figures_of fs ≡ none
  unfolding figures_of
  other-length h = rw (ne_eqb (length fs) 33296 h) refl

  pub unsound : length fs ≡ 33296 → false ≡ sound (figures_named (words_of fs)) → figures_of fs ≡ none
  unfolding figures_of
  unsound h e = rw (eq-eqb (length fs) 33296 h, sym e) refl
