-- The word of a file at each place, and how many there are: the other way round than `named-at` of crate loading.
use mathlib.Core.List.{List, [], ◌∷◌, ◌++◌}
use mathlib.Core.Path.{◌≡◌, refl, sym, ap, ◌∙◌}
use Prim.Native.Nat.{ℕ, zero, suc, ◌+◌, ◌*◌, ◌-◌, ◌/◌, ◌%◌, ◌<◌, ◌≤◌, min}
use native.Mathlib.Decide.{dec_lt}
use native.Mathlib.Omega.{arith}
use lib.ListN.{length, take, drop, get_or, length-append, length-drop, get_or-append}
use lib.Seq.{drop_at, length-take-le, get_or-take, get_or-drop, drop-drop}
use borrow.Author.Tests.{le-leb, lt-leb}
use Rattle.loading.proofs.Readings.{below}
use Rattle.loading.specs.File.{tw, records, file_words}
use Rattle.writer.specs.Storing.{Sized, Fits, file_length}

-- One record

last-record : (k : ℕ) (ws : List ℕ) → length ws ≤ 256 → records (suc k) ws ≡ tw ∷ length ws ∷ ws
unfolding records
last-record k ws h = rw (le-leb (length ws) 256 h)

full-record : (k : ℕ) (ws : List ℕ) → 256 < length ws → records (suc k) ws ≡ tw ∷ 256 ∷ (take 256 ws ++ records k (drop 256 ws))
unfolding records
full-record k ws h = rw (lt-leb (length ws) 256 h)

module _ (k : ℕ) (ws : List ℕ) where
  first-mark : get_or (records (suc k) ws) 0 0 ≡ tw
  first-mark = elim (dec_lt 256 (length ws)) [
    | yes u ↦ ap (λ (z : List ℕ). get_or z 0 0) (full-record k ws u)
    | no u ↦ ap (λ (z : List ℕ). get_or z 0 0) (last-record k ws (omega arith))
  ]

  first_count : get_or (records (suc k) ws) 1 0 ≡ min 256 (length ws)
  first_count = elim (dec_lt 256 (length ws)) [
    | yes u ↦ ap (λ (z : List ℕ). get_or z 1 0) (full-record k ws u) ∙ omega arith
    | no u ↦ ap (λ (z : List ℕ). get_or z 1 0) (last-record k ws (omega arith)) ∙ omega arith
  ]

  first_word : (r : ℕ) → 2 ≤ r → r < 258 → get_or (records (suc k) ws) r 0 ≡ get_or ws (r - 2) 0
  first_word r a b = elim (dec_lt 256 (length ws)) [
    | yes u ↦ ap (λ (z : List ℕ). get_or z r 0) (full-record k ws u) ∙ below tw 256 (take 256 ws ++ records k (drop 256 ws)) (r - 2) r (omega arith)
        ∙ get_or-append (take 256 ws) (records k (drop 256 ws)) 0 (r - 2) (omega (arith, length-take-le 256 ws (omega arith))) ∙ get_or-take 256 ws (r - 2) 0 (omega arith)
    | no u ↦ ap (λ (z : List ℕ). get_or z r 0) (last-record k ws (omega arith)) ∙ below tw (length ws) ws (r - 2) r (omega arith)
  ]

-- Behind full records

one-behind : (k : ℕ) (ws : List ℕ) → 256 < length ws → drop 258 (records (suc k) ws) ≡ records k (drop 256 ws)
one-behind k ws h = ap (drop 258) (full-record k ws h) ∙ drop_at (take 256 ws) (records k (drop 256 ws)) 256 (length-take-le 256 ws (omega arith))

behind : (q k : ℕ) (ws : List ℕ) → 256 * q < length ws → length ws ≤ 256 * k → drop (258 * q) (records k ws) ≡ records (k - q) (drop (256 * q) ws)
behind zero k ws a b = let e : k ≡ k - 0 = omega arith in ap (λ (m : ℕ). records m ws) e
behind (suc q) zero ws a b = absurd (omega arith)
behind (suc q) (suc k) ws a b =
    let l = length-drop 256 ws in
    let ih = behind q k (drop 256 ws) (omega arith) (omega arith) in
    let e : 258 * suc q ≡ 258 + 258 * q = omega arith in
    ap (λ (n : ℕ). drop n (records (suc k) ws)) e ∙ sym (drop-drop (258 * q) 258 (records (suc k) ws))
    ∙ ap (drop (258 * q)) (one-behind k ws (omega arith)) ∙ ih ∙ ap (records (k - q)) (drop-drop (256 * q) 256 ws)
    ∙ two-places (k - q) (suc k - suc q) (256 + 256 * q) (256 * suc q) (omega arith) (omega arith)
  where
    two-places : (a b m n : ℕ) → a ≡ b → m ≡ n → records a (drop m ws) ≡ records b (drop n ws)
    two-places a b m n e f = rw (e, f)

-- how many words the records have
length-records : (k : ℕ) (ws : List ℕ) → 1 ≤ length ws → length ws ≤ 256 * k → length (records k ws) ≡ length ws + 2 * ((length ws + 256 - 1) / 256)
length-records zero ws a b = absurd (omega arith)
length-records (suc k) ws a b = elim (dec_lt 256 (length ws)) [
  | yes u ↦
      let l = length-drop 256 ws in
      let t = length-take-le 256 ws (omega arith) in
      let R = records k (drop 256 ws) in
      let ih = length-records k (drop 256 ws) (omega arith) (omega arith) in
      ap length (full-record k ws u) ∙ omega (arith, length-append (take 256 ws) R)
  | no u ↦ ap length (last-record k ws (omega arith)) ∙ omega arith
]

-- The word at index j of the records

module _ (k : ℕ) (ws : List ℕ) (a : 1 ≤ length ws) (b : length ws ≤ 256 * k) (j : ℕ) (h : j < length (records k ws)) where
  inside : 256 * (j / 258) < length ws
  inside = omega (arith, length-records k ws a b)

  here : (r : ℕ) → r ≡ j % 258 → get_or (records k ws) j 0 ≡ get_or (records (suc (k - j / 258 - 1)) (drop (256 * (j / 258)) ws)) r 0
  here r e =
      let i = inside in
      let f : j ≡ 258 * (j / 258) + r = omega arith in
      let g : k - j / 258 ≡ suc (k - j / 258 - 1) = omega arith in
      ap (λ (n : ℕ). get_or (records k ws) n 0) f ∙ sym (get_or-drop (258 * (j / 258)) (records k ws) r 0)
      ∙ ap (λ (z : List ℕ). get_or z r 0) (behind (j / 258) k ws i b) ∙ ap (λ (m : ℕ). get_or (records m (drop (256 * (j / 258)) ws)) r 0) g

  mark-at : j % 258 ≡ 0 → tw ≡ get_or (records k ws) j 0
  mark-at e = sym (here 0 (sym e) ∙ first-mark (k - j / 258 - 1) (drop (256 * (j / 258)) ws))

  count_at : (c n : ℕ) → j % 258 ≡ 1 → n ≡ length ws → c ≡ min 256 (n - j / 258 * 256) → c ≡ get_or (records k ws) j 0
  count_at c n e f g =
      let l = length-drop (256 * (j / 258)) ws in
      let m : n - j / 258 * 256 ≡ length (drop (256 * (j / 258)) ws) = omega arith in
      sym (here 1 (sym e) ∙ first_count (k - j / 258 - 1) (drop (256 * (j / 258)) ws) ∙ ap (min 256) (sym m) ∙ sym g)

  word-at : (x : ℕ) → (j % 258 ≡ 0 → ⊥) → (j % 258 ≡ 1 → ⊥) → x ≡ get_or ws (j / 258 * 256 + j % 258 - 2) 0 → x ≡ get_or (records k ws) j 0
  word-at x e f g =
      let two = at_least (j % 258) e f in
      let W = drop (256 * (j / 258)) ws in
      let i : 256 * (j / 258) + (j % 258 - 2) ≡ j / 258 * 256 + j % 258 - 2 = omega arith in
      sym (here (j % 258) refl ∙ first_word (k - j / 258 - 1) W (j % 258) two (omega arith) ∙ get_or-drop (256 * (j / 258)) ws (j % 258 - 2) 0
      ∙ ap (λ (n : ℕ). get_or ws n 0) i ∙ sym g)
    where
      at_least : (r : ℕ) → (r ≡ 0 → ⊥) → (r ≡ 1 → ⊥) → 2 ≤ r
      at_least zero p q = absurd (p refl)
      at_least (suc zero) p q = absurd (q refl)
      at_least (suc (suc r)) p q = omega arith

-- for a table of n words
module _ {ws : List ℕ} {n : ℕ} (s : Sized ws n) (j : ℕ) (h : j < length (records 16 ws)) where
  some_words : 1 ≤ length ws
  some_words = omega (arith, s.size, s.some_words)

  few_words : length ws ≤ 256 * 16
  few_words = omega (arith, s.size, s.low)

  pub sized_inside : j / 258 * 256 < n
  sized_inside = omega (arith, s.size, inside 16 ws some_words few_words j h)

  pub sized-mark : j % 258 ≡ 0 → tw ≡ get_or (records 16 ws) j 0
  sized-mark e = mark-at 16 ws some_words few_words j h e

  pub sized-count : (c : ℕ) → j % 258 ≡ 1 → c ≡ min 256 (n - j / 258 * 256) → c ≡ get_or (records 16 ws) j 0
  sized-count c e g = count_at 16 ws some_words few_words j h c n e s.size g

  pub sized-word : (x : ℕ) → (j % 258 ≡ 0 → ⊥) → (j % 258 ≡ 1 → ⊥) → x ≡ get_or ws (j / 258 * 256 + j % 258 - 2) 0 → x ≡ get_or (records 16 ws) j 0
  sized-word x e f g = word-at 16 ws some_words few_words j h x e f g

-- The file

pub header-last : (n v j : ℕ) → j < 4 → (j ≡ 0 → ⊥) → (j ≡ 1 → ⊥) → (j ≡ 2 → ⊥) → v ≡ get_or (18500 ∷ 2 ∷ n ∷ v ∷ []) j 0
header-last n v zero h a b c = absurd (a refl)
header-last n v (suc zero) h a b c = absurd (b refl)
header-last n v (suc (suc zero)) h a b c = absurd (c refl)
header-last n v (suc (suc (suc zero))) h a b c = refl
header-last n v (suc (suc (suc (suc j)))) h a b c = absurd (omega arith)

behind-four : (a b c d : ℕ) (ws : List ℕ) (i j : ℕ) → j ≡ suc (suc (suc (suc i))) → get_or (a ∷ b ∷ c ∷ d ∷ ws) j 0 ≡ get_or ws i 0
behind-four a b c d ws i j e = rw e

module _ (ws : List ℕ) (v n : ℕ) (s : Sized ws n) where
  pub length-file : file_length n ≡ length (file_words ws v)
  unfolding file_words file_length
  length-file = omega (arith, s.size, s.some_words, s.low, length-records 16 ws (omega (arith, s.size, s.some_words)) (omega (arith, s.size, s.low)))

  pub header_at : (x j : ℕ) → j < 4 → x ≡ get_or (18500 ∷ 2 ∷ n ∷ v ∷ []) j 0 → x ≡ get_or (file_words ws v) j 0
  unfolding file_words
  header_at x zero h e = e
  header_at x (suc zero) h e = e
  header_at x (suc (suc zero)) h e = e ∙ s.size
  header_at x (suc (suc (suc zero))) h e = e
  header_at x (suc (suc (suc (suc j)))) h e = absurd (omega arith)

  pub record-at : (x j : ℕ) → 4 ≤ j → x ≡ get_or (records 16 ws) (j - 4) 0 → x ≡ get_or (file_words ws v) j 0
  unfolding file_words
  record-at x j h e = e ∙ sym (behind-four 18500 2 (length ws) v (records 16 ws) (j - 4) j (omega arith))

  pub room_for : (total : ℕ) (out : List ℕ) → Fits (file_words ws v) total out → 2 * length (file_words ws v) ≤ length out
  room_for total out f = omega (arith, f.words, f.room)

  pub record-inside : (j : ℕ) → 4 ≤ j → j < length (file_words ws v) → j - 4 < length (records 16 ws)
  unfolding file_words
  record-inside j h u = omega arith
