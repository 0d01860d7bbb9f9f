-- Laws of words appended to bytes.
use mathlib.Core.List.{List, [], ◌∷◌, ◌++◌}
use mathlib.Core.Path.{◌≡◌, refl, sym, ap, ◌∙◌}
use Prim.Native.Nat.{ℕ, zero, suc, ◌+◌, ◌*◌, ◌-◌, ◌/◌, ◌%◌, ◌<◌, ◌≤◌, min}
use native.Mathlib.Omega.{arith}
use borrow.Rule.Slice.PartMut.{put_mid}
use Rattle.std.proofs.lemmas.Slice.{drop-put_mid}
use Rattle.std.proofs.lemmas.List.{length-append}
use lib.ListN.{length, get_or, take, drop, set, replicate, length-set, length-take, length-drop, length-replicate}
use lib.Seq.{set_out, drop-set-lt}
use Rattle.buffers.specs.Words.{put_word}
use Rattle.machine.proofs.Bytes.{length-words_of}
use Rattle.machine.specs.Bytes.{count, words_of}
use Rattle.parts.specs.Form.{packed, name_words}
use Rattle.parts.specs.Moved.{move_word}
use Rattle.resolver.proofs.Appending.{appends-then}
use Rattle.resolver.specs.Resolved.{Appends}
use Rattle.partwriter.specs.Put.{Leaves, Puts, name_here}

-- One word

word_set : (out : List ℕ) (i x : ℕ) → words_of (put_word out i x) ≡ set (words_of out) i x
unfolding words_of put_word
word_set [] i x = refl
word_set (h ∷ []) zero x = refl
word_set (h ∷ []) (suc i) x =
    let e : 2 * suc i ≡ suc (suc (2 * i)) = omega arith in
    let f : 2 * suc i + 1 ≡ suc (suc (2 * i + 1)) = omega arith in
    rw (f, e) refl
word_set (h ∷ l ∷ out) zero x = let e : x / 256 * 256 + x % 256 ≡ x = omega arith in ap (λ y. y ∷ words_of out) e
word_set (h ∷ l ∷ out) (suc i) x =
    let e : 2 * suc i ≡ suc (suc (2 * i)) = omega arith in
    let f : 2 * suc i + 1 ≡ suc (suc (2 * i + 1)) = omega arith in
    rw (f, e) (ap (λ ws. (h * 256 + l) ∷ ws) (word_set out i x))

pub leaves_word : {out out' : List ℕ} {i : ℕ} (x : ℕ) → i < count out → out' ≡ put_word out i x → Leaves out (set (words_of out) i x) out'
unfolding put_word
leaves_word {out} {out'} {i} x h e = record {
  words = ap words_of e ∙ word_set out i x;
  size = ap length e ∙ length-set (set out (2 * i) (x / 256)) (2 * i + 1) (x % 256) ∙ length-set out (2 * i) (x / 256);
  odd = ap (drop (2 * count out)) e ∙ drop-set-lt (2 * count out) (set out (2 * i) (x / 256)) (2 * i + 1) (x % 256) (omega arith) ∙ drop-set-lt (2 * count out) out (2 * i) (x / 256) (omega arith);
}

pub leaves-same : (out : List ℕ) → Leaves out (words_of out) out
leaves-same out = record { words = refl; size = refl; odd = refl }

pub leaves-out : (out : List ℕ) (i x : ℕ) → count out ≤ i → Leaves out (set (words_of out) i x) out
leaves-out out i x h = record { words = sym (set_out (words_of out) i x (omega (arith, length-words_of out))); size = refl; odd = refl }

pub same_count : (out out' : List ℕ) → length out' ≡ length out → count out' ≡ count out
unfolding count
same_count out out' e = ap (λ n. n / 2) e

-- two changes, the second told from the words that the first left
pub leaves-then : {out out₁ out₂ ws ws₂ : List ℕ} → Leaves out ws out₁ → Leaves out₁ ws₂ out₂ → Leaves out ws₂ out₂
leaves-then {out} {out₁} {out₂} {ws} {ws₂} a b = record {
  words = b.words;
  size = b.size ∙ a.size;
  odd = ap (λ n. drop (2 * n) out₂) (sym (same_count out out₁ a.size)) ∙ b.odd ∙ ap (λ n. drop (2 * n) out₁) (same_count out out₁ a.size) ∙ a.odd;
}

-- Words behind words

pub puts-appends : {out out' xs : List ℕ} {c c' : ℕ} → Puts out c xs out' c' → Appends (words_of out) c xs (words_of out') c'
puts-appends {out} {out'} {xs} {c} {c'} h = record { cells = h.leaves.words; count = h.total ∙ ap (λ n. min (suc n) (c + length xs)) (sym (length-words_of out)) }

pub puts-size : {out out' xs : List ℕ} {c c' : ℕ} → Puts out c xs out' c' → length out' ≡ length out
puts-size h = h.leaves.size

-- the count is never more than one above the room
pub puts-bound : {out out' xs : List ℕ} {c c' : ℕ} → Puts out c xs out' c' → c' ≤ suc (count out')
puts-bound {out} {out'} h = omega (arith, h.total, same_count out out' h.leaves.size)

pub puts_none : {out : List ℕ} {c c' : ℕ} → c' ≡ min c (count out + 1) → Puts out c [] out c'
puts_none {out} {c} {c'} e = record { leaves = leaves-same out; total = omega (arith, e) }

pub puts_one : {out out' : List ℕ} {c : ℕ} (x : ℕ) → c < count out → out' ≡ put_word out c x → Puts out c (x ∷ []) out' (c + 1)
puts_one x h e = record { leaves = leaves_word x h e; total = omega arith }

pub puts-past : (out : List ℕ) (c x : ℕ) → count out ≤ c → Puts out c (x ∷ []) out (count out + 1)
puts-past out c x h = record { leaves = leaves-out out c x h; total = omega arith }

pub puts_then : {out out₁ out₂ xs ys : List ℕ} {c c₁ c₂ : ℕ} → Puts out c xs out₁ c₁ → Puts out₁ c₁ ys out₂ c₂ → Puts out c (xs ++ ys) out₂ c₂
puts_then {out} {out₁} {out₂} {xs} {ys} {c} {c₁} {c₂} a b =
    let t = appends-then (puts-appends a) (puts-appends b) in
    let l = leaves-then a.leaves b.leaves in
    record {
      leaves = record { words = t.cells; size = l.size; odd = l.odd };
      total = t.count ∙ ap (λ n. min (suc n) (c + length (xs ++ ys))) (length-words_of out);
    }

pub puts-next : {out out₁ out₂ xs ys : List ℕ} {c c₁ c₂ x : ℕ} → xs ≡ x ∷ ys → Puts out c (x ∷ []) out₁ c₁ → Puts out₁ c₁ ys out₂ c₂ → Puts out c xs out₂ c₂
puts-next e a b = rw e (puts_then a b)

pub puts-nothing : {out xs : List ℕ} {c : ℕ} → xs ≡ [] → c ≤ suc (count out) → Puts out c xs out c
puts-nothing e h = rw e (puts_none (omega (arith, h)))

pub puts-same : {out out' xs ys : List ℕ} {c c' : ℕ} → xs ≡ ys → Puts out c xs out' c' → Puts out c ys out' c'
puts-same e h = rw (← e) h

pub puts_first : {out out' xs : List ℕ} {c c' x y : ℕ} → x ≡ y → Puts out c (x ∷ xs) out' c' → Puts out c (y ∷ xs) out' c'
puts_first e h = rw (← e) h

-- A name

pub name-words : (text : List ℕ) (start len moved : ℕ) → start + len ≤ length text → name_here text start len moved ≡ (start - moved) ∷ len ∷ take len (drop start text)
unfolding name_here name_words move_word
name-words text start len moved h =
    let e : length (take len (drop start text)) ≡ len = omega (arith, length-take len (drop start text), length-drop start text) in
    ap (λ n. (start - moved) ∷ n ∷ take len (drop start text)) e

-- Bytes, two a word

get_d_past : (text : List ℕ) (i : ℕ) → length text ≤ i → get_or text i 0 ≡ 0
get_d_past [] i h = refl
get_d_past (a ∷ text) zero h = absurd (omega arith)
get_d_past (a ∷ text) (suc i) h = get_d_past text i (omega arith)

pub next-packed : (text : List ℕ) (i x : ℕ) → i < length text → x ≡ get_or text i 0 * 256 + get_or text (i + 1) 0 → packed (drop i text) ≡ x ∷ packed (drop (i + 2) text)
unfolding packed
next-packed [] i x h e = absurd (omega arith)
next-packed (a ∷ []) zero x h e = let z : 256 * a ≡ x = omega (arith, e) in ap (λ y. y ∷ []) z
next-packed (a ∷ b ∷ text) zero x h e = let z : 256 * a + b ≡ x = omega (arith, e) in ap (λ y. y ∷ packed text) z
next-packed (a ∷ text) (suc i) x h e =
    let f : suc i + 1 ≡ suc (i + 1) = omega arith in
    let g : suc i + 2 ≡ suc (i + 2) = omega arith in
    rw g (next-packed text i x (omega arith) (rw f at e))

pub no-packed : (text : List ℕ) (i : ℕ) → length text ≤ i → packed (drop i text) ≡ []
unfolding packed
no-packed [] zero h = refl
no-packed [] (suc i) h = refl
no-packed (a ∷ text) zero h = absurd (omega arith)
no-packed (a ∷ text) (suc i) h = no-packed text i (omega arith)

-- Zeros behind

front-words : (c : ℕ) (s t : List ℕ) → c ≤ count s → words_of (take (2 * c) s ++ t) ≡ take c (words_of s) ++ words_of t
unfolding words_of count
front-words zero s t h = refl
front-words (suc c) [] t h = absurd (omega arith)
front-words (suc c) (x ∷ []) t h = absurd (omega arith)
front-words (suc c) (x ∷ y ∷ s) t h =
    let e : 2 * suc c ≡ suc (suc (2 * c)) = omega arith in
    rw e (ap (λ ws. (x * 256 + y) ∷ ws) (front-words c s t (omega arith)))

zero-words : (k : ℕ) (t : List ℕ) → length t < 2 → words_of (replicate (2 * k) 0 ++ t) ≡ replicate k 0
unfolding words_of
zero-words zero [] h = refl
zero-words zero (x ∷ []) h = refl
zero-words zero (x ∷ y ∷ t) h = absurd (omega arith)
zero-words (suc k) t h =
    let e : 2 * suc k ≡ suc (suc (2 * k)) = omega arith in
    rw e (ap (λ ws. 0 ∷ ws) (zero-words k t h))

-- the whole words from the c-th on, zeroed
pub zeros-left : (out : List ℕ) (c n : ℕ) (zs : List ℕ) → c ≤ count out → n ≡ count out → zs ≡ replicate (length (take (2 * n - 2 * c) (drop (2 * c) out))) 0
    → Leaves out (take c (words_of out) ++ replicate (count out - c) 0) (put_mid (2 * c) (2 * n - 2 * c) out zs)
unfolding count
zeros-left out c n zs h e z =
    let m = length out / 2 in
    let k : 2 * n - 2 * c ≡ 2 * (m - c) = omega (arith, e) in
    let d = drop (2 * n - 2 * c) (drop (2 * c) out) in
    let l : length d < 2 = omega (arith, e, length-drop (2 * n - 2 * c) (drop (2 * c) out), length-drop (2 * c) out) in
    let j : length (take (2 * n - 2 * c) (drop (2 * c) out)) ≡ 2 * n - 2 * c = omega (arith, e, length-take (2 * n - 2 * c) (drop (2 * c) out), length-drop (2 * c) out) in
    let g : zs ≡ replicate (2 * n - 2 * c) 0 = z ∙ ap (λ i. replicate i 0) j in
    let y : length zs ≡ 2 * n - 2 * c = ap length g ∙ length-replicate {A = ℕ} (2 * n - 2 * c) 0 in
    let f : zs ≡ replicate (2 * (m - c)) 0 = g ∙ ap (λ i. replicate i 0) k in
    record {
      words = front-words c out (zs ++ d) h ∙ ap (λ ws. take c (words_of out) ++ ws) (ap (λ i. words_of (i ++ d)) f ∙ zero-words (m - c) d l);
      size = omega (arith, e, y, length-append (take (2 * c) out) (zs ++ d), length-append zs d, length-take (2 * c) out, length-drop (2 * n - 2 * c) (drop (2 * c) out), length-drop (2 * c) out);
      odd = drop-put_mid (2 * c) (2 * n - 2 * c) out zs (2 * m) (omega (arith, e)) (omega arith) y;
    }
