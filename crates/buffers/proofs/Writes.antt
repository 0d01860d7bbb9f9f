-- Words written behind words.
use mathlib.Core.List.{List, [], ◌∷◌, ◌++◌, append_assoc}
use mathlib.Core.Path.{◌≡◌, refl, sym, ap, ◌∙◌}
use Prim.Native.Nat.{ℕ, suc, ◌+◌, ◌*◌, ◌-◌, ◌/◌, ◌%◌, ◌<◌, ◌≤◌}
use native.Mathlib.Numerals.{add-one}
use native.Mathlib.Omega.{arith}
use borrow.Rule.Slice.PartMut.{put_mid}
use lib.ListN.{length, get_or, set, take, drop, length-append, length-drop}
use lib.Seq.{sets, sets-eq, set_at, drop-cons, drop-drop, take-suc, take_all, length-take-le}
use Rattle.machine.proofs.Bytes.{length-bytes_of, bytes_of-append}
use Rattle.machine.specs.Bytes.{bytes_of, over}
use Rattle.std.specs.Int.{w16, w64, to_be_bytes}
use Rattle.buffers.specs.Words.{put_word, put64}

-- a word's two bytes behind k words
two-behind : (A out : List ℕ) (k x : ℕ) → length A ≡ 2 * k → 2 * k + 2 ≤ length out
    → put_word (A ++ drop (2 * k) out) k x ≡ (A ++ (x / 256 ∷ x % 256 ∷ [])) ++ drop (2 * k + 2) out
unfolding put_word
two-behind A out k x a h =
    let d₀ = drop-cons out (2 * k) 0 (omega arith) in
    let d₁ = drop-cons out (suc (2 * k)) 0 (omega arith) in
    let e : 2 * k + 2 ≡ suc (suc (2 * k)) = omega arith in
    let s₀ : set (A ++ drop (2 * k) out) (2 * k) (x / 256) ≡ A ++ x / 256 ∷ get_or out (suc (2 * k)) 0 ∷ drop (2 * k + 2) out =
    rw (d₀, d₁, e) (set_at A (get_or out (2 * k) 0) (get_or out (suc (2 * k)) 0 ∷ drop (suc (suc (2 * k))) out) (x / 256) (2 * k) a) in
    let l : length (A ++ (x / 256 ∷ [])) ≡ 2 * k + 1 = omega (arith, length-append A (x / 256 ∷ [])) in
    let s₁ = set_at (A ++ (x / 256 ∷ [])) (get_or out (suc (2 * k)) 0) (drop (2 * k + 2) out) (x % 256) (2 * k + 1) l in
    ap (λ (z : List ℕ). set z (2 * k + 1) (x % 256)) s₀
    ∙ ap (λ (z : List ℕ). set z (2 * k + 1) (x % 256)) (sym (append_assoc A (x / 256 ∷ []) (get_or out (suc (2 * k)) 0 ∷ drop (2 * k + 2) out)))
    ∙ s₁ ∙ append_assoc A (x / 256 ∷ []) (x % 256 ∷ drop (2 * k + 2) out) ∙ sym (append_assoc A (x / 256 ∷ x % 256 ∷ []) (drop (2 * k + 2) out))

-- a word behind words that stand over a buffer
pub put-behind : (ws out : List ℕ) (k x : ℕ) → length ws ≡ k → 2 * k + 2 ≤ length out
    → put_word (over (bytes_of ws) out) k x ≡ over (bytes_of (ws ++ (x ∷ []))) out
unfolding over bytes_of
put-behind ws out k x e h =
    let A = bytes_of ws in
    let a : length A ≡ 2 * k = length-bytes_of ws ∙ ap (λ (n : ℕ). 2 * n) e in
    let l : length (A ++ (x / 256 ∷ x % 256 ∷ [])) ≡ 2 * k + 2 = omega (arith, length-append A (x / 256 ∷ x % 256 ∷ [])) in
    ap (λ (n : ℕ). put_word (A ++ drop n out) k x) a ∙ two-behind A out k x a h
    ∙ ap (λ (n : ℕ). (A ++ (x / 256 ∷ x % 256 ∷ [])) ++ drop n out) (sym l)
    ∙ ap (λ (z : List ℕ). z ++ drop (length z) out) (sym (bytes_of-append ws (x ∷ [])))

pub over-length : (ws out : List ℕ) → 2 * length ws ≤ length out → length (over (bytes_of ws) out) ≡ length out
unfolding over
over-length ws out h = omega (arith, length-bytes_of ws, length-append (bytes_of ws) (drop (length (bytes_of ws)) out), length-drop (length (bytes_of ws)) out)

-- A loop that writes the words ws one after the other into the buffer out₀: the first k stand there
module _ (ws out₀ : List ℕ) (fits : 2 * length ws ≤ length out₀) where
  pub upto-start : out₀ ≡ over (bytes_of (take 0 ws)) out₀
  unfolding over bytes_of
  upto-start = refl

  pub upto-size : (k : ℕ) → k ≤ length ws → length (over (bytes_of (take k ws)) out₀) ≡ length out₀
  upto-size k h = over-length (take k ws) out₀ (omega (arith, length-take-le k ws h))

  pub upto_put : {out out' : List ℕ} (k x : ℕ) → out' ≡ put_word out k x → out ≡ over (bytes_of (take k ws)) out₀ → k < length ws → x ≡ get_or ws k 0
      → out' ≡ over (bytes_of (take (k + 1) ws)) out₀
  upto_put k x e o h f =
      let t : take (k + 1) ws ≡ take k ws ++ (x ∷ []) =
      ap (λ (n : ℕ). take n ws) (add-one k) ∙ take-suc ws k 0 h ∙ ap (λ (v : ℕ). take k ws ++ (v ∷ [])) (sym f) in
      e ∙ ap (λ (z : List ℕ). put_word z k x) o ∙ put-behind (take k ws) out₀ k x (length-take-le k ws (omega arith)) (omega arith)
      ∙ ap (λ (z : List ℕ). over (bytes_of z) out₀) (sym t)

  pub upto-end : (k : ℕ) → length ws ≤ k → over (bytes_of (take k ws)) out₀ ≡ over (bytes_of ws) out₀
  upto-end k h = ap (λ (z : List ℕ). over (bytes_of z) out₀) (take_all k ws h)

-- A word and a number, copied into the bytes that they take

mid-sets : (out vs : List ℕ) (a e : ℕ) → e ≡ a + length vs → e ≤ length out → put_mid a (e - a) out vs ≡ sets out a vs
mid-sets out vs a e h fits =
    let k : e - a ≡ length vs = omega arith in
    ap (λ (n : ℕ). take a out ++ (vs ++ drop n (drop a out))) k ∙ ap (λ (z : List ℕ). take a out ++ (vs ++ z)) (drop-drop (length vs) a out)
    ∙ sym (append_assoc (take a out) vs (drop (a + length vs) out)) ∙ sym (sets-eq vs out a (omega arith))

pub word-copied : (out new : List ℕ) (i x : ℕ) → 2 * i + 1 < length out → x < 65536 → new ≡ to_be_bytes w16 x
    → put_mid (2 * i) (2 * i + 2 - 2 * i) out new ≡ put_word out i x
unfolding put_word
word-copied out new i x h f e =
    let b : x / 256 % 256 ≡ x / 256 = omega arith in
    let s : new ≡ x / 256 ∷ x % 256 ∷ [] = e ∙ ap (λ (v : ℕ). v ∷ x % 256 ∷ []) b in
    ap (λ (z : List ℕ). put_mid (2 * i) (2 * i + 2 - 2 * i) out z) s
    ∙ mid-sets out (x / 256 ∷ x % 256 ∷ []) (2 * i) (2 * i + 2) (omega arith) (omega arith)
    ∙ ap (λ (j : ℕ). set (set out (2 * i) (x / 256)) j (x % 256)) (sym (add-one (2 * i)))

pub number-copied : (out new : List ℕ) (i n : ℕ) → 2 * i + 8 ≤ length out → n < 18446744073709551616 → new ≡ to_be_bytes w64 n
    → put_mid (2 * i) (2 * i + 8 - 2 * i) out new ≡ put64 out i n
unfolding put64 put_word
number-copied out new i n h f e =
    let p₁ : suc (2 * i) ≡ 2 * i + 1 = omega arith in
    let p₂ : suc (suc (2 * i)) ≡ 2 * (i + 1) = omega arith in
    let p₃ : suc (suc (suc (2 * i))) ≡ 2 * (i + 1) + 1 = omega arith in
    let p₄ : suc (suc (suc (suc (2 * i)))) ≡ 2 * (i + 2) = omega arith in
    let p₅ : suc (suc (suc (suc (suc (2 * i))))) ≡ 2 * (i + 2) + 1 = omega arith in
    let p₆ : suc (suc (suc (suc (suc (suc (2 * i)))))) ≡ 2 * (i + 3) = omega arith in
    let p₇ : suc (suc (suc (suc (suc (suc (suc (2 * i))))))) ≡ 2 * (i + 3) + 1 = omega arith in
    let b₇ : n / 72057594037927936 % 256 ≡ n / 281474976710656 / 256 = omega arith in
    let b₆ : n / 281474976710656 % 256 ≡ n / 281474976710656 % 256 = refl in
    let b₅ : n / 1099511627776 % 256 ≡ n / 4294967296 % 65536 / 256 = omega arith in
    let b₄ : n / 4294967296 % 256 ≡ n / 4294967296 % 65536 % 256 = omega arith in
    let b₃ : n / 16777216 % 256 ≡ n / 65536 % 65536 / 256 = omega arith in
    let b₂ : n / 65536 % 256 ≡ n / 65536 % 65536 % 256 = omega arith in
    let b₁ : n / 256 % 256 ≡ n % 65536 / 256 = omega arith in
    let b₀ : n % 256 ≡ n % 65536 % 256 = omega arith in
    ap (λ (z : List ℕ). put_mid (2 * i) (2 * i + 8 - 2 * i) out z) e
    ∙ mid-sets out (to_be_bytes w64 n) (2 * i) (2 * i + 8) refl (omega arith)
    ∙ cc (p₁, p₂, p₃, p₄, p₅, p₆, p₇, b₇, b₅, b₄, b₃, b₂, b₁, b₀)
