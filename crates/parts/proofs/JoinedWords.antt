-- The words of a piece of a text with a line feed behind it: those of the text up to the piece's end, but for places.
use mathlib.Core.Bool.{Bool, true, false, ◌&&◌, not}
use mathlib.Core.List.{List, [], ◌∷◌, ◌++◌}
use mathlib.Core.Path.{◌≡◌, refl, sym, ap, ◌∙◌}
use Prim.Native.Nat.{ℕ, zero, suc, ◌+◌, ◌-◌, ◌≤◌, ◌<◌}
use lib.Dec.{eqb, leb}
use lib.ListN.{length, take, drop, get_or}
use borrow.Author.Tests.{eqb-true, eqb-false}
use native.Mathlib.Nat.{add-zero}
use native.Mathlib.Omega.{arith}
use Rattle.std.specs.Prelude.{if◌then◌else◌}
use Rattle.parts.proofs.Moved.{Ahead, at_rest, a_word, Upto, here, more}
use Rattle.parts.specs.Blank as but
use Rattle.parts.specs.Moved.{move_word}
use Rattle.words.specs.Words.{Word, Found, bad, last, kind_of, reserved, letter, digit, name_byte, string_byte, blank, symbol, run, string_here, word_here, words_from, words}

-- One word

-- a run that ends before the line feed
run-before : (p : ℕ → Bool) → p 10 ≡ false → (u v tail : List ℕ) → run p (u ++ v) ≤ length u → run p (u ++ 10 ∷ tail) ≡ run p (u ++ v)
unfolding run
run-before p e [] v tail h = let z : run p v ≡ 0 = omega arith in rw (e, z)
run-before p e (b ∷ u) v tail h = go (p b) h (λ g. run-before p e u v tail g)
  where
    go : (t : Bool) → (if t then suc (run p (u ++ v)) else 0) ≤ suc (length u) → (run p (u ++ v) ≤ length u → run p (u ++ 10 ∷ tail) ≡ run p (u ++ v))
        → (if t then suc (run p (u ++ 10 ∷ tail)) else 0) ≡ (if t then suc (run p (u ++ v)) else 0)
    go true h₁ f = ap suc (f (omega arith))
    go false h₁ f = refl

take-before : (n : ℕ) (u v w : List ℕ) → n ≤ length u → take n (u ++ v) ≡ take n (u ++ w)
take-before zero u v w h = refl
take-before (suc n) [] v w h = absurd (omega arith)
take-before (suc n) (b ∷ u) v w h = ap (λ (l : List ℕ). b ∷ l) (take-before n u v w (omega arith))

get-before : (i : ℕ) (u v w : List ℕ) → i < length u → get_or (u ++ v) i 0 ≡ get_or (u ++ w) i 0
get-before i [] v w h = absurd (omega arith)
get-before zero (b ∷ u) v w h = refl
get-before (suc i) (b ∷ u) v w h = get-before i u v w (omega arith)

-- a word that ends within n bytes is the same word
record Ends (n : ℕ) (f g : Found) : Type 0 where
  same : f.size ≤ n → (f.kind ≡ bad → ⊥) → g ≡ f

either : {n : ℕ} (t : Bool) {f g f' g' : Found} → (t ≡ true → Ends n f f') → (t ≡ false → Ends n g g') → Ends n (if t then f else g) (if t then f' else g')
either true p q = p refl
either false p q = q refl

alike : {n : ℕ} {f : Found} → Ends n f f
alike = record { same = λ h k. refl }

-- `>>`, where the second `>` stands before the line feed
twice-before : (u v tail : List ℕ) (g : Bool) (f : Found)
    → Ends (suc (length u)) (if g && eqb (get_or (u ++ v) 0 0) 62 then record { kind = 256; size = 2 } else f) (if g && eqb (get_or (u ++ 10 ∷ tail) 0 0) 62 then record { kind = 256; size = 2 } else f)
twice-before u v tail false f = alike
twice-before (b ∷ u) v tail true f = alike
twice-before [] v tail true f = go (eqb (get_or v 0 0) 62)
  where
    go : (t : Bool) → Ends 1 (if t then record { kind = 256; size = 2 } else f) f
    go true = record { same = λ h k. absurd (omega arith) }
    go false = alike

module _ (u v tail : List ℕ) where
  string-before : Ends (suc (length u)) (string_here (u ++ v)) (string_here (u ++ 10 ∷ tail))
  unfolding string_here string_byte
  string-before = record { same = go (leb 1 (run string_byte (u ++ v)) && leb (run string_byte (u ++ v)) 32 && eqb (get_or (u ++ v) (run string_byte (u ++ v)) 0) 39) refl }
    where
      go : (t : Bool) → (leb 1 (run string_byte (u ++ v)) && leb (run string_byte (u ++ v)) 32 && eqb (get_or (u ++ v) (run string_byte (u ++ v)) 0) 39) ≡ t
          → (string_here (u ++ v)).size ≤ suc (length u) → ((string_here (u ++ v)).kind ≡ bad → ⊥) → string_here (u ++ 10 ∷ tail) ≡ string_here (u ++ v)
      go true d h k =
          let h₁ : run string_byte (u ++ v) + 2 ≤ suc (length u) = rw d at h in
          let same-run = run-before string_byte refl u v tail (omega arith) in
          let same_byte = get-before (run string_byte (u ++ v)) u v (10 ∷ tail) (omega arith) in
          rw (same-run, ← same_byte) refl
      go false d h k = absurd (k (rw d))

  name-before : (b : ℕ) → Ends (suc (length u)) (record { kind = kind_of (take (suc (run name_byte (u ++ v))) (b ∷ u ++ v)) reserved; size = suc (run name_byte (u ++ v)) })
      (record { kind = kind_of (take (suc (run name_byte (u ++ 10 ∷ tail))) (b ∷ u ++ 10 ∷ tail)) reserved; size = suc (run name_byte (u ++ 10 ∷ tail)) })
  unfolding name_byte letter digit
  name-before b =
      record {
        same = λ h k.
            let same-run = run-before name_byte refl u v tail (omega arith) in
            let same_bytes = take-before (run name_byte (u ++ v)) u v (10 ∷ tail) (omega arith) in
            rw (same-run, same_bytes) refl;
      }

  digits-before : Ends (suc (length u)) (record { kind = 258; size = suc (run digit (u ++ v)) }) (record { kind = 258; size = suc (run digit (u ++ 10 ∷ tail)) })
  unfolding digit
  digits-before = record { same = λ h k. let same-run = run-before digit refl u v tail (omega arith) in rw same-run refl }

  word-before : (b : ℕ) → Ends (suc (length u)) (word_here b (u ++ v)) (word_here b (u ++ 10 ∷ tail))
  unfolding word_here
  word-before b =
      either (letter b) (λ _. name-before b) (λ _.
      either (digit b) (λ _. digits-before) (λ _.
      either (eqb b 39) (λ _. string-before) (λ _. twice-before u v tail (eqb b 62) _)))

-- Words

abbrev word : ℕ → ℕ → List ℕ → Word
word at b s = record { kind = (word_here b s).kind; start = at; text = take (word_here b s).size (b ∷ s) }

abbrev in_line : ℕ → Bool
in_line c = not (eqb c 10)

-- the words from a byte on, by what it begins
from-cases : (P : List Word → Type 0) (at b : ℕ) (s : List ℕ) → (blank b ≡ true → P (words_from 0 (suc at) s)) → (blank b ≡ false → eqb b 37 ≡ true → P (words_from (run in_line s) (suc at) s))
    → (eqb (word_here b s).kind bad ≡ true → P (word at b s ∷ []))
    → (blank b ≡ false → eqb b 37 ≡ false → eqb (word_here b s).kind bad ≡ false → P (word at b s ∷ words_from ((word_here b s).size - 1) (suc at) s))
    → P (words_from 0 at (b ∷ s))
unfolding words_from
from-cases P at b s f g h k = go (blank b) refl (eqb b 37) refl (eqb (word_here b s).kind bad) refl
  where
    go : (x : Bool) → blank b ≡ x → (y : Bool) → eqb b 37 ≡ y → (z : Bool) → eqb (word_here b s).kind bad ≡ z
        → P (if x then words_from 0 (suc at) s else if y then words_from (run in_line s) (suc at) s else if z then word at b s ∷ [] else word at b s ∷ words_from ((word_here b s).size - 1) (suc at) s)
    go true d y e z i = f d
    go false d true e z i = g d e
    go false d false e true i = h i
    go false d false e false i = k d e i

as-blank : (at b : ℕ) (s : List ℕ) → blank b ≡ true → words_from 0 at (b ∷ s) ≡ words_from 0 (suc at) s
unfolding words_from
as-blank at b s d = rw d

as-comment : (at b : ℕ) (s : List ℕ) → blank b ≡ false → eqb b 37 ≡ true → words_from 0 at (b ∷ s) ≡ words_from (run in_line s) (suc at) s
unfolding words_from
as-comment at b s d e = rw (d, e)

as-word : (at b : ℕ) (s : List ℕ) → blank b ≡ false → eqb b 37 ≡ false → eqb (word_here b s).kind bad ≡ false → words_from 0 at (b ∷ s) ≡ word at b s ∷ words_from ((word_here b s).size - 1) (suc at) s
unfolding words_from
as-word at b s d e f = rw (d, e, f)

-- no word stands behind the last
not_behind {ℓ} : {A : Type ℓ} {w : Word} {more : List Word} → Ahead (w ∷ more) [] → A
not_behind (at_rest e) = let z : ◌≡◌ {A = ℕ} 0 1 = cc in absurd (omega arith)

alone-is : {v w : Word} {rest : List Word} → Ahead (w ∷ rest) (v ∷ []) → v ≡ w
alone-is (at_rest e) = cc
alone-is (a_word i h) = not_behind h

-- a word that is reached from here starts at this place or later, and inside the bytes
module _ (w : Word) (rest : List Word) (there : w.kind ≡ last → ⊥) where
  pub record Late (skip at : ℕ) (s : List ℕ) : Type 0 where
    pub low : at + skip ≤ w.start
    pub high : w.start < at + length s

  abbrev Comes : ℕ → List ℕ → List Word → Type 0
  Comes at s ws = Ahead (w ∷ rest) ws → Late 0 at s

  late-word : (at b : ℕ) (s : List ℕ) (v : Word) → v.start ≡ at → {ws : List Word} → (Ahead (w ∷ rest) ws → Late 0 at (b ∷ s)) → Comes at (b ∷ s) (v ∷ ws)
  late-word at b s v e f (at_rest d) = let x : v ≡ w = cc in let y : w.start ≡ at = ap (λ (u : Word). u.start) (sym x) ∙ e in record { low = omega arith; high = omega arith }
  late-word at b s v e f (a_word i h) = f h

  pub late : (skip at : ℕ) (s : List ℕ) → Ahead (w ∷ rest) (words_from skip at s) → Late skip at s
  unfolding words_from
  late skip at [] a = absurd (there (sym (ap (λ (u : Word). u.kind) (alone-is a))))
  late (suc n) at (b ∷ s) a = let l = late n (suc at) s a in record { low = let h = l.low in omega arith; high = let h = l.high in omega arith }
  late zero at (b ∷ s) a =
      let on : (n : ℕ) → Comes at (b ∷ s) (words_from n (suc at) s) = λ n h. let l = late n (suc at) s h in record { low = let g = l.low in omega arith; high = let g = l.high in omega arith } in
      from-cases (Comes at (b ∷ s)) at b s (λ _. on 0) (λ _ _. on (run in_line s)) (λ _. late-word at b s (word at b s) refl not_behind) (λ _ _ _. late-word at b s (word at b s) refl (on ((word_here b s).size - 1))) a

  first-or : {v : Word} {ws : List Word} → (Ahead (w ∷ rest) ws → ⊥) → Ahead (w ∷ rest) (v ∷ ws) → v ∷ ws ≡ w ∷ rest
  first-or f (at_rest e) = e
  first-or f (a_word i h) = absurd (f h)

  -- a word that starts here is the first
  start-here : (at : ℕ) (v : List ℕ) → w.start ≡ at → Ahead (w ∷ rest) (words_from 0 at v) → words_from 0 at v ≡ w ∷ rest
  unfolding words_from
  start-here at [] e a = first-or not_behind a
  start-here at (b ∷ s) e a =
      let not-later : (n : ℕ) → Ahead (w ∷ rest) (words_from n (suc at) s) → ⊥ = λ n h. let l = (late n (suc at) s h).low in omega arith in
      from-cases (λ ws. Ahead (w ∷ rest) ws → ws ≡ w ∷ rest) at b s (λ _ h. absurd (not-later 0 h)) (λ _ _ h. absurd (not-later (run in_line s) h)) (λ _. first-or not_behind) (λ _ _ _. first-or (not-later ((word_here b s).size - 1))) a

  -- the words of the bytes u before v, and of u before a line feed
  pub record Scanned (u : List ℕ) (rest' ws ws' : List Word) : Type 0 where
    pub upto : Upto (w ∷ rest) rest' ws ws'
    pub count : length ws ≤ suc (length rest) + length u

  scan-word : (at at' b : ℕ) (u v z : List ℕ) (rest' : List Word) → w.start ≡ at + suc (length u) → blank b ≡ false → eqb b 37 ≡ false → eqb (word_here b (u ++ v)).kind bad ≡ false
      → (Ahead (w ∷ rest) (words_from ((word_here b (u ++ v)).size - 1) (suc at) (u ++ v)) → Scanned u rest' (words_from ((word_here b (u ++ v)).size - 1) (suc at) (u ++ v)) (words_from ((word_here b (u ++ v)).size - 1) (suc at') (u ++ 10 ∷ z)))
      → Ahead (w ∷ rest) (word at b (u ++ v) ∷ words_from ((word_here b (u ++ v)).size - 1) (suc at) (u ++ v))
      → Scanned (b ∷ u) rest' (word at b (u ++ v) ∷ words_from ((word_here b (u ++ v)).size - 1) (suc at) (u ++ v)) (words_from 0 at' (b ∷ u ++ 10 ∷ z))
  scan-word at at' b u v z rest' e d₁ d₂ d₃ f (at_rest g) = let x : word at b (u ++ v) ≡ w = cc in let y : at ≡ w.start = ap (λ (k : Word). k.start) x in absurd (omega arith)
  scan-word at at' b u v z rest' e d₁ d₂ d₃ f (a_word i h) =
      let l = (late ((word_here b (u ++ v)).size - 1) (suc at) (u ++ v) h).low in
      let small : (word_here b (u ++ v)).size ≤ suc (length u) = omega arith in
      let same_word = (word-before u v z b).same small (eqb-false (word_here b (u ++ v)).kind bad d₃) in
      let second : words_from 0 at' (b ∷ u ++ 10 ∷ z) ≡ word at' b (u ++ 10 ∷ z) ∷ words_from ((word_here b (u ++ v)).size - 1) (suc at') (u ++ 10 ∷ z) =
      as-word at' b (u ++ 10 ∷ z) d₁ d₂ (ap (λ (x : Found). eqb x.kind bad) same_word ∙ d₃)
      ∙ ap (λ (x : Found). word at' b (u ++ 10 ∷ z) ∷ words_from (x.size - 1) (suc at') (u ++ 10 ∷ z)) same_word in
      let r = f h in
      record { upto = rw second (more (first-same same_word (take-before (word_here b (u ++ v)).size (b ∷ u) v (10 ∷ z) small)) r.upto); count = let g = r.count in omega arith }
    where
      first-same : word_here b (u ++ 10 ∷ z) ≡ word_here b (u ++ v) → take (word_here b (u ++ v)).size (b ∷ u ++ v) ≡ take (word_here b (u ++ v)).size (b ∷ u ++ 10 ∷ z)
          → but.blank (word at b (u ++ v)) ≡ but.blank (word at' b (u ++ 10 ∷ z))
      first-same p q = unfold move_word in (rw (p, q) refl)

  one_more : {b : ℕ} {u : List ℕ} {rest' ws ws' : List Word} → Scanned u rest' ws ws' → Scanned (b ∷ u) rest' ws ws'
  one_more r = record { upto = r.upto; count = let g = r.count in omega arith }

  scan-byte : (at at' b : ℕ) (u v z : List ℕ) (rest' : List Word) → w.start ≡ at + suc (length u)
      → ((n : ℕ) → Ahead (w ∷ rest) (words_from n (suc at) (u ++ v)) → Scanned u rest' (words_from n (suc at) (u ++ v)) (words_from n (suc at') (u ++ 10 ∷ z)))
      → Ahead (w ∷ rest) (words_from 0 at (b ∷ u ++ v)) → Scanned (b ∷ u) rest' (words_from 0 at (b ∷ u ++ v)) (words_from 0 at' (b ∷ u ++ 10 ∷ z))
  scan-byte at at' b u v z rest' e on a =
      from-cases (λ ws. Ahead (w ∷ rest) ws → Scanned (b ∷ u) rest' ws (words_from 0 at' (b ∷ u ++ 10 ∷ z))) at b (u ++ v)
      (λ d h. rw (as-blank at' b (u ++ 10 ∷ z) d) (one_more (on 0 h)))
      (λ d f h.
      let l = (late (run in_line (u ++ v)) (suc at) (u ++ v) h).low in
      let same-run = run-before in_line refl u v z (omega arith) in
      rw (as-comment at' b (u ++ 10 ∷ z) d f, same-run) (one_more (on (run in_line (u ++ v)) h)))
      (λ _ h. let x = alone-is h in let y : at ≡ w.start = ap (λ (k : Word). k.start) x in absurd (omega arith))
      (λ d f g. scan-word at at' b u v z rest' e d f g (on ((word_here b (u ++ v)).size - 1))) a

  pub scan : (skip at at' : ℕ) (u v z : List ℕ) → w.start ≡ at + length u → Ahead (w ∷ rest) (words_from skip at (u ++ v))
      → Scanned u (words_from 0 (at' + length u + 1) z) (words_from skip at (u ++ v)) (words_from skip at' (u ++ 10 ∷ z))
  unfolding words_from blank
  scan (suc n) at at' [] v z e a = let l = (late (suc n) at v a).low in absurd (omega arith)
  scan zero at at' [] v z e a =
      let s = start-here at v (omega arith) a in
      let k : suc at' ≡ at' + 0 + 1 = omega arith in
      record { upto = here s (ap (λ (n : ℕ). words_from 0 n z) k); count = let g = ap (λ (l : List Word). length l) s in omega arith }
  scan (suc n) at at' (b ∷ u) v z e a =
      let k : suc at' + length u + 1 ≡ at' + suc (length u) + 1 = omega arith in
      one_more (rw k at (scan n (suc at) (suc at') u v z (omega arith) a))
  scan zero at at' (b ∷ u) v z e a =
      let k : suc at' + length u + 1 ≡ at' + suc (length u) + 1 = omega arith in
      scan-byte at at' b u v z _ e (λ n h. rw k at (scan n (suc at) (suc at') u v z (omega arith) h)) a

-- The words behind a word

some_size : (b : ℕ) (s : List ℕ) → 1 ≤ (word_here b s).size
unfolding word_here string_here
some_size b s =
    pick (letter b) _ _ (omega arith) (pick (digit b) _ _ (omega arith) (pick (eqb b 39) _ _ (pick (leb 1 (run string_byte s) && leb (run string_byte s) 32 && eqb (get_or s (run string_byte s) 0) 39) _ _ (omega arith) (omega arith))
    (pick (eqb b 62 && eqb (get_or s 0 0) 62) _ _ (omega arith) (pick (eqb b 33) _ _ (omega arith) (pick (symbol b) _ _ (omega arith) (omega arith))))))
  where
    pick : (t : Bool) (f g : Found) → 1 ≤ f.size → 1 ≤ g.size → 1 ≤ (if t then f else g).size
    pick true f g p q = p
    pick false f g p q = q

-- bytes of a word or comment are passed over, to the end of the text at most
skip_all : (n at : ℕ) (s : List ℕ) → words_from n at s ≡ words_from 0 (at + length (take n s)) (drop (length (take n s)) s)
unfolding words_from
skip_all zero at s = ap (λ (k : ℕ). words_from 0 k s) (sym (add-zero at))
skip_all (suc n) at [] = ap (λ (k : ℕ). words_from 0 k []) (sym (add-zero at))
skip_all (suc n) at (b ∷ s) = skip_all n (suc at) s ∙ ap (λ (k : ℕ). words_from 0 k (drop (length (take n s)) s)) (add-move at (length (take n s)))
  where
    add-move : (a k : ℕ) → suc a + k ≡ a + suc k
    add-move a k = omega arith

-- n bytes on, and the words from there
record Onward (at : ℕ) (s : List ℕ) (w : Word) (ws : List Word) : Type 0 where
  bytes_on : ℕ
  place : w.start + length w.text ≡ at + bytes_on
  words_are : ws ≡ words_from 0 (at + bytes_on) (drop bytes_on s)

step-on : {at b : ℕ} {s : List ℕ} {w : Word} {ws : List Word} → Onward (suc at) s w ws → Onward at (b ∷ s) w ws
step-on {at} {b} {s} o =
    let k : suc at + o.bytes_on ≡ at + suc o.bytes_on = omega arith in
    record { bytes_on = suc o.bytes_on; place = o.place ∙ k; words_are = o.words_are ∙ ap (λ (n : ℕ). words_from 0 n (drop o.bytes_on s)) k }

word_on : (at b n k : ℕ) (s : List ℕ) → 1 ≤ n → Onward at (b ∷ s) (record { kind = k; start = at; text = take n (b ∷ s) }) (words_from (n - 1) (suc at) s)
word_on at b zero k s h = absurd (omega arith)
word_on at b (suc n) k s h = rw (suc-less n) (step-on (record { bytes_on = length (take n s); place = omega arith; words_are = skip_all n (suc at) s }))
  where
    suc-less : (n : ℕ) → suc n - 1 ≡ n
    suc-less n = omega arith

onward : (skip at : ℕ) (s : List ℕ) (w : Word) (ws : List Word) → (w.kind ≡ last → ⊥) → (w.kind ≡ bad → ⊥) → words_from skip at s ≡ w ∷ ws → Onward at s w ws
unfolding words_from
onward skip at [] w ws f g e = let x : record { kind = last; start = at; text = [] } ≡ w = cc in absurd (f (ap (λ (u : Word). u.kind) (sym x)))
onward (suc n) at (b ∷ s) w ws f g e = step-on (onward n (suc at) s w ws f g e)
onward zero at (b ∷ s) w ws f g e =
    from-cases (λ l. l ≡ w ∷ ws → Onward at (b ∷ s) w ws) at b s (λ _ d. step-on (onward 0 (suc at) s w ws f g d)) (λ _ _ d. step-on (onward (run in_line s) (suc at) s w ws f g d))
    (λ h d. let x : word at b s ≡ w = cc in absurd (g (ap (λ (u : Word). u.kind) (sym x) ∙ eqb-true (word_here b s).kind bad h)))
    (λ _ _ _ d. let x : word at b s ≡ w = cc in let y : words_from ((word_here b s).size - 1) (suc at) s ≡ ws = cc in rw (← x, ← y) (word_on at b (word_here b s).size (word_here b s).kind s (some_size b s))) e

-- the words behind the first word of a text
pub behind-first : (text : List ℕ) (w : Word) (ws : List Word) → (w.kind ≡ last → ⊥) → (w.kind ≡ bad → ⊥) → words text ≡ w ∷ ws
    → ws ≡ words_from 0 (w.start + length w.text) (drop (w.start + length w.text) text)
unfolding words
behind-first text w ws f g e =
    let o = onward 0 0 text w ws f g e in
    let k : o.bytes_on ≡ w.start + length w.text = let p = o.place in omega arith in
    rw (← k) (o.words_are ∙ ap (λ (n : ℕ). words_from 0 n (drop o.bytes_on text)) (omega arith))
