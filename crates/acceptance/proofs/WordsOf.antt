-- The words of a text stand in it, the last of them the end of the text or a byte or quote that makes no word.
use mathlib.Core.Bool.{Bool, true, false, ◌&&◌, not, false≢true}
use mathlib.Core.List.{List, [], ◌∷◌, Memᴰ}
use mathlib.Core.Path.{◌≡◌, refl, sym, ap, ◌∙◌}
use Prim.Native.Nat.{ℕ, zero, suc, ◌+◌, ◌-◌, ◌≤◌}
use native.Mathlib.Omega.{arith}
use lib.Dec.{eqb, leb}
use lib.ListN.{length, get_or, take, drop, length-take}
use lib.Seq.{drop-drop}
use native.Mathlib.Numerals.{add-one}
use borrow.Author.Tests.{eqb-true, eqb-false}
use Rattle.acceptance.specs.Shown.{WordOf}
use Rattle.std.specs.Prelude.{if◌then◌else◌}
use Rattle.base.specs.Common.{same}
use Rattle.syntax.specs.Parse.{end_of}
use Rattle.words.specs.Words.{Word, Spelling, Found, bad, last, reserved, kind_of, letter, digit, name_byte, string_byte, symbol, run, blank, string_here, word_here, words_from, words}

-- What is found at a byte

record Sound (f : Found) : Type 0 where
  pub some : 1 ≤ f.size
  pub not_end : f.kind ≡ last → ⊥
  pub bad-one : f.kind ≡ bad → f.size ≡ 1

one_of : (t : Bool) (f g : Found) → (t ≡ true → Sound f) → Sound g → Sound (if t then f else g)
one_of true f g p q = p refl
one_of false f g p q = q

-- of a kind that is neither
plain : (k n : ℕ) → eqb k last ≡ false → eqb k bad ≡ false → 1 ≤ n → Sound (record { kind = k; size = n })
plain k n e d h = record { some = h; not_end = eqb-false k last e; bad-one = λ z. absurd (eqb-false k bad d z) }

nothing : Sound (record { kind = bad; size = 1 })
nothing = record { some = omega arith; not_end = λ z. absurd (eqb-false bad last refl z); bad-one = λ _. refl }

string-sound : (s : List ℕ) → Sound (string_here s)
unfolding string_here
string-sound s = one_of (leb 1 (run string_byte s) && leb (run string_byte s) 32 && eqb (get_or s (run string_byte s) 0) 39) _ _ (λ _. plain 259 _ refl refl (omega arith)) nothing

-- no spelling means the end or a bad word
apart : List Spelling → Bool
apart [] = true
apart (s ∷ more) = not (eqb s.means last) && not (eqb s.means bad) && apart more

known : (n : ℕ) (w : List ℕ) (l : List Spelling) → apart l ≡ true → 1 ≤ n → Sound (record { kind = kind_of w l; size = n })
unfolding kind_of apart
known n w [] h p = plain 257 n refl refl p
known n w (s ∷ more) h p = go (same w s.spelt) (eqb s.means last) (eqb s.means bad) refl refl h (λ g. known n w more g p)
  where
    go : (t x y : Bool) → eqb s.means last ≡ x → eqb s.means bad ≡ y → not x && not y && apart more ≡ true
        → (apart more ≡ true → Sound (record { kind = kind_of w more; size = n })) → Sound (record { kind = if t then s.means else kind_of w more; size = n })
    go t true y e d g later = absurd (false≢true g)
    go t false true e d g later = absurd (false≢true g)
    go true false false e d g later = plain s.means n e d p
    go false false false e d g later = later g

symbol-sound : (b : ℕ) → symbol b ≡ true → Sound (record { kind = b; size = 1 })
unfolding symbol
symbol-sound b e = record { some = omega arith; not_end = λ z. absurd (false≢true (sym (ap symbol z) ∙ e)); bad-one = λ _. refl }

here-sound : (b : ℕ) (s : List ℕ) → Sound (word_here b s)
unfolding word_here reserved apart
here-sound b s =
    one_of (letter b) _ _ (λ _. known _ (take (suc (run name_byte s)) (b ∷ s)) reserved refl (omega arith))
    (one_of (digit b) _ _ (λ _. plain 258 _ refl refl (omega arith))
    (one_of (eqb b 39) _ _ (λ _. string-sound s)
    (one_of (eqb b 62 && eqb (get_or s 0 0) 62) _ _ (λ _. plain 256 2 refl refl (omega arith))
    (one_of (eqb b 33) _ _ (λ _. plain 124 1 refl refl (omega arith))
    (one_of (symbol b) _ _ (λ e. symbol-sound b e) nothing)))))

-- The words in a row

-- a word that stands in the text
record Stands (text : List ℕ) (w : Word) : Type 0 where
  pub inside : w.start + length w.text ≤ length text
  pub spelt : take (length w.text) (drop w.start text) ≡ w.text

-- words of which each has G, up to the end of the text or to a bad word
pub data Row (text : List ℕ) (G : Word → Type 0) : List Word → Type 0 where
  ends : {w : Word} → G w → w ≡ end_of text → Row text G (w ∷ [])
  breaks : {w : Word} → G w → w.kind ≡ bad → length w.text ≡ 1 → Row text G (w ∷ [])
  more : {w : Word} {ws : List Word} → G w → (w.kind ≡ bad → ⊥) → (w.kind ≡ last → ⊥) → 1 ≤ length w.text → Row text G ws → Row text G (w ∷ ws)

either : {text : List ℕ} {G : Word → Type 0} (t : Bool) {x y : List Word} → (t ≡ true → Row text G x) → (t ≡ false → Row text G y) → Row text G (if t then x else y)
either true f g = f refl
either false f g = g refl

take-taken : (n : ℕ) (l : List ℕ) → take (length (take n l)) l ≡ take n l
take-taken zero l = refl
take-taken (suc n) [] = refl
take-taken (suc n) (b ∷ l) = ap (λ (k : List ℕ). b ∷ k) (take-taken n l)

module _ (text : List ℕ) where
  next-byte : (at b : ℕ) (s : List ℕ) → drop at text ≡ b ∷ s → drop (suc at) text ≡ s
  next-byte at b s d = let e : drop (at + 1) text ≡ s = sym (drop-drop 1 at text) ∙ ap (λ (l : List ℕ). drop 1 l) d in rw (← add-one) e

  stands : (k at n b : ℕ) (s : List ℕ) → drop at text ≡ b ∷ s → at + suc (length s) ≡ length text → Stands text (record { kind = k; start = at; text = take n (b ∷ s) })
  stands k at n b s d h = record { inside = simp length-take (omega arith); spelt = rw d (take-taken n (b ∷ s)) }

  rows : (skip at : ℕ) (s : List ℕ) → drop at text ≡ s → at + length s ≡ length text → Row text (Stands text) (words_from skip at s)
  unfolding words_from end_of
  rows skip at [] d h = ends {w = record { kind = last; start = at; text = [] }} (record { inside = omega arith; spelt = refl }) (ap (λ (n : ℕ). record { kind = last; start = n; text = [] }) (omega arith))
  rows (suc n) at (b ∷ s) d h = rows n (suc at) s (next-byte at b s d) (omega arith)
  rows zero at (b ∷ s) d h =
      either (blank b) (λ _. rows 0 (suc at) s (next-byte at b s d) (omega arith)) (λ _.
      either (eqb b 37) (λ _. rows (run (λ c. not (eqb c 10)) s) (suc at) s (next-byte at b s d) (omega arith)) (λ _.
      either (eqb (word_here b s).kind bad)
      (λ e. breaks (stands (word_here b s).kind at (word_here b s).size b s d h) (eqb-true (word_here b s).kind bad e) (let x = sound.bad-one (eqb-true (word_here b s).kind bad e) in simp length-take (omega arith)))
      (λ e. more (stands (word_here b s).kind at (word_here b s).size b s d h) (eqb-false (word_here b s).kind bad e) sound.not_end (let x = sound.some in simp length-take (omega arith))
      (rows ((word_here b s).size - 1) (suc at) s (next-byte at b s d) (omega arith)))))
    where
      sound : Sound (word_here b s)
      sound = here-sound b s

  -- each is one of all
  among : {ws : List Word} → ((w : Word) → Memᴰ w ws → Memᴰ w (words text)) → Row text (Stands text) ws → Row text (WordOf text) ws
  among {ws = w ∷ []} f (ends g e) = ends (record { one = f w (Memᴰ.head refl); inside = g.inside; spelt = g.spelt }) e
  among {ws = w ∷ []} f (breaks g e n) = breaks (record { one = f w (Memᴰ.head refl); inside = g.inside; spelt = g.spelt }) e n
  among {ws = w ∷ ws} f (more g b l n r) =
      more (record { one = f w (Memᴰ.head refl); inside = g.inside; spelt = g.spelt }) b l n (among (λ v m. f v (Memᴰ.tail m)) r)
  among {ws = []} f x5 = elim x5 [ ]

  pub row : Row text (WordOf text) (words text)
  unfolding words
  row = among (λ w m. m) (rows 0 0 text refl (omega arith))
