-- Laws of words, for the proofs of the code: one step of each definition.
use mathlib.Core.Path.{◌≡◌, refl, ap, sym, ◌∙◌}
use mathlib.Core.Bool.{Bool, true, false, ◌&&◌, not, false≢true}
use mathlib.Core.List.{List, [], ◌∷◌, ◌++◌}
use mathlib.Core.Logic.{inl, inr}
use Prim.Native.Nat.{ℕ, zero, suc, ◌+◌, ◌-◌, ◌≤◌, ◌<◌}
use native.Mathlib.Numerals.{add-one}
use native.Mathlib.Nat.{add-zero}
use native.Mathlib.Omega.{arith}
use lib.Dec.{eqb, leb}
use lib.ListN.{length, get_or, take, drop, drop_of_length-le, length-drop, length-take, get_or-eq_default}
use types.Run.{OneOf}
use lib.Seq.{drop-cons, drop-drop, get_or-drop, get_or-take}
use borrow.Author.Tests.{ne_eqb, eq-eqb, lt-leb, le-leb, eqb-true, eqb-false}
use Rattle.std.specs.Prelude.{if◌then◌else◌}
use Rattle.base.specs.Common.{same}
use Rattle.scanner.specs.Next.{as_word, Next}
use Rattle.scanner.specs.Scanning.{brackets, heads, others, found, name_here, number_here, greater_here, symbol_here, Spelt, word_found}
use Rattle.scanner.specs.declared.WordAt.{WordAt}
use Rattle.words.specs.Words.{Word, Found, run, blank, letter, digit, symbol, name_byte, string_byte, kind_of, Spelling, reserved, string_here, word_here, words_from, words_at, last, name}

pub run-go : (p : ℕ → Bool) (s : List ℕ) (i : ℕ) → i < length s → p (get_or s i 0) ≡ true → run p (drop i s) ≡ run p (drop (i + 1) s) + 1
unfolding run
run-go p s i h e = rw (add-one, add-one, drop-cons s i 0, e)

pub run-stop : (p : ℕ → Bool) (s : List ℕ) (i : ℕ) → i < length s → p (get_or s i 0) ≡ false → run p (drop i s) ≡ 0
unfolding run
run-stop p s i h e = rw (drop-cons s i 0, e)

pub run_end : (p : ℕ → Bool) (s : List ℕ) (i : ℕ) → length s ≤ i → run p (drop i s) ≡ 0
unfolding run
run_end p s i h = rw (drop_of_length-le s h)

abbrev pub in_line : ℕ → Bool
in_line b = not (eqb b 10)

-- one step of the definition
skip-one : (n at b : ℕ) (s : List ℕ) → words_from (suc n) at (b ∷ s) ≡ words_from n (suc at) s
unfolding words_from
skip-one n at b s = refl

pub from-blank : (at b : ℕ) (s : List ℕ) → blank b ≡ true → words_from 0 at (b ∷ s) ≡ words_from 0 (suc at) s
unfolding words_from
from-blank at b s e = rw e

pub from-comment : (at b : ℕ) (s : List ℕ) → b ≡ 37 → words_from 0 at (b ∷ s) ≡ words_from (run in_line s) (suc at) s
unfolding words_from blank
from-comment at b s e = rw e

-- the word that begins with b before s, at a place
abbrev pub the_word : ℕ → ℕ → List ℕ → Word
the_word at b s = record { kind = (word_here b s).kind; start = at; text = take (word_here b s).size (b ∷ s) }

pub from-bad : (at b : ℕ) (s : List ℕ) → blank b ≡ false → (b ≡ 37 → ⊥) → (word_here b s).kind ≡ 0 → words_from 0 at (b ∷ s) ≡ the_word at b s ∷ []
unfolding words_from
from-bad at b s e f g = rw (e, ne_eqb b 37 f, eq-eqb (word_here b s).kind 0 g)

pub from-word : (at b : ℕ) (s : List ℕ) → blank b ≡ false → (b ≡ 37 → ⊥) → ((word_here b s).kind ≡ 0 → ⊥)
    → words_from 0 at (b ∷ s) ≡ the_word at b s ∷ words_from ((word_here b s).size - 1) (suc at) s
unfolding words_from
from-word at b s e f g = rw (e, ne_eqb b 37 f, ne_eqb (word_here b s).kind 0 g)

from_end : (at : ℕ) → words_from 0 at [] ≡ record { kind = last; start = at; text = [] } ∷ []
unfolding words_from
from_end at = refl

-- the bytes of the word before are skipped
skip-words : (n at : ℕ) (s : List ℕ) → n ≤ length s → words_from n at s ≡ words_from 0 (at + n) (drop n s)
skip-words zero at s h = rw add-zero refl
skip-words (suc n) at [] h = absurd (omega arith)
skip-words (suc n) at (b ∷ s) h = skip-one n at b s ∙ skip-words n (suc at) s (omega arith) ∙ ap (λ (k : ℕ). words_from 0 k (drop n s)) (omega arith)

-- the words from `at`, with its first byte taken off
step : (text : List ℕ) (at : ℕ) → at < length text → words_at text at ≡ words_from 0 at (get_or text at 0 ∷ drop (at + 1) text)
unfolding words_at
step text at h = rw (add-one, drop-cons text at 0)

skipped : (text : List ℕ) (at n : ℕ) → at + 1 + n ≤ length text → words_from n (suc at) (drop (at + 1) text) ≡ words_at text (at + 1 + n)
unfolding words_at
skipped text at n h =
    skip-words n (suc at) (drop (at + 1) text) (simp length-drop (omega arith)) ∙ rw (drop-drop, ← add-one) refl

pub blank_step : (text : List ℕ) (at : ℕ) → at < length text → blank (get_or text at 0) ≡ true → words_at text at ≡ words_at text (at + 1)
blank_step text at h e = step text at h ∙ from-blank at _ _ e ∙ skipped text at 0 (omega arith) ∙ ap (words_at text) (add-zero (at + 1))

pub comment-step : (text : List ℕ) (at n : ℕ) → at < length text → get_or text at 0 ≡ 37 → n ≡ run in_line (drop (at + 1) text) → at + 1 + n ≤ length text
    → words_at text at ≡ words_at text (at + 1 + n)
comment-step text at n h e f g = step text at h ∙ from-comment at _ _ e ∙ rw (← f) (skipped text at n g)

abbrev Here : List ℕ → ℕ → WordAt → Type 0
Here text at w = Spelt text at (word_here (get_or text at 0) (drop (at + 1) text)) w

as-word : (text : List ℕ) (at : ℕ) (w : WordAt) → at < length text → Here text at w → the_word at (get_or text at 0) (drop (at + 1) text) ≡ as_word text w
as-word text at w h e = rw (e.kind, e.len, e.start, drop-cons text at 0, add-one) refl

-- at the end of the text, or past it
pub ended : (text : List ℕ) (at : ℕ) → length text ≤ at → Next text at (word_found 1 at 0)
unfolding words_at
ended text at e = record {
  more = λ h. absurd (omega arith);
  final = λ h. rw (drop_of_length-le text {i = at} e, from_end at) refl;
  moves = λ h. absurd (omega arith);
  low = omega arith;
  onto = omega arith;
  inside = λ h. omega arith;
  high = λ h. omega arith;
}

-- no word at a byte has the kind of the end
choose : (t : Bool) (x y : Found) → (t ≡ true → x.kind ≡ 1 → ⊥) → (t ≡ false → y.kind ≡ 1 → ⊥) → (if t then x else y).kind ≡ 1 → ⊥
choose true x y f g = f refl
choose false x y f g = g refl

pub data Means (P : ℕ → Type 0) : List Spelling → Type 0 where
  none : Means P []
  one : {x : Spelling} {xs : List Spelling} → P x.means → Means P xs → Means P (x ∷ xs)

kind-never : (n : ℕ) (w : List ℕ) (xs : List Spelling) → (name ≡ n → ⊥) → Means (λ k. k ≡ n → ⊥) xs → kind_of w xs ≡ n → ⊥
unfolding kind_of
kind-never n w [] f none = f
kind-never n w (x ∷ xs) f (one p m) = cases (same w x.spelt) (kind-never n w xs f m) where
  cases : (t : Bool) → (kind_of w xs ≡ n → ⊥) → (if t then x.means else kind_of w xs) ≡ n → ⊥
  cases true g = p
  cases false g = g

apart : (k n : ℕ) → eqb k n ≡ false → k ≡ n → ⊥
apart k n e = eqb-false k n e

reserved-never : (w : List ℕ) → kind_of w reserved ≡ 1 → ⊥
unfolding reserved
reserved-never w = kind-never 1 w _ (apart 257 1 refl)
    (one (apart 123 1 refl) (one (apart 125 1 refl) (one (apart 91 1 refl) (one (apart 93 1 refl)
    (one (apart 260 1 refl) (one (apart 261 1 refl) (one (apart 262 1 refl) (one (apart 263 1 refl)
    (one (apart 264 1 refl) (one (apart 265 1 refl) (one (apart 266 1 refl) none)))))))))))

string-never : (s : List ℕ) → (string_here s).kind ≡ 1 → ⊥
unfolding string_here
string-never s = choose (leb 1 (run string_byte s) && leb (run string_byte s) 32 && eqb (get_or s (run string_byte s) 0) 39) _ _ (λ _. apart 259 1 refl) (λ _. apart 0 1 refl)

symbol-never : (b : ℕ) → symbol b ≡ true → b ≡ 1 → ⊥
unfolding symbol
symbol-never b e f = false≢true (sym (ap symbol f) ∙ e)

never-last : (b : ℕ) (s : List ℕ) → (word_here b s).kind ≡ 1 → ⊥
unfolding word_here
never-last b s =
    choose (letter b) _ _ (λ _. reserved-never (take (suc (run name_byte s)) (b ∷ s)))
    (λ _. choose (digit b) _ _ (λ _. apart 258 1 refl)
    (λ _. choose (eqb b 39) _ _ (λ _. string-never s)
    (λ _. choose (eqb b 62 && eqb (get_or s 0 0) 62) _ _ (λ _. apart 256 1 refl)
    (λ _. choose (eqb b 33) _ _ (λ _. apart 124 1 refl)
    (λ _. choose (symbol b) _ _ (λ e. symbol-never b e) (λ _. apart 0 1 refl))))))

single : {k : ℕ} → (k ≡ 0 → ⊥) → k < 2 → k ≡ 1
single f h = omega arith

-- at the first byte of a word
pub at_word : (text : List ℕ) (at : ℕ) (w : WordAt) → at < length text → blank (get_or text at 0) ≡ false → (get_or text at 0 ≡ 37 → ⊥) → Here text at w → Next text at w
at_word text at w h e f g =
    record {
      more = λ k. good (λ z. absurd (omega (arith, g.kind)));
      final = λ k. one (eqb w.kind 0) refl k;
      moves = λ k. omega (arith, g.next, g.some);
      low = omega (arith, g.start);
      onto = omega (arith, g.next);
      inside = λ k. omega (arith, g.start, g.inside);
      high = λ k. omega (arith, g.next, g.inside);
    } where
      good : (w.kind ≡ 0 → ⊥) → words_at text at ≡ as_word text w ∷ words_at text w.next
      good z = step text at h ∙ from-word at (get_or text at 0) (drop (at + 1) text) e f (λ y. z (g.kind ∙ y)) ∙ rw (as-word text at w h g, ← g.len)
          (ap (λ (l : List Word). as_word text w ∷ l) (skipped text at (w.len - 1) (omega (arith, g.some, g.inside)) ∙ ap (words_at text) (omega (arith, g.next, g.some))))

      poor : w.kind ≡ 0 → words_at text at ≡ as_word text w ∷ []
      poor z = step text at h ∙ from-bad at (get_or text at 0) (drop (at + 1) text) e f (sym g.kind ∙ z) ∙ rw (as-word text at w h g) refl

      one : (t : Bool) → eqb w.kind 0 ≡ t → w.kind < 2 → words_at text at ≡ as_word text w ∷ []
      one true z k = poor (eqb-true w.kind 0 z)
      one false z k = absurd (never-last (get_or text at 0) (drop (at + 1) text) (sym g.kind ∙ single (eqb-false w.kind 0 z) k))

pub run-within : (p : ℕ → Bool) (s : List ℕ) → run p s ≤ length s
unfolding run
run-within p [] = omega arith
run-within p (b ∷ s) = let h = run-within p s in cases (p b) h where
  cases : (t : Bool) → run p s ≤ length s → (if t then suc (run p s) else 0) ≤ suc (length s)
  cases true h = omega arith
  cases false h = omega arith

-- the same words from an earlier place
pub earlier : (text : List ℕ) (a b : ℕ) (w : WordAt) → a ≤ b → b ≤ length text → words_at text a ≡ words_at text b → Next text b w → Next text a w
earlier text a b w h g e n = record {
  more = λ k. e ∙ n.more k;
  final = λ k. e ∙ n.final k;
  moves = λ k. omega (arith, n.moves k);
  low = omega (arith, n.low);
  onto = omega (arith, n.onto);
  inside = λ k. n.inside g;
  high = λ k. n.high g;
}

-- a word found with the kind and the length that the definition gives
pub spells : {text : List ℕ} {at : ℕ} (is : Found) (k n : ℕ) {w : WordAt} → is ≡ found k n → w ≡ word_found k at n → 0 < n → at + n ≤ length text → Spelt text at is w
spells is k n e f g h = rw (e, f) (record { kind = refl; len = refl; start = refl; next = refl; some = g; inside = h })

-- which word begins with b
pub word-name : (b : ℕ) (s : List ℕ) → letter b ≡ true → word_here b s ≡ name_here b s
unfolding word_here name_here
word-name b s e = rw e

pub word_number : (b : ℕ) (s : List ℕ) → letter b ≡ false → digit b ≡ true → word_here b s ≡ number_here s
unfolding word_here number_here
word_number b s e f = rw (e, f)

pub word-greater : (b : ℕ) (s : List ℕ) → b ≡ 62 → word_here b s ≡ greater_here s
unfolding word_here letter digit symbol greater_here
word-greater b s e = rw e

pub word-symbol : (b : ℕ) (s : List ℕ) → letter b ≡ false → digit b ≡ false → (b ≡ 39 → ⊥) → (b ≡ 62 → ⊥) → word_here b s ≡ symbol_here b
unfolding word_here symbol_here
word-symbol b s e f g h = rw (e, f, ne_eqb b 39 g, ne_eqb b 62 h)

pub name-is : (text : List ℕ) (at n k : ℕ) → at < length text → n ≡ run name_byte (drop (at + 1) text) → k ≡ kind_of (take (n + 1) (drop at text)) reserved
    → name_here (get_or text at 0) (drop (at + 1) text) ≡ found k (n + 1)
unfolding name_here
name-is text at n k h e f = rw (f, ← e, drop-cons text at 0, add-one, add-one) refl

pub number_is : (s : List ℕ) (n : ℕ) → n ≡ run digit s → number_here s ≡ found 258 (n + 1)
unfolding number_here
number_is s n e = rw (← e, add-one) refl

pub string-short : (s : List ℕ) (n : ℕ) → n ≡ run string_byte s → n < 1 → string_here s ≡ found 0 1
unfolding string_here
string-short s n e h = rw (← e, lt-leb 1 n h) refl

pub string-long : (s : List ℕ) (n : ℕ) → n ≡ run string_byte s → 32 < n → string_here s ≡ found 0 1
unfolding string_here
string-long s n e h = rw (← e, le-leb 1 n (omega arith), lt-leb n 32 h) refl

pub string-open : (s : List ℕ) (n : ℕ) → n ≡ run string_byte s → 1 ≤ n → n ≤ 32 → (get_or s n 0 ≡ 39 → ⊥) → string_here s ≡ found 0 1
unfolding string_here
string-open s n e h g q = rw (← e, le-leb 1 n h, le-leb n 32 g, ne_eqb (get_or s n 0) 39 q) refl

pub string-closed : (s : List ℕ) (n : ℕ) → n ≡ run string_byte s → 1 ≤ n → n ≤ 32 → get_or s n 0 ≡ 39 → string_here s ≡ found 259 (n + 2)
unfolding string_here
string-closed s n e h g q = rw (← e, le-leb 1 n h, le-leb n 32 g, eq-eqb (get_or s n 0) 39 q) refl

pub twice-is : (s : List ℕ) → get_or s 0 0 ≡ 62 → greater_here s ≡ found 256 2
unfolding greater_here
twice-is s e = rw (eq-eqb (get_or s 0 0) 62 e) refl

pub once_is : (s : List ℕ) → (get_or s 0 0 ≡ 62 → ⊥) → greater_here s ≡ found 62 1
unfolding greater_here
once_is s e = rw (ne_eqb (get_or s 0 0) 62 e) refl

pub bar-is : (b : ℕ) → b ≡ 33 → symbol_here b ≡ found 124 1
unfolding symbol_here
bar-is b e = rw (eq-eqb b 33 e) refl

pub symbol-is : (b : ℕ) → (b ≡ 33 → ⊥) → symbol b ≡ true → symbol_here b ≡ found b 1
unfolding symbol_here
symbol-is b e f = rw (ne_eqb b 33 e, f) refl

pub no_symbol : (b : ℕ) → (b ≡ 33 → ⊥) → symbol b ≡ false → symbol_here b ≡ found 0 1
unfolding symbol_here
no_symbol b e f = rw (ne_eqb b 33 e, f) refl

-- what holds of each key of an arm holds of a byte that is one of them
abbrev Each : (ℕ → Bool) → List ℕ → Type 0
Each p [] = Unit {0}
Each p (k ∷ ks) = (p k ≡ true) × Each p ks

pub one_of : (p : ℕ → Bool) (ks : List ℕ) (x : ℕ) → Each p ks → OneOf ks x → p x ≡ true
one_of p [] x h e = absurd e
one_of p (k ∷ []) x h e = ap p e ∙ h.0
one_of p (k ∷ l ∷ ks) x h (inl e) = ap p e ∙ h.0
one_of p (k ∷ l ∷ ks) x h (inr e) = one_of p (l ∷ ks) x h.1 e

-- a byte past `at`, read by its place in the text
pub past : (text : List ℕ) (at n : ℕ) → get_or (drop (at + 1) text) n 0 ≡ get_or text (at + 1 + n) 0
past text at n = get_or-drop (at + 1) text n 0

pub past_end : (text : List ℕ) (at n : ℕ) → length text ≤ at + 1 + n → get_or (drop (at + 1) text) n 0 ≡ 0
past_end text at n h = past text at n ∙ get_or-eq_default text 0 h

pub same_length : (w v : List ℕ) → (length w ≡ length v → ⊥) → same w v ≡ false
same_length [] [] h = absurd (h refl)
same_length [] (y ∷ ys) h = refl
same_length (x ∷ xs) [] h = refl
same_length (x ∷ xs) (y ∷ ys) h = cases (eqb x y) (same_length xs ys (λ e. h (ap suc e))) where
  cases : (t : Bool) → same xs ys ≡ false → (if t then same xs ys else false) ≡ false
  cases true e = e
  cases false e = refl

pub part_length : (text : List ℕ) (start len : ℕ) → start + len ≤ length text → length (take len (drop start text)) ≡ len
part_length text start len h = simp (length-take, length-drop) (omega arith)

pub part_at : (text : List ℕ) (start len i : ℕ) → i < len → get_or (take len (drop start text)) i 0 ≡ get_or text (start + i) 0
part_at text start len i h = rw (get_or-take, get_or-drop) refl

-- a kind found in the first part of a list of spellings, or not
pub kind-first : (w : List ℕ) (xs ys : List Spelling) → (kind_of w xs ≡ 257 → ⊥) → kind_of w (xs ++ ys) ≡ kind_of w xs
unfolding kind_of
kind-first w [] ys h = absurd (h refl)
kind-first w (x ∷ xs) ys h = cases (same w x.spelt) (kind-first w xs ys) h where
  cases : (t : Bool) → ((kind_of w xs ≡ 257 → ⊥) → kind_of w (xs ++ ys) ≡ kind_of w xs) → ((if t then x.means else kind_of w xs) ≡ 257 → ⊥) → (if t then x.means else kind_of w (xs ++ ys)) ≡ (if t then x.means else kind_of w xs)
  cases true r h = refl
  cases false r h = r h

pub kind-next : (w : List ℕ) (xs ys : List Spelling) → Means (λ k. k ≡ 257 → ⊥) xs → kind_of w xs ≡ 257 → kind_of w (xs ++ ys) ≡ kind_of w ys
unfolding kind_of
kind-next w [] ys none h = refl
kind-next w (x ∷ xs) ys (one n k) h = cases (same w x.spelt) (kind-next w xs ys k) h where
  cases : (t : Bool) → (kind_of w xs ≡ 257 → kind_of w (xs ++ ys) ≡ kind_of w ys) → (if t then x.means else kind_of w xs) ≡ 257 → (if t then x.means else kind_of w (xs ++ ys)) ≡ kind_of w ys
  cases true r e = absurd (n e)
  cases false r e = r e

brackets-kinds : Means (λ k. k ≡ 257 → ⊥) brackets
unfolding brackets
brackets-kinds = one (apart 123 257 refl) (one (apart 125 257 refl) (one (apart 91 257 refl) (one (apart 93 257 refl) none)))

heads-kinds : Means (λ k. k ≡ 257 → ⊥) heads
unfolding heads
heads-kinds = one (apart 260 257 refl) (one (apart 261 257 refl) (one (apart 262 257 refl) (one (apart 263 257 refl) none)))

-- the reserved words are those three parts
in_parts : reserved ≡ brackets ++ (heads ++ others)
unfolding reserved brackets heads others
in_parts = refl

pub kind-a : (w : List ℕ) → (kind_of w brackets ≡ 257 → ⊥) → kind_of w reserved ≡ kind_of w brackets
kind-a w h = rw in_parts (kind-first w brackets (heads ++ others) h)

pub kind-b : (w : List ℕ) → kind_of w brackets ≡ 257 → (kind_of w heads ≡ 257 → ⊥) → kind_of w reserved ≡ kind_of w heads
kind-b w h g = rw in_parts (kind-next w brackets (heads ++ others) brackets-kinds h ∙ kind-first w heads others g)

pub kind-c : (w : List ℕ) → kind_of w brackets ≡ 257 → kind_of w heads ≡ 257 → kind_of w reserved ≡ kind_of w others
kind-c w h g = rw in_parts (kind-next w brackets (heads ++ others) brackets-kinds h ∙ kind-next w heads others heads-kinds g)
