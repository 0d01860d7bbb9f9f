-- Laws of a common part and of a further part, for the proofs of the code.
use mathlib.Core.Bool.{Bool, true, false, not}
use mathlib.Core.List.{List, [], ◌∷◌, ◌++◌}
use mathlib.Core.Path.{◌≡◌, refl, sym, ap, ◌∙◌}
use Prim.Native.Nat.{ℕ, zero, suc, ◌+◌, ◌≤◌, ◌<◌, min}
use native.Mathlib.Omega.{arith}
use lib.Dec.{eqb}
use lib.ListN.{length, take, drop, length-drop}
use borrow.Author.Tests.{eqb-true, lt-ltb, le-ltb}
use Rattle.std.specs.Prelude.{if◌then◌else◌}
use Rattle.reader.proofs.Laws.{faulty, says_on}
use Rattle.reader.proofs.SectionLaws.{assoc, decides-off, ends-whole}
use Rattle.reader.specs.Answers.{Out, Brings, Here, Holds, Tells, held, told, void, went}
use Rattle.reader.specs.Counting.{Decides, ending, fine, wrong}
use Rattle.reader.specs.Texts.{Listed, Settles, unless_long, up_to_end}
use Rattle.scanner.proofs.Joined.{joined, moved, words-moved}
use Rattle.scanner.specs.Next.{as_word}
use Rattle.scanner.specs.declared.WordAt.{WordAt}
use Rattle.syntax.specs.Parse.{end_of}
use Rattle.syntax.specs.Reading.{Read, Reader, expect, fault, got, on◌then◌else◌, onward, pass, peek, refuse}
use Rattle.syntax.specs.Sections.{nothing, some_sections}
use Rattle.syntax.specs.Texts.{Common, a_common, some_heads, too_long}
use Rattle.words.specs.Words.{Word, blank, run, word_here, words, words_at, words_from}

-- a part was read, with all that is known of it, and the rest settles the whole
settle-on : {A B : Type 0} {P : A → Type 0} {Q : B → Type 0} (m : Read A) (f : A → Reader B) (ws : List Word) (s : Out)
    → told m ≡ went ws → Holds P m → ((a : A) → P a → m ≡ got a ws → Settles Q s (f a ws)) → Settles Q s (onward m f)
unfolding onward
settle-on (got a vs) f ws s e (held p) h = let same : vs ≡ ws = cc in rw same (h a p (rw same refl))
settle-on (fault n w) f ws s e void h = let y : ◌≡◌ {A = ℕ} 0 1 = cc in absurd (omega arith)

pub settles_on : {A B : Type 0} {P : A → Type 0} {Q : B → Type 0} {m : Read A} (f : A → Reader B) {text : List ℕ} {r s : Out}
    → Brings P m text r → r.fault ≡ 0 → ((a : A) → P a → m ≡ got a (words_at text r.at) → Settles Q s (f a (words_at text r.at))) → Settles Q s (onward m f)
settles_on {m = m} f {text} {r} {s} b h g = settle-on m f (words_at text r.at) s (b.tells.same ∙ says_on text r h) b.holds g

-- a fault settles it
pub settles-off : {A : Type 0} {Q : A → Type 0} {m : Read A} {text : List ℕ} {r : Out} → Tells m text r → (r.fault ≡ 0 → ⊥) → Settles Q r m
settles-off e h = record { decides = decides-off e h; holds = (faulty e h).holds }

-- `end` and no word after it: what was read before is kept
abbrev pub closing : {A : Type 0} → A → Reader A
closing a ws = onward (expect 266 ws) (λ _ ws. onward (expect 1 ws) (λ _ ws. got a ws))

no_value : {A : Type 0} {Q : A → Type 0} {m : Read A} {r : Out} → Decides r m → (r.fault ≡ 0 → ⊥) → Holds Q m
no_value (fine e) h = absurd (h e)
no_value (wrong z a b c) h = void

pub closes-off : {A : Type 0} {Q : A → Type 0} (a : A) (ws : List Word) {r : Out} → Decides r (ending ws) → (r.fault ≡ 0 → ⊥) → Settles Q r (closing a ws)
closes-off a ws d h = record { decides = ends-whole a ws d; holds = no_value (ends-whole a ws d) h }

close-on : {A B : Type 0} {Q : A → Type 0} (a : A) (m : Read B) {e r : Out} → Decides e m → e.fault ≡ 0 → r.fault ≡ 0 → Q a → Settles Q r (onward m (λ _ ws. got a ws))
unfolding onward
close-on a (got b ws) (fine z) e f q = record { decides = fine f; holds = held q }
close-on a (fault n w) (wrong z x y v) e f q = absurd (z (sym x ∙ e))

pub closes-on : {A : Type 0} {Q : A → Type 0} (a : A) (ws : List Word) {e r : Out} → Decides e (ending ws) → e.fault ≡ 0 → r.fault ≡ 0 → Q a → Settles Q r (closing a ws)
unfolding ending
closes-on a ws d e f q = rw (← assoc (expect 266 ws) (λ _ ws. expect 1 ws) (λ _ ws. got a ws)) (close-on a _ d e f q)

-- where that is read `end` is next
pub end-next : {text : List ℕ} {at : ℕ} {w : WordAt} {e : Out} → Here text at w → Decides e (ending (words_at text at)) → e.fault ≡ 0 → w.kind ≡ 266
unfolding ending expect on◌then◌else◌ refuse onward
end-next {text} {at} {w} {e} n d z = go (eqb w.kind 266) refl
  where
    none : {m : ℕ} {v : Word} → Decides {A = Word} e (fault m v) → ⊥
    none (wrong y a b c) = y (sym a ∙ z)

    go : (t : Bool) → eqb w.kind 266 ≡ t → w.kind ≡ 266
    go true q = eqb-true w.kind 266 q
    go false q = absurd (none (rw (n.head, q) at d))

-- a word that is neither bad nor the end begins inside the text
abbrev Begins : ℕ → List Word → Type 0
Begins n ws = 2 ≤ (peek ws).kind → (peek ws).start < n

begins-if : (t : Bool) (n : ℕ) (x y : List Word) → Begins n x → Begins n y → Begins n (if t then x else y)
begins-if true n x y p q = p
begins-if false n x y p q = q

begins : (skip at : ℕ) (s : List ℕ) → Begins (at + length s) (words_from skip at s)
unfolding words_from peek
begins skip at [] = λ h. absurd (omega arith)
begins (suc n) at (b ∷ s) = λ h. omega (arith, begins n (suc at) s h)
begins zero at (b ∷ s) =
    begins-if (blank b) _ _ _ (λ h. omega (arith, begins 0 (suc at) s h))
    (begins-if (eqb b 37) _ _ _ (λ h. omega (arith, begins (run (λ c. not (eqb c 10)) s) (suc at) s h))
    (begins-if (eqb (word_here b s).kind 0) _ _ _ (λ h. omega arith) (λ h. omega arith)))

pub begins-inside : {text : List ℕ} {at : ℕ} {w : WordAt} → Here text at w → at ≤ length text → 2 ≤ w.kind → w.start < length text
unfolding words_at
begins-inside {text} {at} {w} n l h =
    let b : w.start < at + length (drop at text) = rw n.head at (begins 0 at (drop at text)) h in
    omega (arith, length-drop at text)

-- A common part, in two

last_of : {A C D E : Type 0} (a : A) (o : Read C) (f : A → C → D) (g : D → Reader E)
    → onward o (λ c ws. g (f a c) ws) ≡ onward (onward o (λ c ws. got (f a c) ws)) g
unfolding onward
last_of a (got c ws) f g = refl
last_of a (fault n w) f g = refl

two-of : {A B C D E : Type 0} (a : A) (n : Read B) (o : A → Reader C) (f : A → C → D) (g : D → Reader E)
    → onward n (λ _ ws. onward (o a ws) (λ c ws. g (f a c) ws)) ≡ onward (onward n (λ _ ws. onward (o a ws) (λ c ws. got (f a c) ws))) g
unfolding onward
two-of a (got b ws) o f g = last_of a (o a ws) f g
two-of a (fault n w) o f g = refl

three-of : {A B C D E : Type 0} (m : Read A) (n : Reader B) (o : A → Reader C) (f : A → C → D) (g : D → Reader E)
    → onward m (λ a ws. onward (n ws) (λ _ ws. onward (o a ws) (λ c ws. g (f a c) ws)))
    ≡ onward (onward m (λ a ws. onward (n ws) (λ _ ws. onward (o a ws) (λ c ws. got (f a c) ws)))) g
unfolding onward
three-of (got a ws) n o f g = two-of a (n ws) o f g
three-of (fault x w) n o f g = refl

pub in_two : (k : ℕ) (ws : List Word) → a_common k ws ≡ onward (up_to_end k ws) closing
unfolding a_common up_to_end
in_two k ws =
    three-of (some_sections k nothing ws) (expect 265) (λ s ws. some_heads k (min 128 s.left) ws) (λ s hs. record { sections = s.sections; left = s.left; listed = hs }) closing

pub heads-as : (k m l n : ℕ) {text : List ℕ} (at : ℕ) {r : Out} → m ≡ min 128 n → l ≡ n → Tells (some_heads k m (words_at text at)) text r
    → Tells (some_heads k (min 128 l) (words_at text at)) text r
heads-as k m l n at e f t = rw (f, ← e) t

-- the list is read, and `end` is next
pub listed : {text : List ℕ} {at n : ℕ} {c : Common} {w : WordAt} {e : Out} → c.left ≡ n → at ≤ length text → Here text at w → Decides e (ending (words_at text at)) → e.fault ≡ 0
    → up_to_end (length text + 1) (words text) ≡ got c (words_at text at) → Listed text w.start n c
listed {text} {w = w} l i h d z q =
    let k = end-next h d z in
    record {
      leaves = l;
      inside = begins-inside h i (omega arith);
      keyword = as_word text w;
      kind = k;
      start = refl;
      rest = words_at text w.next;
      reads = rw (h.more (omega arith)) at q;
    }

-- A further part

pub first_word : (ws vs : List Word) (w : Word) → expect 265 ws ≡ got w vs → ws ≡ w ∷ vs
unfolding expect on◌then◌else◌ pass refuse peek
first_word [] vs w e = let y : ◌≡◌ {A = ℕ} 0 1 = cc in absurd (omega arith)
first_word (v ∷ ws) vs w e = go (eqb v.kind 265) e
  where
    go : (t : Bool) → (if t then pass else refuse) (v ∷ ws) ≡ got w vs → v ∷ ws ≡ w ∷ vs
    go true q = cc
    go false q = let y : ◌≡◌ {A = ℕ} 0 1 = cc in absurd (omega arith)

-- a place behind a word is not the start
pub behind : (text : List ℕ) (at : ℕ) (w : Word) → words_at text 0 ≡ w ∷ words_at text at → 0 < at
behind text zero w e = let n : length (words_at text 0) ≡ length (w ∷ words_at text 0) = ap length e in absurd (omega arith)
behind text (suc n) w e = omega arith

placed : (s : List ℕ) (d : ℕ) → words_from 0 d s ≡ moved d (words s)
unfolding words
placed s d = ap (λ (k : ℕ). words_from 0 k s) (omega arith) ∙ words-moved s d 0 0

-- One buffer of both: the common part up to its `end`, a line feed, the further part from behind its `rules`. Its words are those of the common part before
-- `end`, and then those of the further part behind `rules`, at other places.

pub one-buffer : {common : List ℕ} {at n : ℕ} {c : Common} (l : Listed common at n c) (part : List ℕ) (from : ℕ) (ws : List Word) → words common ≡ ws ++ (l.keyword ∷ l.rest)
    → words (take at common ++ (10 ∷ drop from part)) ≡ ws ++ moved (at + 1) (words (drop from part))
one-buffer {common} {at} l part from ws q =
    let j = joined common (drop from part) ws l.rest l.keyword (omega (arith, l.start, l.inside)) q in
    (rw l.start at j) ∙ ap (λ (vs : List Word). ws ++ vs) (placed (drop from part) (at + 1))

pub part-words : (part : List ℕ) (from : ℕ) → words_at part from ≡ moved from (words (drop from part))
unfolding words_at
part-words part from = placed (drop from part) from

-- The limit on the text's bytes

pub long-text : {A : Type 0} {Q : A → Type 0} (m : Read A) (text : List ℕ) {r : Out} → 32768 < length text → r.fault ≡ 9 → r.at ≡ length text → r.len ≡ 0
    → Settles Q r (unless_long text m)
unfolding unless_long too_long end_of
long-text m text h a b c = rw (lt-ltb 32768 (length text) h) (record { decides = wrong (λ z. let y : ◌≡◌ {A = ℕ} 9 0 = z in omega arith) a b c; holds = void })

pub short-text : {A : Type 0} {Q : A → Type 0} {m : Read A} (text : List ℕ) {r : Out} → length text ≤ 32768 → Settles Q r m → Settles Q r (unless_long text m)
unfolding unless_long too_long
short-text text h s = rw (le-ltb 32768 (length text) h) s
