-- Bytes against lists of words: a word fetched, the return locations, an event written.
use mathlib.Core.Path.{◌≡◌, refl, sym, ap, ◌∙◌}
use mathlib.Core.List.{List, [], ◌∷◌, ◌++◌, reverse, reverse-append, append_assoc, append-nil}
use mathlib.Core.Option.{none, some}
use Prim.Native.Nat.{ℕ, zero, suc, ◌+◌, ◌*◌, ◌-◌, ◌/◌, ◌%◌, ◌<◌, ◌≤◌, ◌^◌, min}
use native.Mathlib.Numerals.{add-one}
use native.Mathlib.Omega.{arith}
use lib.Dec.{eqb, leb, ltb}
use lib.ListN.{length, take, drop, get_or, set, get_elem?, length-take, length-drop, length-set, length-append, length-reverse}
use lib.Seq.{take-suc, take-suc-set, take_all, get_or-take, set_at, append_snoc, drop-cons}
use borrow.Author.Tests.{eq-eqb, ne_eqb, eqb-true, eqb-false, leb-true, leb-false, ltb-true, ltb-false}
use Rattle.base.specs.Bools.{split}
use Rattle.machine.specs.Bytes.{count, words_of, word_at, table_of, bytes_of, over}
use Rattle.machine.specs.Decode.{fetch}
use Rattle.machine.proofs.Bytes.{length-words_of, get_d-words_of, length-bytes_of, bytes_of-append, elem_in, past_end}
use Rattle.events.specs.Events as events
use Rattle.events.specs.Events.{event_words}
use Rattle.machine.specs.Form.{events_words}
use Rattle.walker.specs.Linked.{Bytes}
use Rattle.walker.specs.declared.Event.{Event}
use Rattle.walker.specs.declared.Event.TheVariants.{Output, Repair, Plain, With}
use Rattle.walker.specs.View.{event_of}
use Rattle.walker.specs.Shape.{size, set_word, put_event, one_more}

-- Words of a buffer

pub word_in : (s : List ℕ) (i : ℕ) → i < count s → get_elem? (words_of s) i ≡ some (word_at s i)
word_in s i h = elem_in (words_of s) i (rw (length-words_of s) h) ∙ ap some (get_d-words_of s i h)

pub word_out : (s : List ℕ) (i : ℕ) → count s ≤ i → get_elem? (words_of s) i ≡ none
word_out s i h = past_end (words_of s) i (rw (length-words_of s) h)

pub word_below : (s : List ℕ) → Bytes s → (i : ℕ) → word_at s i < 65536
unfolding word_at
word_below s b i = omega (arith, b (2 * i), b (2 * i + 1))

-- a word of bytes is its 16 bits
pub word_small : (s : List ℕ) → Bytes s → (i : ℕ) → word_at s i % 65536 ≡ word_at s i
word_small s b i = omega (arith, word_below s b i)

-- Words of a table

pub length-table : (t : List ℕ) → length (table_of t) ≡ size t
unfolding table_of
length-table t = let e = length-take 4096 (words_of t) in let f = length-words_of t in omega arith

pub fetch-in : (t : List ℕ) (i : ℕ) → i < size t → fetch (table_of t) (suc i) ≡ some (word_at t i)
unfolding fetch table_of
fetch-in t i h =
    elem_in (table_of t) i (rw (length-table t) h) ∙ ap some (get_or-take 4096 (words_of t) i 0 (omega arith) ∙ get_d-words_of t i (omega arith))

pub fetch-at : (t : List ℕ) (l : ℕ) → 1 ≤ l → l ≤ size t → fetch (table_of t) l ≡ some (word_at t (l - 1))
fetch-at t zero p h = absurd (omega arith)
fetch-at t (suc i) p h = let e : suc i - 1 ≡ i = omega arith in rw e (fetch-in t i h)

pub fetch-zero : (t : List ℕ) → fetch (table_of t) 0 ≡ none
unfolding fetch
fetch-zero t = refl

pub fetch-behind : (t : List ℕ) (l : ℕ) → size t ≤ l → fetch (table_of t) (suc l) ≡ none
unfolding fetch
fetch-behind t l h = past_end (table_of t) l (rw (length-table t) h)

pub fetch-out : (t : List ℕ) (l : ℕ) → size t < l → fetch (table_of t) l ≡ none
fetch-out t zero h = absurd (omega arith)
fetch-out t (suc i) h = fetch-behind t i (omega arith)

-- Return locations

pub push-returns : (rs : List ℕ) (d l : ℕ) → d < length rs → reverse (take (d + 1) (set rs d l)) ≡ l ∷ reverse (take d rs)
push-returns rs d l h = rw (add-one, take-suc-set rs d l h, reverse-append (take d rs) (l ∷ []))

pub pop-returns : (rs : List ℕ) (d : ℕ) → 1 ≤ d → d ≤ length rs → reverse (take d rs) ≡ get_or rs (d - 1) 0 ∷ reverse (take (d - 1) rs)
pop-returns rs zero p h = absurd (omega arith)
pop-returns rs (suc d) p h =
    let e : suc d - 1 ≡ d = omega arith in
    rw (e, take-suc rs d 0 h, reverse-append (take d rs) (get_or rs d 0 ∷ []))

pub length-returns : (rs : List ℕ) (d : ℕ) → length (reverse (take d rs)) ≡ min d (length rs)
length-returns rs d = length-reverse (take d rs) ∙ length-take d rs

pub clip-returns : (rs : List ℕ) (d : ℕ) → length rs ≡ 64 → take (min d 64) rs ≡ take d rs
clip-returns rs d h =
    split (leb d 64)
    (λ t. let b = leb-true d 64 t in let e : min d 64 ≡ d = omega arith in rw e)
    (λ f. let b = leb-false d 64 f in let e : min d 64 ≡ 64 = omega arith in rw (e, take_all 64 rs (omega arith), take_all d rs (omega arith)))

-- Events of a buffer

pub length-set_word : (s : List ℕ) (i x : ℕ) → length (set_word s i x) ≡ length s
unfolding set_word
length-set_word s i x = length-set (set s (2 * i) (x / 256)) (2 * i + 1) (x % 256) ∙ length-set s (2 * i) (x / 256)

pub count-set_word : (s : List ℕ) (i x : ℕ) → count (set_word s i x) ≡ count s
unfolding count
count-set_word s i x = ap (λ (n : ℕ). n / 2) (length-set_word s i x)

-- two bytes behind p
set-two : (p : List ℕ) (a b x y : ℕ) (q : List ℕ) (n : ℕ) → length p ≡ n → set (set (p ++ (a ∷ b ∷ q)) n x) (n + 1) y ≡ (p ++ (x ∷ y ∷ [])) ++ q
set-two p a b x y q n e =
    rw (set_at p a (b ∷ q) x n e, ← append_snoc p x (b ∷ q), set_at (p ++ (x ∷ [])) b q y (n + 1) (length-append p (x ∷ []) ∙ ap (λ (m : ℕ). m + 1) e))
    (simp append_assoc)

over_word : (ws s : List ℕ) (i x : ℕ) → length ws ≡ i → i < count (over (bytes_of ws) s) → set_word (over (bytes_of ws) s) i x ≡ over (bytes_of (ws ++ (x ∷ []))) s
unfolding over count set_word bytes_of
over_word ws s i x e h =
    let m : length (bytes_of ws) ≡ 2 * i = length-bytes_of ws ∙ ap (λ (n : ℕ). 2 * n) e in
    let l = length-append (bytes_of ws) (drop (2 * i) s) in
    let d = length-drop (2 * i) s in
    let h₂ : i < length (bytes_of ws ++ drop (2 * i) s) / 2 = rw m at h in
    let k : suc (2 * i) < length s = omega arith in
    let f : length (bytes_of ws ++ (x / 256 ∷ x % 256 ∷ [])) ≡ suc (suc (2 * i)) = length-append (bytes_of ws) (x / 256 ∷ x % 256 ∷ []) ∙ omega arith in
    rw (bytes_of-append ws (x ∷ []), m, f, drop-cons s (2 * i) 0 (omega arith), drop-cons s (suc (2 * i)) 0 k)
    (set-two (bytes_of ws) (get_or s (2 * i) 0) (get_or s (suc (2 * i)) 0) (x / 256) (x % 256) (drop (suc (suc (2 * i))) s) (2 * i) m)

-- three words behind i others
over-words : (ws s : List ℕ) (i x y z : ℕ) → length ws ≡ i → i + 3 ≤ count (over (bytes_of ws) s)
    → set_word (set_word (set_word (over (bytes_of ws) s) i x) (i + 1) y) (i + 2) z ≡ over (bytes_of (ws ++ (x ∷ y ∷ z ∷ []))) s
over-words ws s i x y z e h =
    let ws₁ = ws ++ (x ∷ []) in
    let ws₂ = ws₁ ++ (y ∷ []) in
    let e₁ : length ws₁ ≡ i + 1 = length-append ws (x ∷ []) ∙ omega arith in
    let e₂ : length ws₂ ≡ i + 2 = length-append ws₁ (y ∷ []) ∙ omega arith in
    let a : set_word (over (bytes_of ws) s) i x ≡ over (bytes_of ws₁) s = over_word ws s i x e (omega arith) in
    let b : count (over (bytes_of ws₁) s) ≡ count (over (bytes_of ws) s) = ap count (sym a) ∙ count-set_word (over (bytes_of ws) s) i x in
    let c : set_word (over (bytes_of ws₁) s) (i + 1) y ≡ over (bytes_of ws₂) s = over_word ws₁ s (i + 1) y e₁ (omega arith) in
    let d : count (over (bytes_of ws₂) s) ≡ count (over (bytes_of ws₁) s) = ap count (sym c) ∙ count-set_word (over (bytes_of ws₁) s) (i + 1) y in
    rw (a, c, over_word ws₂ s (i + 2) z e₂ (omega arith), append_assoc (ws ++ (x ∷ [])) (y ∷ []) (z ∷ []), append_assoc ws (x ∷ []) (y ∷ z ∷ []))

pub events_words-snoc : (es : List events.Event) (e : events.Event) → events_words (es ++ (e ∷ [])) ≡ events_words es ++ event_words e
unfolding events_words
events_words-snoc [] e = append-nil (event_words e)
events_words-snoc (x ∷ es) e = rw (events_words-snoc es e) (sym (append_assoc (event_words x) (events_words es) (event_words e)))

length-event_words : (e : events.Event) → length (event_words e) ≡ 3
unfolding event_words
length-event_words (events.output t) = refl
length-event_words (events.signal n) = refl
length-event_words (events.repair t) = refl
length-event_words (events.operation op) = refl
length-event_words (events.operation_with op v) = refl

pub length-events_words : (es : List events.Event) → length (events_words es) ≡ 3 * length es
unfolding events_words
length-events_words [] = refl
length-events_words (e ∷ es) = let a = length-append (event_words e) (events_words es) in let b = length-event_words e in let ih = length-events_words es in omega arith

-- one more event behind those that a buffer has
pub over-event : (es : List events.Event) (s : List ℕ) (i : ℕ) (e : Event) → 3 * length es ≡ i → i + 3 ≤ count (over (bytes_of (events_words es)) s)
    → put_event (over (bytes_of (events_words es)) s) i e ≡ over (bytes_of (events_words (es ++ (event_of e ∷ [])))) s
unfolding put_event event_of event_words
over-event es s i (Output t) n h = rw (events_words-snoc es (events.output t)) (over-words (events_words es) s i 1 t 0 (length-events_words es ∙ n) h)
over-event es s i (Event.Error t) n h = rw (events_words-snoc es (events.signal t)) (over-words (events_words es) s i 2 t 0 (length-events_words es ∙ n) h)
over-event es s i (Repair t) n h = rw (events_words-snoc es (events.repair t)) (over-words (events_words es) s i 4 t 0 (length-events_words es ∙ n) h)
over-event es s i (Plain op) n h = rw (events_words-snoc es (events.operation op)) (over-words (events_words es) s i 3 op 0 (length-events_words es ∙ n) h)
over-event es s i (With op v) n h = rw (events_words-snoc es (events.operation_with op v)) (over-words (events_words es) s i 3 op v (length-events_words es ∙ n) h)

pub count-put_event : (s : List ℕ) (i : ℕ) (e : Event) → count (put_event s i e) ≡ count s
unfolding put_event
count-put_event s i (Output t) = simp count-set_word
count-put_event s i (Event.Error t) = simp count-set_word
count-put_event s i (Repair t) = simp count-set_word
count-put_event s i (Plain op) = simp count-set_word
count-put_event s i (With op v) = simp count-set_word

-- Tests

pub eqb_comm : (a b : ℕ) → eqb a b ≡ eqb b a
eqb_comm a b =
    split (eqb a b)
    (λ t. let e = eqb-true a b t in t ∙ sym (eq-eqb b a (sym e)))
    (λ f. f ∙ sym (ne_eqb b a (λ e. eqb-false a b f (sym e))))

-- "answers used, 64 bits wide, stops at its greatest"
pub one_more_lem : (n : ℕ) → n < 18446744073709551616 → one_more n ≡ min (n + 1) (2 ^ 64 - 1)
unfolding one_more
one_more_lem n h =
    split (ltb n 18446744073709551615)
    (λ t. let b = ltb-true n 18446744073709551615 t in rw t (omega arith))
    (λ f. let b = ltb-false n 18446744073709551615 f in rw f (omega arith))

pub one-more-fits : (n : ℕ) → n < 18446744073709551616 → one_more n < 18446744073709551616
one-more-fits n h = let e = one_more_lem n h in omega arith

-- "the allowance falls by one", also where it is read modulo 65,536
pub one_less : (n : ℕ) → 0 < n % 65536 → (n - 1) % 65536 ≡ n % 65536 - 1
one_less n h = omega arith
