-- A filter is accepted exactly if it has at most 64 entries, none of them crossed, and every byte value in one and no more; the token of a byte is then that of
-- the entry that has it.
use mathlib.Core.Bool.{Bool, true, false}
use mathlib.Core.List.{List, [], ◌∷◌}
use mathlib.Core.Option.{Option, none, some}
use mathlib.Core.Path.{◌≡◌, refl, ap, ◌∙◌}
use Prim.Native.Nat.{ℕ, zero, suc, ◌+◌, ◌<◌, ◌≤◌}
use native.Mathlib.Decide.{dec_le}
use native.Mathlib.Omega.{arith}
use lib.Dec.{eqb, leb, ltb}
use lib.ListN.{length, get_or, get_elem?}
use borrow.Author.Tests.{eqb-true, eqb-false, leb-true, leb-false, ltb-false, le-leb, lt-leb, le-ltb, ne_eqb}
use Rattle.base.specs.Bools.{split}
use Rattle.std.specs.Prelude.{if◌then◌else◌}
use Rattle.filtering.specs.Accepted.{Accepted, Folds}
use Rattle.filtering.specs.Filter.{Entry, entries, has, holders, crossed, lowest, doubled, missing, token_of, tokens_of, Answer, folded, refused, unless, filter}

-- Searches

-- nothing found: the test fails at each of n bytes from b on
pub lowest-none : (f : ℕ → Bool) (n b : ℕ) → lowest f n b ≡ none → (x : ℕ) → b ≤ x → x < b + n → f x ≡ false
unfolding lowest
lowest-none f zero b e x l u = absurd (omega arith)
lowest-none f (suc n) b e x l u = go (f b) refl e (λ d. lowest-none f n (suc b) d x)
  where
    step : (b ≡ x → ⊥) → suc b ≤ x
    step ne = elim (dec_le (suc b) x) [ yes t ↦ t | no w ↦ absurd (ne (omega arith)) ]

    go : (t : Bool) → f b ≡ t → (if t then some b else lowest f n (suc b)) ≡ none → (lowest f n (suc b) ≡ none → suc b ≤ x → x < suc b + n → f x ≡ false) → f x ≡ false
    go true g d i = let z : ◌≡◌ {A = ℕ} 0 1 = cc in absurd (omega arith)
    go false g d i = split (eqb b x) (λ q. let z = eqb-true b x q in rw (← z) g) (λ q. i d (step (eqb-false b x q)) (omega arith))

-- and the other way round
none-lowest : (f : ℕ → Bool) (n b : ℕ) → ((x : ℕ) → b ≤ x → x < b + n → f x ≡ false) → lowest f n b ≡ none
unfolding lowest
none-lowest f zero b h = refl
none-lowest f (suc n) b h = rw (h b (omega arith) (omega arith)) (none-lowest f n (suc b) (λ x l u. h x (omega arith) (omega arith)))

-- no entry is crossed
crossed-none : (i : ℕ) (es : List Entry) → crossed i es ≡ none → (k : ℕ) (e : Entry) → get_elem? es k ≡ some e → e.first ≤ e.last
unfolding crossed
crossed-none i [] c k e q = let z : ◌≡◌ {A = ℕ} 0 1 = cc in absurd (omega arith)
crossed-none i (e₀ ∷ es) c k e q = go (ltb e₀.last e₀.first) refl c k q (λ d j. crossed-none (suc i) es d j e)
  where
    go : (t : Bool) → ltb e₀.last e₀.first ≡ t → (if t then some i else crossed (suc i) es) ≡ none → (k : ℕ) → get_elem? (e₀ ∷ es) k ≡ some e
        → (crossed (suc i) es ≡ none → (j : ℕ) → get_elem? es j ≡ some e → e.first ≤ e.last) → e.first ≤ e.last
    go true g d k q h = let z : ◌≡◌ {A = ℕ} 0 1 = cc in absurd (omega arith)
    go false g d zero q h = let l = ltb-false e₀.last e₀.first g in let z : e₀ ≡ e = cc in rw (← z) l
    go false g d (suc k) q h = h d k q

none-crossed : (i : ℕ) (es : List Entry) → ((k : ℕ) (e : Entry) → get_elem? es k ≡ some e → e.first ≤ e.last) → crossed i es ≡ none
unfolding crossed
none-crossed i [] h = refl
none-crossed i (e ∷ es) h = rw (le-ltb e.last e.first (h 0 e refl)) (none-crossed (suc i) es (λ k. h (suc k)))

-- Accepted filters

exactly-one : (h : ℕ) → leb 2 h ≡ false → eqb h 0 ≡ false → h ≡ 1
exactly-one h a b = only h (leb-false 2 h a) (eqb-false h 0 b)
  where
    only : (k : ℕ) → k < 2 → (k ≡ 0 → ⊥) → k ≡ 1
    only zero p q = absurd (q refl)
    only (suc zero) p q = refl
    only (suc (suc k)) p q = absurd (omega arith)

-- what is accepted, and its tokens
pub accepted : (s text : List ℕ) (room : ℕ) (ts : List ℕ) → filter s text room ≡ folded ts → Accepted s text room × (ts ≡ tokens_of (entries s) text)
unfolding filter doubled missing unless
accepted s text room ts e = one (leb (length (entries s)) 64) refl e
  where
    Result : Type 0
    Result = Accepted s text room × (ts ≡ tokens_of (entries s) text)

    no : {n at : ℕ} → refused n at ≡ folded ts → Result
    no d = let z : ◌≡◌ {A = ℕ} 0 1 = cc in absurd (omega arith)

    fitting : Answer
    fitting = if leb (length text) room then folded (tokens_of (entries s) text) else refused 20 0

    five : leb (length (entries s)) 64 ≡ true → crossed 0 (entries s) ≡ none → doubled (entries s) ≡ none → missing (entries s) ≡ none → (t : Bool)
        → leb (length text) room ≡ t → (if t then folded (tokens_of (entries s) text) else refused 20 0) ≡ folded ts → Result
    five f c d m true x y = (
      record {
        few = leb-true (length (entries s)) 64 f;
        straight = λ a q. crossed-none 0 (entries s) c q.0 a q.1;
        once = λ b u. exactly-one (holders b (entries s)) (lowest-none (λ c. leb 2 (holders c (entries s))) 256 0 d b (omega arith) (omega arith))
            (lowest-none (λ c. eqb (holders c (entries s)) 0) 256 0 m b (omega arith) (omega arith));
        fits = leb-true (length text) room x;
      },
      cc,
    )
    five f c d m false x y = no y

    four : leb (length (entries s)) 64 ≡ true → crossed 0 (entries s) ≡ none → doubled (entries s) ≡ none → (o : Option ℕ) → missing (entries s) ≡ o
        → unless o 44 fitting ≡ folded ts → Result
    four f c d none m y = five f c d m (leb (length text) room) refl y
    four f c d (some at) m y = no y

    three : leb (length (entries s)) 64 ≡ true → crossed 0 (entries s) ≡ none → (o : Option ℕ) → doubled (entries s) ≡ o
        → unless o 43 (unless (missing (entries s)) 44 fitting) ≡ folded ts → Result
    three f c none d y = four f c d (missing (entries s)) refl y
    three f c (some at) d y = no y

    two : leb (length (entries s)) 64 ≡ true → (o : Option ℕ) → crossed 0 (entries s) ≡ o
        → unless o 42 (unless (doubled (entries s)) 43 (unless (missing (entries s)) 44 fitting)) ≡ folded ts → Result
    two f none c y = three f c (doubled (entries s)) refl y
    two f (some at) c y = no y

    one : (t : Bool) → leb (length (entries s)) 64 ≡ t
        → (if t then unless (crossed 0 (entries s)) 42 (unless (doubled (entries s)) 43 (unless (missing (entries s)) 44 fitting)) else refused 9 0) ≡ folded ts → Result
    one true f y = two f (crossed 0 (entries s)) refl y
    one false f y = no y

-- nothing else is refused
pub accepts : (s text : List ℕ) (room : ℕ) → Accepted s text room → filter s text room ≡ folded (tokens_of (entries s) text)
unfolding filter doubled missing unless
accepts s text room a =
    let few = le-leb (length (entries s)) 64 a.few in
    let straight = none-crossed 0 (entries s) (λ k e q. a.straight e (k, q)) in
    let single = none-lowest (λ b. leb 2 (holders b (entries s))) 256 0 (λ b l u. lt-leb 2 (holders b (entries s)) (omega (arith, a.once b (omega arith)))) in
    let whole = none-lowest (λ b. eqb (holders b (entries s)) 0) 256 0 (λ b l u. ne_eqb (holders b (entries s)) 0 (λ z. omega (arith, a.once b (omega arith)))) in
    rw (few, straight, single, whole, le-leb (length text) room a.fits)

-- Its tokens

-- an entry that has the byte is counted
counted : (b : ℕ) (es : List Entry) (k : ℕ) (e : Entry) → get_elem? es k ≡ some e → has b e ≡ true → 1 ≤ holders b es
unfolding holders
counted b [] k e q h = let z : ◌≡◌ {A = ℕ} 0 1 = cc in absurd (omega arith)
counted b (e₀ ∷ es) zero e q h = let z : e₀ ≡ e = cc in let g : has b e₀ ≡ true = rw z h in rw g (omega arith)
counted b (e₀ ∷ es) (suc k) e q h = let r = counted b es k e q h in omega arith

token-its : (b : ℕ) (es : List Entry) → holders b es ≤ 1 → (k : ℕ) (e : Entry) → get_elem? es k ≡ some e → has b e ≡ true → token_of es b ≡ e.token
unfolding holders token_of
token-its b [] n k e q h = let z : ◌≡◌ {A = ℕ} 0 1 = cc in absurd (omega arith)
token-its b (e₀ ∷ es) n zero e q h = let z : e₀ ≡ e = cc in let g : has b e₀ ≡ true = rw z h in rw g (ap (λ (x : Entry). x.token) z)
token-its b (e₀ ∷ es) n (suc k) e q h = go (has b e₀) n (counted b es k e q h) (λ m. token-its b es m k e q h)
  where
    go : (t : Bool) → (if t then 1 else 0) + holders b es ≤ 1 → 1 ≤ holders b es → (holders b es ≤ 1 → token_of es b ≡ e.token)
        → (if t then e₀.token else token_of es b) ≡ e.token
    go true m c r = absurd (omega arith)
    go false m c r = r (omega arith)

length-tokens : (es : List Entry) (text : List ℕ) → length (tokens_of es text) ≡ length text
unfolding tokens_of
length-tokens es [] = refl
length-tokens es (b ∷ text) = ap suc (length-tokens es text)

tokens-at : (es : List Entry) (text : List ℕ) (k : ℕ) → k < length text → get_or (tokens_of es text) k 0 ≡ token_of es (get_or text k 0)
unfolding tokens_of
tokens-at es [] k h = absurd (omega arith)
tokens-at es (b ∷ text) zero h = refl
tokens-at es (b ∷ text) (suc k) h = tokens-at es text k (omega arith)

-- the tokens of bytes by an accepted filter
pub folds : (s text : List ℕ) (room : ℕ) (ts : List ℕ) → ((k : ℕ) → get_or text k 0 < 256) → filter s text room ≡ folded ts → Folds s text ts
folds s text room ts small f =
    let a = accepted s text room ts f in
    record {
      one_each = ap length a.1 ∙ length-tokens (entries s) text;
      its_entry = λ k e l q h. ap (λ (l : List ℕ). get_or l k 0) a.1 ∙ tokens-at (entries s) text k l
          ∙ token-its (get_or text k 0) (entries s) (omega (arith, a.0.once (get_or text k 0) (small k))) q.0 e q.1 h;
    }
