-- Writing the tokens, and the answers of `fold`.
use mathlib.Core.Bool.{true}
use mathlib.Core.List.{List, [], ◌∷◌}
use mathlib.Core.Option.{Option, none, some}
use mathlib.Core.Path.{◌≡◌, refl, sym, ap, ◌∙◌}
use Prim.Native.Nat.{ℕ, zero, suc, ◌+◌, ◌*◌, ◌-◌, ◌/◌, ◌%◌, ◌<◌, ◌≤◌}
use native.Mathlib.Omega.{arith}
use lib.Dec.{eqb, leb}
use lib.ListN.{length, get_or, set, take, length-set}
use borrow.Author.Tests.{eqb-false, le-leb, lt-leb}
use Rattle.base.proofs.Laws.{above_zero}
use Rattle.std.specs.Prelude.{if◌then◌else◌}
use Rattle.buffers.proofs.Writes.{upto-start, upto_put, upto-end}
use Rattle.buffers.specs.Words.{put_word}
use Rattle.filtering.proofs.Exact.{lowest-none}
use Rattle.filtering.specs.Filter.{Entry, entries, holders, crossed, doubled, missing, tokens_of, Answer, folded, refused, unless, filter, buffer_after, numbers_of}
use Rattle.machine.specs.Bytes.{count, bytes_of, over}
use Rattle.filter.specs.Told.{error_number, named_in, told}
use Rattle.filter.specs.declared.FilterError.{FilterError}
use Rattle.filter.specs.declared.FilterError.TheVariants.{OverLimit, Crossed, Doubled, NotCovered, TooShort}
use Rattle.std.specs.Prelude as P
use Rattle.std.specs.Prelude.{Result, Ok, Err, None, Some, position}
use Rattle.std.proofs.lemmas.Option.{none-some, same_Some}
use Rattle.filter.specs.Working.{entry_at, turned, given, lowest_doubled, lowest_missing, Tallied, Mapped, map_tokens, put_words}
use Rattle.filter.proofs.Laws.{length-entries, position-is}
use Rattle.filter.proofs.Counting.{doubled-is, missing-is, map_is}

-- The tokens by the map

pub put-turned-is : (out : List ℕ) (i x : ℕ) → x < 65536 → set (set out (2 * i) (x % 256)) (2 * i + 1) (x / 256) ≡ put_word out i (turned x)
unfolding put_word turned
put-turned-is out i x h =
    let a : (x % 256 * 256 + x / 256) / 256 ≡ x % 256 = omega arith in
    let b : (x % 256 * 256 + x / 256) % 256 ≡ x / 256 = omega arith in
    rw (a, b)

pub turned-is : (s : List ℕ) (i h l : ℕ) → h ≡ get_or s (4 * i + 2) 0 → l ≡ get_or s (4 * i + 3) 0 → h < 256 → l < 256 → turned (l * 256 + h) ≡ (entry_at s i).token
unfolding turned entry_at
turned-is s i h l d e p q = omega arith

pub tokens-length : (map text : List ℕ) → length (map_tokens map text) ≡ length text
unfolding map_tokens
tokens-length map [] = refl
tokens-length map (b ∷ text) = ap suc (tokens-length map text)

pub token-at : (map text : List ℕ) (k b : ℕ) → k < length text → b ≡ get_or text k 0 → turned (get_or map b 0) ≡ get_or (map_tokens map text) k 0
unfolding map_tokens
token-at map [] k b h e = absurd (omega arith)
token-at map (x ∷ text) zero b h e = ap (λ (i : ℕ). turned (get_or map i 0)) e
token-at map (x ∷ text) (suc k) b h e = token-at map text k b (omega arith) e

pub tokens-fit : (map text out : List ℕ) → 2 * length text ≤ length out → 2 * length (map_tokens map text) ≤ length out
tokens-fit map text out h = omega (arith, tokens-length map text)

-- Words behind words

pub length-words : (ws : List ℕ) (n k : ℕ) (out : List ℕ) → length (put_words ws n k out) ≡ length out
unfolding put_words put_word
length-words ws zero k out = refl
length-words ws (suc n) k out =
    length-words ws n (suc k) (set (set out (2 * k) (get_or ws k 0 / 256)) (2 * k + 1) (get_or ws k 0 % 256))
    ∙ length-set (set out (2 * k) (get_or ws k 0 / 256)) (2 * k + 1) (get_or ws k 0 % 256) ∙ length-set out (2 * k) (get_or ws k 0 / 256)

-- m words behind n words
words-then : (ws : List ℕ) (n m k : ℕ) (out : List ℕ) → put_words ws m (k + n) (put_words ws n k out) ≡ put_words ws (n + m) k out
unfolding put_words
words-then ws zero m k out = let e : k + 0 ≡ k = omega arith in let f : 0 + m ≡ m = omega arith in rw (e, f)
words-then ws (suc n) m k out =
    let e : k + suc n ≡ suc k + n = omega arith in
    let f : suc n + m ≡ suc (n + m) = omega arith in
    rw (e, f) (words-then ws n m (suc k) (put_word out k (get_or ws k 0)))

-- the same of what a function left, and what the next one left
pub words-next : (ws out₀ : List ℕ) {out out' : List ℕ} (n m k j l : ℕ) → out' ≡ put_words ws m j out → out ≡ put_words ws n k out₀ → j ≡ k + n → l ≡ n + m
    → out' ≡ put_words ws l k out₀
words-next ws out₀ n m k j l e f g h = e ∙ rw (f, g, h) (words-then ws n m k out₀)

pub words-one : (map text out : List ℕ) (k b : ℕ) (x : List ℕ) → k < length text → b ≡ get_or text k 0 → x ≡ put_word out k (turned (get_or map b 0))
    → x ≡ put_words (map_tokens map text) 1 k out
unfolding put_words
words-one map text out k b x h e f = f ∙ ap (λ (v : ℕ). put_word out k v) (token-at map text k b h e)

pub words-none : (ws : List ℕ) (n k : ℕ) (out : List ℕ) → n ≡ 0 → out ≡ put_words ws n k out
unfolding put_words
words-none ws n k out e = rw e

-- all words from k on
pub words_last : (ws out₀ : List ℕ) {out : List ℕ} (i k m : ℕ) → i ≤ m → m ≤ i → out ≡ put_words ws (i - k) k out₀ → out ≡ put_words ws (m - k) k out₀
words_last ws out₀ i k m a b e = let q : m ≡ i = omega arith in rw q e

-- all words from the start
words-over : (ws out : List ℕ) → 2 * length ws ≤ length out → (n : ℕ) → n ≤ length ws → put_words ws n 0 out ≡ over (bytes_of (take n ws)) out
unfolding put_words
words-over ws out h zero l = upto-start ws out h
words-over ws out h (suc n) l =
    let e : n + 1 ≡ suc n = omega arith in
    let p = upto_put ws out h {out = put_words ws n 0 out} {out' = put_word (put_words ws n 0 out) n (get_or ws n 0)} n (get_or ws n 0) refl (words-over ws out h n (omega arith)) (omega arith) refl in
    let z : n ≡ 0 + n = omega arith in
    let q : put_word (put_words ws n 0 out) n (get_or ws n 0) ≡ put_words ws (n + 1) 0 out =
    ap (λ (j : ℕ). put_word (put_words ws n 0 out) j (get_or ws j 0)) z ∙ words-then ws n 1 0 out in
    ap (λ (j : ℕ). put_words ws j 0 out) (sym e) ∙ sym q ∙ p ∙ ap (λ (j : ℕ). over (bytes_of (take j ws)) out) e

pub words-all : (ws out : List ℕ) (n : ℕ) → 2 * length ws ≤ length out → n ≡ length ws → put_words ws n 0 out ≡ over (bytes_of ws) out
words-all ws out n h e = words-over ws out h n (omega arith) ∙ upto-end ws out h n (omega arith)

-- by the map, or by the entries
pub map-tokens : (es : List Entry) (map text : List ℕ) → Mapped es map → ((i : ℕ) → get_or text i 0 < 256) → map_tokens map text ≡ tokens_of es text
unfolding map_tokens tokens_of
map-tokens es map [] m b = refl
map-tokens es map (x ∷ text) m b = let e = m.tokens x (b 0) in let r = map-tokens es map text m (λ i. b (suc i)) in λ i. e i ∷ r i

-- Answers

some_is : (o : Option ℕ) (r : P.Option ℕ) (c : ℕ) → r ≡ given o → r ≡ Some c → o ≡ some c
unfolding given
some_is none r c e h = absurd (none-some c (sym e ∙ h))
some_is (some x) r c e h = ap some (same_Some x c (sym e ∙ h))

none_is : (o : Option ℕ) (r : P.Option ℕ) → r ≡ given o → r ≡ None → o ≡ none
unfolding given
none_is none r e h = refl
none_is (some x) r e h = absurd (none-some x (sym h ∙ e))

-- what a call leaves with its caller: the numbers and the buffer are the answer's
pub record Leaves (a : Answer) (r : Result ℕ FilterError) (before after : List ℕ) : Type 0 where
  pub told : told r ≡ numbers_of a
  pub lent : after ≡ buffer_after a before

refusal : (a : Answer) (error : FilterError) (out : List ℕ) → a ≡ refused (error_number error) (named_in error) → Leaves a (Err error) out out
unfolding numbers_of buffer_after
refusal a error out e = record { told = rw e refl; lent = rw e refl }

tokens-put : (a : Answer) (ts : List ℕ) (n : ℕ) (out after : List ℕ) → a ≡ folded ts → n ≡ length ts → after ≡ over (bytes_of ts) out → Leaves a (Ok n) out after
unfolding numbers_of buffer_after
tokens-put a ts n out after e f g = record { told = rw (e, f) refl; lent = rw e g }

module _ (s text out : List ℕ) where
  few : length s / 4 ≤ 64 → leb (length (entries s)) 64 ≡ true
  few h = let l = length-entries s in le-leb (length (entries s)) 64 (omega arith)

  pub too_many : 64 < length s / 4 → Leaves (filter s text (count out)) (Err OverLimit) out out
  unfolding filter
  too_many h = let l = length-entries s in let t = lt-leb (length (entries s)) 64 (omega arith) in refusal _ OverLimit out (rw t refl)

  module _ (h : length s / 4 ≤ 64) (r : P.Option ℕ) (er : r ≡ given (crossed 0 (entries s))) where
    pub at-crossed : (entry : ℕ) → r ≡ Some entry → Leaves (filter s text (count out)) (Err (Crossed entry)) out out
    unfolding filter unless
    at-crossed entry u = refusal _ (Crossed entry) out (rw (few h, some_is (crossed 0 (entries s)) r entry er u) refl)

    no-crossed : r ≡ None → crossed 0 (entries s) ≡ none
    no-crossed u = none_is (crossed 0 (entries s)) r er u

    module _ (uc : r ≡ None) (held map : List ℕ) (p : Tallied s (length s / 4) held map) (d : P.Option ℕ) (ed : d ≡ position (λ k. leb 2 k) held) where
      is-doubled : d ≡ given (doubled (entries s))
      unfolding lowest_doubled
      is-doubled = ed ∙ position-is (λ k. leb 2 k) held p.held_size ∙ ap given (doubled-is s (length s / 4) refl held map p)

      pub at-doubled : (byte : ℕ) → d ≡ Some byte → Leaves (filter s text (count out)) (Err (Doubled byte)) out out
      unfolding filter unless
      at-doubled byte u = refusal _ (Doubled byte) out (rw (few h, no-crossed uc, some_is (doubled (entries s)) d byte is-doubled u) refl)

      no-doubled : d ≡ None → doubled (entries s) ≡ none
      no-doubled u = none_is (doubled (entries s)) d is-doubled u

      module _ (ud : d ≡ None) (m : P.Option ℕ) (em : m ≡ position (λ k. eqb k 0) held) where
        is-missing : m ≡ given (missing (entries s))
        unfolding lowest_missing
        is-missing = em ∙ position-is (λ k. eqb k 0) held p.held_size ∙ ap given (missing-is s (length s / 4) refl held map p)

        pub at-missing : (byte : ℕ) → m ≡ Some byte → Leaves (filter s text (count out)) (Err (NotCovered byte)) out out
        unfolding filter unless
        at-missing byte u = refusal _ (NotCovered byte) out (rw (few h, no-crossed uc, no-doubled ud, some_is (missing (entries s)) m byte is-missing u) refl)

        no-missing : m ≡ None → missing (entries s) ≡ none
        no-missing u = none_is (missing (entries s)) m is-missing u

        module _ (um : m ≡ None) where
          pub too_short : count out < length text → Leaves (filter s text (count out)) (Err TooShort) out out
          unfolding filter unless
          too_short u = refusal _ TooShort out (rw (few h, no-crossed uc, no-doubled ud, no-missing um, lt-leb (length text) (count out) u) refl)

          accepted : length text ≤ count out → filter s text (count out) ≡ folded (tokens_of (entries s) text)
          unfolding filter unless
          accepted v = rw (few h, no-crossed uc, no-doubled ud, no-missing um, le-leb (length text) (count out) v)

          mapped : Mapped (entries s) map
          unfolding missing
          mapped = map_is s (length s / 4) refl held map p (λ x u. above_zero (holders x (entries s))
              (eqb-false (holders x (entries s)) 0 (lowest-none (λ b. eqb (holders b (entries s)) 0) 256 0 (no-missing um) x (omega arith) (omega arith))))

          pub all-written : (after : List ℕ) → length text ≤ count out → ((i : ℕ) → get_or text i 0 < 256) → after ≡ over (bytes_of (map_tokens map text)) out
              → Leaves (filter s text (count out)) (Ok (length text)) out after
          all-written after u b e =
              let t = map-tokens (entries s) map text mapped b in
              tokens-put (filter s text (count out)) (tokens_of (entries s) text) (length text) out after (accepted u) (sym (tokens-length map text) ∙ ap length t)
              (e ∙ ap (λ (z : List ℕ). over (bytes_of z) out) t)
