-- The answers of `write_file`.
use mathlib.Core.Bool.{Bool, true, false}
use mathlib.Core.List.{List, ◌++◌}
use mathlib.Core.Path.{◌≡◌, refl, sym, ap, ◌∙◌}
use Prim.Native.Nat.{ℕ, zero, suc, ◌*◌, ◌-◌, ◌<◌, ◌≤◌}
use native.Mathlib.Omega.{arith}
use lib.Dec.{leb}
use lib.ListN.{length, drop, replicate}
use lib.Seq.{take_all}
use borrow.Author.Tests.{le-leb, lt-leb}
use Rattle.std.specs.Prelude.{Ok, Err}
use Rattle.loader.specs.Records.{error_number}
use Rattle.loader.specs.declared.FileError.{FileError}
use Rattle.loader.specs.declared.FileError.TheVariants.{NotFormed, TooShort, NotTaken}
use Rattle.buffers.proofs.Zeros.{length-zeroed, over-zeroed}
use Rattle.buffers.specs.Words.{zeroed}
use Rattle.loader.proofs.Filing.{bounds}
use Rattle.machine.proofs.Bytes.{length-words_of}
use Rattle.machine.specs.Bytes.{count, words_of, table_of, bytes_of, over}
use Rattle.loading.specs.File.{file_words, allowed, Answer, done, refused, store, lent_words, lent_bytes, numbers_of}
use Rattle.loading.specs.Taking.{taken}
use Rattle.writer.proofs.Places.{length-file}
use Rattle.writer.specs.Storing.{Stores, Sized, Fits, file_length}

-- Which tables have a file

pub none_allowed : (n v : ℕ) → n ≡ 0 → false ≡ allowed n v
unfolding allowed
none_allowed n v e = rw e

pub past-allowed : (n v : ℕ) → 4096 < n → false ≡ allowed n v
unfolding allowed
past-allowed n v h = rw (le-leb 1 n (omega arith), lt-leb n 4096 h)

pub is-allowed : (n v : ℕ) → (n ≡ 0 → ⊥) → n ≤ 4096 → leb v 1 ≡ allowed n v
unfolding allowed
is-allowed zero v a b = absurd (a refl)
is-allowed (suc n) v a b = rw (le-leb 1 (suc n) (omega arith), le-leb (suc n) 4096 b)

-- Answers

refusal : (a : Answer) (error : FileError) (before after : List ℕ) → a ≡ refused (error_number error) → after ≡ zeroed before → Stores a (Err error) before after
unfolding numbers_of lent_bytes lent_words zeroed
refusal a error before after e f = record { number_is = rw e refl; words_are = rw e refl; lent = rw e f }

handed : (a : Answer) (file : List ℕ) (v total : ℕ) (before after : List ℕ) → a ≡ done file v → total ≡ length file
    → after ≡ bytes_of (file ++ replicate (count before - length file) 0) ++ drop (2 * count before) before → Stores a (Ok total) before after
unfolding numbers_of lent_bytes lent_words
handed a file v total before after e f h = record { number_is = rw e refl; words_are = rw e f; lent = rw e h }

module _ (s out : List ℕ) (n v : ℕ) (r : Bool) (en : n ≡ count s) (er : r ≡ allowed n v) where
  size_is : n ≡ length (words_of s)
  size_is = en ∙ sym (length-words_of s)

  right : allowed (length (words_of s)) v ≡ r
  right = ap (λ (m : ℕ). allowed m v) (sym size_is) ∙ sym er

  pub store-40 : r ≡ false → (after : List ℕ) → after ≡ zeroed out → Stores (store (words_of s) v (count out)) (Err NotFormed) out after
  unfolding store
  store-40 f after e = refusal _ NotFormed out after (rw (right, f) refl) e

  module _ (t : r ≡ true) where
    bound : (1 ≤ n) × (n ≤ 4096) × (v ≤ 1)
    bound = bounds n v (sym er ∙ t)

    pub sized : Sized (words_of s) n
    sized = record { size = size_is; some_words = bound.0; low = bound.1 }

    pub claim : v ≤ 1
    claim = bound.2

    pub few : n ≤ 4096
    few = bound.1

    module _ (total : ℕ) (et : total ≡ file_length n) where
      total-is : total ≡ length (file_words (words_of s) v)
      total-is = et ∙ length-file (words_of s) v n sized

      total-low : total ≤ 5000
      unfolding file_length
      total-low = omega (arith, et, bound.1)

      pub store-20 : count out < total → (after : List ℕ) → after ≡ zeroed out → Stores (store (words_of s) v (count out)) (Err TooShort) out after
      unfolding store
      store-20 u after e = refusal _ TooShort out after (rw (right, t, lt-leb (length (file_words (words_of s) v)) (count out) (omega (arith, total-is))) refl) e

      module _ (u : total ≤ count out) where
        fit : leb (length (file_words (words_of s) v)) (count out) ≡ true
        fit = le-leb (length (file_words (words_of s) v)) (count out) (omega (arith, total-is))

        -- a table of up to 4,096 words is all that the buffer holds
        whole : table_of s ≡ words_of s
        unfolding table_of
        whole = take_all 4096 (words_of s) (omega (arith, bound.1, size_is))

        pub store-41 : (k : Bool) → k ≡ taken (table_of s) → k ≡ false → (after : List ℕ) → after ≡ zeroed out → Stores (store (words_of s) v (count out)) (Err NotTaken) out after
        unfolding store
        store-41 k g f after e = let q : taken (words_of s) ≡ false = ap taken (sym whole) ∙ sym g ∙ f in refusal _ NotTaken out after (rw (right, t, fit, q) refl) e

        pub fits : (cleared : List ℕ) → cleared ≡ zeroed out → Fits (file_words (words_of s) v) total cleared
        unfolding count
        fits cleared e = record { words = total-is; room = omega (arith, u, ap length e, length-zeroed out); low = total-low }

        pub store-0 : (k : Bool) → k ≡ taken (table_of s) → k ≡ true → (cleared after : List ℕ) → cleared ≡ zeroed out
            → after ≡ over (bytes_of (file_words (words_of s) v)) cleared → Stores (store (words_of s) v (count out)) (Ok total) out after
        unfolding store
        store-0 k g f cleared after e d =
            let q : taken (words_of s) ≡ true = ap taken (sym whole) ∙ sym g ∙ f in
            handed _ (file_words (words_of s) v) v total out after (rw (right, t, fit, q) refl) total-is
            (d ∙ ap (over (bytes_of (file_words (words_of s) v))) e ∙ over-zeroed (file_words (words_of s) v) out (omega (arith, u, total-is)))
