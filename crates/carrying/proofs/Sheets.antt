-- Two sheets in one row of numbers: what is lent to one of them leaves the other.
use mathlib.Core.List.{List, [], ◌++◌, append-nil}
use mathlib.Core.Path.{◌≡◌, ap, ◌∙◌}
use Prim.Native.Nat.{ℕ, ◌-◌}
use native.Mathlib.Omega.{arith}
use lib.ListN.{length, take, drop, length-append, length-drop, drop_of_length-le}
use lib.Seq.{take_all, take_at, drop_at, length-take-le}
use borrow.Rule.Slice.PartMut.{mid_of, post_of, put_mid}
use Rattle.processor.specs.Process.{process}
use Rattle.sources.specs.Prepared.{Prepares, Reads}
use Rattle.carrying.proofs.Texts.{accepts, sheet-long, is_read}
use Rattle.carrying.specs.Told.{Accepts, IsRead}

-- the second sheet is read
pub second-is-read : {text cells sorts : List ℕ} (s : List ℕ) → IsRead text cells sorts (drop 770 s) → IsRead text cells sorts (mid_of 770 (length s - 770) s)
second-is-read s x = rw (take_all (length s - 770) (drop 770 s) (omega (arith, length-drop 770 s))) x

-- what is asked of both, once the first is written
pub record First (text bytes s : List ℕ) : Type 0 where
  pub long : length s ≡ 1540
  pub accepted : Accepts text bytes (take 770 s)

pub first : {text bytes sheet : List ℕ} {number start len : ℕ} (s : List ℕ) → length s ≡ 1540 → Prepares text bytes sheet number start len (process text 4096) → number ≡ 0 → First text bytes (sheet ++ drop 770 s)
first {sheet = sheet} s n h z =
    let k = sheet-long h z in
    record {
      long = omega (arith, length-append sheet (drop 770 s), length-drop 770 s, n, k);
      accepted = rw (take_at sheet (drop 770 s) 770 k) (accepts h z);
    }

-- and once the second is
pub record Both (old a new cells sorts s : List ℕ) : Type 0 where
  pub long : length s ≡ 1540
  pub accepted : Accepts old a (take 770 s)
  pub read : IsRead new cells sorts (drop 770 s)

pub both : {old a new cells sorts sheet : List ℕ} {number start len : ℕ} (s : List ℕ) → length s ≡ 1540 → Accepts old a (take 770 s) → Reads new cells sorts sheet number start len → number ≡ 0
    → Both old a new cells sorts (put_mid 770 (length s - 770) s sheet)
both {sheet = sheet} s n x h z = record {
  long = omega (arith, ap length rest, length-append (take 770 s) sheet, front, (h.sourced z).long);
  accepted = rw (rest, take_at (take 770 s) sheet 770 front) x;
  read = rw (rest, drop_at (take 770 s) sheet 770 front) (is_read h z);
}
  where
    front : length (take 770 s) ≡ 770
    front = length-take-le 770 s (omega (arith, n))

    rest : put_mid 770 (length s - 770) s sheet ≡ take 770 s ++ sheet
    rest =
        let e : post_of 770 (length s - 770) s ≡ [] = drop_of_length-le (drop 770 s) {i = length s - 770} (omega (arith, length-drop 770 s)) in
        ap (λ (x : List ℕ). take 770 s ++ (sheet ++ x)) e ∙ ap (λ (x : List ℕ). take 770 s ++ x) (append-nil sheet)
