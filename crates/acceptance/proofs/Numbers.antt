-- The number of a refusal is 1 to 9, 45 or 20, and so never 0: it is the number of what is shown.
use mathlib.Core.List.{List}
use mathlib.Core.Logic.{inl, inr}
use mathlib.Core.Path.{◌≡◌, refl}
use Prim.Native.Nat.{ℕ}
use native.Mathlib.Omega.{arith}
use Rattle.acceptance.proofs.Refusals.{refusal-shown}
use Rattle.acceptance.specs.Answers.{RefusalNumber}
use Rattle.acceptance.specs.Shown.{ShownBy, a_byte, too_early, a_word, ShownAt, at_word, over_long, too_short}
use Rattle.processor.specs.Process.{Part, refused, process}
use Rattle.words.specs.Words.{Word}

by_word : {text : List ℕ} {n : ℕ} {w : Word} → ShownBy text n w → RefusalNumber n
by_word (a_byte o k one) = inl (inl (omega arith, omega arith))
by_word (too_early o e) = inl (inl (omega arith, omega arith))
by_word (a_word (inl h) s) = inl (inl (omega (arith, h.0), h.1))
by_word (a_word (inr h) s) = inl (inr h)

by_part : {text : List ℕ} {n : ℕ} {at : Part} → ShownAt text n at → RefusalNumber n
by_part (at_word b) = by_word b
by_part (over_long h) = inl (inl (omega arith, omega arith))
by_part too_short = inr refl

-- a refusal's number is one of 1 to 9, or 45, or 20
pub refusal-number : (text : List ℕ) (room n : ℕ) (at : Part) → process text room ≡ refused n at → RefusalNumber n
refusal-number text room n at e = by_part (refusal-shown text room n at e)

-- so it is never 0, the number of a text that is accepted
pub never-0 : (text : List ℕ) (room n : ℕ) (at : Part) → process text room ≡ refused n at → n ≡ 0 → ⊥
never-0 text room n at e z = go (refusal-number text room n at e)
  where
    go : RefusalNumber n → ⊥
    go (inl (inl h)) = omega (arith, h.0)
    go (inl (inr h)) = omega arith
    go (inr h) = omega arith
