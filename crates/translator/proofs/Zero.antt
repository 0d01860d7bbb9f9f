-- Number 0 in the code's answer means that the text is accepted, and the answer has the table's words and the verdict.
use mathlib.Core.List.{List}
use mathlib.Core.Path.{◌≡◌, refl, sym, ap, ◌∙◌}
use Prim.Native.Nat.{ℕ}
use lib.ListN.{length}
use Rattle.acceptance.proofs.Numbers.{never-0}
use Rattle.figure.specs.Told.{Told}
use Rattle.processor.specs.Process as means
use Rattle.processor.specs.Process.{accepted, refused, process}
use Rattle.translator.specs.Answered.{answered}
use Rattle.translator.specs.declared.Answer.{Answer}

pub accepts-0 : (text : List ℕ) (room : ℕ) (f : Told) (r : Answer) → r ≡ answered (process text room) f → r.number ≡ 0
    → (words : List ℕ) × (process text room ≡ accepted words r.finishing) × (r.words ≡ length words)
unfolding answered
accepts-0 text room f r e z = go (process text room) refl e
  where
    go : (a : means.Answer) → process text room ≡ a → r ≡ answered a f
        → (words : List ℕ) × (process text room ≡ accepted words r.finishing) × (r.words ≡ length words)
    go (accepted words verdict) d q = (words, rw q d, ap (λ (x : Answer). x.words) q)
    go (refused n at) d q = absurd (never-0 text room n at d (sym (ap (λ (x : Answer). x.number) q) ∙ z))
