-- Number 0 of `sst_process` means that the text is accepted, and `*words` and `*finishing` are the table's length and the verdict.
use mathlib.Core.Bool.{Bool}
use mathlib.Core.List.{List}
use mathlib.Core.Path.{◌≡◌, refl, sym, ap, ◌∙◌}
use Prim.Native.Nat.{ℕ}
use lib.ListN.{length}
use Rattle.acceptance.proofs.Numbers.{never-0}
use Rattle.figure.specs.Told.{Told}
use Rattle.firmware.specs.Processing.{Numbers, flag_of, numbers_of}
use Rattle.processor.specs.Process.{Answer, accepted, refused, process}

pub accepts-0 : (text : List ℕ) (room : ℕ) (f : Told) (x : Numbers) → x ≡ numbers_of (process text room) f → x.number ≡ 0
    → (words : List ℕ) × (verdict : Bool) × (process text room ≡ accepted words verdict) × (x.words ≡ length words) × (x.finishing ≡ flag_of verdict)
unfolding numbers_of
accepts-0 text room f x e z = go (process text room) refl e
  where
    go : (a : Answer) → process text room ≡ a → x ≡ numbers_of a f
        → (words : List ℕ) × (verdict : Bool) × (process text room ≡ accepted words verdict) × (x.words ≡ length words) × (x.finishing ≡ flag_of verdict)
    go (accepted words verdict) d q = (words, verdict, d, ap (λ (y : Numbers). y.words) q, ap (λ (y : Numbers). y.finishing) q)
    go (refused n at) d q = absurd (never-0 text room n at d (sym (ap (λ (y : Numbers). y.number) q) ∙ z))
