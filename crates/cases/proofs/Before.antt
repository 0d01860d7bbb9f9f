-- Every text that was accepted while a percent sign cut a string is accepted with the same table and verdict.
use mathlib.Core.Bool.{Bool, true, false}
use mathlib.Core.List.{List}
use mathlib.Core.Path.{◌≡◌, refl, ap, ◌∙◌}
use Prim.Native.Nat.{ℕ, ◌+◌}
use native.Mathlib.Omega.{arith}
use lib.Dec.{ltb}
use lib.ListN.{length}
use Rattle.std.specs.Prelude.{if◌then◌else◌}
use Rattle.cases.specs.Before.{parse_before, process_before}
use Rattle.grammar.proofs.Spelt.{read-spelt}
use Rattle.processor.specs.Process.{accepted, read_in, understood, answer_for, process}
use Rattle.syntax.specs.Parse.{program, end_of, parse}
use Rattle.syntax.specs.Reading.{Read, got, fault}
use Rattle.syntax.specs.Written.{Program}
use Rattle.words.proofs.Before.{same_words}
use Rattle.words.specs.Before.{words_before}
use Rattle.words.specs.Words.{Word, words}

-- a text that was read through is read through alike
same_read : (text : List ℕ) (p : Program) (rest : List Word) → parse_before text ≡ got p rest → parse text ≡ got p rest
unfolding parse_before parse
same_read text p rest e = go (ltb 32768 (length text)) e
  where
    go : (t : Bool) → (if t then fault 9 (end_of text) else program (length text + 1) (words_before text)) ≡ got p rest
        → (if t then fault 9 (end_of text) else program (length text + 1) (words text)) ≡ got p rest
    go true e₁ = e₁
    go false e₁ = ap (program (length text + 1)) (same_words text (read-spelt (length text + 1) (words_before text) p rest e₁)) ∙ e₁

-- what is not read through is not accepted
no-fault : (text : List ℕ) (room n : ℕ) (w : Word) (ws : List ℕ) (verdict : Bool) → answer_for text room (read_in (fault n w)) ≡ accepted ws verdict → ⊥
unfolding answer_for read_in
no-fault text room n w ws verdict q = let z : ◌≡◌ {A = ℕ} 0 1 = cc in omega arith

pub accepted-before : (text : List ℕ) (room : ℕ) (ws : List ℕ) (verdict : Bool) → process_before text room ≡ accepted ws verdict → process text room ≡ accepted ws verdict
unfolding process_before process understood
accepted-before text room ws verdict e = go (parse_before text) refl e
  where
    go : (r : Read Program) → parse_before text ≡ r → answer_for text room (read_in r) ≡ accepted ws verdict → process text room ≡ accepted ws verdict
    go (got p rest) d q = ap (λ r. answer_for text room (read_in r)) (same_read text p rest d) ∙ q
    go (fault n w) d q = absurd (no-fault text room n w ws verdict q)
