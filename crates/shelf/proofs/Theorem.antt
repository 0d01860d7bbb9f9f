-- `by-rule-of-text`: over the very bytes that the processor leaves for an accepted program.
use mathlib.Core.Bool.{Bool}
use mathlib.Core.List.{List, [], ◌∷◌, ◌++◌, append-nil}
use mathlib.Core.Path.{◌≡◌, refl, sym, ap, ◌∙◌, subst}
use Prim.Native.Nat.{ℕ, zero, suc, ◌+◌, ◌*◌, ◌-◌, ◌≤◌}
use native.Mathlib.Omega.{arith}
use lib.ListN.{length, take, drop, replicate, length-drop}
use lib.Seq.{take-append-add}
use Rattle.acceptance.proofs.Accepts.{accepted-table}
use Rattle.figures.proofs.Shelves.{by-rule}
use Rattle.figures.specs.Shelf.{Shelf, RuleByRule}
use Rattle.machine.proofs.Bytes.{length-table_of, words_of-append}
use Rattle.machine.specs.Bytes.{count, words_of, table_of, bytes_of}
use Rattle.mapping.proofs.Parting.{same-program}
use Rattle.processor.specs.Process.{process, accepted, lent_words, lent_bytes}
use Rattle.program.specs.Table.{table}
use Rattle.shelf.specs.ByText.{table_left, ByText}

-- one byte is no word
odd_byte : (r : List ℕ) → length r ≤ 1 → words_of r ≡ []
unfolding words_of
odd_byte [] h = refl
odd_byte (x ∷ []) h = refl
odd_byte (x ∷ y ∷ r) h = absurd (omega arith)

-- zeros cut anywhere are zeros
take-zeros : (n z : ℕ) → (k : ℕ) × (◌≡◌ {A = List ℕ} (take n (replicate z 0)) (replicate k 0))
take-zeros zero z = (0, refl)
take-zeros (suc n) zero = (0, refl)
take-zeros (suc n) (suc z) = let ih = take-zeros n z in (suc ih.0, ap (λ (l : List ℕ). 0 ∷ l) ih.1)

-- the table of the bytes that the processor leaves: its words, then zeros
pub left_behind : (text lent words : List ℕ) (verdict : Bool) → process text (count lent) ≡ accepted words verdict → length words ≤ 4096
    → (z : ℕ) × (table_of (lent_bytes (process text (count lent)) lent) ≡ words ++ replicate z 0)
unfolding table_of lent_bytes lent_words count
left_behind text lent words verdict e h =
    let n = count lent in
    let zs : List ℕ = replicate (n - length words) 0 in
    let ws = words ++ zs in
    let b : words_of (bytes_of ws ++ drop (2 * n) lent) ≡ ws = words_of-append ws (drop (2 * n) lent) ∙ ap (λ (l : List ℕ). ws ++ l) (odd_byte (drop (2 * n) lent) (omega (arith, length-drop (2 * n) lent))) ∙ append-nil ws in
    let k : length words + (4096 - length words) ≡ 4096 = omega arith in
    let c = take-zeros (4096 - length words) (n - length words) in
    (c.0, rw e (ap (take 4096) b ∙ ap (λ (m : ℕ). take m ws) (sym k) ∙ take-append-add words zs (4096 - length words) ∙ ap (λ (l : List ℕ). words ++ l) c.1))

pub by-rule-of-text : ByText
unfolding table_left
by-rule-of-text text lent words verdict e prog m f gs s =
    let t = accepted-table text (count lent) words verdict e in
    let T = table_left text lent in
    let z = left_behind text lent words verdict e t.within_4096 in
    let p : t.prog ≡ prog = same-program (sym t.means ∙ m) in
    let q : T ≡ table prog ++ replicate z.0 0 = z.1 ∙ ap (λ (l : List ℕ). l ++ replicate z.0 0) (t.words_are ∙ ap table p) in
    let h : length (table prog ++ replicate z.0 0) ≤ 4096 = subst (λ (l : List ℕ). length l ≤ 4096) q (length-table_of (lent_bytes (process text (count lent)) lent)) in
    subst (λ (l : List ℕ). RuleByRule l prog f gs) (sym q) (by-rule prog z.0 h (subst (λ (l : List ℕ). Shelf l f gs) q s))
