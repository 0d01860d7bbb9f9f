-- `by_rows`: the totals by the rows of the rules are the rules' own, and make the grand total.
use mathlib.Core.List.{List, ◌∷◌}
use mathlib.Core.Path.{◌≡◌, refl, sym, ap, ◌∙◌}
use Prim.Native.Nat.{ℕ, ◌+◌, ◌-◌, ◌≤◌}
use native.Mathlib.Omega.{arith}
use lib.ListN.{length, drop}
use lib.Seq.{drop-drop}
use Rattle.acceptance.proofs.Accepts.{accepted-table}
use Rattle.figures.specs.ByRule.{rule_totals}
use Rattle.figures.specs.Figures.{sum}
use Rattle.machine.specs.Bytes.{count}
use Rattle.mapping.proofs.Parting.{parts-table}
use Rattle.mapping.specs.Mapping.{Row, rule_rows}
use Rattle.mapping.specs.Parts.{Parts, none_left, one_more}
use Rattle.processor.specs.Process.{understood, meaning}
use Rattle.program.specs.Program.{Rule}
use Rattle.program.specs.Table.{size_rule, table}
use Rattle.shelf.proofs.Theorem.{by-rule-of-text}
use Rattle.shelf.specs.ByRows.{next_in, row_totals, ByRows}

next-is : {l e : ℕ} {rs : List Row} {bs : List Rule} → Parts l rs bs e → next_in rs e ≡ l
unfolding next_in
next-is (none_left q) = sym q
next-is (one_more q p) = q

-- the counts from location l on
totals : {l e : ℕ} {rs : List Row} {bs : List Rule} (counts : List ℕ) → 1 ≤ l → Parts l rs bs e → row_totals rs e counts ≡ rule_totals bs (drop (l - 1) counts)
unfolding row_totals rule_totals
totals counts h (none_left q) = refl
totals {l} counts h (one_more {e = e} {r = r} {rs = rs} {b = b} {bs = bs} q p) =
    let n : next_in rs e - r.location ≡ size_rule b = omega (arith, next-is p, q) in
    let s : r.location - 1 ≡ l - 1 = omega (arith, q) in
    let d : drop (l + size_rule b - 1) counts ≡ drop (size_rule b) (drop (l - 1) counts) = further in
    both (rw (n, s) refl) (totals counts (omega arith) p ∙ ap (rule_totals bs) d)
  where
    both : {x y : ℕ} {xs ys : List ℕ} → x ≡ y → xs ≡ ys → x ∷ xs ≡ y ∷ ys
    both a c = cc

    further : drop (l + size_rule b - 1) counts ≡ drop (size_rule b) (drop (l - 1) counts)
    further = let a : l + size_rule b - 1 ≡ l - 1 + size_rule b = omega arith in ap (λ (k : ℕ). drop k counts) a ∙ sym (drop-drop (size_rule b) (l - 1) counts)

pub whole : (text words : List ℕ) (prog : List Rule) → understood text ≡ meaning prog → words ≡ table prog → Parts 1 (rule_rows text) prog (1 + length words)
whole text words prog m e = rw e (parts-table text prog m)

pub by_rows : ByRows
by_rows text lent words verdict e f gs s =
    let t = accepted-table text (count lent) words verdict e in
    let q = totals f.counts (omega arith) (whole text words t.prog t.means t.words_are) in
    let g = by-rule-of-text text lent words verdict e t.prog t.means f gs s in
    record { prog = t.prog; means = t.means; each = q; together = ap sum q ∙ g.grand_total }
