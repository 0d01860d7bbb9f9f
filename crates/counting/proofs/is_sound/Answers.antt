-- `counting::is_sound` meets its contract.
use mathlib.Core.List.{List}
use mathlib.Core.Logic.{⊎_elim}
use mathlib.Core.Path.{sym, ap, ◌∙◌}
use Prim.Native.Nat.{ℕ}
use lib.Dec.{eqb}
use lib.ListN.{length}
use borrow.Author.Tests.{eqb-true}
use Rattle.base.specs.Common.{same}
use Rattle.counting.proofs.Form.{total-of-none, bits-differ, fits-together}
use Rattle.figures.proofs.Form.{length-numbers_at}
use Rattle.figures.specs.Figures.{sum, bits_of}
use Rattle.figures.specs.Form.{figures_named, numbers_at}
use Rattle.machine.specs.Bytes.{words_of}
use Rattle.counting.proofs.is_sound.Goals.{then-books-ne0, else-books-ne0, then-total-eq0, else-total-eq0}
use Rattle.counting.proofs.is_sound.Goals as goal

pub covers-requires : goal.covers-requires
covers-requires c = (c.requires.0, ap (λ (l : List ℕ). length l) c.requires.1 ∙ length-numbers_at (words_of c.args.s.now) 0 4096)

pub returns-then-covers : goal.returns-then-covers
unfolding figures_named
returns-then-covers c =
    let ws = words_of c.args.s.now in
    let e = c.number_at-total.ensures in
    elim c.if-total-eq0.branch [
      | then-total-eq0 w ↦ c.adds_up.ensures ∙ (λ i. eqb (e i) (sum (c.requires.1 i)))
          ∙ fits-together (figures_named ws) (length-numbers_at ws 0 4096)
          (ap (λ (l : List ℕ). same (numbers_at ws 4096 64) (bits_of 64 l)) (sym c.requires.1) ∙ sym w.covers.ensures ∙ sym w.value-is ∙ c.if-covers.true)
          (λ b. ⊎_elim (λ n. absurd (n (c.number_at-books.ensures ∙ b))) (λ z. sym e ∙ z.1) w.if-total-eq0.either)
      | else-total-eq0 w ↦
          let f = w.if-total-eq0.false in
          elim c.if-books-ne0.branch [
            | then-books-ne0 v ↦ absurd (v.if-books-ne0.true f.0)
            | else-books-ne0 v ↦ absurd (f.1 (eqb-true _ 0 (sym v.t-7-is ∙ sym w.value-is ∙ c.if-covers.true)))
          ]
    ]

pub returns-else-covers : goal.returns-else-covers
unfolding figures_named
returns-else-covers c =
    let ws = words_of c.args.s.now in
    elim c.if-total-eq0.branch [
      | then-total-eq0 w ↦ c.if-covers.false
          ∙ bits-differ (figures_named ws) (length-numbers_at ws 0 4096) (ap (λ (l : List ℕ). same (numbers_at ws 4096 64) (bits_of 64 l)) (sym c.requires.1) ∙ sym w.covers.ensures ∙ sym w.value-is ∙ c.if-covers.false)
      | else-total-eq0 w ↦ c.if-covers.false
          ∙ total-of-none (figures_named ws) (length-numbers_at ws 0 4096) (sym c.number_at-books.ensures ∙ w.if-total-eq0.false.0) (λ z. w.if-total-eq0.false.1 (c.number_at-total.ensures ∙ z))
    ]
