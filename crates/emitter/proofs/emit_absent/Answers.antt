use mathlib.Core.Path.{refl, sym, ◌∙◌}
use native.Mathlib.Omega.{arith}
use Rattle.emitter.proofs.Laws.{puts-word}
use Rattle.emitter.proofs.Choices.{token-done, end-done}
use Rattle.emitter.proofs.emit_absent.Goals as goal

pub returns-then-cell-eq-NO_TOKEN : goal.returns-then-cell-eq-NO_TOKEN
returns-then-cell-eq-NO_TOKEN c = let P = c.requires.0 in let a = c.args in let l = c.min-next.ensures in record { absent_done = λ f. token-done a.cells.now a.spot.p a.out.now _ _ a.spot.at a.first.label a.first.from c.min-next.result (sym c.cell.ensures ∙ c.if-cell-eq-NO_TOKEN.true) l c.put_words.ensures c.put_span.ensures; moved = (record { on = omega arith; inside = omega arith; few = omega arith }, refl) }

pub returns-else-cell-eq-NO_TOKEN : goal.returns-else-cell-eq-NO_TOKEN
returns-else-cell-eq-NO_TOKEN c = let P = c.requires.0 in let a = c.args in let l = c.min-next.ensures in record { absent_done = λ f. end-done a.cells.now a.spot.p a.out.now _ a.spot.at a.first.label a.first.from c.min-next.result f (λ z. c.if-cell-eq-NO_TOKEN.false (c.cell.ensures ∙ z)) l (c.put_word.ensures ∙ puts-word _ _ _); moved = (record { on = omega arith; inside = omega arith; few = omega arith }, refl) }
