-- `declarer::repeats` meets its contract.
use mathlib.Core.Bool.{false≢true}
use mathlib.Core.Path.{refl, sym, ◌∙◌}
use Rattle.declarations.specs.Decls.{repeats_in}
use Rattle.declarer.proofs.FaultLaws.{value_at}
use Rattle.declarer.proofs.repeats.Goals.{then-name_known, else-name_known}
use Rattle.declarer.proofs.repeats.Goals as goal

pub returns-then-string_known : goal.returns-then-string_known
unfolding repeats_in
returns-then-string_known c = elim c.if-name_known.branch [
  | then-name_known w ↦ rw (w.value-is, ← c.name_known.ensures, w.if-name_known.true) refl
  | else-name_known w ↦ rw (c.if-string_known.true, ← c.name_known.ensures, w.if-name_known.false, ← w.string_known.ensures, ← w.value-is, c.if-string_known.true) refl
]

pub returns-else-string_known : goal.returns-else-string_known
unfolding repeats_in
returns-else-string_known c = elim c.if-name_known.branch [
  | then-name_known w ↦ absurd (false≢true (sym c.if-string_known.false ∙ w.value-is ∙ w.if-name_known.true))
  | else-name_known w ↦ rw (← c.name_known.ensures, w.if-name_known.false, ← w.string_known.ensures, (sym w.value-is ∙ c.if-string_known.false), value_at, ← c.number.ensures.0) (c.has_value.ensures c.args.text.now)
]
