-- `carrier::same_names` meets its contract.
use mathlib.Core.Path.{refl, ◌∙◌}
use borrow.Author.Tests.{eq-eqb}
use Rattle.carrier.proofs.Laws.{names_apart, names-unlike, names-like, names-written, names-both, slices-same}
use Rattle.carrier.proofs.same_names.Goals as goal
use Rattle.carrier.proofs.same_names.Goals.{then-level-via-then-level, then-level-via-else-level+then-ne}

pub returns-then-level : goal.returns-then-level
returns-then-level c =
    elim c.then-level.branch [
      | then-level-via-then-level w ↦ names_apart c.args.old.text.now c.args.old.sheet.now c.args.i c.args.new.text.now c.args.new.sheet.now c.args.j _ _ c.level-level.ensures c.level.ensures w.if-level.true
      | then-level-via-else-level+then-ne w ↦
          names-unlike c.args.old.text.now c.args.old.sheet.now c.args.i c.args.new.text.now c.args.new.sheet.now c.args.j _ _ c.level-level.ensures c.level.ensures w.if-level.false w.ne.ensures w.if-ne.true w.name.ensures w.name-else-level.ensures
    ]

pub returns-then-level-eq0 : goal.returns-then-level-eq0
returns-then-level-eq0 c =
    eq-eqb _ 0 c.if-level-eq0.true
    ∙ names-written c.args.old.text.now c.args.old.sheet.now c.args.i c.args.new.text.now c.args.new.sheet.now c.args.j _ _ _ c.level-level.ensures c.level.ensures c.if-level.false c.if-level-eq0.true (names-like c.ne.ensures c.if-ne.false c.name.ensures c.name-else-level.ensures)

pub returns-else-level-eq0 : goal.returns-else-level-eq0
returns-else-level-eq0 c =
    names-both c.args.old.text.now c.args.old.sheet.now c.args.i c.args.new.text.now c.args.new.sheet.now c.args.j _ _ _ _ c.level-level.ensures c.level.ensures c.if-level.false c.if-level-eq0.false (names-like c.ne.ensures c.if-ne.false c.name.ensures c.name-else-level.ensures) refl (slices-same c.eq.ensures c.operand.ensures c.operand-else-level-eq0.ensures)
