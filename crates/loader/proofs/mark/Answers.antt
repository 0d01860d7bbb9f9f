use mathlib.Core.Path.{refl}
use native.Mathlib.Omega.{arith}
use Rattle.loader.proofs.Laws.{room, mark-zero, mark-past, mark-old, mark-new, some-marked, none-marked}
use Rattle.loader.proofs.mark.Goals as goal
use Rattle.loader.proofs.mark.Goals.{then-m-eq0-via-then-m-eq0, then-m-eq0-via-else-m-eq0+then-size-m}

pub returns-then-m-eq0 : goal.returns-then-m-eq0
returns-then-m-eq0 c = elim c.then-m-eq0.branch [
  | then-m-eq0-via-then-m-eq0 w ↦ none-marked refl (mark-zero c.requires _ w.if-m-eq0.true)
  | then-m-eq0-via-else-m-eq0+then-size-m w ↦ none-marked refl (mark-past c.requires _ w.if-size-m.true)
]

pub returns-then-seen-m-ne0 : goal.returns-then-seen-m-ne0
returns-then-seen-m-ne0 c = some-marked (mark-old c.requires _ c.if-m-eq0.false c.if-size-m.false c.if-seen-m-ne0.true)

pub bounds-order-tail : goal.bounds-order-tail
bounds-order-tail c = omega (arith, room c.requires _ c.if-m-eq0.false c.if-size-m.false c.if-seen-m-ne0.false, c.requires.row)

pub returns : goal.returns
returns c = some-marked (mark-new c.requires _ c.if-m-eq0.false c.if-size-m.false c.if-seen-m-ne0.false)
