-- `objects::labels` meets its contract.
use native.Mathlib.Omega.{arith}
use mathlib.Core.Path.{refl}
use Rattle.objects.proofs.Told.{labels-over, labels-off, labels-some}
use Rattle.objects.proofs.labels.Goals.{then-n-room-via-then-n-room, then-n-room-via-else-n-room+then-n-spot}
use Rattle.objects.proofs.labels.Goals as goal

pub returns-then-n-room : goal.returns-then-n-room
returns-then-n-room c =
    λ words.
    elim c.then-n-room.branch [
      | then-n-room-via-then-n-room w ↦ labels-over words (omega arith) refl
      | then-n-room-via-else-n-room+then-n-spot w ↦ labels-off words (omega arith) refl
    ]

pub returns : goal.returns
returns c = λ words. labels-some words (omega arith) (omega arith) (rw c.ahead.ensures.0 at c.passed.ensures)
