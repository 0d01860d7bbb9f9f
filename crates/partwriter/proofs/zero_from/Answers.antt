-- `partwriter::zero_from` meets its contract.
use native.Mathlib.Omega.{arith}
use Rattle.machine.specs.Bytes.{count}
use Rattle.partwriter.proofs.Putting.{zeros-left}
use Rattle.partwriter.proofs.zero_from.Goals as goal

pub slice_bounds-fill-end : goal.slice_bounds-fill-end
unfolding count
slice_bounds-fill-end c = omega (arith, c.room-end.ensures)

pub returns : goal.returns
returns c = zeros-left c.args.object.now c.args.c _ _ c.requires c.room-end.ensures.0 (c.fill.ensures.after (λ _ e. e))
