use mathlib.Core.Path.{refl}
use native.Mathlib.Omega.{arith}
use Rattle.loader.proofs.Laws.{along-end, some-marked, none-marked, some-worked, none-worked}
use Rattle.loader.proofs.Passing.{along-by, along-halt}
use Rattle.loader.proofs.mark_entries.Goals as goal

pub returns-in_err-at : goal.returns-in_err-at
returns-in_err-at c = record { marked = none-marked c.from_residual.ensures (along-halt c.loop-i.invariant.0 c.piece-k.result (omega (arith, c.piece-k.ensures.low, c.loop-i-test.true, c.loop-i.invariant.2)) (none-worked c.in_err-at.was c.mark_piece.ensures.marked) refl); passes = c.mark_piece.ensures.passes }

pub loop-i-preserved : goal.loop-i-preserved
loop-i-preserved c = (along-by c.loop-i.invariant.0 c.piece-k.result (omega (arith, c.piece-k.ensures.low, c.loop-i-test.true, c.loop-i.invariant.2)) (some-worked c.in_ok-at.was c.mark_piece.ensures.marked) refl, c.mark_piece.ensures.passes, c.loop-i.invariant.2)

pub returns : goal.returns
returns c = record { marked = some-marked (along-end c.loop-i.invariant.0 (omega (arith, c.loop-i-test.false, c.loop-i.invariant.2))); passes = c.loop-i.invariant.1 }
