-- `lister::count_rest` is safe and ends: each turn adds 65,536 at most.
use native.Mathlib.Omega.{arith}
use Rattle.lister.proofs.Steps.{counted-most}
use Rattle.lister.proofs.count_rest.Goals as goal

pub loop-read-preserved : goal.loop-read-preserved
loop-read-preserved g c = (omega arith, omega (arith, c.loop-read-test.true, counted-most c.in_ok-piece.ensures))
