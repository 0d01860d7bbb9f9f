use Rattle.meter.specs.Store.{numbers_of}
use Rattle.meter.proofs.Figures.{GreatestUpto}
use Rattle.meter.proofs.greatest.Given as goal

abbrev pub invariant-loop-i : goal.invariant-loop-i
invariant-loop-i l = GreatestUpto (numbers_of l.rows) l.from l.i l.most
