-- `symbols::best_key` meets its contract.
use Prim.Native.Nat.{◌<◌}
use Rattle.symbols.specs.Index.{RowsKept}
use Rattle.symbols.proofs.best_key.Given as goal

abbrev pub invariant-loop-key : goal.invariant-loop-key
invariant-loop-key l = (l.best < 65536) × RowsKept l.initial.rows l.rows
