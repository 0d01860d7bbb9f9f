-- `symbols::build` meets its contract.
use Prim.Native.Nat.{◌*◌, ◌≤◌}
use Rattle.symbols.specs.Index.{RowsKept}
use Rattle.symbols.proofs.Indexing.{IndexedFrom}
use Rattle.symbols.proofs.build.Given as goal

abbrev pub invariant-loop-i : goal.invariant-loop-i
invariant-loop-i l = (l.i ≤ l.n) × RowsKept l.initial.rows l.rows × IndexedFrom l.key l.text l.rows (2 * l.i) l.n
