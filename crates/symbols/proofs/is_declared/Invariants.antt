-- `symbols::is_declared` meets its contract.
use mathlib.Core.Path.{◌≡◌}
use Prim.Native.Nat.{◌-◌}
use Rattle.declarations.specs.Decls.{declared_in}
use Rattle.symbols.specs.Rows.{held, held_from}
use Rattle.symbols.proofs.is_declared.Given as goal

abbrev pub invariant-loop-i : goal.invariant-loop-i
invariant-loop-i l = declared_in l.word (held l.text l.rows l.n) ≡ declared_in l.word (held_from l.text l.rows l.i (l.n - l.i))
