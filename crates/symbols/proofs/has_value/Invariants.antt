-- `symbols::has_value` meets its contract.
use mathlib.Core.List.{List}
use mathlib.Core.Path.{◌≡◌}
use Prim.Native.Nat.{ℕ, ◌-◌}
use Rattle.base.specs.Common.{member}
use Rattle.names.specs.Declare.{values_of}
use Rattle.declarations.specs.Decls.{knowns_in}
use Rattle.symbols.specs.Rows.{held, held_from}
use Rattle.symbols.proofs.has_value.Given as goal

abbrev pub invariant-loop-i : goal.invariant-loop-i
invariant-loop-i l = (text : List ℕ) → member l.v (values_of (knowns_in l.class (held text l.rows l.n))) ≡ member l.v (values_of (knowns_in l.class (held_from text l.rows l.i (l.n - l.i))))
