-- `declarer::check_declarations` meets its contract.
use mathlib.Core.List.{List, []}
use mathlib.Core.Path.{◌≡◌}
use Prim.Native.Nat.{ℕ, ◌-◌}
use Rattle.declarations.specs.Decls.{decl_faults, EntriesAt}
use Rattle.symbols.specs.Rows.{held, held_from}
use Rattle.syntax.specs.Written.{Operator}
use Rattle.declarer.proofs.check_declarations.Given as goal

abbrev pub invariant-loop-i : goal.invariant-loop-i
invariant-loop-i l =
    ((entries : ℕ → List Operator) → EntriesAt l.text (held l.text l.rows l.n) entries
    → decl_faults (held l.text l.rows l.n) entries [] (held l.text l.rows l.n) ≡ decl_faults (held l.text l.rows l.n) entries (held l.text l.rows l.i) (held_from l.text l.rows l.i (l.n - l.i)))
