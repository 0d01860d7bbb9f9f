-- `declarer::check_lines` meets its contract.
use mathlib.Core.Path.{◌≡◌}
use Rattle.symbols.specs.Rows.{held}
use Rattle.declarer.proofs.FaultLaws.{lines_from}
use Rattle.declarer.proofs.check_lines.Given as goal

abbrev pub invariant-loop-i : goal.invariant-loop-i
invariant-loop-i l = (lines_from l.text l.rows (held l.text l.rows l.n) l.to l.first ≡ lines_from l.text l.rows (held l.text l.rows l.n) l.to l.i)
