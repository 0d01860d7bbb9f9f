-- `filter::first_crossed` meets its contract.
use mathlib.Core.Path.{◌≡◌}
use lib.ListN.{drop}
use Rattle.filtering.specs.Filter.{entries, crossed}
use Rattle.filter.proofs.first_crossed.Given as goal

abbrev pub invariant-loop-i : goal.invariant-loop-i
invariant-loop-i l = crossed l.i (drop l.i (entries l.s)) ≡ crossed 0 (entries l.s)
