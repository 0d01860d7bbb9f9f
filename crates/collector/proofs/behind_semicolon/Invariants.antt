-- `collector::behind_semicolon` meets its contract.
use mathlib.Core.Path.{◌≡◌}
use Prim.Native.Nat.{◌-◌, ◌≤◌}
use lib.ListN.{length}
use Rattle.collector.specs.Collecting.{to_semicolon}
use Rattle.words.specs.Words.{words_at}
use Rattle.collector.proofs.behind_semicolon.Given as goal

abbrev pub invariant-loop-w : goal.invariant-loop-w
invariant-loop-w l = (l.at ≤ l.i) × (l.i ≤ length l.text) × (to_semicolon (words_at l.text l.at) ≡ to_semicolon (words_at l.text l.i))

abbrev pub decreases-loop-w : goal.decreases-loop-w
decreases-loop-w l = length l.text - l.i
