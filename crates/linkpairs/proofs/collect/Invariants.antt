-- `linkpairs::collect` meets its contract: what is gathered of the objects left is gathered of all.
use mathlib.Core.List.{List}
use mathlib.Core.Path.{◌≡◌}
use Prim.Native.Nat.{ℕ, ◌+◌, ◌-◌, ◌≤◌}
use lib.ListN.{length}
use Rattle.linkpairs.proofs.Objects.{Going}
use Rattle.linkpairs.specs.Standing.{Sections}
use Rattle.machine.specs.Bytes.{words_of}
use Rattle.names.specs.Known.{Names}
use Rattle.parts.specs.Form.{AreObjects}
use Rattle.syntax.specs.Texts.{Common}
use Rattle.syntax.specs.Written.{Program}
use Rattle.linkpairs.proofs.collect.Given as goal

abbrev pub invariant-loop-at : goal.invariant-loop-at
invariant-loop-at l = (l.at ≤ length (words_of l.objects)) × (l.i ≤ l.at + 1) × (length l.sites ≡ 128) × (length l.lowest ≡ 128) × (l.s.count ≤ l.s.own) × (l.s.own ≤ 128)
    × ((p : Program) (names : Names) → Sections l.text l.rows l.scope.n p names → (common : List ℕ) (k : Common) (h : AreObjects common k names (words_of l.objects))
    → Going names l.scope.others l.scope.own (words_of l.objects) common h.objects l.sites l.lowest l.at l.i l.s.count l.s.own)

abbrev pub decreases-loop-at : goal.decreases-loop-at
decreases-loop-at l = length (words_of l.objects) - l.at
