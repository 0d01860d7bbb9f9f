-- `firmware::put_four` meets its contract: two words after the other two.
use mathlib.Core.List.{[], ◌∷◌}
use mathlib.Core.Path.{refl, ◌∙◌}
use Prim.Native.Nat.{◌+◌}
use Rattle.firmware.proofs.Laws.{puts_then}
use Rattle.firmware.proofs.put_four.Goals as goal

pub returns : goal.returns
returns c =
    let a = c.args in
    c.put_two-2.ensures ∙ rw c.put_two.ensures (puts_then a.out.now a.i (a.a ∷ a.b ∷ []) (a.d ∷ a.e ∷ []) (a.i + 2) refl)
