-- `firmware::put_two` meets its contract: one word after the other.
use mathlib.Core.List.{[], ◌∷◌}
use mathlib.Core.Path.{refl, ◌∙◌}
use Prim.Native.Nat.{◌+◌}
use Rattle.firmware.proofs.Laws.{puts_one, puts_then}
use Rattle.firmware.proofs.put_two.Goals as goal

pub returns : goal.returns
returns c =
    let a = c.args in
    c.put_word-2.ensures ∙ puts_one _ (a.i + 1) a.b ∙ rw (c.put_word.ensures, puts_one) (puts_then a.out.now a.i (a.a ∷ []) (a.b ∷ []) (a.i + 1) refl)
