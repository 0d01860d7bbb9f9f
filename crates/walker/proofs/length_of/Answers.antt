-- `length_of` meets its contract, by the law of an entry.
use mathlib.Core.Path.{sym, ap, ◌∙◌}
use mathlib.Core.List.{List}
use Prim.Native.Nat.{ℕ, ◌-◌}
use native.Mathlib.Omega.{arith}
use lib.ListN.{get_or}
use Rattle.machine.proofs.Lengths.{length-entry}
use Rattle.walker.proofs.length_of.Goals as goal

pub returns : goal.returns
returns c =
    let a = c.args in
    rw c.from.ensures (ap (λ (l : List ℕ). get_or l (a.ins - 1) 0) c.requires.0 ∙ sym (length-entry a.ins (omega arith) (omega arith)))
