-- `partwriter::put_name` meets its contract.
use mathlib.Core.Path.{◌≡◌, sym}
use Prim.Native.Nat.{◌+◌, ◌-◌}
use native.Mathlib.Omega.{arith}
use Rattle.partwriter.proofs.Putting.{puts_then, puts-same, puts_first, name-words}
use Rattle.partwriter.proofs.put_name.Goals as goal

pub returns : goal.returns
returns c =
    let a = c.args in
    let z : a.name.start + a.name.len - a.name.start ≡ a.name.len = omega arith in
    puts-same (sym (name-words a.text.now a.name.start a.name.len a.moved c.requires.0)) (puts_then (puts_first c.saturating_sub-place.ensures c.put_two-n.ensures) (rw z at c.put_bytes.ensures))
