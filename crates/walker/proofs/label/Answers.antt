-- `label` meets its contract.
use Prim.Native.Nat.{◌+◌, ◌≤◌, ◌<◌}
use native.Mathlib.Omega.{arith}
use borrow.Author.Tests.{lt-ltb, le-ltb}
use Rattle.machine.specs.Bytes.{word_at}
use Rattle.walker.specs.Shape.{label_of}
use Rattle.walker.proofs.label.Goals as goal

pub returns-then-d-from : goal.returns-then-d-from
unfolding label_of
returns-then-d-from c =
    let a = c.args in
    let h : word_at a.t.now (a.at + 1) < a.at + 2 = omega (arith, c.from-d.ensures, c.word.ensures) in
    simp (lt-ltb _ _ h, c.from-d.ensures, c.word.ensures)

pub returns-else-d-from : goal.returns-else-d-from
unfolding label_of
returns-else-d-from c =
    let a = c.args in
    let h : a.at + 2 ≤ word_at a.t.now (a.at + 1) = omega (arith, c.from-d.ensures, c.word.ensures) in
    simp (le-ltb _ _ h)
