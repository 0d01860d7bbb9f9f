-- `choice_target` meets its contract.
use Prim.Native.Nat.{◌+◌, ◌*◌, ◌≤◌}
use native.Mathlib.Omega.{arith}
use borrow.Author.Tests.{le-leb}
use Rattle.walker.specs.Shape.{size, table_at, labels_at, inside_table}
use Rattle.walker.proofs.choice_target.Goals as goal

pub returns-in-Some : goal.returns-in-Some
unfolding inside_table
returns-in-Some c =
    let a = c.args in
    let w = c.in-Some.ensures.whole in
    let h : table_at a.t.now a.loc ≤ size a.t.now = omega (arith, w.0, w.1.1, c.requires.0) in
    let k : table_at a.t.now a.loc + 2 * labels_at a.t.now a.loc ≤ size a.t.now = omega (arith, w.0, w.1.0, w.1.1, c.requires.0) in
    simp (le-leb _ _ h, le-leb _ _ k, c.labelled.ensures, w.0, w.1.0)

pub returns-in-None : goal.returns-in-None
returns-in-None c = c.in-None.ensures.outside _
