-- `Registers::forward` meets its contract.
use native.Mathlib.Omega.{arith}
use Prim.Native.Nat.{◌+◌, ◌≤◌, ◌<◌}
use borrow.Author.Tests.{le-leb, lt-leb}
use Rattle.machine.specs.Bytes.{word_at}
use Rattle.walker.specs.Shape.{size}
use Rattle.walker.specs.Shape.{forward_of}
use Rattle.walker.proofs.Laws.{inside, behind}
use Rattle.walker.proofs.Registers.forward.Goals as goal

pub returns-then-n-loc : goal.returns-then-n-loc
returns-then-n-loc c = simp (behind c.args.self.location c.if-n-loc.true c.requires.0 c.requires.2)

pub returns-then-to-n : goal.returns-then-to-n
unfolding forward_of
returns-then-to-n c =
    let a = c.args in
    let l = a.self.location in
    let h : l + 1 + word_at a.t.now l ≤ size a.t.now = omega (arith, c.word.ensures, c.requires.0) in
    simp (inside c.args.self.location c.if-n-loc.false c.requires.0 c.requires.2, le-leb _ _ h, c.moved.ensures, c.from.ensures, c.word.ensures)

pub returns-else-to-n : goal.returns-else-to-n
unfolding forward_of
returns-else-to-n c =
    let a = c.args in
    let l = a.self.location in
    let h : size a.t.now < l + 1 + word_at a.t.now l = omega (arith, c.word.ensures, c.requires.0) in
    simp (inside c.args.self.location c.if-n-loc.false c.requires.0 c.requires.2, lt-leb _ _ h)
