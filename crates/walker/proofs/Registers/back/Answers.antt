-- `Registers::back` meets its contract.
use native.Mathlib.Omega.{arith}
use Prim.Native.Nat.{◌≤◌, ◌<◌}
use borrow.Author.Tests.{le-leb, lt-leb}
use Rattle.machine.specs.Bytes.{word_at}
use Rattle.walker.specs.Shape.{back_of}
use Rattle.walker.proofs.Laws.{inside, behind}
use Rattle.walker.proofs.Registers.back.Goals as goal

pub returns-then-n-loc : goal.returns-then-n-loc
returns-then-n-loc c = simp (behind c.args.self.location c.if-n-loc.true c.requires.0 c.requires.2)

pub returns-then-d-loc : goal.returns-then-d-loc
unfolding back_of
returns-then-d-loc c =
    let a = c.args in
    let l = a.self.location in
    let h : word_at a.t.now l ≤ l = omega (arith, c.from-d.ensures, c.word.ensures) in
    simp (inside c.args.self.location c.if-n-loc.false c.requires.0 c.requires.2, le-leb _ _ h, c.moved.ensures, c.from-d.ensures, c.word.ensures)

pub returns-else-d-loc : goal.returns-else-d-loc
unfolding back_of
returns-else-d-loc c =
    let a = c.args in
    let l = a.self.location in
    let h : l < word_at a.t.now l = omega (arith, c.from-d.ensures, c.word.ensures) in
    simp (inside c.args.self.location c.if-n-loc.false c.requires.0 c.requires.2, lt-leb _ _ h)
