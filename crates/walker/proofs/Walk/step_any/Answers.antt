-- `Walk::step_any` meets its contract.
use native.Mathlib.Omega.{arith}
use Prim.Native.Nat.{◌≤◌, ◌<◌}
use borrow.Author.Tests.{lt-ltb, le-ltb}
use Rattle.machine.specs.Bytes.{count}
use Rattle.walker.specs.Shape.{any_of}
use Rattle.walker.specs.Steps.{took_of}
use Rattle.walker.proofs.Walk.step_any.Goals as goal

pub returns-then-n-loc : goal.returns-then-n-loc
returns-then-n-loc c = absurd (omega (arith, c.if-n-loc.true, c.requires.1, c.requires.2))

pub read_token-requires : goal.read_token-requires
unfolding count
read_token-requires c = simp (c.with_registers.ensures, c.moved.ensures) (omega (arith, c.well_formed, c.count_words.ensures, c.if-k-count_words.true))

pub returns-then-k-count_words : goal.returns-then-k-count_words
unfolding any_of took_of
returns-then-k-count_words c =
    let a = c.args in
    let h : a.self.at.read < count a.tokens.now = omega (arith, c.count_words.ensures, c.if-k-count_words.true) in
    simp (lt-ltb _ _ h, c.says.ensures, c.read_token.ensures, c.with_registers.ensures, c.moved.ensures, c.requires.2)

pub returns-else-k-count_words : goal.returns-else-k-count_words
unfolding any_of
returns-else-k-count_words c =
    let a = c.args in
    let h : count a.tokens.now ≤ a.self.at.read = omega (arith, c.count_words.ensures, c.if-k-count_words.false) in
    simp (le-ltb _ _ h) c.took-else-k-count_words.ensures
