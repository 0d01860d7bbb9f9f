-- `Registers::call` meets its contract.
use mathlib.Core.Path.{sym, ◌∙◌}
use native.Mathlib.Omega.{arith}
use Prim.Native.Nat.{◌≤◌, ◌<◌}
use borrow.Author.Tests.{lt-ltb, le-ltb, le-leb, lt-leb, eq-eqb, ne_eqb}
use Rattle.machine.specs.Bytes.{word_at}
use Rattle.walker.specs.Shape.{size}
use Rattle.walker.specs.Shape.{call_of}
use Rattle.walker.proofs.Laws.{inside, behind}
use Rattle.walker.proofs.Registers.call.Goals.{then-to-eq0-via-then-to-eq0, then-to-eq0-via-else-to-eq0+then-n-to}
use Rattle.walker.proofs.Registers.call.Goals as goal

pub returns-then-n-loc : goal.returns-then-n-loc
returns-then-n-loc c = simp (behind c.args.self.location c.if-n-loc.true c.requires.0 c.requires.2)

pub returns-then-to-eq0 : goal.returns-then-to-eq0
unfolding call_of
returns-then-to-eq0 c =
    let a = c.args in
    elim c.then-to-eq0.branch [
      | then-to-eq0-via-then-to-eq0 w ↦ simp (inside c.args.self.location c.if-n-loc.false c.requires.0 c.requires.2, eq-eqb (word_at a.t.now a.self.location) 0 (sym c.word.ensures ∙ sym c.from-to.ensures ∙ w.if-to-eq0.true))
      | then-to-eq0-via-else-to-eq0+then-n-to w ↦
          let h : size a.t.now < word_at a.t.now a.self.location = omega (arith, c.from-to.ensures, c.word.ensures, w.if-n-to.true, c.requires.0) in
          simp (inside c.args.self.location c.if-n-loc.false c.requires.0 c.requires.2, ne_eqb (word_at a.t.now a.self.location) 0 (λ e. w.if-to-eq0.false (c.from-to.ensures ∙ c.word.ensures ∙ e)), lt-leb _ _ h)
    ]

pub returns-then-self-lt-PENDING : goal.returns-then-self-lt-PENDING
unfolding call_of
returns-then-self-lt-PENDING c =
    let a = c.args in
    let h : word_at a.t.now a.self.location ≤ size a.t.now = omega (arith, c.from-to.ensures, c.word.ensures, c.if-n-to.false, c.requires.0) in
    simp (inside c.args.self.location c.if-n-loc.false c.requires.0 c.requires.2, ne_eqb (word_at a.t.now a.self.location) 0 (λ e. c.if-to-eq0.false (c.from-to.ensures ∙ c.word.ensures ∙ e)), le-leb _ _ h, lt-ltb _ _ c.if-self-lt-PENDING.true, c.moved.ensures, c.from-to.ensures, c.word.ensures, c.requires.2)

pub returns-else-self-lt-PENDING : goal.returns-else-self-lt-PENDING
unfolding call_of
returns-else-self-lt-PENDING c =
    let a = c.args in
    let h : word_at a.t.now a.self.location ≤ size a.t.now = omega (arith, c.from-to.ensures, c.word.ensures, c.if-n-to.false, c.requires.0) in
    simp (inside c.args.self.location c.if-n-loc.false c.requires.0 c.requires.2, ne_eqb (word_at a.t.now a.self.location) 0 (λ e. c.if-to-eq0.false (c.from-to.ensures ∙ c.word.ensures ∙ e)), le-leb _ _ h, le-ltb _ _ c.if-self-lt-PENDING.false)
