-- `verdict::grown` meets its contract: one value more each time.
use mathlib.Core.Path.{◌≡◌, refl, sym, ap, ◌∙◌}
use native.Mathlib.Omega.{arith}
use lib.ListN.{length, get_or}
use Rattle.verdict.proofs.Growth.{notes-start, notes-off, notes-on}
use Rattle.verdict.proofs.grown.Goals as goal
use Rattle.verdict.proofs.grown.Goals.{then-has, else-has}

pub loop-j-init : goal.loop-j-init
loop-j-init c = (omega arith, refl, notes-start c.args.facts.now c.args.m c.args.r c.args.wanted.now c.args.given c.requires.0)

pub has-requires : goal.has-requires
has-requires c = tt

pub bounds-wanted-j : goal.bounds-wanted-j
bounds-wanted-j c = omega arith

pub noted-k-requires : goal.noted-k-requires
noted-k-requires c = c.loop-j.invariant.2.grows.room

pub overflow_add-j : goal.overflow_add-j
overflow_add-j c = omega arith

pub loop-j-smaller : goal.loop-j-smaller
loop-j-smaller c = omega arith

pub loop-j-preserved : goal.loop-j-preserved
loop-j-preserved c =
    let a = c.args in
    let e = c.has.ensures in
    elim c.if-has.branch [
      | then-has w ↦ (omega arith, omega (arith, ap length w.facts-is, w.noted-k.auto.facts), rw (w.facts-is, w.k-is) (notes-on a.facts.now a.m a.r a.wanted.now c.loop-j.j a.given c.loop-j.facts c.loop-j.k w.noted-k.new.facts w.noted-k.result (get_or a.wanted.now c.loop-j.j 0) refl (sym e ∙ w.if-has.true) c.loop-j.invariant.2 w.noted-k.ensures))
      | else-has w ↦ (omega arith, omega (arith, ap length w.facts-is), rw (w.facts-is, w.k-is) (notes-off a.facts.now a.m a.r a.wanted.now c.loop-j.j a.given c.loop-j.facts c.loop-j.k (sym e ∙ w.if-has.false) c.loop-j.invariant.2))
    ]

pub shape_of-facts : goal.shape_of-facts
shape_of-facts c = omega arith

pub returns : goal.returns
returns c =
    let e : c.loop-j.j ≡ c.args.n = omega arith in
    rw e at c.loop-j.invariant.2
