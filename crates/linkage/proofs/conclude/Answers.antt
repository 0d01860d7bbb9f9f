use borrow.Author.Rules.{rules}
use borrow.Author.Tests.{not-true, not-false}
use lib.Seq.{length-take-le}
use mathlib.Core.Path.{sym}
use native.Mathlib.Omega.{arith}
use Rattle.linkage.proofs.Concluding.{no-figure, the-figure, stood, tabled-as}
use Rattle.linkage.proofs.conclude.Goals as goal

-- src/lib.rt:36:9
pub returns-then-not-a : goal.returns-then-not-a
returns-then-not-a c = λ text prog e h. no-figure _ prog (not-true _ c.if-not-a.true) (c.finish-a.ensures text prog e h)

-- src/lib.rt:40:15
pub overflow_mul-end : goal.overflow_mul-end
overflow_mul-end c = omega (arith, (stood _ _ c.finish-a.ensures c.requires.1 (not-false _ c.if-not-a.false) c.locate.ensures (search rules)).short)

-- src/lib.rt:41:35
pub slice_bounds-figure_of-end : goal.slice_bounds-figure_of-end
slice_bounds-figure_of-end c = (stood _ _ c.finish-a.ensures c.requires.1 (not-false _ c.if-not-a.false) c.locate.ensures (search rules)).inside

-- src/lib.rt:41:35
pub slice_bounds-figure_of-end-2 : goal.slice_bounds-figure_of-end-2
slice_bounds-figure_of-end-2 c = sym (length-take-le _ _ (stood _ _ c.finish-a.ensures c.requires.1 (not-false _ c.if-not-a.false) c.locate.ensures (search rules)).inside)

-- src/lib.rt:41:50
pub slice_bounds-places-end : goal.slice_bounds-places-end
slice_bounds-places-end c = (stood _ _ c.finish-a.ensures c.requires.1 (not-false _ c.if-not-a.false) c.locate.ensures (search rules)).room

-- src/lib.rt:41:50
pub slice_bounds-figure_of-end-3 : goal.slice_bounds-figure_of-end-3
slice_bounds-figure_of-end-3 c = sym (length-take-le _ _ (stood _ _ c.finish-a.ensures c.requires.1 (not-false _ c.if-not-a.false) c.locate.ensures (search rules)).room)

-- src/lib.rt:41:9
pub figure_of-f-requires : goal.figure_of-f-requires
figure_of-f-requires c = record { prog = c.requires.1.prog; tabled = (stood _ _ c.finish-a.ensures c.requires.1 (not-false _ c.if-not-a.false) c.locate.ensures (search rules)).tabled }

-- src/lib.rt:11:1
pub returns : goal.returns
returns c = λ text prog e h. let v = not-false _ c.if-not-a.false in the-figure _ prog _ v (c.finish-a.ensures text prog e h) (c.figure_of-f.ensures prog (tabled-as _ _ c.finish-a.ensures v c.locate.ensures (search rules) prog h)) c.with_figure.ensures
