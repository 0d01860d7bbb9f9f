use Rattle.reader.proofs.Laws.{not_none}
use borrow.Author.Rules.{rules}
use borrow.Author.Tests.{not-true, not-false}
use Rattle.translator.proofs.Steps.{refused-read}
use Rattle.translator.proofs.Passes.{no-figure, the-figure}
use Rattle.frontend.proofs.Meant.{text-read}
use native.Mathlib.Omega.{arith}
use lib.Seq.{length-take-le}
use mathlib.Core.Path.{sym}
use Rattle.translator.proofs.process.Goals as goal

pub returns-in-Err : goal.returns-in-Err
returns-in-Err c = refused-read _ c.in-Err.ensures (not_none _) (rw c.from.ensures at c.refuse.ensures)

-- src/lib.rt:184:9
pub returns-then-not-t : goal.returns-then-not-t
returns-then-not-t c = no-figure c.translate-t.ensures (not-true _ c.if-not-t.true)

-- src/lib.rt:186:15
pub overflow_mul-end : goal.overflow_mul-end
overflow_mul-end c = omega (arith, (c.translate-t.ensures.placed (not-false _ c.if-not-t.false)).stands.short)

-- src/lib.rt:187:23
pub slice_bounds-figure_of-end : goal.slice_bounds-figure_of-end
slice_bounds-figure_of-end c = (c.translate-t.ensures.placed (not-false _ c.if-not-t.false)).stands.inside

-- src/lib.rt:187:23
pub slice_bounds-figure_of-end-2 : goal.slice_bounds-figure_of-end-2
slice_bounds-figure_of-end-2 c = sym (length-take-le _ _ (c.translate-t.ensures.placed (not-false _ c.if-not-t.false)).stands.inside)

-- src/lib.rt:187:38
pub slice_bounds-places-end : goal.slice_bounds-places-end
slice_bounds-places-end c = (c.translate-t.ensures.placed (not-false _ c.if-not-t.false)).stands.room

-- src/lib.rt:187:38
pub slice_bounds-figure_of-end-3 : goal.slice_bounds-figure_of-end-3
slice_bounds-figure_of-end-3 c = sym (length-take-le _ _ (c.translate-t.ensures.placed (not-false _ c.if-not-t.false)).stands.room)

-- src/lib.rt:187:9
pub figure_of-f-requires : goal.figure_of-f-requires
figure_of-f-requires c = let p = c.translate-t.ensures.placed (not-false _ c.if-not-t.false) in record { prog = p.prog; tabled = p.stands.tabled }

-- src/lib.rt:174:1
pub returns : goal.returns
returns c = let v = not-false _ c.if-not-t.false in let t = c.translate-t.ensures in the-figure t _ v (c.figure_of-f.ensures (c.translate-t.ensures.placed v).prog (c.translate-t.ensures.placed v).stands.tabled) c.with_figure.ensures
