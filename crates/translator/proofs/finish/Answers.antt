use Rattle.translator.proofs.Ends.{end_refused, end-20, end-good}
use Rattle.frontend.proofs.Buffers.{ready-cells, ready-laid, too_long}
use Rattle.emitter.specs.Emitted.{Emits}
use mathlib.Core.Path.{refl}
use native.Mathlib.Omega.{arith}
use Rattle.translator.proofs.finish.Goals as goal

-- src/lib.rt:132:9
pub returns-then-b-gt-CELLS : goal.returns-then-b-gt-CELLS
returns-then-b-gt-CELLS c = λ text prog e h. end_refused text prog c.refuse.ensures e (too_long _ h (omega (arith, c.if-b-gt-CELLS.true)))

pub returns-in-Err : goal.returns-in-Err
unfolding Emits
returns-in-Err c = λ text prog e h. end-20 text (c.in-Err.ensures prog (ready-cells h (omega (arith, c.if-b-gt-CELLS.false)))) (λ z. absurd (omega (arith, z))) e c.refusal.ensures

pub returns-in-Ok : goal.returns-in-Ok
unfolding Emits
returns-in-Ok c = λ text prog e h. end-good text (c.in-Ok.ensures prog (ready-cells h (omega (arith, c.if-b-gt-CELLS.false)))) refl (c.verdict-finishing.ensures.exact prog c.requires (ready-laid h (omega (arith, c.if-b-gt-CELLS.false)))) c.acceptance.ensures
