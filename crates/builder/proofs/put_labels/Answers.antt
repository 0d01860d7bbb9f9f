-- `builder::put_labels` meets its contract.
use mathlib.Core.Path.{refl, ◌∙◌}
use native.Mathlib.Omega.{arith}
use Rattle.resolver.proofs.Appending.{appends-length}
use Rattle.builder.proofs.Labelling.{labels-all, labels-none, labels-stored}
use Rattle.builder.proofs.put_labels.Goals as goal

pub overflow_sub-to : goal.overflow_sub-to
overflow_sub-to c = omega (arith, c.requires.0)

pub overflow_add-to : goal.overflow_add-to
overflow_add-to c = omega (arith, c.requires.0, c.requires.1, c.requires.2)

pub overflow_cast-to : goal.overflow_cast-to
overflow_cast-to c = omega (arith, c.requires.0, c.requires.1, c.requires.2)

pub loop-i-init : goal.loop-i-init
loop-i-init c = (refl, labels-none c.args.seen.now c.args.from (omega (arith, c.put-c.ensures.count, appends-length c.put-c.ensures)))

pub bounds-seen-i : goal.bounds-seen-i
bounds-seen-i c = omega (arith, c.requires.1, c.loop-i-test.true)

pub loop-i-preserved : goal.loop-i-preserved
loop-i-preserved c = (appends-length c.put-c-in-loop-i.ensures ∙ c.loop-i.invariant.0, labels-stored c.args.seen.now c.args.from c.loop-i.i (omega arith) (omega (arith, c.loop-i-test.true, c.requires.1)) c.loop-i.invariant.1 c.put-c-in-loop-i.ensures)

pub shape_of-cells : goal.shape_of-cells
shape_of-cells c = c.loop-i.invariant.0 ∙ appends-length c.put-c.ensures

pub returns : goal.returns
returns c = labels-all c.args.seen.now c.args.from c.args.to c.loop-i.i (omega arith) c.loop-i-test.false refl c.put-c.ensures c.loop-i.invariant.1
