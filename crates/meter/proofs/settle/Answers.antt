use Rattle.meter.proofs.Sweeps.{settling-first, settling-rounds, settling-next, todo-less, settled}
use borrow.Author.Rules.{rules}
use Rattle.meter.proofs.settle.Goals as goal

-- src/lib.rt:429:5
pub loop-changed-init : goal.loop-changed-init
loop-changed-init c = (settling-first c.requires.0, search rules)

pub rounds_if-requires : goal.rounds_if-requires
rounds_if-requires c = (c.loop-changed.invariant.0.kept, c.loop-changed.invariant.1)

pub sweep-changed-requires : goal.sweep-changed-requires
sweep-changed-requires c = (c.rounds_if.ensures.kept, search rules)

pub loop-changed-smaller : goal.loop-changed-smaller
loop-changed-smaller c = todo-less c.loop-changed-test.true c.rounds_if.ensures c.sweep-changed.ensures

pub loop-changed-preserved : goal.loop-changed-preserved
loop-changed-preserved c = (settling-next (settling-rounds c.loop-changed.invariant.0 c.rounds_if.ensures) c.sweep-changed.ensures, search rules)

-- src/lib.rt:424:1
pub returns : goal.returns
returns c = settled c.loop-changed.invariant.0 c.loop-changed-test.false
