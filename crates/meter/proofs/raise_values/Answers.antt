use mathlib.Core.Path.{refl}
use Rattle.meter.proofs.Sweeps.{or-raised, or-unraised, values-first, values-next, values-past, values-all}
use Rattle.meter.proofs.Laws.{start-end, is-end}
use borrow.Author.Rules.{rules}
use native.Mathlib.Omega.{arith}
use Rattle.meter.proofs.raise_values.Goals as goal

-- src/lib.rt:281:9
pub end_of-to-requires : goal.end_of-to-requires
end_of-to-requires c = (omega (arith, c.requires.1.found, c.requires.0.shaped.few), omega (arith, c.size_of.ensures, c.requires.0.shaped.short))

-- src/lib.rt:283:17
pub offset_bounds-program-q : goal.offset_bounds-program-q
offset_bounds-program-q c = omega (arith, c.requires.1.found, c.requires.0.shaped.few)

-- src/lib.rt:283:17
pub bounds-program-q : goal.bounds-program-q
bounds-program-q c = c.requires.1.found

-- src/lib.rt:284:5
pub loop-p-init : goal.loop-p-init
loop-p-init c = (values-first c.requires.0 (omega (arith, start-end c.requires.0 c.requires.1.found, is-end _ _ c.end_of-to.ensures c.size_of.ensures)) (is-end _ _ c.end_of-to.ensures c.size_of.ensures), search rules)

-- src/lib.rt:285:13
pub raise_value-more-requires : goal.raise_value-more-requires
raise_value-more-requires c = (c.loop-p.invariant.0.steps.kept, record { rule = c.args.q; here = c.requires.1; chooses = c.requires.2; in_rule = record { from = c.loop-p.invariant.0.from; to = omega (arith, c.loop-p-test.true, c.loop-p.invariant.0.is-end) } }, c.loop-p.invariant.1)

pub overflow_add-p : goal.overflow_add-p
overflow_add-p c = omega arith

pub next_called-p-requires : goal.next_called-p-requires
next_called-p-requires c = (search rules, omega arith)

-- src/lib.rt:284:5
pub loop-p-smaller : goal.loop-p-smaller
loop-p-smaller c = omega (arith, c.next_called-p.ensures.0, c.next_called-p.ensures.1)

-- src/lib.rt:284:5
pub loop-p-preserved-then-more : goal.loop-p-preserved-then-more
loop-p-preserved-then-more c = (values-past (values-next c.loop-p.invariant.0 (search rules) c.raise_value-more.ensures (or-raised c.loop-p.changed c.raise_value-more.result c.if-more.true)) c.next_called-p.ensures.0 c.next_called-p.ensures.1 c.next_called-p.ensures.2, search rules)

-- src/lib.rt:284:5
pub loop-p-preserved : goal.loop-p-preserved
loop-p-preserved c = (values-past (values-next c.loop-p.invariant.0 (search rules) c.raise_value-more.ensures (or-unraised c.loop-p.changed c.raise_value-more.result c.if-more.false)) c.next_called-p.ensures.0 c.next_called-p.ensures.1 c.next_called-p.ensures.2, search rules)

-- src/lib.rt:269:1
pub returns : goal.returns
returns c = values-all c.loop-p.invariant.0 (search rules)
