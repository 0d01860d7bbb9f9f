use mathlib.Core.Path.{refl}
use Rattle.meter.proofs.Sweeps.{swept-first, swept-next, swept_all}
use Rattle.meter.proofs.Laws.{start-end, is-end}
use borrow.Author.Rules.{rules}
use native.Mathlib.Omega.{arith}
use Rattle.meter.proofs.sweep_rule.Goals as goal

-- src/lib.rt:397:9
pub end_of-to-requires : goal.end_of-to-requires
end_of-to-requires c = (omega (arith, c.requires.1, c.requires.0.shaped.few), omega (arith, c.size_of.ensures, c.requires.0.shaped.short))

-- src/lib.rt:399:17
pub offset_bounds-program-r : goal.offset_bounds-program-r
offset_bounds-program-r c = omega (arith, c.requires.1, c.requires.0.shaped.few)

-- src/lib.rt:399:17
pub bounds-program-r : goal.bounds-program-r
bounds-program-r c = c.requires.1

-- src/lib.rt:400:5
pub loop-l-init : goal.loop-l-init
loop-l-init c = (swept-first c.requires.0 (omega (arith, start-end c.requires.0 c.requires.1, is-end _ _ c.end_of-to.ensures c.size_of.ensures)) (is-end _ _ c.end_of-to.ensures c.size_of.ensures), search rules)

-- src/lib.rt:401:13
pub visit-more-requires : goal.visit-more-requires
visit-more-requires c = (c.loop-l.invariant.0.steps.kept, c.requires.1, record { from = c.loop-l.invariant.0.from; to = omega (arith, c.loop-l.invariant.0.is-end) }, c.loop-l.invariant.1)

-- src/lib.rt:400:5
pub loop-l-preserved : goal.loop-l-preserved
loop-l-preserved c = (swept-next c.loop-l.invariant.0 (search rules) c.visit-more.ensures refl, search rules)

-- src/lib.rt:393:1
pub returns : goal.returns
returns c = swept_all c.loop-l.invariant.0 (search rules)
