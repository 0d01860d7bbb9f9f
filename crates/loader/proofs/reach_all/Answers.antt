use mathlib.Core.Path.{refl, ap, ◌∙◌}
use Prim.Native.Nat.{ℕ}
use lib.ListN.{replicate}
use Rattle.machine.specs.Bytes.{table_of}
use Rattle.machine.proofs.Bytes.{length-table_of}
use Rattle.loader.proofs.Laws.{some-worked, none-worked}
use Rattle.loader.proofs.Reaches.{loop-kept, loop-start, loop-none, loop-end, loop-ready, loop-fails, loop-next}
use Rattle.loader.proofs.Passing.{none_passed}
use Rattle.loader.proofs.reach_all.Goals as goal

pub mark-requires : goal.mark-requires
mark-requires c = loop-kept (table_of c.args.table.now) _ _ _ c.size_of-size.ensures (length-table_of c.args.table.now) c.requires.1 (c.fill.ensures.after (λ y e. e) ∙ ap (λ (n : ℕ). replicate n 0) c.requires.0)

pub returns-in_default : goal.returns-in_default
returns-in_default c = loop-none (table_of c.args.table.now) _ _ _ c.size_of-size.ensures (length-table_of c.args.table.now) c.requires.1 (c.fill.ensures.after (λ y e. e) ∙ ap (λ (n : ℕ). replicate n 0) c.requires.0) (none-worked c.in_default.is c.mark.ensures) refl

pub loop-head-init : goal.loop-head-init
loop-head-init c = (loop-start (table_of c.args.table.now) _ _ _ c.size_of-size.ensures (length-table_of c.args.table.now) c.requires.1 (c.fill.ensures.after (λ y e. e) ∙ ap (λ (n : ℕ). replicate n 0) c.requires.0) (some-worked c.in-Some.is c.mark.ensures) refl, none_passed _ _ _ _ c.requires.2)

pub visit-requires : goal.visit-requires
visit-requires c = (loop-ready c.loop-head.invariant.0 _ c.from-l.ensures c.loop-head-test.true, c.loop-head.invariant.1)

pub returns-in_default-visit : goal.returns-in_default-visit
returns-in_default-visit c = loop-fails c.loop-head.invariant.0 _ c.from-l.ensures c.loop-head-test.true (none-worked c.in_default-visit.is c.visit.ensures.marked) refl

pub loop-head-preserved : goal.loop-head-preserved
loop-head-preserved c = (loop-next c.loop-head.invariant.0 _ c.from-l.ensures c.loop-head-test.true (some-worked c.in-Some-visit.is c.visit.ensures.marked) refl, c.visit.ensures.passes)

pub returns : goal.returns
returns c = loop-end c.loop-head.invariant.0 c.loop-head-test.false
