-- `linkage::close_all` meets its contract.
use mathlib.Core.Path.{refl, ◌∙◌}
use native.Mathlib.Omega.{arith}
use Rattle.machine.specs.Bytes.{words_of}
use Rattle.parts.specs.Link.{rules_of}
use Rattle.linkage.proofs.Groups.{Ground, all_first, all-on, all_end}
use Rattle.linkage.proofs.close_all.Goals as goal

-- src/lib.rt:311:5
pub loop-at-init : goal.loop-at-init
loop-at-init c = (omega arith, omega arith, refl, λ gr os x. x)

-- src/lib.rt:312:13
pub group_at-group-requires : goal.group_at-group-requires
group_at-group-requires c = omega (arith, c.loop-at-test.true, c.total-end.ensures.0)

-- src/lib.rt:313:9
pub close_object-n-requires : goal.close_object-n-requires
close_object-n-requires c = let g = c.requires in let y = c.group_at-group.ensures in (c.group_at-group.ensures.inside, omega (arith, c.group_at-group.ensures.collects, g.0), omega (arith, c.group_at-group.ensures.collects, g.1), c.group_at-group.ensures.pairs_inside, g.2)

-- src/lib.rt:314:9
pub next_object-at-requires : goal.next_object-at-requires
next_object-at-requires c = omega (arith, c.loop-at-test.true, c.total-end.ensures.0)

-- src/lib.rt:311:5
pub loop-at-smaller : goal.loop-at-smaller
loop-at-smaller c = let x = c.next_object-at.ensures in omega (arith, c.next_object-at.ensures.past, c.next_object-at.ensures.inside)

-- src/lib.rt:311:5
pub loop-at-preserved : goal.loop-at-preserved
loop-at-preserved c =
    let a = c.args in
    let o = c.loop-at in (
      c.next_object-at.ensures.inside,
      omega (arith, c.close_object-n.ensures.bound.0, c.close_object-n.ensures.bound.1),
      c.close_object-n.ensures.bound.1 ∙ c.loop-at.invariant.2,
      λ gr os s. all-on gr os a.cells.now (c.loop-at.invariant.3 gr os s) (omega (arith, c.loop-at-test.true, c.total-end.ensures.0)) c.group_at-group.ensures c.close_object-n.ensures.closed c.next_object-at.ensures,
    )

-- src/lib.rt:296:1
pub shape_of-cells : goal.shape_of-cells
shape_of-cells c = omega (arith, c.loop-at.invariant.2)

-- src/lib.rt:296:1
pub returns : goal.returns
returns c =
    let a = c.args in
    let o = c.loop-at in record {
      bound = (omega (arith, c.loop-at.invariant.1, c.loop-at.invariant.2), c.loop-at.invariant.2);
      closed = λ common k n h own after us held texts calls.
          let gr : Ground (words_of a.objects.now) a.names.now a.sites.now a.lowest.now a.collected =
          record { common = common; heads = k.listed; known = n; own = own; after = after; pairs = us; rules = rules_of h.objects; held = held; texts = texts } in
          all_end gr h.objects a.cells.now (c.loop-at.invariant.3 gr h.objects (all_first gr h.objects a.cells.now h.lengths h.are h.as_many h.sound calls)) (omega (arith, c.loop-at-test.false, c.total-end.ensures.0)) c.loop-at.invariant.1;
    }
