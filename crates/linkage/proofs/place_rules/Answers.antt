-- `linkage::place_rules` meets its contract.
use mathlib.Core.Path.{refl, ◌∙◌}
use native.Mathlib.Omega.{arith}
use Rattle.linkchecks.specs.Row.{row_from}
use Rattle.machine.specs.Bytes.{words_of}
use Rattle.linkage.proofs.Placing.{puts, put-length, placing-first, placing-next, placing-end}
use Rattle.linkage.proofs.place_rules.Goals as goal

-- src/lib.rt:384:5
pub loop-cursor-init : goal.loop-cursor-init
loop-cursor-init c = let a = c.args in let f = c.first_rule-cursor.ensures in (c.first_rule-cursor.ensures.0, c.first_rule-cursor.ensures.1, omega arith, omega arith, refl, refl, λ vs v. placing-first a.common.now (words_of a.objects.now) vs (row_from 1 vs) (c.first_rule-cursor.ensures.2 vs v))

-- src/lib.rt:385:13
pub rule_sort-sort-requires : goal.rule_sort-sort-requires
rule_sort-sort-requires c = c.loop-cursor.invariant.0

-- src/lib.rt:387:30
pub overflow_cast-start : goal.overflow_cast-start
overflow_cast-start c = omega (arith, c.loop-cursor.invariant.3)

-- src/lib.rt:388:31
pub rule_size-requires : goal.rule_size-requires
rule_size-requires c = c.loop-cursor.invariant.0

-- src/lib.rt:388:23
pub overflow_add-start : goal.overflow_add-start
overflow_add-start c = omega (arith, c.rule_size.ensures.0, c.loop-cursor.invariant.3)

-- src/lib.rt:389:9
pub next_rule-cursor-requires : goal.next_rule-cursor-requires
next_rule-cursor-requires c = (omega (arith, c.loop-cursor-test.true, c.total-end.ensures.0), c.loop-cursor.invariant.1)

-- src/lib.rt:390:9
pub overflow_add-k : goal.overflow_add-k
overflow_add-k c = omega (arith, c.loop-cursor.invariant.2, c.loop-cursor.invariant.0, c.total-end.ensures.0, c.total-end.ensures.1)

-- src/lib.rt:384:5
pub loop-cursor-smaller : goal.loop-cursor-smaller
loop-cursor-smaller c = omega (arith, c.next_rule-cursor.ensures.0, c.next_rule-cursor.ensures.1)

-- src/lib.rt:384:5
pub loop-cursor-preserved : goal.loop-cursor-preserved
loop-cursor-preserved c =
    let a = c.args in
    let o = c.loop-cursor in
    let x = c.next_rule-cursor.ensures in
    let y = c.put_at-in-loop-cursor.ensures in
    let z = c.put_at.ensures in (
      c.next_rule-cursor.ensures.1,
      c.next_rule-cursor.ensures.2,
      omega (arith, c.next_rule-cursor.ensures.0, c.loop-cursor.invariant.2),
      omega (arith, c.min-start.ensures),
      put-length _ _ _ y ∙ c.loop-cursor.invariant.4,
      put-length _ _ _ z ∙ c.loop-cursor.invariant.5,
      λ vs v. placing-next a.common.now (words_of a.objects.now) vs (row_from 1 vs) (c.loop-cursor.invariant.6 vs v) (omega (arith, c.loop-cursor-test.true, c.total-end.ensures.0)) c.loop-cursor.invariant.3 c.rule_size.ensures.1 c.rule_sort-sort.ensures (puts y) (puts z) c.min-start.ensures (c.next_rule-cursor.ensures.3 vs),
    )

-- src/lib.rt:376:1
pub shape_of-starts : goal.shape_of-starts
shape_of-starts c = omega (arith, c.loop-cursor.invariant.4)

-- src/lib.rt:376:1
pub shape_of-sorts : goal.shape_of-sorts
shape_of-sorts c = omega (arith, c.loop-cursor.invariant.5)

-- src/lib.rt:376:1
pub returns : goal.returns
returns c =
    let a = c.args in
    let o = c.loop-cursor in record { same = (c.loop-cursor.invariant.4, c.loop-cursor.invariant.5); placed = λ vs v. placing-end a.common.now (words_of a.objects.now) vs (row_from 1 vs) (c.loop-cursor.invariant.6 vs v) (omega (arith, c.loop-cursor-test.false, c.total-end.ensures.0)) }
