-- `Walk::go` meets its contract: the invariant carries `go_of` with what is left of the budget, and each step that goes on keeps it.
use mathlib.Core.Path.{refl, sym, ap, ◌∙◌}
use native.Mathlib.Omega.{arith}
use Prim.Native.Nat.{ℕ, ◌-◌}
use borrow.Enum.Refused.{opened}
use Rattle.machine.specs.Bytes.{count}
use Rattle.machine.specs.Lengths.{lengths}
use Rattle.walker.specs.Shape.{ending_number, go_of}
use Rattle.walker.proofs.Go.{inv-as, kept, again-on, again-tells, again-pushes, others, ends, parts, spent}
use Rattle.walker.proofs.Walk.go.Goals.{in-On, in-Tells, in-Push}
use Rattle.walker.proofs.Walk.go.Goals as goal

pub loop-done-init : goal.loop-done-init
loop-done-init c =
    let a = c.args in
    record { deep = c.requires; left = omega (arith, c.count_words-room.ensures); as_long = refl; within = omega arith; same = ap (λ (n : ℕ). go_of a.t.now a.tokens.now a.answers.now a.pause n a.self.at a.self.returns a.out.now 0 0) (omega arith) }

pub next-x-requires : goal.next-x-requires
unfolding lengths
next-x-requires c = (refl, c.loop-done.invariant.deep)

pub overflow_mul-events : goal.overflow_mul-events
unfolding count
overflow_mul-events c = let l = c.loop-done in omega (arith, l.invariant.left, l.invariant.as_long, c.well_formed)

pub put_event-requires : goal.put_event-requires
put_event-requires c = let k = (kept c.loop-done.invariant c.loop-done-test.true (sym c.next-x.ensures ∙ c.in-Tells.is)).1 in omega (arith, k, c.loop-done.invariant.left)

pub overflow_add-events : goal.overflow_add-events
unfolding count
overflow_add-events c = let l = c.loop-done in omega (arith, l.invariant.left, l.invariant.as_long, c.well_formed)

pub overflow_sub-room : goal.overflow_sub-room
overflow_sub-room c = (kept c.loop-done.invariant c.loop-done-test.true (sym c.next-x.ensures ∙ c.in-Tells.is)).1

pub hold-at-requires : goal.hold-at-requires
hold-at-requires c = (kept c.loop-done.invariant c.loop-done-test.true (sym c.next-x.ensures ∙ c.in-Push.is)).1

pub last-requires : goal.last-requires
last-requires c = (others c.loop-done.invariant c.loop-done-test.true _ (sym c.next-x.ensures) (opened c.in_default.in_default-own.keys4), omega (arith, c.loop-done-test.true, c.ranges.budget))

pub shape_of-out-in_default : goal.shape_of-out-in_default
shape_of-out-in_default c = c.last.auto.out ∙ c.loop-done.invariant.as_long

pub returns-in_default : goal.returns-in_default
returns-in_default c =
    let k = parts (c.last.ensures ∙ ends c.loop-done.invariant c.loop-done-test.true _ (sym c.next-x.ensures) (others c.loop-done.invariant c.loop-done-test.true _ (sym c.next-x.ensures) (opened c.in_default.in_default-own.keys4))) in
    record { walk_value = k.0; events_value = k.1.0; steps_value = k.1.1.0; number_value = k.1.1.1.0; out_after = k.1.1.1.1 }

pub overflow_add-done : goal.overflow_add-done
overflow_add-done c = omega (arith, c.loop-done-test.true, c.ranges.budget)

pub loop-done-smaller : goal.loop-done-smaller
loop-done-smaller c = omega (arith, c.loop-done-test.true)

pub loop-done-preserved : goal.loop-done-preserved
loop-done-preserved c =
    let i = c.loop-done.invariant in
    let more = c.loop-done-test.true in
    let told = sym c.next-x.ensures in
    elim c.match-x.branch [
      | in-On w ↦ inv-as w.at-is w.returns-is w.out-is w.events-is w.room-is (again-on i more (told ∙ w.in-On.is))
      | in-Tells w ↦ inv-as w.at-is w.returns-is w.out-is w.events-is w.room-is (again-tells i more (told ∙ w.in-Tells.is) w.put_event.ensures w.put_event.auto.out)
      | in-Push w ↦ inv-as (w.at-is ∙ w.hold-at.ensures.value) (w.returns-is ∙ w.hold-at.ensures.returns_after) w.out-is w.events-is w.room-is (again-pushes i more (told ∙ w.in-Push.is))
    ]

pub shape_of-out : goal.shape_of-out
shape_of-out c = c.loop-done.invariant.as_long

pub returns : goal.returns
unfolding ending_number
returns c =
    let a = c.args in
    let l = c.loop-done in
    let k = parts (sym (spent a.t.now a.tokens.now a.answers.now a.pause (a.budget - l.done) l.at l.returns l.out l.events l.done (omega (arith, l.invariant.within, c.loop-done-test.false))) ∙ l.invariant.same) in
    record { walk_value = rw c.ended.ensures k.0; events_value = rw c.ended.ensures k.1.0; steps_value = rw c.ended.ensures k.1.1.0; number_value = rw c.ended.ensures k.1.1.1.0; out_after = k.1.1.1.1 }
