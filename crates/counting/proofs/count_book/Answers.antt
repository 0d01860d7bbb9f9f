-- `counting::count_book` meets its contract: the invariant carries the call and the locations still to come, and each case of `Next` has its law.
use mathlib.Core.Path.{◌≡◌, refl, sym, ap, ◌∙◌}
use native.Mathlib.Omega.{arith}
use Rattle.machine.specs.Bytes.{count}
use Rattle.machine.specs.Lengths.{lengths}
use Rattle.counting.proofs.Loop.{never-waits, at-spent, at-full, at-outside, at-stop, stop-room, moved_as, moved_on, moved-tells, moved-push, tells-room, push-deep, move-room, again, start}
use Rattle.counting.proofs.count_book.Goals.{in-On, in-Tells, in-Push}
use Rattle.counting.specs.Counting.{told_of}
use Rattle.walker.specs.Shape.{number_of, ending_number}
use Rattle.counting.proofs.count_book.Goals as goal

pub loop-done-init : goal.loop-done-init
loop-done-init c =
    let a = c.args in
    rw c.fresh-at.ensures (start a.table.now a.tokens.now a.answers.now a.b.budget a.b.allowance a.b.writes a.out.now a.counts.now _ c.count_words-room.ensures c.requires.0 c.requires.1)

pub next-x-requires : goal.next-x-requires
unfolding lengths
next-x-requires c = (refl, c.loop-done.invariant.deep)

pub overflow_add-next : goal.overflow_add-next
overflow_add-next c = omega (arith, c.loop-done-test.true)

pub returns-in-Full : goal.returns-in-Full
unfolding ending_number
returns-in-Full c =
    let p = at-full _ _ _ _ _ _ _ _ _ _ _ _ _ _ _ c.loop-done.invariant c.loop-done-test.true (sym c.next-x.ensures ∙ c.in-Full.is) in record { value = c.ended.ensures ∙ p.0; out_after = (p.1).0; counts_after = (p.1).1 }

pub returns-in-Outside : goal.returns-in-Outside
unfolding ending_number number_of
returns-in-Outside c =
    let p = at-outside _ _ _ _ _ _ _ _ _ _ _ _ _ _ _ c.loop-done.invariant c.loop-done-test.true (sym c.next-x.ensures ∙ c.in-Outside.is) in record { value = c.ended-in-Outside.ensures ∙ p.0; out_after = (p.1).0; counts_after = (p.1).1 }

pub stopped-requires : goal.stopped-requires
stopped-requires c = stop-room _ _ _ _ _ _ _ _ _ _ _ _ _ _ _ c.loop-done.invariant c.loop-done-test.true _ (sym c.next-x.ensures ∙ c.in-Stop.is)

pub shape_of-counts-in-Stop : goal.shape_of-counts-in-Stop
shape_of-counts-in-Stop c = c.stopped.auto.counts ∙ c.loop-done.invariant.all.size ∙ sym c.requires.0

pub returns-in-Stop : goal.returns-in-Stop
returns-in-Stop c =
    let p = at-stop _ _ _ _ _ _ _ _ _ _ _ _ _ _ _ c.loop-done.invariant c.loop-done-test.true _ _ (sym c.next-x.ensures ∙ c.in-Stop.is) c.stopped.ensures.counts_after in record { value = c.stopped.ensures.value ∙ p.0; out_after = (p.1).0; counts_after = (p.1).1 }

pub overflow_mul-events : goal.overflow_mul-events
unfolding count
overflow_mul-events c = let l = c.loop-done in omega (arith, l.invariant.left, l.invariant.as_long, c.well_formed)

pub tell-requires : goal.tell-requires
tell-requires c = omega (arith, tells-room _ _ _ _ _ _ _ _ _ _ _ _ _ _ _ c.loop-done.invariant c.loop-done-test.true _ _ (sym c.next-x.ensures ∙ c.in-Tells.is), c.loop-done.invariant.left)

pub overflow_add-events : goal.overflow_add-events
unfolding count
overflow_add-events c = let l = c.loop-done in omega (arith, l.invariant.left, l.invariant.as_long, c.well_formed)

pub overflow_sub-room : goal.overflow_sub-room
overflow_sub-room c = tells-room _ _ _ _ _ _ _ _ _ _ _ _ _ _ _ c.loop-done.invariant c.loop-done-test.true _ _ (sym c.next-x.ensures ∙ c.in-Tells.is)

pub hold-at-requires : goal.hold-at-requires
hold-at-requires c = push-deep _ _ _ _ _ _ _ _ _ _ _ _ _ _ _ c.loop-done.invariant c.loop-done-test.true _ _ (sym c.next-x.ensures ∙ c.in-Push.is)

pub returns-in-Waits : goal.returns-in-Waits
returns-in-Waits c = absurd (never-waits _ _ _ _ _ _ _ _ (sym c.next-x.ensures ∙ c.in-Waits.is))

pub bump-requires : goal.bump-requires
bump-requires c =
    elim c.match-x.branch [
      | in-On w ↦ move-room _ _ _ _ _ _ _ _ _ _ _ _ _ _ _ c.loop-done.invariant c.loop-done-test.true _ _ _ _ _ (moved_as w.at-is w.returns-is w.out-is w.events-is w.room-is (moved_on _ _ _ _ _ _ _ _ _ _ _ _ _ _ _ c.loop-done.invariant c.loop-done-test.true _ (sym c.next-x.ensures ∙ w.in-On.is)))
      | in-Tells w ↦ move-room _ _ _ _ _ _ _ _ _ _ _ _ _ _ _ c.loop-done.invariant c.loop-done-test.true _ _ _ _ _ (moved_as w.at-is w.returns-is w.out-is w.events-is w.room-is (moved-tells _ _ _ _ _ _ _ _ _ _ _ _ _ _ _ c.loop-done.invariant c.loop-done-test.true _ _ _ (sym c.next-x.ensures ∙ w.in-Tells.is) w.tell.ensures w.tell.auto.out))
      | in-Push w ↦ move-room _ _ _ _ _ _ _ _ _ _ _ _ _ _ _ c.loop-done.invariant c.loop-done-test.true _ _ _ _ _ (moved_as (w.at-is ∙ w.hold-at.ensures.value) (w.returns-is ∙ w.hold-at.ensures.returns_after) w.out-is w.events-is w.room-is (moved-push _ _ _ _ _ _ _ _ _ _ _ _ _ _ _ c.loop-done.invariant c.loop-done-test.true _ _ (sym c.next-x.ensures ∙ w.in-Push.is)))
    ]

pub loop-done-smaller : goal.loop-done-smaller
loop-done-smaller c = omega (arith, c.loop-done-test.true)

pub loop-done-preserved : goal.loop-done-preserved
loop-done-preserved c =
    elim c.match-x.branch [
      | in-On w ↦ again _ _ _ _ _ _ _ _ _ _ _ _ _ _ _ c.loop-done.invariant c.loop-done-test.true _ _ _ _ _ (moved_as w.at-is w.returns-is w.out-is w.events-is w.room-is (moved_on _ _ _ _ _ _ _ _ _ _ _ _ _ _ _ c.loop-done.invariant c.loop-done-test.true _ (sym c.next-x.ensures ∙ w.in-On.is))) _ c.bump.ensures
      | in-Tells w ↦ again _ _ _ _ _ _ _ _ _ _ _ _ _ _ _ c.loop-done.invariant c.loop-done-test.true _ _ _ _ _ (moved_as w.at-is w.returns-is w.out-is w.events-is w.room-is (moved-tells _ _ _ _ _ _ _ _ _ _ _ _ _ _ _ c.loop-done.invariant c.loop-done-test.true _ _ _ (sym c.next-x.ensures ∙ w.in-Tells.is) w.tell.ensures w.tell.auto.out)) _ c.bump.ensures
      | in-Push w ↦ again _ _ _ _ _ _ _ _ _ _ _ _ _ _ _ c.loop-done.invariant c.loop-done-test.true _ _ _ _ _ (moved_as (w.at-is ∙ w.hold-at.ensures.value) (w.returns-is ∙ w.hold-at.ensures.returns_after) w.out-is w.events-is w.room-is (moved-push _ _ _ _ _ _ _ _ _ _ _ _ _ _ _ c.loop-done.invariant c.loop-done-test.true _ _ (sym c.next-x.ensures ∙ w.in-Push.is))) _ c.bump.ensures
    ]

pub returns : goal.returns
unfolding ending_number
returns c =
    let e : c.args.b.budget ≡ c.loop-done.done = omega (arith, c.loop-done.invariant.within, c.loop-done-test.false) in
    let p = at-spent _ _ _ _ _ _ _ _ _ _ _ _ _ _ _ c.loop-done.invariant c.loop-done-test.false in record { value = c.ended-2.ensures ∙ ap (told_of 36 c.loop-done.events) e ∙ p.0; out_after = (p.1).0; counts_after = (p.1).1 }
