-- `objects::check` meets its contract: the objects passed are in order, and the words left decide.
use Rattle.machine.specs.Bytes.{words_of}
use Rattle.objects.proofs.Checking.{taking, seven-on, checking, on-object, bad-object, off-objects, all-objects}
use Rattle.objects.proofs.Views.{view-exact}
use Rattle.objects.specs.Whole.{evenly}
use lib.ListN.{drop}
use mathlib.Core.Path.{sym}
use native.Mathlib.Omega.{arith}
use Rattle.objects.proofs.check.Goals as goal

pub loop-at-init : goal.loop-at-init
loop-at-init c = let a = c.args in (omega arith, omega arith, λ hs m h s. checking a.common.now hs m (words_of a.objects.now))

pub returns-in_default : goal.returns-in_default
returns-in_default c =
    let a = c.args in
    let w = words_of a.objects.now in
    let l = c.loop-at in record { whole = λ hs m h s. rw (off-objects a.common.now hs m w (c.loop-at.invariant.2 hs m h s) c.in_default.ensures.ends (omega arith)).0; counted = λ hs m h s. sym (off-objects a.common.now hs m w (c.loop-at.invariant.2 hs m h s) c.in_default.ensures.ends (omega arith)).1; few = omega arith }

pub returns-then-not-view_in_order : goal.returns-then-not-view_in_order
returns-then-not-view_in_order c =
    let a = c.args in
    let w = words_of a.objects.now in
    let l = c.loop-at in
    let t = taking c.in-Some.ensures.ends in record { whole = λ hs m h s. rw (bad-object a.common.now hs m w (c.loop-at.invariant.2 hs m h s) t _ (c.view_in_order.ensures hs m t.value (drop c.in-Some.next w) h s ((view-exact a.common.now).forth (drop c.loop-at.at w) t.value (drop c.in-Some.next w) t.is).0) c.if-not-view_in_order.true).0; counted = λ hs m h s. sym (bad-object a.common.now hs m w (c.loop-at.invariant.2 hs m h s) t _ (c.view_in_order.ensures hs m t.value (drop c.in-Some.next w) h s ((view-exact a.common.now).forth (drop c.loop-at.at w) t.value (drop c.in-Some.next w) t.is).0) c.if-not-view_in_order.true).1; few = omega arith }

pub overflow_add-good : goal.overflow_add-good
overflow_add-good c = omega arith

pub loop-at-smaller : goal.loop-at-smaller
loop-at-smaller c =
    let a = c.args in
    let w = words_of a.objects.now in
    let l = c.loop-at in
    let t = taking c.in-Some.ensures.ends in
    let z = seven-on a.common.now t (omega arith) c.in-Some.ensures.within in
    omega (arith, z)

pub loop-at-preserved : goal.loop-at-preserved
loop-at-preserved c =
    let a = c.args in
    let w = words_of a.objects.now in
    let l = c.loop-at in
    let t = taking c.in-Some.ensures.ends in
    let z = seven-on a.common.now t (omega arith) c.in-Some.ensures.within in
    (c.in-Some.ensures.within, omega (arith, z), λ hs m h s. on-object a.common.now hs m w (c.loop-at.invariant.2 hs m h s) t _ (c.view_in_order.ensures hs m t.value (drop c.in-Some.next w) h s ((view-exact a.common.now).forth (drop c.loop-at.at w) t.value (drop c.in-Some.next w) t.is).0) c.if-not-view_in_order.false)

pub returns : goal.returns
unfolding evenly
returns c =
    let a = c.args in
    let w = words_of a.objects.now in
    let l = c.loop-at in record { whole = λ hs m h s. rw (all-objects a.common.now hs m w (c.loop-at.invariant.2 hs m h s) (omega arith)).0; counted = λ hs m h s. sym (all-objects a.common.now hs m w (c.loop-at.invariant.2 hs m h s) (omega arith)).1; few = omega arith }
