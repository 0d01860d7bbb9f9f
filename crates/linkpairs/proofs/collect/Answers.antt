-- `linkpairs::collect` meets its contract: what is gathered of the objects left is gathered of all.
use mathlib.Core.Path.{refl, sym, ◌∙◌}
use native.Mathlib.Omega.{arith}
use Rattle.linkpairs.proofs.Collecting.{pairs-as, moved}
use Rattle.linkpairs.proofs.Objects.{all_known, going-first, going_next, going-over, going_end}
use Rattle.machine.specs.Bytes.{words_of}
use Rattle.linkpairs.proofs.collect.Goals as goal

pub total-end-requires : goal.total-end-requires
total-end-requires c = tt

pub loop-at-init : goal.loop-at-init
loop-at-init c = let a = c.args in let p = c.requires in (omega arith, omega arith, p.4, p.5, omega arith, p.3, λ q names sec common k h. going-first names a.scope.others a.scope.own (words_of a.objects.now) common h.objects h.lengths a.sites.now a.lowest.now (omega arith) refl h.as_many h.are (all_known k.listed names h.objects h.sound))

pub first_pair-requires : goal.first_pair-requires
first_pair-requires c = omega arith

pub overflow_add-at : goal.overflow_add-at
overflow_add-at c = omega arith

pub number-requires : goal.number-requires
number-requires c = tt

pub moved_to-s-requires : goal.moved_to-s-requires
moved_to-s-requires c = tt

pub take_pairs-s-requires : goal.take_pairs-s-requires
take_pairs-s-requires c = let p = c.requires in let i = c.loop-at.invariant in let m = moved c.moved_to-s.ensures in let f = c.first_pair.ensures.inside in (p.0, p.1, p.2, i.2, i.3, omega (arith, m.2, m.3, i.4), omega (arith, m.3, i.5), omega (arith, m.0, f), m.4)

pub past_limit-requires : goal.past_limit-requires
past_limit-requires c = tt

pub shape_of-sites-then-s-ne0 : goal.shape_of-sites-then-s-ne0
shape_of-sites-then-s-ne0 c = c.take_pairs-s.ensures.kept.sites_same ∙ c.loop-at.invariant.2 ∙ sym c.requires.4

pub shape_of-lowest-then-s-ne0 : goal.shape_of-lowest-then-s-ne0
shape_of-lowest-then-s-ne0 c = c.take_pairs-s.ensures.kept.lowest_same ∙ c.loop-at.invariant.3 ∙ sym c.requires.5

pub returns-then-s-ne0 : goal.returns-then-s-ne0
returns-then-s-ne0 c = let a = c.args in let o = c.loop-at in let t = c.take_pairs-s.ensures.kept in record { few = omega (arith, c.past_limit.ensures.count, t.few, t.count); tells = λ p names sec common k h. going-over names a.scope.others a.scope.own (words_of a.objects.now) common h.objects p sec refl c.loop-at.s (c.loop-at.invariant.6 p names sec common k h) (omega (arith, c.loop-at-test.true, c.total-end.ensures.0)) c.first_pair.ensures c.number.ensures.0 (pairs-as c.moved_to-s.ensures c.take_pairs-s.ensures) c.past_limit.result c.if-s-ne0.true c.past_limit.ensures }

pub next_object-at-requires : goal.next_object-at-requires
next_object-at-requires c = omega (arith, c.loop-at-test.true, c.total-end.ensures.0)

pub overflow_add-i : goal.overflow_add-i
overflow_add-i c = omega (arith, c.loop-at.invariant.1, c.loop-at-test.true, c.total-end.ensures.1)

pub loop-at-smaller : goal.loop-at-smaller
loop-at-smaller c = let e = c.next_object-at.ensures in omega (arith, c.next_object-at.ensures.past, c.next_object-at.ensures.inside)

pub loop-at-preserved : goal.loop-at-preserved
loop-at-preserved c = let a = c.args in let o = c.loop-at in let t = c.take_pairs-s.ensures.kept in let e = c.next_object-at.ensures in (c.next_object-at.ensures.inside, omega (arith, c.next_object-at.ensures.past, c.loop-at.invariant.1), t.sites_same ∙ c.loop-at.invariant.2, t.lowest_same ∙ c.loop-at.invariant.3, t.count, t.few, λ p names sec common k h. going_next names a.scope.others a.scope.own (words_of a.objects.now) common h.objects p sec refl c.loop-at.s (c.loop-at.invariant.6 p names sec common k h) (omega (arith, c.loop-at-test.true, c.total-end.ensures.0)) c.first_pair.ensures c.number.ensures.0 (pairs-as c.moved_to-s.ensures c.take_pairs-s.ensures) c.if-s-ne0.false e refl)

pub shape_of-sites : goal.shape_of-sites
shape_of-sites c = c.loop-at.invariant.2 ∙ sym c.requires.4

pub shape_of-lowest : goal.shape_of-lowest
shape_of-lowest c = c.loop-at.invariant.3 ∙ sym c.requires.5

pub returns : goal.returns
returns c = let a = c.args in let o = c.loop-at in record { few = omega (arith, c.loop-at.invariant.4, c.loop-at.invariant.5); tells = λ p names sec common k h. going_end names a.scope.others a.scope.own (words_of a.objects.now) common h.objects (record { fault = 0; text = 0; start = 0; len = 0; count = c.loop-at.s.count }) (c.loop-at.invariant.6 p names sec common k h) (omega (arith, c.loop-at-test.false, c.total-end.ensures.0)) refl refl }
