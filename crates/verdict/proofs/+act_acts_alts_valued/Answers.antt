-- The scan of an action, of actions and of alternatives meet their contracts. The measure is the cells left, twice, and one more for a list.
use mathlib.Core.Path.{◌≡◌, refl, sym, ◌∙◌}
use native.Mathlib.Omega.{arith}
use borrow.Author.Rules.{rules}
use lib.ListN.{length, take, drop, get_or}
use Rattle.base.specs.Common.{member as listed}
use Rattle.verdict.specs.Told.{some_in, known_in}
use Rattle.verdict.proofs.Scan.{cycle-told, rule_told, choice-told, heads-some, leaf-act, left-start, left_step, left-done, rest-start, rest-step, rest-closed, rest-other, by-start, by-step, by-closed, by-other, unnamed-same, nonzero-lt}
use Prim.Native.Nat.{◌<◌, ◌≤◌, ◌-◌}
use Rattle.verdict.proofs.Worthy.{worth-few, either-worth}
use Rattle.verdict.proofs.+act_acts_alts_valued.Goals as goal

pub act-overflow_add-at : goal.act-overflow_add-at
act-overflow_add-at t c = omega arith

pub act-acts-requires : goal.act-acts-requires
act-acts-requires t c = (omega arith, omega arith)

pub act-returns-then-tag-eq-CYCLE : goal.act-returns-then-tag-eq-CYCLE
act-returns-then-tag-eq-CYCLE t c = let a = c.args in cycle-told a.wanted.now a.cells.now a.at (known_in a.known.passed a.facts.now a.known.count) c.acts.result c.cycled.result c.requires.0 (sym c.number-tag.ensures.0 ∙ c.if-tag-eq-CYCLE.true) c.acts.ensures c.cycled.ensures

pub act-overflow_add-at-then-tag-eq-BY_RULE : goal.act-overflow_add-at-then-tag-eq-BY_RULE
act-overflow_add-at-then-tag-eq-BY_RULE t c = omega arith

pub act-ahead-requires : goal.act-ahead-requires
act-ahead-requires t c = omega arith

pub act-valued-requires : goal.act-valued-requires
act-valued-requires t c = let m = c.ahead.ensures.moved (omega arith) (omega arith) in (omega arith, omega arith)

pub act-returns-then-tag-eq-BY_RULE : goal.act-returns-then-tag-eq-BY_RULE
act-returns-then-tag-eq-BY_RULE t c =
    let a = c.args in
    let h = c.requires.0 in
    rule_told a.wanted.now a.cells.now a.at (known_in a.known.passed a.facts.now a.known.count) c.valued.result c.calling.result c.cell-r.result c.ahead.result h (sym c.number-tag.ensures.0 ∙ c.if-tag-eq-BY_RULE.true) c.cell-r.ensures (c.ahead.ensures.moved (omega arith) h) c.ahead.ensures.there c.valued.ensures (rw c.wide.ensures.0 at c.calling.ensures)

pub act-ahead-to-requires : goal.act-ahead-to-requires
act-ahead-to-requires t c = omega arith

pub act-alts-requires : goal.act-alts-requires
act-alts-requires t c =
    let z : 0 < c.head.result = rw c.head.ensures (heads-some c.args.wanted.now _) in
    let m = c.ahead-to.ensures.moved z (omega arith) in
    (omega arith, omega arith)

pub act-returns-then-token-tag : goal.act-returns-then-token-tag
act-returns-then-token-tag t c =
    let a = c.args in
    let h = c.requires.0 in
    let z : 0 < c.head.result = rw c.head.ensures (heads-some a.wanted.now _) in
    choice-told a.wanted.now a.cells.now a.at (known_in a.known.passed a.facts.now a.known.count) c.alts.result c.number-tag.result c.head.result c.ahead-to.result _ h c.number-tag.ensures.0 c.if-token-tag.true refl c.head.ensures (c.ahead-to.ensures.moved z h) c.ahead-to.ensures.there c.alts.ensures

pub act-leaf-requires : goal.act-leaf-requires
act-leaf-requires t c = omega arith

pub act-returns : goal.act-returns
act-returns t c = let a = c.args in leaf-act a.wanted.now a.cells.now a.at a.known.passed a.facts.now a.known.count c.leaf.result c.number-tag.result c.requires.0 c.number-tag.ensures.0 c.if-tag-eq-CYCLE.false c.if-tag-eq-BY_RULE.false c.if-token-tag.false c.leaf.ensures

pub acts-ahead-requires : goal.acts-ahead-requires
acts-ahead-requires t c = omega arith

pub acts-returns-then-number-eq-END : goal.acts-returns-then-number-eq-END
acts-returns-then-number-eq-END t c =
    let a = c.args in
    let w = c.simple-w in
    left-done a.wanted.now a.cells.now a.at a.at (known_in a.known.passed a.facts.now a.known.count) c.simple-w.result c.placed.result c.ahead.result (sym c.number.ensures.0 ∙ c.if-number-eq-END.true) c.ahead.ensures.there c.placed.ensures (omega (arith, c.ahead.ensures.within.0)) c.ahead.ensures.within.1 (left-start a.wanted.now a.cells.now a.at (known_in a.known.passed a.facts.now a.known.count) c.simple-w.result a.at c.simple-w.ensures)

pub acts-loop-known-init : goal.acts-loop-known-init
acts-loop-known-init t c = let a = c.args in (omega arith, omega arith, left-start a.wanted.now a.cells.now a.at (known_in a.known.passed a.facts.now a.known.count) c.simple-w.result a.at c.simple-w.ensures)

pub acts-act-requires : goal.acts-act-requires
acts-act-requires t c = let z = nonzero-lt c.args.cells.now c.loop-known.i (λ e. c.loop-known-test.true (c.number-in-loop-known.ensures.0 ∙ e)) in (omega arith, (z, omega arith))

pub acts-loop-known-smaller : goal.acts-loop-known-smaller
acts-loop-known-smaller t c = let n = c.then-w.ensures.next in let s = c.act.ensures in omega (arith, c.act.ensures.after, c.act.ensures.within)

pub acts-loop-known-preserved : goal.acts-loop-known-preserved
acts-loop-known-preserved t c =
    let a = c.args in
    let n = c.then-w.ensures.next in
    let s = c.act.ensures in
    (omega (arith, c.act.ensures.after), omega (arith, c.act.ensures.within), λ t k l. left_step a.wanted.now a.cells.now c.loop-known.i (known_in a.known.passed a.facts.now a.known.count) c.loop-known.w c.act.result c.then-w.result t k (λ e. c.loop-known-test.true (c.number-in-loop-known.ensures.0 ∙ e)) s c.then-w.ensures (c.loop-known.invariant.2 t k l))

pub acts-ahead-requires-2 : goal.acts-ahead-requires-2
acts-ahead-requires-2 t c = omega arith

pub acts-returns : goal.acts-returns
acts-returns t c =
    let a = c.args in
    left-done a.wanted.now a.cells.now a.at c.loop-known.i (known_in a.known.passed a.facts.now a.known.count) c.loop-known.w c.placed-2.result c.ahead-2.result (sym c.number-in-loop-known.ensures.0 ∙ c.loop-known-test.false) c.ahead-2.ensures.there c.placed-2.ensures (omega (arith, c.ahead-2.ensures.within.0)) c.ahead-2.ensures.within.1 c.loop-known.invariant.2

pub alts-loop-tag-init : goal.alts-loop-tag-init
alts-loop-tag-init t c = let a = c.args in (omega arith, omega arith, c.number-tag.ensures.0, rest-start a.wanted.now a.cells.now a.at (known_in a.known.passed a.facts.now a.known.count) a.x c.simple-w.result a.at c.simple-w.ensures)

pub alts-overflow_sub-tag : goal.alts-overflow_sub-tag
alts-overflow_sub-tag t c = omega arith

pub alts-ahead-requires : goal.alts-ahead-requires
alts-ahead-requires t c = omega arith

pub alts-acts-b-requires : goal.alts-acts-b-requires
alts-acts-b-requires t c =
    let l = nonzero-lt c.args.cells.now c.loop-tag.i (λ e. omega (arith, c.loop-tag.invariant.2)) in
    let m = c.ahead.ensures.moved (omega arith) l in
    (omega arith, omega (arith, c.ahead.ensures.within.1))

pub alts-loop-tag-smaller : goal.alts-loop-tag-smaller
alts-loop-tag-smaller t c =
    let l = nonzero-lt c.args.cells.now c.loop-tag.i (λ e. omega (arith, c.loop-tag.invariant.2)) in
    let m = c.ahead.ensures.moved (omega arith) l in
    let s = c.acts-b.ensures in
    omega (arith, c.acts-b.ensures.after, c.acts-b.ensures.within)

pub alts-loop-tag-preserved : goal.alts-loop-tag-preserved
alts-loop-tag-preserved t c =
    let a = c.args in
    let I = c.loop-tag.invariant in
    let s = c.acts-b.ensures in
    let z : 64 ≤ get_or a.cells.now c.loop-tag.i 0 = omega (arith, I.2) in
    (omega (arith, c.ahead.ensures.within.0, c.acts-b.ensures.after), c.acts-b.ensures.within, c.number-tag-in-loop-tag.ensures.0, λ q o k l. rest-step a.wanted.now a.cells.now c.loop-tag.i (known_in a.known.passed a.facts.now a.known.count) a.x c.loop-tag.w c.acts-b.result c.either-w.result c.ahead.result q o k z (rw I.2 at c.ahead.ensures.there) s c.either-w.ensures (I.3 q o k l))

pub alts-ahead-requires-then-tag-eq-OTHERWISE : goal.alts-ahead-requires-then-tag-eq-OTHERWISE
alts-ahead-requires-then-tag-eq-OTHERWISE t c = omega arith

pub alts-acts-requires : goal.alts-acts-requires
alts-acts-requires t c =
    let l = nonzero-lt c.args.cells.now c.loop-tag.i (λ e. omega (arith, c.loop-tag.invariant.2, c.if-tag-eq-OTHERWISE.true)) in
    let m = c.ahead-then-tag-eq-OTHERWISE.ensures.moved (omega arith) l in
    (omega arith, omega (arith, c.ahead-then-tag-eq-OTHERWISE.ensures.within.1))

pub alts-returns-then-tag-eq-OTHERWISE : goal.alts-returns-then-tag-eq-OTHERWISE
alts-returns-then-tag-eq-OTHERWISE t c =
    let a = c.args in
    let I = c.loop-tag.invariant in
    rest-other a.wanted.now a.cells.now a.at c.loop-tag.i (known_in a.known.passed a.facts.now a.known.count) a.x a.y c.loop-tag.w c.acts.result c.either.result c.ahead-then-tag-eq-OTHERWISE.result (sym I.2 ∙ c.if-tag-eq-OTHERWISE.true) c.ahead-then-tag-eq-OTHERWISE.ensures.there c.acts.ensures c.either.ensures (omega (arith, c.ahead-then-tag-eq-OTHERWISE.ensures.within.0)) I.3

pub alts-ahead-requires-2 : goal.alts-ahead-requires-2
alts-ahead-requires-2 t c = omega arith

pub alts-returns : goal.alts-returns
alts-returns t c =
    let a = c.args in
    let I = c.loop-tag.invariant in
    rest-closed a.wanted.now a.cells.now a.at c.loop-tag.i (known_in a.known.passed a.facts.now a.known.count) a.x a.y c.loop-tag.w c.placed.result c.ahead-2.result (omega (arith, I.2)) (λ e. c.if-tag-eq-OTHERWISE.false (I.2 ∙ e)) c.ahead-2.ensures.there c.placed.ensures (omega (arith, c.ahead-2.ensures.within.0)) c.ahead-2.ensures.within.1 I.3

pub valued-loop-tag-init : goal.valued-loop-tag-init
valued-loop-tag-init t c = (omega arith, omega arith, c.number-tag.ensures.0, omega arith, refl, by-start c.args.wanted.now c.args.cells.now c.args.at (known_in c.args.known.passed c.args.facts.now c.args.known.count) c.args.r c.simple-w.result c.args.at c.simple-w.ensures)

pub valued-ahead-from-requires : goal.valued-ahead-from-requires
valued-ahead-from-requires t c = omega arith

pub valued-ahead-to-requires : goal.valued-ahead-to-requires
valued-ahead-to-requires t c = c.ahead-from.ensures.within.1

pub valued-collected-n-requires : goal.valued-collected-n-requires
valued-collected-n-requires t c = (c.ahead-to.ensures.within.0, c.ahead-to.ensures.within.1, omega (arith, c.loop-tag.invariant.4))

pub valued-acts-b-requires : goal.valued-acts-b-requires
valued-acts-b-requires t c =
    let l = nonzero-lt c.args.cells.now c.loop-tag.i (λ e. omega (arith, c.loop-tag.invariant.2)) in
    let m = c.ahead-from.ensures.moved (omega arith) l in
    (omega (arith, c.ahead-to.ensures.within.0), (omega (arith, c.ahead-to.ensures.within.1), c.requires.1))

pub valued-opened-requires : goal.valued-opened-requires
valued-opened-requires t c = (c.ahead-to.ensures.within.0, c.ahead-to.ensures.within.1, worth-few c.worth-m.ensures c.requires.1)

pub valued-loop-tag-smaller : goal.valued-loop-tag-smaller
valued-loop-tag-smaller t c =
    let l = nonzero-lt c.args.cells.now c.loop-tag.i (λ e. omega (arith, c.loop-tag.invariant.2)) in
    let m = c.ahead-from.ensures.moved (omega arith) l in
    let s = c.acts-b.ensures in
    omega (arith, c.acts-b.ensures.after, c.acts-b.ensures.within, c.ahead-to.ensures.within.0)

pub valued-loop-tag-preserved : goal.valued-loop-tag-preserved
unfolding known_in
valued-loop-tag-preserved t c =
    let I = c.loop-tag.invariant in
    let s = c.acts-b.ensures in
    let z : 64 ≤ get_or c.args.cells.now c.loop-tag.i 0 = omega (arith, I.2) in
    let e : length c.collected-n.new.labels ≡ 64 = search rules in
    (omega (arith, c.ahead-from.ensures.within.0, c.ahead-to.ensures.within.0, c.acts-b.ensures.after), c.acts-b.ensures.within, c.number-tag-in-loop-tag.ensures.0, omega (arith, c.collected-n.ensures.within, e), e, λ q o k g l. by-step c.args.wanted.now c.args.cells.now c.loop-tag.i (known_in c.args.known.passed c.args.facts.now c.args.known.count) c.args.r (some_in c.args.facts.now c.args.known.count c.args.r (λ v. listed v (take (c.ahead-to.result - c.ahead-from.result) (drop c.ahead-from.result c.args.cells.now)))) c.loop-tag.w c.acts-b.result c.either-w.result c.ahead-from.result c.ahead-to.result (take c.loop-tag.n c.loop-tag.labels) _ c.loop-tag.n c.collected-n.result q o k z c.ahead-from.ensures.there (rw I.2 at c.ahead-to.ensures.there) c.ahead-to.ensures.within.0 c.ahead-to.ensures.within.1 refl (λ h. c.collected-n.ensures.all.all (rw I.4 h)) s (either-worth c.args.r c.args.facts.now (λ v. listed v (take (c.ahead-to.result - c.ahead-from.result) (drop c.ahead-from.result c.args.cells.now))) c.worth-m.ensures c.opened.ensures c.either-w.ensures) (I.5 q o k g l))

pub valued-unnamed-y-requires : goal.valued-unnamed-y-requires
valued-unnamed-y-requires t c = (omega (arith, c.loop-tag.invariant.4), c.requires.1)

pub valued-ahead-requires : goal.valued-ahead-requires
valued-ahead-requires t c = omega arith

pub valued-acts-requires : goal.valued-acts-requires
valued-acts-requires t c =
    let l = nonzero-lt c.args.cells.now c.loop-tag.i (λ e. omega (arith, c.loop-tag.invariant.2, c.if-tag-eq-OTHERWISE.true)) in
    let m = c.ahead.ensures.moved (omega arith) l in
    (omega arith, (omega (arith, c.ahead.ensures.within.1), c.requires.1))

pub valued-returns-then-tag-eq-OTHERWISE : goal.valued-returns-then-tag-eq-OTHERWISE
unfolding known_in
valued-returns-then-tag-eq-OTHERWISE t c =
    let I = c.loop-tag.invariant in
    by-other c.args.wanted.now c.args.cells.now c.args.at c.loop-tag.i (known_in c.args.known.passed c.args.facts.now c.args.known.count) c.args.r c.unnamed-y.result c.loop-tag.w c.acts.result c.either.result (take c.loop-tag.n c.loop-tag.labels) c.loop-tag.n c.ahead.result (sym I.2 ∙ c.if-tag-eq-OTHERWISE.true) c.ahead.ensures.there (λ q f. c.unnamed-y.ensures ∙ unnamed-same c.args.facts.now c.args.known.count c.args.r (take c.loop-tag.n c.loop-tag.labels) q f) c.acts.ensures c.either.ensures (omega (arith, c.ahead.ensures.within.0)) I.5

pub valued-ahead-requires-2 : goal.valued-ahead-requires-2
valued-ahead-requires-2 t c = omega arith

pub valued-returns : goal.valued-returns
valued-returns t c =
    let I = c.loop-tag.invariant in
    by-closed c.args.wanted.now c.args.cells.now c.args.at c.loop-tag.i (known_in c.args.known.passed c.args.facts.now c.args.known.count) c.args.r c.loop-tag.w c.placed.result (take c.loop-tag.n c.loop-tag.labels) c.loop-tag.n c.ahead-2.result (omega (arith, I.2)) (λ e. c.if-tag-eq-OTHERWISE.false (I.2 ∙ e)) c.ahead-2.ensures.there c.placed.ensures (omega (arith, c.ahead-2.ensures.within.0)) c.ahead-2.ensures.within.1 I.5
