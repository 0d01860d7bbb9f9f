-- `objects::rules_in_order` meets its contract: those passed are in order.
use Prim.Native.Nat.{◌+◌, ◌-◌}
use Rattle.machine.specs.Bytes.{words_of}
use Rattle.objects.proofs.Every.{passing-all, heading, all-passed, first-fails, first_passes}
use Rattle.objects.proofs.Views.{rule-exact}
use Rattle.objects.specs.Order.{rule_in_order}
use mathlib.Core.Path.{refl}
use native.Mathlib.Omega.{arith}
use Rattle.objects.proofs.rules_in_order.Goals as goal

pub loop-init : goal.loop-init
loop-init c =
    let a = c.args in
    let w = words_of a.objects.now in
    (omega arith, λ hs v h x. passing-all rule-exact w (rule_in_order hs v.pairs) v.rules x.behind (a.scope.rules.count - 0) a.scope.rules.count a.scope.rules.at a.scope.rules.at (omega arith) refl x.rules_there)

pub returns-then-not-rule_in_order : goal.returns-then-not-rule_in_order
returns-then-not-rule_in_order c =
    let a = c.args in
    let w = words_of a.objects.now in
    let i = c.loop.counter in
    λ hs v h x.
    let y = heading rule-exact w (rule_in_order hs v.pairs) v.rules x.behind (a.scope.rules.count - (i + 1)) (c.loop.invariant.1 hs v h x) (omega arith) in
    first-fails rule-exact w (rule_in_order hs v.pairs) v.rules x.behind y _ (c.rule_in_order.ensures hs v.pairs y.first y.tail x.between h x.pairs_there y.here) c.if-not-rule_in_order.true

pub returns-in_default : goal.returns-in_default
returns-in_default c =
    let a = c.args in
    let w = words_of a.objects.now in
    let i = c.loop.counter in
    λ hs v h x.
    let y = heading rule-exact w (rule_in_order hs v.pairs) v.rules x.behind (a.scope.rules.count - (i + 1)) (c.loop.invariant.1 hs v h x) (omega arith) in
    absurd (y.there c.in_default.ensures.ends)

pub loop-preserved : goal.loop-preserved
loop-preserved c =
    let a = c.args in
    let w = words_of a.objects.now in
    let i = c.loop.counter in (
      c.in-Some.ensures.within,
      λ hs v h x.
          let y = heading rule-exact w (rule_in_order hs v.pairs) v.rules x.behind (a.scope.rules.count - (i + 1)) (c.loop.invariant.1 hs v h x) (omega arith) in
          first_passes rule-exact w (rule_in_order hs v.pairs) v.rules x.behind y _ (c.rule_in_order.ensures hs v.pairs y.first y.tail x.between h x.pairs_there y.here) c.if-not-rule_in_order.false _ c.in-Some.ensures.ends,
    )

pub returns : goal.returns
returns c =
    let a = c.args in
    let w = words_of a.objects.now in
    λ hs v h x. all-passed rule-exact w (rule_in_order hs v.pairs) v.rules x.behind (c.loop.invariant.1 hs v h x) (omega arith)
