-- `objects::pairs_in_order` meets its contract: those passed are in order.
use Prim.Native.Nat.{◌+◌, ◌-◌}
use Rattle.machine.specs.Bytes.{words_of}
use Rattle.objects.proofs.Every.{passing-all, heading, all-passed, first-fails, first_passes}
use Rattle.objects.proofs.Views.{pair-exact}
use Rattle.objects.specs.Whole.{pair_in_order}
use mathlib.Core.Path.{refl}
use native.Mathlib.Omega.{arith}
use Rattle.objects.proofs.pairs_in_order.Goals as goal

pub loop-init : goal.loop-init
loop-init c =
    let a = c.args in
    let w = words_of a.objects.now in
    (omega arith, λ hs n v h s x. passing-all pair-exact w (pair_in_order hs n v.rules) v.pairs x.between (a.scope.pairs.count - 0) a.scope.pairs.count a.scope.pairs.at a.scope.pairs.at (omega arith) refl x.pairs_there)

pub returns-then-not-pair_in_order : goal.returns-then-not-pair_in_order
returns-then-not-pair_in_order c =
    let a = c.args in
    let w = words_of a.objects.now in
    let i = c.loop.counter in
    λ hs n v h s x.
    let y = heading pair-exact w (pair_in_order hs n v.rules) v.pairs x.between (a.scope.pairs.count - (i + 1)) (c.loop.invariant.1 hs n v h s x) (omega arith) in
    first-fails pair-exact w (pair_in_order hs n v.rules) v.pairs x.between y _ (c.pair_in_order.ensures hs n v.rules y.first y.tail x.behind h s x.rules_there y.here) c.if-not-pair_in_order.true

pub returns-in_default : goal.returns-in_default
returns-in_default c =
    let a = c.args in
    let w = words_of a.objects.now in
    let i = c.loop.counter in
    λ hs n v h s x.
    let y = heading pair-exact w (pair_in_order hs n v.rules) v.pairs x.between (a.scope.pairs.count - (i + 1)) (c.loop.invariant.1 hs n v h s x) (omega arith) in
    absurd (y.there c.in_default.ensures.ends)

pub loop-preserved : goal.loop-preserved
loop-preserved c =
    let a = c.args in
    let w = words_of a.objects.now in
    let i = c.loop.counter in (
      c.in-Some.ensures.within,
      λ hs n v h s x.
          let y = heading pair-exact w (pair_in_order hs n v.rules) v.pairs x.between (a.scope.pairs.count - (i + 1)) (c.loop.invariant.1 hs n v h s x) (omega arith) in
          first_passes pair-exact w (pair_in_order hs n v.rules) v.pairs x.between y _ (c.pair_in_order.ensures hs n v.rules y.first y.tail x.behind h s x.rules_there y.here) c.if-not-pair_in_order.false _ c.in-Some.ensures.ends,
    )

pub returns : goal.returns
returns c =
    let a = c.args in
    let w = words_of a.objects.now in
    λ hs n v h s x. all-passed pair-exact w (pair_in_order hs n v.rules) v.pairs x.between (c.loop.invariant.1 hs n v h s x) (omega arith)
