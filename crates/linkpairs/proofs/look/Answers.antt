-- `linkpairs::look` meets its contract: the pairs passed are others.
use mathlib.Core.Path.{sym, ◌∙◌}
use native.Mathlib.Omega.{arith}
use Prim.Native.Nat.{◌<◌}
use lib.ListN.{length-take}
use Rattle.std.proofs.lemmas.List.{get_or-take}
use Rattle.linkpairs.proofs.Looking.{look-first, look-here, look-on, look-end}
use Rattle.machine.specs.Bytes.{words_of}
use Rattle.linkpairs.proofs.look.Goals as goal

pub loop-i-init : goal.loop-i-init
loop-i-init c = λ us u e s x. look-first e s

pub returns-then-same_pair : goal.returns-then-same_pair
returns-then-same_pair c =
    let a = c.args in
    let l : c.loop-i.i < a.count = omega (arith, length-take a.count a.sites.now, c.loop-i-test.true) in
    let e = get_or-take a.count a.sites.now c.loop-i.i 0 l in
    record { low = l; is = λ us u m s x. look-here (words_of a.objects.now) a.sites.now us u a.count c.loop-i.i (c.loop-i.invariant us u m s x) l (λ v y. sym (c.same_pair.ensures u v x (rw e y)) ∙ c.if-same_pair.true) }

pub loop-i-preserved : goal.loop-i-preserved
loop-i-preserved c =
    let a = c.args in
    let l : c.loop-i.i < a.count = omega (arith, length-take a.count a.sites.now, c.loop-i-test.true) in
    let e = get_or-take a.count a.sites.now c.loop-i.i 0 l in
    λ us u m s x. look-on (words_of a.objects.now) a.sites.now us u a.count c.loop-i.i (c.loop-i.invariant us u m s x) l (λ v y. sym (c.same_pair.ensures u v x (rw e y)) ∙ c.if-same_pair.false)

pub returns : goal.returns
returns c =
    let a = c.args in
    let n = length-take a.count a.sites.now in
    record {
      low = tt;
      is = λ us u m s x.
          let z = look-end (words_of a.objects.now) a.sites.now us u a.count c.loop-i.i (c.loop-i.invariant us u m s x) (omega (arith, n, c.loop-i-test.false, c.requires)) in
          omega (arith, z, n, c.loop-i-test.false, c.loop-i.auto, c.requires);
    }
