-- `objects::among_names` meets its contract: the names passed are others.
use native.Mathlib.Omega.{arith}
use mathlib.Core.Path.{refl, sym, ◌∙◌}
use Prim.Native.Nat.{◌+◌, ◌-◌}
use Rattle.machine.specs.Bytes.{words_of}
use Rattle.objects.proofs.Among.{seeking, none_left, leads-by, found_first, not_first}
use Rattle.objects.proofs.among_names.Goals as goal

pub loop-init : goal.loop-init
loop-init c = (omega arith, λ ns m rest e x. let a = c.args in seeking (words_of a.objects.now) ns rest m (a.n - 0) a.n a.at a.at (omega arith) refl e)

pub returns-then-same_names : goal.returns-then-same_names
returns-then-same_names c = λ ns m rest e x. let a = c.args in let w = words_of a.objects.now in let i = c.loop.counter in let y = leads-by w ns rest m (a.n - (i + 1)) (c.loop.invariant.1 ns m rest e x) (omega arith) in sym c.if-same_names.true ∙ found_first w ns rest m y _ (c.same_names.ensures m y.first x y.here) c.if-same_names.true

pub returns-in_default : goal.returns-in_default
returns-in_default c = λ ns m rest e x. let a = c.args in let w = words_of a.objects.now in let i = c.loop.counter in let y = leads-by w ns rest m (a.n - (i + 1)) (c.loop.invariant.1 ns m rest e x) (omega arith) in absurd (y.there c.in_default.ensures.ends)

pub loop-preserved : goal.loop-preserved
loop-preserved c = (c.in-Some.ensures.within, λ ns m rest e x. let a = c.args in let w = words_of a.objects.now in let i = c.loop.counter in let y = leads-by w ns rest m (a.n - (i + 1)) (c.loop.invariant.1 ns m rest e x) (omega arith) in not_first w ns rest m y _ (c.same_names.ensures m y.first x y.here) c.if-same_names.false _ c.in-Some.ensures.ends)

pub returns : goal.returns
returns c = λ ns m rest e x. none_left _ ns rest m (c.loop.invariant.1 ns m rest e x) (omega arith)
