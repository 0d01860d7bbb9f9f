-- `objects::is_called` meets its contract: the rules passed call others.
use native.Mathlib.Omega.{arith}
use mathlib.Core.Path.{refl, sym, ◌∙◌}
use Prim.Native.Nat.{◌+◌, ◌-◌}
use Rattle.machine.specs.Bytes.{words_of}
use Rattle.objects.proofs.Called.{seeking-rules, no-rule-left, rules-by, found-rule, not-rule}
use Rattle.objects.proofs.is_called.Goals as goal

pub loop-init : goal.loop-init
loop-init c = (omega arith, λ vs m rest e x. let a = c.args in seeking-rules (words_of a.objects.now) vs rest m (a.n - 0) a.n a.at a.at (omega arith) refl e)

pub returns-then-calls_name : goal.returns-then-calls_name
returns-then-calls_name c = λ vs m rest e x. let a = c.args in let w = words_of a.objects.now in let i = c.loop.counter in let y = rules-by w vs rest m (a.n - (i + 1)) (c.loop.invariant.1 vs m rest e x) (omega arith) in sym c.if-calls_name.true ∙ found-rule w vs rest m y _ (c.calls_name.ensures y.first m y.tail y.here x) c.if-calls_name.true

pub returns-in_default : goal.returns-in_default
returns-in_default c = λ vs m rest e x. let a = c.args in let w = words_of a.objects.now in let i = c.loop.counter in let y = rules-by w vs rest m (a.n - (i + 1)) (c.loop.invariant.1 vs m rest e x) (omega arith) in absurd (y.there c.in_default.ensures.ends)

pub loop-preserved : goal.loop-preserved
loop-preserved c = (c.in-Some.ensures.within, λ vs m rest e x. let a = c.args in let w = words_of a.objects.now in let i = c.loop.counter in let y = rules-by w vs rest m (a.n - (i + 1)) (c.loop.invariant.1 vs m rest e x) (omega arith) in not-rule w vs rest m y _ (c.calls_name.ensures y.first m y.tail y.here x) c.if-calls_name.false _ c.in-Some.ensures.ends)

pub returns : goal.returns
returns c = λ vs m rest e x. no-rule-left _ vs rest m (c.loop.invariant.1 vs m rest e x) (omega arith)
