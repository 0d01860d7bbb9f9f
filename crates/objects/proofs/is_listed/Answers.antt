-- `objects::is_listed` meets its contract: the lines passed have another name, so that those left decide.
use native.Mathlib.Omega.{arith}
use mathlib.Core.Path.{refl, sym, ◌∙◌}
use Rattle.objects.proofs.Looked.{listed-none, listed_found, listed-later, line-is}
use Rattle.objects.proofs.is_listed.Goals as goal

pub loop-i-init : goal.loop-i-init
loop-i-init c = λ hs n x y. refl

pub returns-then-is_part : goal.returns-then-is_part
returns-then-is_part c = λ hs n x y. let m = x.as_many in sym (c.loop-i.invariant hs n x y ∙ listed_found hs c.loop-i.i n (omega (arith, m)) (line-is x n.text c.loop-i.i c.from-start.result c.from-size.result c.is_part.result (omega (arith, m)) c.from-start.ensures c.from-size.ensures (λ l. c.is_part.ensures n l y) ∙ c.if-is_part.true))

pub loop-i-preserved : goal.loop-i-preserved
loop-i-preserved c = λ hs n x y. let m = x.as_many in c.loop-i.invariant hs n x y ∙ listed-later hs c.loop-i.i n (omega (arith, m)) (line-is x n.text c.loop-i.i c.from-start.result c.from-size.result c.is_part.result (omega (arith, m)) c.from-start.ensures c.from-size.ensures (λ l. c.is_part.ensures n l y) ∙ c.if-is_part.false)

pub returns : goal.returns
returns c = λ hs n x y. let m = x.as_many in sym (c.loop-i.invariant hs n x y ∙ listed-none hs c.loop-i.i n (omega (arith, m)))
