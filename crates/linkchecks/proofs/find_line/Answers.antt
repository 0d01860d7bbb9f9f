-- `linkchecks::find_line` meets its contract: the lines passed have other names.
use native.Mathlib.Omega.{arith}
use mathlib.Core.Path.{◌∙◌}
use Rattle.objects.proofs.Looked.{line-is}
use Rattle.linkchecks.proofs.Finding.{line-none, line-found, line-later}
use Rattle.linkchecks.proofs.find_line.Goals as goal

pub loop-i-init : goal.loop-i-init
loop-i-init c = λ hs n x y. omega arith

pub returns-then-is_part : goal.returns-then-is_part
returns-then-is_part c = record { within = omega arith; is = λ hs n x y. let m = x.as_many in let e = c.loop-i.invariant hs n x y in let f = line-found n.text hs c.loop-i.i (omega (arith, m)) (line-is x n.text c.loop-i.i c.from-start.result c.from-size.result c.is_part.result (omega (arith, m)) c.from-start.ensures c.from-size.ensures (λ l. c.is_part.ensures n l y) ∙ c.if-is_part.true) in omega (arith, e, f) }

pub loop-i-preserved : goal.loop-i-preserved
loop-i-preserved c = λ hs n x y. let m = x.as_many in let e = c.loop-i.invariant hs n x y in let f = line-later n.text hs c.loop-i.i (omega (arith, m)) (line-is x n.text c.loop-i.i c.from-start.result c.from-size.result c.is_part.result (omega (arith, m)) c.from-start.ensures c.from-size.ensures (λ l. c.is_part.ensures n l y) ∙ c.if-is_part.false) in omega (arith, e, f)

pub returns : goal.returns
returns c = record { within = tt; is = λ hs n x y. let m = x.as_many in let e = c.loop-i.invariant hs n x y in let f = line-none n.text hs c.loop-i.i (omega (arith, m)) in omega (arith, e, f) }
