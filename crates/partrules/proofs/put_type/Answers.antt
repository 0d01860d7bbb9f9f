-- `partrules::put_type` meets its contract.
use native.Mathlib.Omega.{arith}
use mathlib.Core.Path.{refl}
use Rattle.partrules.proofs.Writing.{type-absent, type-there}
use Rattle.partrules.proofs.put_type.Goals as goal

pub returns-then-g-ne-TWICE : goal.returns-then-g-ne-TWICE
returns-then-g-ne-TWICE c = type-absent c.requires.0 c.next_word-g.ensures c.if-g-ne-TWICE.true c.put-count.ensures refl

pub put_name-count-requires : goal.put_name-count-requires
put_name-count-requires c = let g = c.requires in let n = c.next_word-g.ensures in let w = c.next_word-w.ensures in (c.next_word-w.ensures.inside (c.next_word-g.ensures.high g.0), g.1)

pub returns : goal.returns
returns c = type-there c.requires.0 c.next_word-g.ensures (omega (arith, c.if-g-ne-TWICE.false)) c.next_word-w.ensures c.put-n.ensures c.put_name-count.ensures c.next_word-d.ensures refl
