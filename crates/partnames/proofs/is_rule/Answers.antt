-- `partnames::is_rule` meets its contract.
use mathlib.Core.Path.{refl}
use native.Mathlib.Omega.{arith}
use Rattle.partnames.proofs.Mentioned.{search-hit, search-on, search-end}
use Rattle.partnames.proofs.is_rule.Goals as goal

pub loop-i-init : goal.loop-i-init
loop-i-init c = record { rest = refl }

pub returns-then-same_part : goal.returns-then-same_part
returns-then-same_part c = search-hit c.loop-i.invariant (omega arith) c.same_part.ensures c.number-name.ensures.0 c.number-size.ensures.0 c.if-same_part.true

pub loop-i-preserved : goal.loop-i-preserved
loop-i-preserved c = search-on c.loop-i.invariant (omega arith) c.same_part.ensures c.number-name.ensures.0 c.number-size.ensures.0 _ refl c.if-same_part.false

pub returns : goal.returns
returns c = search-end c.loop-i.invariant (omega arith)
