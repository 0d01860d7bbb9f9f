-- `resolver::resolve_exit` meets its contract.
use mathlib.Core.Path.{refl}
use Rattle.resolver.proofs.Rests.{exit-goes, exit-stops}
use Rattle.resolver.proofs.resolve_exit.Goals as goal

pub returns-then-inside : goal.returns-then-inside
returns-then-inside c = λ text rows n lies. exit-goes _ _ lies c.if-inside.true c.put-count.ensures refl refl refl refl

pub returns : goal.returns
returns c = λ text rows n lies. exit-stops _ _ lies c.if-inside.false c.refused.ensures
