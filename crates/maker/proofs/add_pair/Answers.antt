-- `maker::add_pair` meets its contract.
use mathlib.Core.Path.{refl}
use Rattle.maker.proofs.Holding.{pair_put}
use Rattle.maker.proofs.add_pair.Goals as goal

-- src/lib.rt:233:1
pub returns : goal.returns
returns c = pair_put c.requires.0 c.put_three.ensures refl
