-- `levels::put_level` meets its contract.
use native.Mathlib.Omega.{arith}
use Rattle.levels.proofs.Putting.{called-low, level-put}
use Rattle.resolver.proofs.Appending.{appends-length, appends-bound}
use Rattle.levels.proofs.put_level.Goals as goal

-- src/lib.rt:187:9
pub put_operators-b-requires : goal.put_operators-b-requires
put_operators-b-requires c = (c.requires.0, c.requires.1, called-low _ _ _ c.called_by.ensures c.requires.2 c.requires.3, omega (arith, appends-bound c.open_level-a.ensures, appends-length c.open_level-a.ensures))

-- src/lib.rt:174:1
pub returns : goal.returns
returns c = level-put _ c.called_by.ensures c.open_level-a.ensures c.put_operators-b.ensures c.close_level.ensures
