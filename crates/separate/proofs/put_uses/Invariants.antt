-- `separate::put_uses` meets its contract.
use mathlib.Core.List.{List}
use mathlib.Core.Path.{◌≡◌}
use lib.ListN.{length}
use Rattle.names.specs.Uses.{Use}
use Rattle.partpairs.specs.Pairing.{UsesAt}
use Rattle.separate.proofs.Writing.{Rest}
use Rattle.separate.proofs.put_uses.Given as goal

abbrev pub invariant-loop-sign : goal.invariant-loop-sign
invariant-loop-sign l = (length l.object ≡ length l.initial.object) × ((us : List Use) → l.count ≡ length us → UsesAt l.text l.signs 0 us → Rest l.text l.signs l.sign-index l.count l.moved l.object l.n l.initial.object l.c us)
