-- `resolver::parameter_value` meets its contract.
use mathlib.Core.Path.{refl}
use Rattle.resolver.proofs.Looking.{found-row, not-found}
use Rattle.resolver.proofs.Rests.{value-stops, value-goes}
use Rattle.symbols.proofs.Numbered.{fault-some}
use Rattle.resolver.proofs.parameter_value.Goals as goal

pub returns-in-Err : goal.returns-in-Err
returns-in-Err c = value-stops _ _ c.next_word-c.ensures c.requires.0 (not-found (c.in-Err.ensures.looks _)) (fault-some c.in-Err.fault) c.refused.ensures.fault c.refused.ensures.at c.refused.ensures.len refl

pub returns-in-Ok : goal.returns-in-Ok
returns-in-Ok c = value-goes _ _ c.next_word-c.ensures c.requires.0 (found-row (c.in-Ok.ensures.looks _)) _ c.next_word-e.ensures refl refl refl refl refl c.in-Ok.ensures.low
