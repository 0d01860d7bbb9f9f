-- `resolver::resolve_sent` meets its contract.
use Rattle.resolver.proofs.Looking.{found-row, not-found}
use Rattle.symbols.proofs.Numbered.{fault-some}
use mathlib.Core.Path.{refl}
use Rattle.resolver.proofs.Rests.{sent-stops, sent-goes}
use Rattle.resolver.proofs.resolve_sent.Goals as goal

pub returns-in-Err : goal.returns-in-Err
returns-in-Err c = λ f s. sent-stops _ f _ c.next_word-w.ensures c.requires.0 (not-found (c.in-Err.ensures.looks _)) (fault-some c.in-Err.fault) c.refused.ensures

pub returns : goal.returns
returns c = λ f s. sent-goes _ f _ c.next_word-w.ensures c.requires.0 (found-row (c.in-Ok.ensures.looks _)) refl s c.put_two-c.ensures c.went.ensures
