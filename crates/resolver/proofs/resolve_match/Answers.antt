-- `resolver::resolve_match` meets its contract.
use Rattle.resolver.proofs.Rests.{match-stops, match-goes}
use Rattle.resolver.proofs.resolve_match.Goals as goal

pub returns-then-k-eq-OPENING : goal.returns-then-k-eq-OPENING
returns-then-k-eq-OPENING c = λ rows n. match-stops rows n _ _ c.requires.0 c.next_word-k.ensures c.if-k-eq-OPENING.true c.refused.ensures

pub returns : goal.returns
returns c = λ rows n. match-goes rows n _ _ c.requires.0 c.next_word-k.ensures c.if-k-eq-OPENING.false c.put_two-c.ensures c.went.ensures
