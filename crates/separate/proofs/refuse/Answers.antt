-- `separate::refuse` meets its contract.
use mathlib.Core.Path.{refl}
use Rattle.buffers.specs.Words.{zeroed}
use Rattle.parts.specs.Form.{lent_object}
use Rattle.separate.specs.Answers.{answered, lent_bytes}
use Rattle.separate.proofs.refuse.Goals as goal

pub returns : goal.returns
unfolding answered lent_bytes lent_object zeroed
returns c = record { answer = refl; lent = c.clear_words.ensures }
