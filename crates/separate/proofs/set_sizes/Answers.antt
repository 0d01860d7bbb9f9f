-- `separate::set_sizes` meets its contract.
use mathlib.Core.Path.{refl}
use Rattle.separate.proofs.Objects.{sized-words}
use Rattle.separate.proofs.set_sizes.Goals as goal

pub returns : goal.returns
returns c = sized-words _ _ _ _ _ _ _ c.saturating_sub-behind.ensures refl refl refl c.set_word.ensures.words c.set_word-2.ensures.words c.set_word-3.ensures.words
