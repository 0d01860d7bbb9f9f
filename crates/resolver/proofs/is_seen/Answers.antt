-- `resolver::is_seen` meets its contract.
use mathlib.Core.Path.{◌∙◌}
use Rattle.resolver.proofs.Labelling.{seen-any}
use Rattle.resolver.proofs.is_seen.Goals as goal

pub returns : goal.returns
returns c = c.contains.ensures.value ∙ seen-any c.args.v _
