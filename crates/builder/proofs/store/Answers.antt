-- `builder::store` meets its contract.
use mathlib.Core.Path.{refl, ap}
use lib.ListN.{set}
use Rattle.builder.proofs.store.Goals as goal

pub returns : goal.returns
returns c = record { starts_after = refl; sorts_after = ap (λ t. set c.args.sorts.now c.args.k t) c.sort_of.ensures }
