-- `maker::lowest` meets its contract.
use mathlib.Core.Path.{ap, ◌∙◌}
use Prim.Native.Nat.{ℕ}
use Rattle.std.specs.Prelude.{Option, unwrap_or}
use Rattle.maker.proofs.Holding.{lowest-found}
use Rattle.maker.proofs.lowest.Goals as goal

pub returns-clause-same : goal.returns-clause-same
returns-clause-same c = c.unwrap_or.ensures ∙ (ap (λ (v : Option ℕ). unwrap_or v 0) c.look_pair.ensures.same ∙ lowest-found c.args.rows.now c.args.section c.args.operand)
