-- `resolver::resolve_named` meets its contract.
use Rattle.resolver.proofs.Rests.{named-matches, named-updates}
use Rattle.resolver.proofs.resolve_named.Goals as goal

pub returns-in-Some : goal.returns-in-Some
returns-in-Some c = named-matches c.args.w c.in-Some.ensures.same (c.resolve_match.ensures _ _)

pub returns-in-None : goal.returns-in-None
returns-in-None c = named-updates c.args.w c.in-None.ensures.same c.resolve_update.ensures
