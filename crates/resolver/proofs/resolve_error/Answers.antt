-- `resolver::resolve_error` meets its contract.
use Rattle.program.specs.Program.{error}
use Rattle.resolver.proofs.Plains.{error-sends}
use Rattle.resolver.proofs.resolve_error.Goals as goal

pub returns : goal.returns
returns c = c.resolve_sent.ensures error error-sends
