-- `resolver::resolve_emit` meets its contract.
use Rattle.program.specs.Program.{emit}
use Rattle.resolver.proofs.Plains.{emit-sends}
use Rattle.resolver.proofs.resolve_emit.Goals as goal

pub returns : goal.returns
returns c = c.resolve_sent.ensures emit emit-sends
