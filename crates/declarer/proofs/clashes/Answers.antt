-- `declarer::clashes` meets its contract.
use Rattle.declarations.specs.Decls.{clashes_in}
use Rattle.declarer.proofs.clashes.Goals as goal

pub returns : goal.returns
unfolding clashes_in
returns c = c.name_taken.ensures
