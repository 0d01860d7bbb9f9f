-- `partnames::settle` meets its contract.
use mathlib.Core.Path.{refl}
use Rattle.std.proofs.lemmas.Result.{err_from_is_err_and}
use Rattle.partnames.proofs.Settled.{settles-wrong, settles-lines}
use Rattle.symbols.proofs.Numbered.{fault-some}
use Rattle.partnames.proofs.settle.Goals as goal

pub returns-in_err-check_declarations : goal.returns-in_err-check_declarations
returns-in_err-check_declarations c = let p = err_from_is_err_and c.from_residual.result c.from_residual.ensures.1 in rw (p.1, p.2) (settles-wrong c.index.ensures.rows.size c.index.ensures.index c.index.ensures.held c.in_err-check_declarations.ensures (fault-some _))

pub returns : goal.returns
returns c = settles-lines c.check_declarations.result c.index.ensures.rows.size c.index.ensures.index c.index.ensures.held c.check_declarations.ensures (rw c.in_ok-check_declarations.was refl) c.requires.2 c.check_lines.ensures
