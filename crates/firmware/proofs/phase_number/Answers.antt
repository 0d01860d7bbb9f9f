-- `firmware::phase_number` meets its contract: by the phases.
use mathlib.Core.Path.{sym, ap}
use Rattle.walker.specs.View as view
use Rattle.walker.specs.declared.Phase.{Phase}
use Rattle.firmware.specs.Entries.{phase_in}
use Rattle.firmware.proofs.phase_number.Goals as goal

pub returns-in-Going : goal.returns-in-Going
unfolding phase_in view.phase_of
returns-in-Going c = sym (ap (λ (p : Phase). phase_in (view.phase_of p)) c.in-Going.is)

pub returns-in-Waiting : goal.returns-in-Waiting
unfolding phase_in view.phase_of
returns-in-Waiting c = sym (ap (λ (p : Phase). phase_in (view.phase_of p)) c.in-Waiting.is)

pub returns-in-Stopped : goal.returns-in-Stopped
unfolding phase_in view.phase_of
returns-in-Stopped c = sym (ap (λ (p : Phase). phase_in (view.phase_of p)) c.in-Stopped.is)
