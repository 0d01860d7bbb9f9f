-- `firmware::reason_or_none` meets its contract: by the phases.
use mathlib.Core.Logic.{⊎_elim}
use mathlib.Core.Path.{refl, sym, ap, ◌∙◌}
use Rattle.walker.proofs.Link.{number-reason}
use Rattle.walker.specs.View as view
use Rattle.walker.specs.declared.Phase.{Phase}
use Rattle.firmware.specs.Entries.{reason_in}
use Rattle.firmware.proofs.reason_or_none.Goals as goal

pub returns-in-Going : goal.returns-in-Going
unfolding reason_in view.phase_of
returns-in-Going c = ⊎_elim (λ e. rw e refl) (λ e. rw e refl) c.in-Going.is

pub returns-in-Stopped : goal.returns-in-Stopped
unfolding reason_in view.phase_of
returns-in-Stopped c = c.from.ensures ∙ number-reason _ ∙ sym (ap (λ (p : Phase). reason_in (view.phase_of p)) c.in-Stopped.is)
