-- `firmware::put_phase` meets its contract: by the phases.
use mathlib.Core.List.{List}
use mathlib.Core.Path.{sym, ap, ◌∙◌}
use Prim.Native.Nat.{ℕ}
use Rattle.machine.specs.Form.{phase_words}
use Rattle.walker.proofs.Link.{number-reason}
use Rattle.walker.specs.View.{phase_of}
use Rattle.walker.specs.declared.Phase.{Phase}
use Rattle.firmware.specs.Writes.{puts}
use Rattle.firmware.proofs.put_phase.Goals as goal

-- `firmware::put_phase` meets its contract: by the phases.
-- the words of a phase, written
abbrev written : List ℕ → Phase → List ℕ
written s p = puts s 0 (phase_words (phase_of p))

pub returns-in-Going : goal.returns-in-Going
unfolding phase_words phase_of
returns-in-Going c = c.put_two.ensures ∙ sym (ap (written c.args.out.now) c.in-Going.is)

pub returns-in-Waiting : goal.returns-in-Waiting
unfolding phase_words phase_of
returns-in-Waiting c = c.put_two-in-Waiting.ensures ∙ sym (ap (written c.args.out.now) c.in-Waiting.is)

pub returns-in-Stopped : goal.returns-in-Stopped
unfolding phase_words phase_of
returns-in-Stopped c =
    let number = c.from.ensures ∙ number-reason _ in
    c.put_two-in-Stopped.ensures ∙ rw number (sym (ap (written c.args.out.now) c.in-Stopped.is))
