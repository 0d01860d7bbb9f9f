-- Every program of `Agreements` walks the same by its rules and over its table, at once, in pieces and in pauses: by computation.
use mathlib.Core.List.{◌++◌}
use lib.Dec.{T}
use Rattle.cases.specs.Agreements
use Rattle.cases.specs.Agreements.{all_agree, agrees_at_once, agrees_in_calls, agreements, repairs, deep_agreements}
use Rattle.events.specs.Events
use Rattle.machine.specs.Bytes
use Rattle.machine.specs.Call
use Rattle.machine.specs.Decode
use Rattle.machine.specs.Form
use Rattle.machine.specs.Lengths
use Rattle.machine.specs.Step
use Rattle.machine.specs.Walk
use Rattle.names.specs.Declare
use Rattle.names.specs.Known
use Rattle.names.specs.Resolve
use Rattle.names.specs.Understand
use Rattle.names.specs.Uses
use Rattle.program.specs.Made
use Rattle.ownwalk.specs.OwnWalk
use Rattle.processor.specs.Process
use Rattle.program.specs.Past
use Rattle.program.specs.Program
use Rattle.program.specs.Table
use Rattle.syntax.specs.Actions
use Rattle.syntax.specs.Parse
use Rattle.syntax.specs.Reading
use Rattle.syntax.specs.Sections
use Rattle.words.specs.Words

-- the definitions compute where this is unfolded
walking : Unit {0}
unfolding Words.opened Reading.opened Actions.opened Sections.opened Parse.opened Known.opened Declare.opened Resolve.opened Understand.opened Uses.opened Made.opened Program.opened Past.opened Table.opened Process.opened Events.opened Bytes.opened Lengths.opened Decode.opened Walk.opened Step.opened Call.opened Form.opened OwnWalk.opened
walking = tt

pub all-agree-at-once : T (all_agree agrees_at_once (agreements ++ repairs ++ deep_agreements))
unfolding walking Agreements.opened
all-agree-at-once = tt

pub all-agree-in-calls : T (all_agree agrees_in_calls (agreements ++ repairs))
unfolding walking Agreements.opened
all-agree-in-calls = tt
