-- Every case holds, by computation: P1 to P8, the refusals, the acceptances.
use lib.Dec.{T}
use Rattle.cases.specs.Acceptances
use Rattle.cases.specs.Acceptances.{all_give, acceptances}
use Rattle.cases.specs.Cases
use Rattle.cases.specs.Cases.{all_hold, cases}
use Rattle.cases.specs.Refusals
use Rattle.cases.specs.Refusals.{all_agree, refusals}
use Rattle.events.specs.Events
use Rattle.finishing.specs.Test
use Rattle.machine.specs.Bytes
use Rattle.machine.specs.Call
use Rattle.machine.specs.Decode
use Rattle.machine.specs.Form
use Rattle.machine.specs.Lengths
use Rattle.machine.specs.Step
use Rattle.machine.specs.Walk
use Rattle.names.specs.Declare
use Rattle.names.specs.Known
use Rattle.names.specs.Resolve
use Rattle.names.specs.Understand
use Rattle.names.specs.Uses
use Rattle.program.specs.Made
use Rattle.processor.specs.Process
use Rattle.program.specs.Past
use Rattle.program.specs.Program
use Rattle.program.specs.Table
use Rattle.syntax.specs.Actions
use Rattle.syntax.specs.Parse
use Rattle.syntax.specs.Reading
use Rattle.syntax.specs.Sections
use Rattle.words.specs.Words

-- the processor's definitions compute where this is unfolded
processing : Unit {0}
unfolding Words.opened Reading.opened Actions.opened Sections.opened Parse.opened Known.opened Declare.opened Resolve.opened Understand.opened Uses.opened Made.opened Program.opened Past.opened Table.opened Test.opened Bytes.opened Process.opened
processing = tt

-- P1 to P8 of document 01
pub all_hold_lem : T (all_hold cases)
unfolding processing Cases.opened Events.opened Lengths.opened Decode.opened Walk.opened Step.opened Call.opened Form.opened
all_hold_lem = tt

pub all-refused : T (all_agree refusals)
unfolding processing Refusals.opened
all-refused = tt

pub all_give_lem : T (all_give acceptances)
unfolding processing Acceptances.opened
all_give_lem = tt
