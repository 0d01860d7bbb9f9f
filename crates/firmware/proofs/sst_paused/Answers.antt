-- `firmware::sst_paused` meets its contract: the walker gives what the machine does, and what it gives is written.
use mathlib.Core.List.{List}
use mathlib.Core.Path.{◌≡◌}
use Prim.Native.Nat.{ℕ, ◌<◌}
use native.Mathlib.Omega.{arith}
use lib.ListN.{length}
use Rattle.machine.proofs.Form.{walk_of-length}
use Rattle.machine.specs.Form as form
use Rattle.walker.specs.Shape as shape
use Rattle.firmware.specs.Entries.{handing}
use Rattle.std.specs.Prelude.{Option}
use Rattle.machine.specs.Call.{paused}
use Rattle.walker.specs.Linked.{Bytes, handed}
use Rattle.firmware.specs.Writes.{Is}
use Rattle.walker.specs.declared.Walk.{Walk}
use Rattle.firmware.proofs.Calls.{Done, paused-done, left-with, left-refused}
use Rattle.firmware.proofs.sst_paused.Goals as goal

-- `firmware::sst_paused` meets its contract: the walker gives what the machine does, and what it gives is written.
-- the call is the one over bytes
called : (table tokens : List ℕ) (g : Option ℕ) (given answer budget : ℕ) → paused (handed g) ≡ handing given answer → (s events : List ℕ) (w : Walk) → Is s w → Bytes table → Bytes tokens → Bytes s
    → length tokens < 18446744073709551616 → answer < 65536
    → Done (shape.paused_of table tokens g budget w events w.phase) (form.call_bytes table tokens (handing given answer) budget s events)
called table tokens g given answer budget e s events w is small-t small-k small-s long fits =
    paused-done table tokens budget s events w small-t small-k small-s long is.returns is.walk g given answer e fits

pub give-requires : goal.give-requires
give-requires c =
    let a = c.args in
    let walk : Bytes a.walk.now = λ i. (c.slice_known-1.given i).fits in
    let d = called a.table.now a.tokens.now c.handed.result a.given a.answer a.budget c.handed.ensures a.walk.now a.events.now c.in-Some.w c.in-Some.ensures.walk (λ i. (c.type_inv.table i).fits) (λ i. (c.type_inv.tokens i).fits) walk (omega (arith, c.well_formed)) c.ranges.answer.fits in
    (walk_of-length _ _ walk (c.in-Some.ensures.walk.walk), rw c.paused-r.ensures.walk_value d.location)

pub returns : goal.returns
returns c =
    let a = c.args in
    let walk : Bytes a.walk.now = λ i. (c.slice_known-1.given i).fits in
    let d = called a.table.now a.tokens.now c.handed.result a.given a.answer a.budget c.handed.ensures a.walk.now a.events.now c.in-Some.w c.in-Some.ensures.walk (λ i. (c.type_inv.table i).fits) (λ i. (c.type_inv.tokens i).fits) walk (omega (arith, c.well_formed)) c.ranges.answer.fits in
    let r = c.paused-r.ensures in
    left-with c.paused-r.result d (r.walk_value, (r.events_value, (r.steps_value, (r.number_value, (r.events_after))))) c.give.ensures

pub returns-in_default : goal.returns-in_default
returns-in_default c = left-refused _ _ _ _ _ _ (c.in_default.ensures.no_walk) c.refuse.ensures
