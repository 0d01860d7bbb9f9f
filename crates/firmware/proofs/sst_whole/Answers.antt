-- `firmware::sst_whole` meets its contract: the walker gives what the machine does, and what it gives is written.
use mathlib.Core.List.{List}
use Prim.Native.Nat.{ℕ, ◌<◌}
use native.Mathlib.Omega.{arith}
use lib.ListN.{length}
use Rattle.machine.proofs.Form.{walk_of-length}
use Rattle.machine.specs.Bytes.{words_of}
use Rattle.machine.specs.Call as call
use Rattle.machine.specs.Form as form
use Rattle.walker.specs.Shape as shape
use Rattle.walker.specs.Linked.{Bytes}
use Rattle.firmware.specs.Writes.{Is}
use Rattle.walker.specs.declared.Walk.{Walk}
use Rattle.firmware.proofs.Calls.{Done, whole-done, left-with, left-refused}
use Rattle.firmware.proofs.sst_whole.Goals as goal

-- `firmware::sst_whole` meets its contract: the walker gives what the machine does, and what it gives is written.
-- the call is the one over bytes
called : (table tokens answers : List ℕ) (budget : ℕ) (s events : List ℕ) (w : Walk) → Is s w → Bytes table → Bytes tokens → Bytes answers → Bytes s
    → length tokens < 18446744073709551616
    → Done (shape.whole_of table tokens answers budget w events w.phase) (form.call_bytes table tokens (call.whole (words_of answers)) budget s events)
called table tokens answers budget s events w is small-t small-k small-a small-s long =
    whole-done table tokens budget s events w small-t small-k small-s long is.returns is.walk answers small-a

pub give-requires : goal.give-requires
give-requires c =
    let a = c.args in
    let walk : Bytes a.walk.now = λ i. (c.slice_known-1.given i).fits in
    let d = called a.table.now a.tokens.now a.answers.now a.budget a.walk.now a.events.now c.in-Some.w c.in-Some.ensures.walk (λ i. (c.type_inv.table i).fits) (λ i. (c.type_inv.tokens i).fits) (λ i. (c.type_inv.answers i).fits) walk (omega (arith, c.well_formed)) in
    (walk_of-length _ _ walk (c.in-Some.ensures.walk.walk), rw c.whole-r.ensures.walk_value d.location)

pub returns : goal.returns
returns c =
    let a = c.args in
    let walk : Bytes a.walk.now = λ i. (c.slice_known-1.given i).fits in
    let d = called a.table.now a.tokens.now a.answers.now a.budget a.walk.now a.events.now c.in-Some.w c.in-Some.ensures.walk (λ i. (c.type_inv.table i).fits) (λ i. (c.type_inv.tokens i).fits) (λ i. (c.type_inv.answers i).fits) walk (omega (arith, c.well_formed)) in
    let r = c.whole-r.ensures in
    left-with c.whole-r.result d (r.walk_value, (r.events_value, (r.steps_value, (r.number_value, (r.events_after))))) c.give.ensures

pub returns-in_default : goal.returns-in_default
returns-in_default c = left-refused _ _ _ _ _ _ (c.in_default.ensures.no_walk) c.refuse.ensures
