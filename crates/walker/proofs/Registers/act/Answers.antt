-- `Registers::act` meets its contract.
use mathlib.Core.Path.{◌∙◌}
use native.Mathlib.Omega.{arith}
use Rattle.machine.specs.Lengths.{lengths, length_of}
use Rattle.walker.specs.Shape.{act_of, fetched_of}
use Rattle.walker.proofs.Laws.{here, nothing, above, less, zero_of}
use Rattle.walker.proofs.Registers.act.Goals as goal

pub forward-requires : goal.forward-requires
unfolding lengths length_of
forward-requires c = (c.requires.1, c.requires.2, c.length_of.ensures)

pub back-requires : goal.back-requires
unfolding lengths length_of
back-requires c = (c.requires.1, c.requires.2, c.length_of-in-2.ensures)

pub input-requires : goal.input-requires
unfolding lengths length_of
input-requires c = (c.requires.1, c.requires.2, c.length_of-in-3.ensures)

pub any-requires : goal.any-requires
unfolding lengths length_of
any-requires c = (omega (arith, c.requires.1), c.requires.2, c.length_of-in-4.ensures)

pub output-requires : goal.output-requires
unfolding lengths length_of
output-requires c = (c.requires.1, c.requires.2, c.length_of-in-5.ensures)

pub error-requires : goal.error-requires
unfolding lengths length_of
error-requires c = (c.requires.1, c.requires.2, c.length_of-in-6.ensures)

pub input_choice-requires : goal.input_choice-requires
unfolding lengths length_of
input_choice-requires c = (c.requires.1, c.requires.2, c.length_of-in-7.ensures)

pub call-requires : goal.call-requires
unfolding lengths length_of
call-requires c = (c.requires.1, c.requires.2, c.length_of-in-8.ensures)

pub ret-requires : goal.ret-requires
unfolding lengths length_of
ret-requires c = (c.requires.1, c.requires.2, c.length_of-in-9.ensures, c.requires.3)

pub set_result-requires : goal.set_result-requires
unfolding lengths length_of
set_result-requires c = (c.requires.1, c.requires.2, c.length_of-in-10.ensures)

pub choice-requires : goal.choice-requires
unfolding lengths length_of
choice-requires c = (c.requires.1, c.requires.2, c.length_of-in-11.ensures)

pub end_choice-requires : goal.end_choice-requires
unfolding lengths length_of
end_choice-requires c = (omega (arith, c.requires.1), c.requires.2, c.length_of-in-12.ensures)

pub set_parameter-requires : goal.set_parameter-requires
unfolding lengths length_of
set_parameter-requires c = (c.requires.1, c.requires.2, c.length_of-in-13.ensures)

pub returns-in-1 : goal.returns-in-1
unfolding fetched_of act_of lengths length_of
returns-in-1 c = rw c.in-1.is c.forward.ensures

pub returns-in-2 : goal.returns-in-2
unfolding fetched_of act_of lengths length_of
returns-in-2 c = rw c.in-2.is c.back.ensures

pub returns-in-3 : goal.returns-in-3
unfolding fetched_of act_of lengths length_of
returns-in-3 c = rw c.in-3.is c.input.ensures

pub returns-in-4 : goal.returns-in-4
unfolding fetched_of act_of lengths length_of
returns-in-4 c = rw (c.in-4.is, here c.requires.2 c.requires.1) c.any.ensures

pub returns-in-5 : goal.returns-in-5
unfolding fetched_of act_of lengths length_of
returns-in-5 c = rw c.in-5.is c.output.ensures

pub returns-in-6 : goal.returns-in-6
unfolding fetched_of act_of lengths length_of
returns-in-6 c = rw c.in-6.is c.error.ensures

pub returns-in-7 : goal.returns-in-7
unfolding fetched_of act_of lengths length_of
returns-in-7 c = rw c.in-7.is c.input_choice.ensures

pub returns-in-8 : goal.returns-in-8
unfolding fetched_of act_of lengths length_of
returns-in-8 c = rw c.in-8.is c.call.ensures

pub returns-in-9 : goal.returns-in-9
unfolding fetched_of act_of lengths length_of
returns-in-9 c = rw (c.in-9.is, here c.requires.2 c.requires.1) c.ret.ensures

pub returns-in-10 : goal.returns-in-10
unfolding fetched_of act_of lengths length_of
returns-in-10 c = rw c.in-10.is c.set_result.ensures

pub returns-in-11 : goal.returns-in-11
unfolding fetched_of act_of lengths length_of
returns-in-11 c = rw c.in-11.is c.choice.ensures

pub returns-in-12 : goal.returns-in-12
unfolding fetched_of act_of lengths length_of
returns-in-12 c = rw (c.in-12.is, here c.requires.2 c.requires.1) c.end_choice.ensures

pub returns-in-13 : goal.returns-in-13
unfolding fetched_of act_of lengths length_of
returns-in-13 c = rw c.in-13.is c.set_parameter.ensures

pub returns-in-0 : goal.returns-in-0
returns-in-0 c = rw c.in-0.is (nothing _ _ _ _ _ _ _)

pub returns-in_default : goal.returns-in_default
returns-in_default c = c.operate.ensures ∙ above _ _ _ _ _ _ _ _ (λ h. c.in_default.in_default-own.rest.1 (zero_of (less 1 (less 2 (less 3 (less 4 (less 5 (less 6 (less 7 (less 8 (less 9 (less 10 (less 11 (less 12 (less 13 h c.in_default.in_default-own.rest.0.1) c.in_default.in_default-own.rest.0.0.1) c.in_default.in_default-own.rest.0.0.0.1) c.in_default.in_default-own.rest.0.0.0.0.1) c.in_default.in_default-own.rest.0.0.0.0.0.1) c.in_default.in_default-own.rest.0.0.0.0.0.0.1) c.in_default.in_default-own.rest.0.0.0.0.0.0.0.1) c.in_default.in_default-own.rest.0.0.0.0.0.0.0.0.1) c.in_default.in_default-own.rest.0.0.0.0.0.0.0.0.0.1) c.in_default.in_default-own.rest.0.0.0.0.0.0.0.0.0.0.1) c.in_default.in_default-own.rest.0.0.0.0.0.0.0.0.0.0.0.1) c.in_default.in_default-own.rest.0.0.0.0.0.0.0.0.0.0.0.0.1) c.in_default.in_default-own.rest.0.0.0.0.0.0.0.0.0.0.0.0.0.1)))
