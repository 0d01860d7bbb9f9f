-- `Registers::operate` meets its contract: the length of an operation is 1.
use mathlib.Core.Path.{◌∙◌}
use native.Mathlib.Omega.{arith}
use borrow.Author.Tests.{lt-ltb, le-ltb}
use Rattle.machine.proofs.Lengths.{length-operation}
use Rattle.walker.specs.Shape.{operate_of}
use Rattle.walker.proofs.Registers.operate.Goals as goal

pub update-requires : goal.update-requires
update-requires c = (c.requires.0, c.requires.1, c.instruction_length-len.ensures ∙ length-operation _ (omega arith) (omega arith))

pub update-requires-in-512-to-767 : goal.update-requires-in-512-to-767
update-requires-in-512-to-767 c = (c.requires.0, c.requires.1, c.instruction_length-len.ensures ∙ length-operation _ (omega arith) (omega arith))

pub answer-requires : goal.answer-requires
answer-requires c = (c.requires.0, c.requires.1, c.instruction_length-len.ensures ∙ length-operation _ (omega arith) (omega arith))

pub answer-requires-in-1024-to-1279 : goal.answer-requires-in-1024-to-1279
answer-requires-in-1024-to-1279 c = (c.requires.0, c.requires.1, c.instruction_length-len.ensures ∙ length-operation _ (omega arith) (omega arith))

pub returns-in-256-to-511 : goal.returns-in-256-to-511
unfolding operate_of
returns-in-256-to-511 c = simp (le-ltb c.args.ins 256 (omega arith), lt-ltb c.args.ins 512 (omega arith), c.update.ensures)

pub returns-in-512-to-767 : goal.returns-in-512-to-767
unfolding operate_of
returns-in-512-to-767 c = simp (le-ltb c.args.ins 256 (omega arith), le-ltb c.args.ins 512 (omega arith), lt-ltb c.args.ins 768 (omega arith), c.low_word.ensures, c.update-in-512-to-767.ensures)

pub returns-in-768-to-1023 : goal.returns-in-768-to-1023
unfolding operate_of
returns-in-768-to-1023 c = simp (le-ltb c.args.ins 256 (omega arith), le-ltb c.args.ins 512 (omega arith), le-ltb c.args.ins 768 (omega arith), lt-ltb c.args.ins 1024 (omega arith), c.answer.ensures)

pub returns-in-1024-to-1279 : goal.returns-in-1024-to-1279
unfolding operate_of
returns-in-1024-to-1279 c = simp (le-ltb c.args.ins 256 (omega arith), le-ltb c.args.ins 512 (omega arith), le-ltb c.args.ins 768 (omega arith), le-ltb c.args.ins 1024 (omega arith), lt-ltb c.args.ins 1280 (omega arith), c.low_word.ensures, c.answer-in-1024-to-1279.ensures)

pub returns-in_default : goal.returns-in_default
unfolding operate_of
returns-in_default c = simp (lt-ltb c.args.ins 256 (omega arith))

pub returns-in_default-2 : goal.returns-in_default-2
unfolding operate_of
returns-in_default-2 c = simp (le-ltb c.args.ins 256 (omega arith), le-ltb c.args.ins 512 (omega arith), le-ltb c.args.ins 768 (omega arith), le-ltb c.args.ins 1024 (omega arith), le-ltb c.args.ins 1280 (omega arith))
