-- `objects::asked` meets its contract.
use native.Mathlib.Omega.{arith}
use mathlib.Core.Path.{refl}
use Rattle.objects.proofs.Told.{asked-alone, asked-with, asked-none}
use Rattle.objects.proofs.asked.Goals as goal

pub returns-then-x-lt-ASK_WITH : goal.returns-then-x-lt-ASK_WITH
returns-then-x-lt-ASK_WITH c = λ words. asked-alone words (omega arith) c.passed.ensures

pub returns-then-x-lt-PAST_OPERATIONS : goal.returns-then-x-lt-PAST_OPERATIONS
returns-then-x-lt-PAST_OPERATIONS c = λ words. asked-with words (omega arith) (omega arith) (c.operand.ensures words)

pub returns-else-x-lt-PAST_OPERATIONS : goal.returns-else-x-lt-PAST_OPERATIONS
returns-else-x-lt-PAST_OPERATIONS c = λ words. asked-none words (omega arith) refl
