use mathlib.Core.Path.{refl}
use Rattle.meter.proofs.Calls.{token-visited}
use Rattle.machine.proofs.Bytes.{length-table_of}
use native.Mathlib.Omega.{arith}
use Rattle.meter.proofs.visit_token.Goals as goal

pub raise_ways-a-requires : goal.raise_ways-a-requires
raise_ways-a-requires c = (c.requires.0, c.requires.1)

pub overflow_add-default : goal.overflow_add-default
overflow_add-default c = omega (arith, c.requires.0.fits, length-table_of c.args.program.table.now)

pub word_at-requires : goal.word_at-requires
word_at-requires c = (c.requires.0.low, omega (arith, c.requires.0.fits))

pub overflow_mul-default : goal.overflow_mul-default
overflow_mul-default c = omega (arith, c.word_at.ensures.1)

pub overflow_add-default-2 : goal.overflow_add-default-2
overflow_add-default-2 c = omega (arith, c.word_at.ensures.1, c.requires.0.fits, length-table_of c.args.program.table.now)

pub overflow_add-here : goal.overflow_add-here
overflow_add-here c = omega (arith, c.requires.2)

pub overflow_add-here-2 : goal.overflow_add-here-2
overflow_add-here-2 c = omega (arith, c.requires.3)

pub returns : goal.returns
returns c = token-visited c.word_at.ensures.0 c.mark_of.ensures c.raise_ways-a.ensures c.raise_two-b.ensures refl
