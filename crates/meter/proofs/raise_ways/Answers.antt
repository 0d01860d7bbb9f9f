use mathlib.Core.Path.{refl}
use Rattle.meter.proofs.Visits.{ways-first, ways_next, ways-none, ways-all}
use Rattle.machine.proofs.Bytes.{length-table_of}
use borrow.Author.Rules.{rules}
use native.Mathlib.Omega.{arith}
use Rattle.meter.proofs.raise_ways.Goals as goal

-- src/lib.rt:242:9
pub returns-then-v-eq0 : goal.returns-then-v-eq0
returns-then-v-eq0 c = ways-none c.if-v-eq0.true

-- src/lib.rt:244:9
pub word_at-n-requires : goal.word_at-n-requires
word_at-n-requires c = (c.requires.0.low, omega (arith, c.requires.0.fits))

-- src/lib.rt:247:5
pub loop-i-init : goal.loop-i-init
loop-i-init c = (ways-first (length-table_of c.args.table.now) c.requires.0 c.word_at-n.ensures.0, search rules)

-- src/lib.rt:248:13
pub raise_label-more-requires : goal.raise_label-more-requires
raise_label-more-requires c = (c.requires.0, omega (arith, c.loop-i.invariant.0.fits), c.loop-i.invariant.1)

-- src/lib.rt:247:5
pub loop-i-preserved : goal.loop-i-preserved
loop-i-preserved c = (ways_next c.loop-i.invariant.0 (search rules) c.raise_label-more.ensures refl, search rules)

-- src/lib.rt:252:34
pub overflow_add-c : goal.overflow_add-c
overflow_add-c c = omega arith

-- src/lib.rt:252:42
pub overflow_mul-n : goal.overflow_mul-n
overflow_mul-n c = omega arith

-- src/lib.rt:252:34
pub overflow_add-c-2 : goal.overflow_add-c-2
overflow_add-c-2 c = omega arith

-- src/lib.rt:252:9
pub raise-last-requires : goal.raise-last-requires
raise-last-requires c = c.loop-i.invariant.1

-- src/lib.rt:237:1
pub returns : goal.returns
returns c = ways-all c.loop-i.invariant.0 (search rules) c.raise-last.ensures refl
