use native.Mathlib.Omega.{arith}
use borrow.Author.Rules.{rules}
use Rattle.machine.proofs.Bytes.{length-table_of}
use Rattle.meter.proofs.Words.{seek-first, seek_found, seek-next, seek-none}
use Rattle.meter.proofs.way_out.Goals as goal

-- src/lib.rt:109:9
pub word_at-n-requires : goal.word_at-n-requires
word_at-n-requires c = (c.requires.low, omega (arith, c.requires.fits))

-- src/lib.rt:111:5
pub loop-i-init : goal.loop-i-init
loop-i-init c = seek-first _ (length-table_of c.args.table.now) c.requires c.word_at-n.ensures.0

-- src/lib.rt:112:17
pub overflow_add-l : goal.overflow_add-l
overflow_add-l c = omega arith

-- src/lib.rt:112:25
pub overflow_mul-l : goal.overflow_mul-l
overflow_mul-l c = omega arith

-- src/lib.rt:112:17
pub overflow_add-l-in-loop-i : goal.overflow_add-l-in-loop-i
overflow_add-l-in-loop-i c = omega arith

-- src/lib.rt:113:12
pub word_at-requires : goal.word_at-requires
word_at-requires c = (omega arith, omega arith)

-- src/lib.rt:114:25
pub overflow_add-l-then-word_at-v : goal.overflow_add-l-then-word_at-v
overflow_add-l-then-word_at-v c = omega arith

-- src/lib.rt:114:55
pub overflow_add-l-then-word_at-v-2 : goal.overflow_add-l-then-word_at-v-2
overflow_add-l-then-word_at-v-2 c = omega arith

-- src/lib.rt:114:32
pub word_at-requires-then-word_at-v : goal.word_at-requires-then-word_at-v
word_at-requires-then-word_at-v c = (omega arith, omega arith)

-- src/lib.rt:114:13
pub returns-then-word_at-v : goal.returns-then-word_at-v
returns-then-word_at-v c = seek_found c.loop-i.invariant (search rules) c.word_at.ensures.0 c.if-word_at-v.true c.word_at-then-word_at-v.ensures.0 c.saturating_sub.ensures

-- src/lib.rt:111:5
pub loop-i-preserved : goal.loop-i-preserved
loop-i-preserved c = seek-next c.loop-i.invariant (search rules) c.word_at.ensures.0 c.if-word_at-v.false

-- src/lib.rt:118:5
pub overflow_add-result : goal.overflow_add-result
overflow_add-result c = omega arith

-- src/lib.rt:118:13
pub overflow_mul-result : goal.overflow_mul-result
overflow_mul-result c = omega arith

-- src/lib.rt:118:5
pub overflow_add-result-2 : goal.overflow_add-result-2
overflow_add-result-2 c = omega arith

-- src/lib.rt:105:1
pub returns : goal.returns
returns c = seek-none c.loop-i.invariant (search rules)
