use native.Mathlib.Omega.{arith}
use Rattle.machine.proofs.Bytes.{length-table_of}
use Rattle.meter.proofs.Visits.{label-raised, label-enough}
use Rattle.meter.proofs.raise_label.Goals as goal

-- src/lib.rt:227:13
pub overflow_add-l : goal.overflow_add-l
overflow_add-l c = omega (arith, length-table_of c.args.table.now)

-- src/lib.rt:227:21
pub overflow_mul-l : goal.overflow_mul-l
overflow_mul-l c = omega (arith, length-table_of c.args.table.now)

-- src/lib.rt:227:13
pub overflow_add-l-2 : goal.overflow_add-l-2
overflow_add-l-2 c = omega (arith, length-table_of c.args.table.now)

-- src/lib.rt:228:23
pub overflow_add-l-3 : goal.overflow_add-l-3
overflow_add-l-3 c = omega (arith, length-table_of c.args.table.now)

-- src/lib.rt:228:53
pub overflow_add-l-4 : goal.overflow_add-l-4
overflow_add-l-4 c = omega (arith, length-table_of c.args.table.now)

-- src/lib.rt:231:9
pub returns-then-is_below : goal.returns-then-is_below
returns-then-is_below c = label-raised c.word_at-then-is_below.ensures.0 c.way_out.ensures c.raise.ensures

-- src/lib.rt:223:1
pub returns-else-is_below : goal.returns-else-is_below
returns-else-is_below c = rw c.if-is_below.false (label-enough c.word_at.ensures.0 c.saturating_sub-beside.ensures c.is_below.ensures c.if-is_below.false)
