use native.Mathlib.Omega.{arith}
use Rattle.mapper.proofs.Laws.{row-held, rows_start, rows-put, rows-size, rows_end}
use Rattle.mapper.proofs.put_rows.Goals as goal

-- src/lib.rt:75:5
pub loop-k-init : goal.loop-k-init
loop-k-init c = (omega arith, rows_start c.args.text.now c.args.rows.now c.args.places.now c.args.first c.args.out.now)

-- src/lib.rt:76:32
pub overflow_add-i : goal.overflow_add-i
overflow_add-i c = omega (arith, c.requires.0.inside, c.loop-k-test.true)

-- src/lib.rt:76:17
pub overflow_mul-i : goal.overflow_mul-i
overflow_mul-i c = omega (arith, c.requires.0.inside, c.loop-k-test.true)

-- src/lib.rt:77:43
pub overflow_add-i-in-loop-k : goal.overflow_add-i-in-loop-k
overflow_add-i-in-loop-k c = omega (arith, c.requires.0.inside, c.loop-k-test.true)

-- src/lib.rt:78:41
pub overflow_add-i-in-loop-k-2 : goal.overflow_add-i-in-loop-k-2
overflow_add-i-in-loop-k-2 c = omega (arith, c.requires.0.inside, c.loop-k-test.true)

-- src/lib.rt:84:13
pub bounds-places-k : goal.bounds-places-k
bounds-places-k c = omega (arith, c.requires.1, c.loop-k-test.true)

-- src/lib.rt:79:9
pub put_row-requires : goal.put_row-requires
put_row-requires c = omega (arith, c.requires.2, c.loop-k-test.true, rows-size c.args.text.now c.args.rows.now c.args.places.now c.args.first c.loop-k.k c.args.out.now (omega (arith, c.requires.2, c.loop-k-test.true)) c.loop-k.invariant.1)

-- src/lib.rt:75:5
pub loop-k-preserved : goal.loop-k-preserved
loop-k-preserved c = (omega (arith, c.loop-k-test.true), rows-put c.args.text.now c.args.rows.now c.args.places.now c.args.first c.loop-k.k c.args.out.now (row-held _ _ _ c.number-start.ensures.0 c.number-len.ensures.0 c.part_len.ensures) (omega (arith, c.requires.2, c.loop-k-test.true)) c.loop-k.invariant.1 c.put_row.ensures)

-- src/lib.rt:63:1
pub shape_of-out : goal.shape_of-out
shape_of-out c = rows-size c.args.text.now c.args.rows.now c.args.places.now c.args.first c.loop-k.k c.args.out.now (omega (arith, c.requires.2, c.loop-k.invariant.0)) c.loop-k.invariant.1

-- src/lib.rt:63:1
pub returns : goal.returns
returns c = rows_end c.args.text.now c.args.rows.now c.args.places.now c.args.first c.loop-k.k c.args.rules c.args.out.now (omega (arith, c.loop-k.invariant.0, c.loop-k-test.false)) c.loop-k.invariant.1
