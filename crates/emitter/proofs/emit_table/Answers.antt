use mathlib.Core.Path.{refl, ◌∙◌}
use native.Mathlib.Omega.{arith}
use Rattle.emitter.proofs.Tables.{table_none, table_more, table-end}
use Rattle.emitter.proofs.emit_table.Goals as goal

-- src/lib.rt:405:5
pub loop-j-init : goal.loop-j-init
loop-j-init c = (refl, omega arith, omega arith, table_none c.args.cells.now c.args.out.now c.args.newest c.args.from c.args.end)

-- src/lib.rt:406:44
pub overflow_sub-j : goal.overflow_sub-j
overflow_sub-j c = omega arith

-- src/lib.rt:407:13
pub labels_at-n-requires : goal.labels_at-n-requires
labels_at-n-requires c = omega arith

-- src/lib.rt:409:21
pub overflow_mul-n : goal.overflow_mul-n
overflow_mul-n c = omega arith

-- src/lib.rt:410:28
pub overflow_add-head : goal.overflow_add-head
overflow_add-head c = omega arith

-- src/lib.rt:410:49
pub behind-requires : goal.behind-requires
behind-requires c = let P = c.requires in let o = c.loop-j in omega arith

-- src/lib.rt:410:9
pub emit_labels-requires : goal.emit_labels-requires
emit_labels-requires c = let P = c.requires in let o = c.loop-j in let w = c.from-head.ensures in let n = c.labels_at-n.ensures in let e = c.saturating_sub-l.ensures in omega arith

-- src/lib.rt:411:23
pub overflow_sub-j-in-loop-j : goal.overflow_sub-j-in-loop-j
overflow_sub-j-in-loop-j c = omega arith

-- src/lib.rt:405:5
pub loop-j-smaller : goal.loop-j-smaller
loop-j-smaller c = let h = c.older_at-older.ensures.2 c.loop-j-test.true in omega arith

-- src/lib.rt:405:5
pub loop-j-preserved : goal.loop-j-preserved
loop-j-preserved c = let h = c.older_at-older.ensures.2 c.loop-j-test.true in let o = c.loop-j in let e = c.saturating_sub-l.ensures in (
  c.put_word.auto.out ∙ (c.emit_labels.auto.out ∙ c.loop-j.invariant.0),
  omega arith,
  omega arith,
  table_more c.args.cells.now c.args.out.now c.args.newest c.args.from c.args.end c.loop-j.out _ _ c.loop-j.j c.loop-j.l c.from-head.result c.labels_at-n.result c.older_at-older.result c.saturating_sub-l.result c.loop-j-test.true (c.from-head.ensures ∙ c.word.ensures) c.labels_at-n.ensures.0 c.older_at-older.ensures.0 c.saturating_sub-l.ensures _ c.behind.ensures c.emit_labels.ensures c.put_word.ensures c.loop-j.invariant.3,
)

-- src/lib.rt:399:1
pub shape_of-out : goal.shape_of-out
shape_of-out c = c.loop-j.invariant.0

-- src/lib.rt:399:1
pub returns : goal.returns
returns c = table-end c.args.cells.now c.args.out.now c.args.newest c.args.from c.args.end c.loop-j.out c.loop-j.j c.loop-j.l (omega (arith, c.loop-j-test.false)) c.loop-j.invariant.3
