-- `separate::make_object` meets its contract.
use mathlib.Core.Path.{refl, sym}
use native.Mathlib.Omega.{arith}
use lib.Seq.{length-take-le}
use borrow.Author.Rules.{rules}
use Rattle.separate.proofs.Standing.{stands_at, join-fits, place-behind}
use Rattle.separate.proofs.Whole.{makes-fault, concluded-even, even-inside}
use Rattle.separate.proofs.Counted.{countable}
use Rattle.separate.proofs.make_object.Goals as goal

pub returns-then-fault-ne0 : goal.returns-then-fault-ne0
returns-then-fault-ne0 c = makes-fault _ c.read_texts-t.ensures refl c.if-fault-ne0.true c.refuse.ensures

pub join-n-requires : goal.join-n-requires
join-n-requires c = join-fits (c.read_texts-t.ensures.read c.if-fault-ne0.false)

pub part_place-place-requires : goal.part_place-place-requires
part_place-place-requires c = (join-fits (c.read_texts-t.ensures.read c.if-fault-ne0.false)).1

pub overflow_sub-moved : goal.overflow_sub-moved
overflow_sub-moved c = omega (arith, c.part_place-place.ensures, place-behind c.read_texts-t.result.at c.read_texts-t.result.from)

pub slice_bounds-buffer-end : goal.slice_bounds-buffer-end
slice_bounds-buffer-end c = omega (arith, c.join-n.ensures.size, (join-fits (c.read_texts-t.ensures.read c.if-fault-ne0.false)).3)

pub slice_bounds-translate-end : goal.slice_bounds-translate-end
slice_bounds-translate-end c = sym (length-take-le _ _ (omega (arith, c.join-n.ensures.size, (join-fits (c.read_texts-t.ensures.read c.if-fault-ne0.false)).3)))

pub slice_bounds-translate-end-2 : goal.slice_bounds-translate-end-2
slice_bounds-translate-end-2 c = even-inside _ c.room-even.ensures.0

pub slice_bounds-translate-end-3 : goal.slice_bounds-translate-end-3
slice_bounds-translate-end-3 c = sym (length-take-le _ _ (even-inside _ c.room-even.ensures.0))

pub translate-w-requires : goal.translate-w-requires
translate-w-requires c = ((c.read_texts-t.ensures.read c.if-fault-ne0.false).short_common, (c.read_texts-t.ensures.read c.if-fault-ne0.false).short_part, (stands_at (c.read_texts-t.ensures.read c.if-fault-ne0.false) c.join-n.ensures.bytes c.part_place-place.ensures).in-text)

pub returns : goal.returns
returns c = let few = countable c.args.common.now c.args.part.now in concluded-even _ _ _ _ (stands_at (c.read_texts-t.ensures.read c.if-fault-ne0.false) c.join-n.ensures.bytes c.part_place-place.ensures).same (c.translate-w.ensures (stands_at (c.read_texts-t.ensures.read c.if-fault-ne0.false) c.join-n.ensures.bytes c.part_place-place.ensures).in-text ((stands_at (c.read_texts-t.ensures.read c.if-fault-ne0.false) c.join-n.ensures.bytes c.part_place-place.ensures).ordered few)) c.room-even.ensures.0 (search (rules, c.object-2-1.given)) refl c.conclude.ensures
