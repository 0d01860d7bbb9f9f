-- `resolver::resolve_labels` meets its contract.
use Rattle.symbols.proofs.Numbered.{fault-some}
use Rattle.std.proofs.lemmas.Result.{err_from_is_err_and}
use mathlib.Core.Path.{refl}
use native.Mathlib.Omega.{arith}
use lib.ListN.{length-set}
use Rattle.resolver.proofs.Labelling.{labels-stop, labels-last, labels-more}
use Rattle.resolver.proofs.resolve_labels.Goals as goal

pub loop-l-init : goal.loop-l-init
loop-l-init c = (c.requires.0, c.requires.2, refl, λ s r d. d)

pub resolve_label-requires : goal.resolve_label-requires
resolve_label-requires c = (c.loop-l.invariant.0, c.requires.1, c.loop-l.invariant.1)

pub shape_of-seen-in_err-l : goal.shape_of-seen-in_err-l
shape_of-seen-in_err-l c = omega (arith, c.loop-l.invariant.2)

pub returns-in_err-l : goal.returns-in_err-l
returns-in_err-l c = let p = err_from_is_err_and c.from_residual.result c.from_residual.ensures.1 in rw (p.1, p.2) (c.loop-l.invariant.3 _ _ (labels-stop c.in_err-l.ensures (fault-some _) refl refl refl))

pub offset_bounds-seen-u : goal.offset_bounds-seen-u
offset_bounds-seen-u c = omega (arith, c.in_ok-l.ensures.room refl)

pub bounds-seen-u : goal.bounds-seen-u
bounds-seen-u c = omega (arith, c.in_ok-l.ensures.room refl)

pub overflow_add-more : goal.overflow_add-more
overflow_add-more c = omega (arith, c.in_ok-l.ensures.room refl)

pub shape_of-seen-then-w-ne-COMMA : goal.shape_of-seen-then-w-ne-COMMA
shape_of-seen-then-w-ne-COMMA c = omega (arith, length-set c.loop-l.seen c.loop-l.u c.in_ok-l.l.value, c.loop-l.invariant.2)

pub returns-then-w-ne-COMMA : goal.returns-then-w-ne-COMMA
returns-then-w-ne-COMMA c = c.loop-l.invariant.3 _ _ (labels-last c.in_ok-l.ensures refl _ c.next_word-w.ensures c.if-w-ne-COMMA.true refl refl refl)

pub loop-l-smaller : goal.loop-l-smaller
loop-l-smaller c = omega (arith, c.in_ok-l.ensures.moves refl, c.in_ok-l.ensures.high refl, c.next_word-w.ensures.onto)

pub loop-l-preserved : goal.loop-l-preserved
loop-l-preserved c = (c.next_word-w.ensures.high (c.in_ok-l.ensures.high refl), omega (arith, c.in_ok-l.ensures.room refl, length-set c.loop-l.seen c.loop-l.u c.in_ok-l.l.value), omega (arith, length-set c.loop-l.seen c.loop-l.u c.in_ok-l.l.value, c.loop-l.invariant.2), λ s r g. c.loop-l.invariant.3 s r (labels-more c.in_ok-l.ensures refl _ c.next_word-w.ensures c.if-w-ne-COMMA.false g))
