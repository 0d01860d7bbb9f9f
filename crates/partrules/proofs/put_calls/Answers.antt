-- `partrules::put_calls` meets its contract.
use mathlib.Core.Path.{refl, sym, ◌∙◌}
use native.Mathlib.Omega.{arith}
use Rattle.partwriter.proofs.Putting.{puts-bound, puts_then, puts-same, puts-nothing}
use Rattle.partrules.proofs.Calling.{is_word, called_on, called-off}
use Rattle.partrules.proofs.put_calls.Goals as goal

pub loop-w-init : goal.loop-w-init
loop-w-init c = let g = c.requires in (g.0, puts-bound c.counted-n.ensures, refl, λ o e h. puts_then c.counted-n.ensures h)

pub shape_of-object-then-is_last : goal.shape_of-object-then-is_last
shape_of-object-then-is_last c = c.loop-w.invariant.2

pub returns-then-is_last : goal.returns-then-is_last
returns-then-is_last c = let v = c.loop-w.invariant in v.3 _ _ (puts-nothing (called-off _ c.next_word-w.ensures (sym c.is_last.ensures ∙ c.if-is_last.true)) v.1)

pub put_call-n-requires : goal.put_call-n-requires
put_call-n-requires c = let v = c.loop-w.invariant in let w = c.next_word-w.ensures in (c.next_word-w.ensures.high v.0, c.requires.1)

pub loop-w-smaller : goal.loop-w-smaller
loop-w-smaller c = let w = c.next_word-w in let k = is_word _ (sym c.is_last.ensures ∙ c.if-is_last.false) in omega (arith, c.loop-w.invariant.0, c.next_word-w.ensures.moves k, c.next_word-w.ensures.high c.loop-w.invariant.0)

pub loop-w-preserved : goal.loop-w-preserved
loop-w-preserved c =
    let w = c.next_word-w.ensures in
    let v = c.loop-w.invariant in
    let u = c.put_call-n.ensures in
    let l = sym c.is_last.ensures ∙ c.if-is_last.false in
    (c.next_word-w.ensures.high v.0, puts-bound u, c.put_call-n.ensures.leaves.size ∙ v.2, λ o e h. v.3 o e (puts-same (sym (called_on _ w l)) (puts_then u h)))
