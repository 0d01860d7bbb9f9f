-- `partrules::count_calls` meets its contract.
use mathlib.Core.Path.{sym, ◌∙◌}
use native.Mathlib.Omega.{arith}
use Rattle.partrules.proofs.Calling.{is_word, count-on, count-off, signs-few}
use Rattle.partrules.proofs.count_calls.Goals as goal

pub loop-w-init : goal.loop-w-init
loop-w-init c = (c.requires, omega arith, omega arith)

pub returns-then-is_last : goal.returns-then-is_last
returns-then-is_last c = let v = c.loop-w.invariant in (count-off _ _ c.next_word-w.ensures (sym c.is_last.ensures ∙ c.if-is_last.true) v.2, omega (arith, v.0, v.1))

pub overflow_add-n : goal.overflow_add-n
overflow_add-n c = let v = c.loop-w.invariant in omega (arith, v.0, v.1, c.sign-n.ensures, signs-few c.next_word-w.result.kind)

pub loop-w-smaller : goal.loop-w-smaller
loop-w-smaller c = let w = c.next_word-w in let k = is_word _ (sym c.is_last.ensures ∙ c.if-is_last.false) in omega (arith, c.loop-w.invariant.0, c.next_word-w.ensures.moves k, c.next_word-w.ensures.high c.loop-w.invariant.0)

pub loop-w-preserved : goal.loop-w-preserved
loop-w-preserved c =
    let w = c.next_word-w.ensures in
    let v = c.loop-w.invariant in
    let l = sym c.is_last.ensures ∙ c.if-is_last.false in
    let m = c.next_word-w.ensures.moves (is_word _ l) in
    (c.next_word-w.ensures.high v.0, omega (arith, v.1, m, c.sign-n.ensures, signs-few c.next_word-w.result.kind), count-on _ _ _ w l c.sign-n.ensures v.2)
