-- `listing::put_words` meets its contract: the lines left to write give the whole.
use mathlib.Core.Path.{◌∙◌}
use Prim.Native.Nat.{◌+◌}
use native.Mathlib.Omega.{arith}
use Rattle.listing.proofs.Laws.{left-all}
use Rattle.listing.proofs.Lines.{line-short, left-line, left-lines}
use Rattle.listing.proofs.put_words.Goals as goal

pub loop-i-init : goal.loop-i-init
loop-i-init c = (omega arith, left-all _ _ _)

pub put_line-next-requires : goal.put_line-next-requires
put_line-next-requires c = omega arith

pub loop-i-preserved : goal.loop-i-preserved
loop-i-preserved c =
    let a = c.args in
    let l = c.loop-i in
    let w = c.from-word in
    let p = c.put_line-next.ensures in (
      omega (arith, p.next, l.invariant.0, line-short (l.i + 1) w.result (omega (arith, c.loop-i-test.true, c.requires.0)) (omega (arith, w.ensures, c.word.type_inv))),
      left-line a.table.now a.words l.i c.requires.1 c.loop-i-test.true (w.ensures ∙ c.word.ensures) l.invariant.1 p,
    )

pub returns : goal.returns
returns c =
    let a = c.args in
    let l = c.loop-i in record { puts = left-lines a.table.now a.words l.i c.requires.1 (omega (arith, c.loop-i-test.false, c.loop-i.auto.i-end)) l.invariant.1; upper_bound = omega (arith, l.invariant.0, c.loop-i.auto.i-end) }
