-- `listing::put_bytes` meets its contract: what is left to write gives the whole.
use native.Mathlib.Omega.{arith}
use Rattle.listing.proofs.Laws.{left-all, left-byte, left_end}
use Rattle.listing.proofs.put_bytes.Goals as goal

pub loop-byte-init : goal.loop-byte-init
loop-byte-init c = (omega arith, left-all _ _ _)

pub put_byte-next-requires : goal.put_byte-next-requires
put_byte-next-requires c = omega arith

pub loop-byte-preserved : goal.loop-byte-preserved
loop-byte-preserved c =
    let a = c.args in
    let l = c.loop-byte in
    let p = c.put_byte-next.ensures in
    (omega (arith, p.next, l.invariant.0), left-byte a.s.now l.byte-index c.loop-byte-test.true l.invariant.1 p)

pub returns : goal.returns
returns c = left_end c.args.s.now c.loop-byte.byte-index (omega (arith, c.loop-byte-test.false, c.loop-byte.auto.byte-index-end)) c.loop-byte.invariant.1
