-- `filter::put_rest` meets its contract.
use native.Mathlib.Omega.{arith}
use Prim.Native.Nat.{◌+◌, ◌-◌}
use Rattle.filter.specs.Working.{map_tokens}
use Rattle.filter.proofs.Writes.{words-none, words-next}
use Rattle.filter.proofs.put_rest.Goals as goal

pub loop-i-init : goal.loop-i-init
loop-i-init c = words-none _ _ _ _ (omega arith)

pub loop-i-preserved : goal.loop-i-preserved
loop-i-preserved c = words-next (map_tokens c.args.map.now c.args.text.now) _ (c.loop-i.i - c.args.k) 1 c.args.k c.loop-i.i (c.loop-i.i + 1 - c.args.k) c.put_token.ensures c.loop-i.invariant (omega (arith, c.loop-i.auto.i)) (omega (arith, c.loop-i.auto.i))
