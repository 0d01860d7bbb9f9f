-- `filter::put_fours` meets its contract.
use mathlib.Core.Path.{refl}
use Prim.Native.Nat.{◌+◌, ◌*◌}
use native.Mathlib.Omega.{arith}
use Rattle.filter.specs.Working.{map_tokens}
use Rattle.filter.proofs.Writes.{words-none, words-next}
use Rattle.filter.proofs.put_fours.Goals as goal

pub loop-i-init : goal.loop-i-init
loop-i-init c = words-none _ _ _ _ refl

pub loop-i-preserved : goal.loop-i-preserved
loop-i-preserved c = words-next (map_tokens c.args.map.now c.args.text.now) _ (4 * c.loop-i.i + 2) 2 0 (4 * c.loop-i.i + 2) (4 * (c.loop-i.i + 1)) c.put_two-in-loop-i.ensures (words-next (map_tokens c.args.map.now c.args.text.now) _ (4 * c.loop-i.i) 2 0 (4 * c.loop-i.i) (4 * c.loop-i.i + 2) c.put_two.ensures c.loop-i.invariant (omega arith) (omega arith)) (omega arith) (omega arith)
