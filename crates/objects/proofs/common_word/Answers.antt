-- `objects::common_word` meets its contract: two bytes, or the last and 0.
use native.Mathlib.Omega.{arith}
use Prim.Native.Nat.{◌+◌, ◌*◌}
use lib.ListN.{get_or-eq_default}
use Rattle.objects.proofs.EndsLong.{packed-at}
use Rattle.objects.proofs.common_word.Goals as goal

pub returns-then-at-common : goal.returns-then-at-common
returns-then-at-common c = let h = packed-at c.args.common.now c.args.i (omega arith) in omega (arith, h)

pub returns-else-at-common : goal.returns-else-at-common
returns-else-at-common c = let s = c.args.common.now in let i = c.args.i in let h = packed-at s i (omega arith) in let z = get_or-eq_default s 0 {n = 2 * i + 1} (omega arith) in omega (arith, h, z)
