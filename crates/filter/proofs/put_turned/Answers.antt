-- `filter::put_turned` meets its contract.
use mathlib.Core.Path.{◌≡◌}
use Prim.Native.Nat.{◌/◌, ◌%◌}
use native.Mathlib.Omega.{arith}
use Rattle.filter.proofs.Writes.{put-turned-is}
use Rattle.filter.proofs.put_turned.Goals as goal

pub returns : goal.returns
returns c =
    let b : c.args.x / 256 % 256 ≡ c.args.x / 256 = omega arith in
    rw (c.to_le_bytes.ensures, b) (put-turned-is c.args.out.now c.args.i c.args.x c.ranges.x.fits)
