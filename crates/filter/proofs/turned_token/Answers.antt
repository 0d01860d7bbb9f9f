-- `filter::turned_token` meets its contract.
use native.Mathlib.Omega.{arith}
use mathlib.Core.Path.{refl, ap, ◌∙◌, ◌≡◌}
use Prim.Native.Nat.{◌+◌, ◌*◌}
use lib.ListN.{get_or}
use Rattle.filter.specs.Working.{turned}
use Rattle.filter.proofs.Writes.{turned-is}
use Rattle.filter.proofs.turned_token.Goals as goal

pub returns : goal.returns
returns c =
    let s = c.args.s.now in
    let e : c.from_le_bytes.result ≡ get_or s (4 * c.args.i + 3) 0 * 256 + get_or s (4 * c.args.i + 2) 0 = omega (arith, c.from_le_bytes.ensures) in
    ap turned e ∙ turned-is s c.args.i _ _ refl refl (omega (arith, c.shared_slice_known-1.given (4 * c.args.i + 2))) (omega (arith, c.shared_slice_known-1.given (4 * c.args.i + 3)))
