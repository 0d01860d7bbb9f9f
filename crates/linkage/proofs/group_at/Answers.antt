-- `linkage::group_at` meets its contract.
use mathlib.Core.Path.{refl}
use native.Mathlib.Omega.{arith}
use Prim.Native.Nat.{ℕ, ◌≤◌}
use Rattle.std.specs.Prelude.{◌≡◌, Option, Some, None, IfSome, unwrap_or}
use Rattle.machine.specs.Bytes.{words_of}
use Rattle.linkage.proofs.Groups.{is-group}
use Rattle.linkage.proofs.group_at.Goals as goal

inside : {at end size : ℕ} (o : Option ℕ) → at ≡ unwrap_or o end → end ≡ size → IfSome o (λ r. r ≤ size) → at ≤ size
inside None e d i = omega (arith, e, d)
inside (Some r) e d i = omega (arith, e, i)

pub returns : goal.returns
returns c =
    let a = c.args in
    record {
      inside = inside c.past_pairs.result c.unwrap_or.ensures c.total-end.ensures.0 c.past_pairs.ensures.within;
      pairs_inside = omega (arith, c.min-pairs.ensures, c.total-end.ensures.0);
      collects = refl;
      is = λ common v k e. is-group (words_of a.objects.now) a.at common v k e c.past_pairs.result c.total-end.ensures.0 c.number-size.ensures.0 c.min-pairs.ensures c.number-count.ensures.0 c.past_pairs.ensures.ends c.unwrap_or.ensures c.number.ensures.0;
    }
