-- `verdict::lacks` meets its contract: by the fact's rule, then by its value.
use Prim.Native.Nat.{◌-◌}
use mathlib.Core.Path.{◌≡◌, refl}
use native.Mathlib.Omega.{arith}
use borrow.Author.Tests.{eq-eqb, ne_eqb}
use lib.ListN.{get_or}
use Prim.Native.Nat.{◌*◌}
use Rattle.verdict.proofs.lacks.Goals as goal

-- `verdict::lacks` meets its contract: by the fact's rule, then by its value.
pub overflow_mul-i : goal.overflow_mul-i
overflow_mul-i c = omega arith

pub bounds-facts-i : goal.bounds-facts-i
bounds-facts-i c = omega arith

pub overflow_mul-i-then-facts-i : goal.overflow_mul-i-then-facts-i
overflow_mul-i-then-facts-i c = omega arith

pub overflow_add-i : goal.overflow_add-i
overflow_add-i c = omega arith

pub bounds-facts-i-then-facts-i : goal.bounds-facts-i-then-facts-i
bounds-facts-i-then-facts-i c = omega arith

pub holds-requires : goal.holds-requires
holds-requires c = (omega arith, omega arith)

pub returns-then-facts-i : goal.returns-then-facts-i
returns-then-facts-i c =
    let z : c.args.n - 0 ≡ c.args.n = omega arith in
    rw (eq-eqb (get_or c.args.facts.now (2 * c.args.i) 0) c.args.r c.if-facts-i.true, c.holds.ensures, z) refl

pub returns : goal.returns
returns c = rw (ne_eqb (get_or c.args.facts.now (2 * c.args.i) 0) c.args.r c.if-facts-i.false) refl
