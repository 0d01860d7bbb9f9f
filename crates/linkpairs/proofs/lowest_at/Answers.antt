-- `linkpairs::lowest_at` meets its contract: the number that stands beside the pair.
use mathlib.Core.Path.{◌≡◌, sym, ap, ◌∙◌}
use native.Mathlib.Omega.{arith}
use Prim.Native.Nat.{ℕ, ◌+◌}
use lib.ListN.{get_or}
use Rattle.linkpairs.proofs.Looking.{lowest-there, lowest-none}
use Rattle.linkpairs.specs.Gather.{index_of}
use Rattle.linkpairs.proofs.lowest_at.Goals as goal

pub returns-in-Some : goal.returns-in-Some
returns-in-Some c = λ names own after us u h x.
    let a = c.args in
    let e = c.in-Some.ensures.is us u h.as_many h.stand x in
    let m = h.as_many in
    let z : 0 + index_of u us ≡ c.in-Some.i = omega (arith, e) in
    ap (λ (i : ℕ). get_or a.lowest.now i 0) (sym z) ∙ lowest-there a.lowest.now names u us 0 own after h.numbered (omega (arith, e, m, c.in-Some.ensures.low))

pub returns-in-None : goal.returns-in-None
returns-in-None c = λ names own after us u h x.
    let e = c.in-None.ensures.is us u h.as_many h.stand x in
    let m = h.as_many in
    sym (lowest-none names u us own (omega (arith, e, m)))
