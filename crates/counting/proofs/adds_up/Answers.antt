-- `counting::adds_up` meets its contract: what is left of the total and the counts so far are the total.
use mathlib.Core.Path.{◌≡◌, refl, sym, ◌∙◌}
use Prim.Native.Nat.{ℕ, zero, suc, ◌+◌}
use native.Mathlib.Omega.{arith}
use lib.Dec.{eqb}
use lib.ListN.{take}
use lib.Seq.{take_all}
use borrow.Author.Tests.{eq-eqb, ne_eqb}
use Rattle.counting.proofs.Form.{sum-next, sum-most}
use Rattle.figures.specs.Figures.{sum}
use Rattle.counting.proofs.adds_up.Goals as goal

same_test : (left total all : ℕ) → left + all ≡ total → eqb left 0 ≡ eqb total all
same_test zero total all e = eq-eqb 0 0 refl ∙ sym (eq-eqb total all (omega arith))
same_test (suc left) total all e = ne_eqb (suc left) 0 (λ q. omega arith) ∙ sym (ne_eqb total all (λ q. omega arith))

pub loop-count-init : goal.loop-count-init
unfolding sum
loop-count-init c = (omega arith, omega arith)

pub returns-then-left-count : goal.returns-then-left-count
returns-then-left-count c =
    let a = c.args in
    let n = sum-next a.counts.now c.loop-count.count-index (omega arith) in
    sym (ne_eqb a.total (sum a.counts.now) (λ e. omega (arith, e, n, sum-most a.counts.now (c.loop-count.count-index + 1), c.loop-count.invariant.1, c.if-left-count.true)))

pub loop-count-preserved : goal.loop-count-preserved
loop-count-preserved c =
    let a = c.args in
    (omega arith, omega (arith, c.loop-count.invariant.1, sum-next a.counts.now c.loop-count.count-index (omega arith), c.if-left-count.false))

pub returns : goal.returns
returns c =
    let a = c.args in
    let e : take c.loop-count.count-index a.counts.now ≡ a.counts.now = take_all c.loop-count.count-index a.counts.now (omega arith) in
    let q : c.loop-count.left + sum a.counts.now ≡ a.total = rw e at c.loop-count.invariant.1 in
    same_test c.loop-count.left a.total (sum a.counts.now) q
