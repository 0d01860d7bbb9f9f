-- `maker::with_entry` meets its contract.
use native.Mathlib.Omega.{arith}
use mathlib.Core.Path.{ap, sym, ◌∙◌}
use Prim.Native.Nat.{ℕ}
use Rattle.std.specs.Prelude.{Option}
use Rattle.maker.specs.declared.Rank.{Rank}
use Rattle.maker.specs.Ranks.{rank_or}
use Rattle.maker.proofs.Ranking.{next-low, next-past, next-first, next-high, next-same, next-new}
use Rattle.maker.proofs.with_entry.Goals.{then-level-above-via-then-level-above, then-level-above-via-else-level-above+then-level-gt-GREATEST_LEVEL}
use Rattle.maker.proofs.with_entry.Goals as goal

pub returns-then-level-above : goal.returns-then-level-above
returns-then-level-above c = elim c.then-level-above.branch [
  | then-level-above-via-then-level-above w ↦ next-low c.args.above c.args.level c.args.right c.args.best w.if-level-above.true
  | then-level-above-via-else-level-above+then-level-gt-GREATEST_LEVEL w ↦ next-past c.args.above c.args.level c.args.right c.args.best (omega (arith, w.if-level-above.false)) w.if-level-gt-GREATEST_LEVEL.true
]

pub returns-in-Some : goal.returns-in-Some
returns-in-Some c = rw c.in-Some.is (next-high c.args.above c.args.level c.args.right (omega (arith, c.if-level-above.false)) (omega (arith, c.if-level-gt-GREATEST_LEVEL.false)) c.in-Some.rank c.if-rank-level.true)

pub returns-in-Some-2 : goal.returns-in-Some-2
returns-in-Some-2 c = rw c.in-Some-2.is (next-same c.args.above c.args.level c.args.right (omega (arith, c.if-level-above.false)) (omega (arith, c.if-level-gt-GREATEST_LEVEL.false)) c.in-Some-2.rank c.if-rank-level-2.true)

pub returns-in_default : goal.returns-in_default
returns-in_default c =
    let e = ap {B = ℕ} (λ (o : Option Rank). (rank_or o).level) (sym c.in-Some.is ∙ c.in-Some-2.is) in
    rw c.in-Some-2.is (next-new c.args.above c.args.level c.args.right (omega (arith, c.if-level-above.false)) (omega (arith, c.if-level-gt-GREATEST_LEVEL.false)) c.in-Some-2.rank (omega (arith, e, c.if-rank-level.false, c.if-rank-level-2.false)))

pub returns-in_default-2 : goal.returns-in_default-2
returns-in_default-2 c = rw c.in_default.is (next-first c.args.above c.args.level c.args.right (omega (arith, c.if-level-above.false)) (omega (arith, c.if-level-gt-GREATEST_LEVEL.false)))
