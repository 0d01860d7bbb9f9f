-- `maker::next_level` meets its contract.
use native.Mathlib.Omega.{arith}
use Rattle.maker.specs.Ranks.{no_rank}
use Rattle.maker.proofs.Entering.{rank-last, rank-more, rank-stuck}
use Rattle.maker.proofs.Ranking.{bound-next, count-next, rank-step}
use Rattle.maker.proofs.next_level.Goals.{then-w-eq-SEMICOLON-via-then-w-eq-SEMICOLON, then-w-eq-SEMICOLON-via-else-w-eq-SEMICOLON+then-next-i}
use Rattle.maker.proofs.next_level.Goals as goal

pub loop-i-init : goal.loop-i-init
unfolding no_rank
loop-i-init c = (c.requires.0, omega arith, tt, λ r d. d)

pub returns-then-w-eq-SEMICOLON-clause-bound : goal.returns-then-w-eq-SEMICOLON-clause-bound
returns-then-w-eq-SEMICOLON-clause-bound c = bound-next _ _ _ _ c.with_entry-best.ensures c.loop-i.invariant.2

pub returns-then-w-eq-SEMICOLON-clause-done : goal.returns-then-w-eq-SEMICOLON-clause-done
returns-then-w-eq-SEMICOLON-clause-done c = c.loop-i.invariant.3 _ (elim c.then-w-eq-SEMICOLON.branch [
  | then-w-eq-SEMICOLON-via-then-w-eq-SEMICOLON w ↦ rank-last _ _ c.read_entry-e.ensures (rank-step _ _ _ _ c.with_entry-best.ensures) c.next_word-w.ensures w.if-w-eq-SEMICOLON.true
  | then-w-eq-SEMICOLON-via-else-w-eq-SEMICOLON+then-next-i w ↦ rank-stuck _ _ c.read_entry-e.ensures (rank-step _ _ _ _ c.with_entry-best.ensures) w.if-next-i.true
])

pub loop-i-preserved : goal.loop-i-preserved
loop-i-preserved c = (
  c.read_entry-e.ensures.high,
  omega (arith, c.if-next-i.false, count-next _ _ _ _ c.with_entry-best.ensures, c.loop-i.invariant.1),
  bound-next _ _ _ _ c.with_entry-best.ensures c.loop-i.invariant.2,
  λ r d. c.loop-i.invariant.3 r (rank-more _ _ c.read_entry-e.ensures (rank-step _ _ _ _ c.with_entry-best.ensures) c.next_word-w.ensures c.if-w-eq-SEMICOLON.false d),
)
