-- `separate::put_use` meets its contract.
use native.Mathlib.Omega.{arith}
use Rattle.separate.proofs.Writing.{use-none, use-put}
use Rattle.separate.proofs.put_use.Goals as goal

-- `separate::put_use` meets its contract.
pub returns-then-text-at : goal.returns-then-text-at
returns-then-text-at c = use-none _ _ _ _ _ c.if-text-at.true

pub overflow_cast-start : goal.overflow_cast-start
overflow_cast-start c = record { fits = omega (arith, c.saturating_sub-start.ensures, (c.read_words-u.ensures.inside (omega (arith, c.if-text-at.false))).0, c.requires) }

pub overflow_cast-u : goal.overflow_cast-u
overflow_cast-u c = record { fits = omega (arith, (c.read_words-u.ensures.inside (omega (arith, c.if-text-at.false))).0, c.requires) }

pub put_name-b-requires : goal.put_name-b-requires
put_name-b-requires c = ((c.read_words-u.ensures.inside (omega (arith, c.if-text-at.false))).1, omega (arith, c.requires))

pub put_name-requires : goal.put_name-requires
put_name-requires c = ((c.read_words-u.ensures.inside (omega (arith, c.if-text-at.false))).2, omega (arith, c.requires))

pub returns : goal.returns
returns c = use-put c.read_words-u.ensures (omega (arith, c.if-text-at.false)) c.saturating_sub-start.ensures c.put_two-a.ensures c.put_name-b.ensures c.put_name.ensures
