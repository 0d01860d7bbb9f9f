-- `builder::read_head` meets its contract.
use mathlib.Core.Path.{refl, sym, ◌∙◌}
use native.Mathlib.Omega.{arith}
use borrow.Author.Tests.{ne_eqb}
use Rattle.builder.proofs.Heading.{head-taken, head_first, head_more}
use Rattle.builder.proofs.read_head.Goals as goal
use Rattle.builder.proofs.read_head.Goals.{else-k-eq0-via-then-k-eq0+else-g-eq-TWICE, else-k-eq0-via-else-k-eq0}

pub returns-then-is_taken : goal.returns-then-is_taken
returns-then-is_taken c = head-taken c.requires.0 c.look-w.ensures (sym c.is_taken.ensures ∙ c.if-is_taken.true) c.refused.ensures.fault c.refused.ensures.at c.refused.ensures.len

pub returns-then-g-eq-TWICE : goal.returns-then-g-eq-TWICE
returns-then-g-eq-TWICE c = head_first c.requires.0 c.look-w.ensures (sym c.is_taken.ensures ∙ c.if-is_taken.false) c.look-g.ensures (rw (c.if-k-eq0.true, c.if-g-eq-TWICE.true) refl) c.refused-then-g-eq-TWICE.ensures.fault c.refused-then-g-eq-TWICE.ensures.at c.refused-then-g-eq-TWICE.ensures.len

pub read_type-requires : goal.read_type-requires
read_type-requires c = (omega (arith, c.requires.1, c.look-w.ensures.high c.requires.0), c.requires.1)

pub returns : goal.returns
returns c = head_more c.look-w.ensures (sym c.is_taken.ensures ∙ c.if-is_taken.false) c.look-g.ensures (elim c.else-k-eq0.branch [ else-k-eq0-via-then-k-eq0+else-g-eq-TWICE w ↦ rw (w.if-k-eq0.true, ne_eqb _ 256 w.if-g-eq-TWICE.false) refl | else-k-eq0-via-else-k-eq0 w ↦ rw (ne_eqb _ 0 w.if-k-eq0.false) refl ]) c.read_type.ensures
