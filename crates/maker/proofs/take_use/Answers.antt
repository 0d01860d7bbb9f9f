-- `maker::take_use` meets its contract.
use mathlib.Core.Path.{sym, ◌∙◌}
use Rattle.maker.proofs.Taking.{use-empty, use-over, use-added}
use Rattle.maker.proofs.take_use.Goals as goal

pub returns-then-l-eq0 : goal.returns-then-l-eq0
returns-then-l-eq0 c = use-empty (rw c.in_ok-u.ensures.ok_part at c.read_use.ensures) c.entries_at-i.ensures c.section_levels-l.ensures c.if-l-eq0.true

pub returns-then-is_over : goal.returns-then-is_over
returns-then-is_over c = use-over (rw c.in_ok-u.ensures.ok_part at c.read_use.ensures) c.look_pair.ensures.same (sym c.is_some.ensures ∙ c.if-is_some.false) c.entries_at-i.ensures c.section_levels-l.ensures c.is_over.ensures c.if-is_over.true

pub returns : goal.returns
returns c = use-added c.requires.5 (rw c.in_ok-u.ensures.ok_part at c.read_use.ensures) c.look_pair.ensures.same (sym c.is_some.ensures ∙ c.if-is_some.false) c.entries_at-i.ensures c.section_levels-l.ensures c.if-l-eq0.false c.is_over.ensures c.if-is_over.false c.number-k.ensures.0 c.add_pair.ensures
