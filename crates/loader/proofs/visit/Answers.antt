use mathlib.Core.Path.{refl, sym, ◌∙◌}
use Rattle.loader.proofs.Laws.{none-marked}
use Rattle.loader.proofs.Visits.{outside-none, outside-cut, here-is, holds-one, takes_two, two-words}
use Rattle.loader.proofs.Passing.{through-visit}
use Rattle.loader.proofs.visit.Goals as goal

pub returns-then-n-eq0 : goal.returns-then-n-eq0
returns-then-n-eq0 c = record { marked = none-marked refl (outside-none _ c.requires.0 (here-is _ _ c.requires.0 _ c.word-i.ensures) (sym c.instruction_length-n.ensures ∙ c.if-n-eq0.true)); passes = c.requires.1 }

pub visit_one-requires : goal.visit_one-requires
visit_one-requires c = holds-one _ _ c.requires.0 _ c.word-i.ensures _ _ refl c.instruction_length-n.ensures c.if-n-eq1.true

pub returns-then-n-eq1 : goal.returns-then-n-eq1
returns-then-n-eq1 c = through-visit _ _ c.requires.1 _ c.visit_one.ensures

pub returns-then-size-l : goal.returns-then-size-l
returns-then-size-l c = record { marked = none-marked refl (outside-cut _ c.requires.0 (here-is _ _ c.requires.0 _ c.word-i.ensures) (two-words _ _ c.instruction_length-n.ensures c.if-n-eq0.false c.if-n-eq1.false) c.if-size-l.true); passes = c.requires.1 }

pub visit_two-requires : goal.visit_two-requires
visit_two-requires c = (takes_two _ _ c.requires.0 _ c.word-i.ensures _ _ _ refl c.instruction_length-n.ensures c.if-n-eq0.false c.if-n-eq1.false c.if-size-l.false c.word_at-x.ensures.0 c.word_at-x.ensures.1, c.requires.1)
