use mathlib.Core.Path.{refl}
use Rattle.loader.proofs.Laws.{none-marked, some-worked, none-worked, worked, pass-on}
use Rattle.loader.proofs.Visits.{choice-past, choice-cut, choice-stop, choice-on}
use Rattle.loader.proofs.Passing.{through-mark}
use Rattle.loader.proofs.mark_choice.Goals as goal

pub returns-then-size-c : goal.returns-then-size-c
returns-then-size-c c = record { marked = none-marked refl (choice-past _ _ c.requires.0 c.requires.1 c.if-size-c.true); passes = c.requires.4 }

pub returns-then-size-c-2 : goal.returns-then-size-c-2
returns-then-size-c-2 c = record { marked = none-marked refl (choice-cut _ _ c.requires.0 c.requires.1 c.word_at-n.result c.word_at-n.ensures.0 c.if-size-c-2.true); passes = c.requires.4 }

pub returns-in_err-at : goal.returns-in_err-at
returns-in_err-at c = record { marked = none-marked c.from_residual.ensures (choice-stop _ _ c.requires.0 c.requires.1 c.word_at-n.result c.word_at-n.ensures.0 c.if-size-c-2.false (none-worked c.in_err-at.was c.mark_entries.ensures.marked) refl); passes = c.mark_entries.ensures.passes }

pub returns : goal.returns
returns c = record { marked = pass-on c.mark.ensures (choice-on _ _ c.requires.0 c.requires.1 c.word_at-n.result c.word_at-n.ensures.0 c.if-size-c-2.false (some-worked c.in_ok-at.was c.mark_entries.ensures.marked) refl (worked c.mark.ensures)); passes = through-mark _ _ c.mark_entries.ensures.passes _ c.mark.ensures }
