-- `linkpairs::entries_of` meets its contract: where the section's declaration says.
use native.Mathlib.Omega.{arith}
use Rattle.linkpairs.proofs.Sections.{row_low, entries-are}
use Rattle.linkpairs.proofs.Standing.{section-name}
use Rattle.machine.specs.Bytes.{words_of}
use Rattle.objects.specs.View.{name_of}
use Rattle.linkpairs.proofs.entries_of.Goals as goal

pub returns-then-row-lt-NONE : goal.returns-then-row-lt-NONE
unfolding name_of
returns-then-row-lt-NONE c = let a = c.args in let w = words_of a.objects.now in record { inside = c.entries_at.ensures.inside; are = λ prog names s u x k. entries-are u s k (c.find_section-row.ensures.same (name_of u.section) (section-name w a.p u x (c.section_at.ensures.place u x))) c.entries_at.ensures }

pub returns-else-row-lt-NONE : goal.returns-else-row-lt-NONE
unfolding name_of
returns-else-row-lt-NONE c = let a = c.args in let w = words_of a.objects.now in record { inside = omega arith; are = λ prog names s u x k. let h = row_low u s k (c.find_section-row.ensures.same (name_of u.section) (section-name w a.p u x (c.section_at.ensures.place u x))) in absurd (omega (arith, h)) }
