-- `linkpairs::same_pair` meets its contract: both names are the same.
use mathlib.Core.Path.{◌∙◌}
use Rattle.linkpairs.proofs.Looking.{pair-yes, pair-no}
use Rattle.linkpairs.proofs.Standing.{section-name}
use Rattle.machine.specs.Bytes.{words_of}
use Rattle.objects.specs.View.{name_of}
use Rattle.linkpairs.proofs.same_pair.Goals as goal

pub returns-then-same_names : goal.returns-then-same_names
returns-then-same_names c = λ u v x y. let a = c.args in let w = words_of a.objects.now in pair-yes u v (c.same_names.ensures (name_of u.section) (name_of v.section) (section-name w a.p u x (c.section_at.ensures.place u x)) (section-name w a.q v y (c.section_at-2.ensures.place v y))) c.if-same_names.true (c.same_names-then-same_names.ensures (name_of u.operand) (name_of v.operand) (c.operand_at.ensures.name u x) (c.operand_at-then-same_names.ensures.name v y))

pub returns-else-same_names : goal.returns-else-same_names
returns-else-same_names c = λ u v x y. let a = c.args in let w = words_of a.objects.now in c.if-same_names.false ∙ pair-no u v (c.same_names.ensures (name_of u.section) (name_of v.section) (section-name w a.p u x (c.section_at.ensures.place u x)) (section-name w a.q v y (c.section_at-2.ensures.place v y))) c.if-same_names.false
