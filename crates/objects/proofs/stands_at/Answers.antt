-- `objects::stands_at` meets its contract: past k pairs and the section's name stands the operand rule's.
use native.Mathlib.Omega.{arith}
use mathlib.Core.Path.{sym, ◌∙◌}
use Rattle.machine.specs.Bytes.{words_of}
use Rattle.objects.proofs.Looked.{as_many, stands-none, pairs-there, operand_at}
use Rattle.objects.proofs.stands_at.Goals as goal

pub returns-then-k-count : goal.returns-then-k-count
returns-then-k-count c = λ ps n rest e x. let a = c.args in let m = as_many (words_of a.objects.now) a.pairs a.count ps rest e in sym (stands-none ps c.args.k n (omega (arith, m)))

pub returns-in_default : goal.returns-in_default
returns-in_default c = λ ps n rest e x. let a = c.args in absurd (pairs-there (words_of a.objects.now) a.pairs a.count a.k ps rest e (omega arith) c.in_default.ensures.ends)

pub returns-then-total-at-lt2 : goal.returns-then-total-at-lt2
returns-then-total-at-lt2 c = λ ps n rest e x. let a = c.args in let y = operand_at (words_of a.objects.now) a.pairs a.count a.k _ ps rest e (omega arith) c.in-Some.ensures.ends in let h = y.inside in absurd (omega (arith, h))

pub returns-in_default-past_name : goal.returns-in_default-past_name
returns-in_default-past_name c = λ ps n rest e x. let a = c.args in let y = operand_at (words_of a.objects.now) a.pairs a.count a.k _ ps rest e (omega arith) c.in-Some.ensures.ends in absurd (y.there c.in_default-past_name.ensures.ends)

pub returns : goal.returns
returns c = λ ps n rest e x. let a = c.args in let y = operand_at (words_of a.objects.now) a.pairs a.count a.k _ ps rest e (omega arith) c.in-Some.ensures.ends in c.same_names.ensures y.operand n (y.found _ c.in-Some-past_name.ensures.ends).1 x ∙ sym (y.stands n)
