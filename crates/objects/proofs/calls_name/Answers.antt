-- `objects::calls_name` meets its contract: past the rule's name and its type stand the names of its calls.
use native.Mathlib.Omega.{arith}
use mathlib.Core.Path.{◌∙◌}
use Rattle.machine.specs.Bytes.{words_of}
use Rattle.objects.proofs.Called.{gives-there, calls_at}
use Rattle.objects.proofs.calls_name.Goals as goal

pub returns-in_default : goal.returns-in_default
returns-in_default c = λ v m k e x. let a = c.args in absurd (gives-there (words_of a.objects.now) a.q v k e c.in_default.ensures.ends)

pub returns-in_default-past_option : goal.returns-in_default-past_option
returns-in_default-past_option c = λ v m k e x. let a = c.args in let y = calls_at (words_of a.objects.now) a.q _ v k e c.in-Some.ensures.ends in absurd (y.there c.in_default-past_option.ensures.ends)

pub returns-then-calls-total : goal.returns-then-calls-total
returns-then-calls-total c = λ v m k e x. let a = c.args in let y = calls_at (words_of a.objects.now) a.q _ v k e c.in-Some.ensures.ends in let h = (y.count _ c.in-Some-past_option.ensures.ends).0 in absurd (omega (arith, h))

pub returns : goal.returns
returns c = λ v m k e x. let a = c.args in let y = calls_at (words_of a.objects.now) a.q _ v k e c.in-Some.ensures.ends in let d = c.number.ensures.0 ∙ (y.count _ c.in-Some-past_option.ensures.ends).1 in c.among_names.ensures v.calls m y.rest (rw d (y.taken _ c.in-Some-past_option.ensures.ends)) x
