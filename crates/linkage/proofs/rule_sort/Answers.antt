-- `linkage::rule_sort` meets its contract.
use Rattle.linkchecks.proofs.Finding.{gives_at}
use Rattle.machine.specs.Bytes.{words_of}
use Rattle.objects.proofs.Called.{gives-there}
use Rattle.linkage.proofs.Placing.{sort-outside, sort-none, sort-some}
use Rattle.linkage.proofs.rule_sort.Goals as goal

pub returns-then-gives-total : goal.returns-then-gives-total
returns-then-gives-total c = λ v k e. sort-outside (let a = c.args in gives_at (words_of a.objects.now) a.at _ v k e c.in-Some.ensures.ends) c.total.ensures.0 c.if-gives-total.true

pub returns-then-number-eq0 : goal.returns-then-number-eq0
returns-then-number-eq0 c = λ v k e. sort-none (let a = c.args in gives_at (words_of a.objects.now) a.at _ v k e c.in-Some.ensures.ends) c.number.ensures.0 c.if-number-eq0.true

pub returns-else-number-eq0 : goal.returns-else-number-eq0
returns-else-number-eq0 c = λ v k e. sort-some (let a = c.args in gives_at (words_of a.objects.now) a.at _ v k e c.in-Some.ensures.ends) c.number.ensures.0 c.if-number-eq0.false

pub returns-in_default : goal.returns-in_default
returns-in_default c = λ v k e. absurd (gives-there (words_of c.args.objects.now) c.args.at v k e c.in_default.ensures.ends)
