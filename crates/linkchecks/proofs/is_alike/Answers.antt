-- `linkchecks::is_alike` meets its contract.
use native.Mathlib.Omega.{arith}
use mathlib.Core.Path.{sym, ◌∙◌}
use Rattle.machine.specs.Bytes.{words_of}
use Rattle.objects.proofs.Called.{gives-there}
use Rattle.linkchecks.proofs.Finding.{rule-named, gives_at, untyped-agrees, unlisted-not, typed-agrees}
use Rattle.linkchecks.proofs.is_alike.Goals as goal

pub returns-in_default : goal.returns-in_default
returns-in_default c = λ hs v k x e. absurd (gives-there (words_of c.args.objects.now) c.args.at v k e c.in_default.ensures.ends)

pub returns-then-gives-total : goal.returns-then-gives-total
returns-then-gives-total c = λ hs v k x e. let g = gives_at (words_of c.args.objects.now) c.args.at _ v k e c.in-Some.ensures.ends in let i = g.inside in absurd (omega (arith, i))

pub returns-then-number-eq0 : goal.returns-then-number-eq0
returns-then-number-eq0 c = λ hs v k x e. let g = gives_at (words_of c.args.objects.now) c.args.at _ v k e c.in-Some.ensures.ends in untyped-agrees x v.gives v.name.text _ _ c.is_none.ensures c.find_line-listed.ensures.within (c.find_line-listed.ensures.is hs v.name x (rule-named _ _ v k e)) (g.absent (sym c.number.ensures.0 ∙ c.if-number-eq0.true))

pub returns-in_default-listed : goal.returns-in_default-listed
returns-in_default-listed c = λ hs v k x e. let g = (gives_at (words_of c.args.objects.now) c.args.at _ v k e c.in-Some.ensures.ends).present (λ z. c.if-number-eq0.false (c.number.ensures.0 ∙ z)) in unlisted-not x v.gives v.name.text g.0 _ c.in_default-listed.is (c.find_line-listed.ensures.is hs v.name x (rule-named _ _ v k e)) g.1.0

pub returns : goal.returns
returns c = λ hs v k x e. let g = (gives_at (words_of c.args.objects.now) c.args.at _ v k e c.in-Some.ensures.ends).present (λ z. c.if-number-eq0.false (c.number.ensures.0 ∙ z)) in typed-agrees x v.gives v.name.text g.0 _ _ _ _ (rw c.in-Some-listed.is at c.find_line-listed.ensures.within) (rw c.in-Some-listed.is at (c.find_line-listed.ensures.is hs v.name x (rule-named _ _ v k e))) g.1.0 c.from-start.ensures c.from-size.ensures (λ l. c.is_part.ensures g.0 l g.1.1)
