-- `objects::bare` meets its contract.
use native.Mathlib.Omega.{arith}
use mathlib.Core.Path.{refl}
use Rattle.objects.proofs.Told.{bare-some, bare-none, token-some, token-none, no_arm}
use Rattle.objects.proofs.bare.Goals as goal

pub returns-then-token : goal.returns-then-token
returns-then-token c = λ words. bare-none words c.if-x-eq-NO_OTHERWISE.true c.if-token.true refl

pub returns-then-x-eq-NO_OTHERWISE : goal.returns-then-x-eq-NO_OTHERWISE
returns-then-x-eq-NO_OTHERWISE c = λ words. bare-some words c.if-x-eq-NO_OTHERWISE.true c.if-token.false c.passed.ensures

pub returns-then-token-labelled : goal.returns-then-token-labelled
returns-then-token-labelled c = λ words. token-some words c.if-x-eq-NO_TOKEN.true c.if-token-labelled.true c.passed-then-token-labelled.ensures

pub returns-then-x-eq-NO_TOKEN : goal.returns-then-x-eq-NO_TOKEN
returns-then-x-eq-NO_TOKEN c = λ words. token-none words c.if-x-eq-NO_TOKEN.true c.if-token-labelled.false refl

pub returns : goal.returns
returns c = λ words. no_arm words (omega arith) c.if-x-eq-NO_OTHERWISE.false c.requires.1 c.if-x-eq-NO_TOKEN.false refl
