-- `objects::simple` meets its contract.
use native.Mathlib.Omega.{arith}
use mathlib.Core.Logic.{inl}
use mathlib.Core.Path.{refl}
use Rattle.objects.proofs.Marks.{sort-alone, sort-taking}
use Rattle.objects.proofs.Told.{simple-alone, simple-taking, simple-unknown, simple-ends, simple-any, sort-few, sort-unknown, left-zero, left-large}
use Rattle.objects.proofs.simple.Goals as goal

pub returns-then-x-eq-ANY : goal.returns-then-x-eq-ANY
returns-then-x-eq-ANY c = λ words. simple-any words c.if-x-eq-ANY.true c.passed.ensures

pub returns-then-x-lt-MATCH : goal.returns-then-x-lt-MATCH
returns-then-x-lt-MATCH c = λ words. simple-ends words (left-zero _ (omega arith) c.requires.fact.0 c.requires.fact.1) refl

pub returns-then-x-le-ERROR : goal.returns-then-x-le-ERROR
returns-then-x-le-ERROR c = λ words. simple-taking words (sort-few _ (omega arith) (omega arith) c.if-x-eq-ANY.false) (c.operand.ensures words)

pub returns-then-x-lt-UPDATE : goal.returns-then-x-lt-UPDATE
returns-then-x-lt-UPDATE c = λ words. let p = c.requires.fact in simple-unknown words (sort-unknown _ (left-large _ (omega arith) p.2 p.3 p.4 p.5 p.6) (inl (omega arith))) refl

pub returns-then-x-lt-UPDATE_WITH : goal.returns-then-x-lt-UPDATE_WITH
returns-then-x-lt-UPDATE_WITH c = λ words. simple-alone words (sort-alone _ (omega arith) (omega arith)) c.passed-then-x-lt-UPDATE_WITH.ensures

pub returns : goal.returns
returns c = λ words. simple-taking words (sort-taking _ (omega arith) (omega arith)) (c.operand-2.ensures words)
