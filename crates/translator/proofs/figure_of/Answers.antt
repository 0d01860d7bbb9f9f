use Rattle.translator.proofs.Measured.{figure-past, figure_is}
use native.Mathlib.Omega.{arith}
use Rattle.translator.proofs.figure_of.Goals as goal

-- src/lib.rt:107:9
pub returns-then-q-gt-MOST_FIGURE : goal.returns-then-q-gt-MOST_FIGURE
returns-then-q-gt-MOST_FIGURE c = λ prog t. figure-past c.measure-q.ensures prog t (omega (arith, c.if-q-gt-MOST_FIGURE.true))

-- src/lib.rt:101:1
pub returns : goal.returns
returns c = λ prog t. figure_is c.measure-q.ensures prog t (omega (arith, c.if-q-gt-MOST_FIGURE.false))
