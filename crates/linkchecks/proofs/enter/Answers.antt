-- `linkchecks::enter` meets its contract.
use native.Mathlib.Omega.{arith}
use Rattle.linkchecks.proofs.Walking.{enters_none, enters-there, enters, pairs-ahead}
use Rattle.linkchecks.proofs.enter.Goals as goal

pub returns-then-pairs-end : goal.returns-then-pairs-end
returns-then-pairs-end c = (omega arith, omega arith, omega arith, λ vs left x. let a = c.args in enters_none a.cursor left _ x (omega arith) c.total-end.ensures.0)

pub returns-in_default : goal.returns-in_default
returns-in_default c = (omega arith, omega arith, omega arith, λ vs left x. let a = c.args in absurd (enters-there a.cursor left _ x (omega arith) c.number.ensures.0 c.in_default.ensures.ends))

pub returns : goal.returns
returns c = let l = pairs-ahead _ c.in-Some.ensures.ends (omega arith) in (omega (arith, l), c.in-Some.ensures.within, omega (arith, l), λ vs left x. let a = c.args in (enters a.cursor left _ _ _ _ x (omega arith) c.number.ensures.0 c.in-Some.ensures.ends).stands c.number-2.ensures.0 c.number-3.ensures.0)
