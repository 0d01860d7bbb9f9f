-- `linkchecks::has_name` meets its contract.
use native.Mathlib.Omega.{arith}
use borrow.Author.Tests.{lt-ltb, le-ltb}
use Rattle.linkchecks.proofs.has_name.Goals as goal

pub returns-then-cursor-below : goal.returns-then-cursor-below
returns-then-cursor-below c = λ n m x y. let a = c.args in rw (lt-ltb a.cursor.text a.below (omega arith)) (c.same_names.ensures m n y x)

pub returns-else-cursor-below : goal.returns-else-cursor-below
returns-else-cursor-below c = λ n m x y. let a = c.args in rw (le-ltb a.cursor.text a.below (omega arith))
