-- `objects::is_part` meets its contract: outside nothing is asked, inside the names are compared.
use native.Mathlib.Omega.{arith}
use Rattle.objects.proofs.is_part.Goals as goal

pub returns-then-start-size : goal.returns-then-start-size
returns-then-start-size c = λ n l x. c.same_common.ensures n x

pub returns-else-start-size : goal.returns-else-start-size
returns-else-start-size c = λ n l x. absurd (omega (arith, l))
