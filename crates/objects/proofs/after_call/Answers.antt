-- `objects::after_call` meets its contract.
use mathlib.Core.Path.{refl}
use native.Mathlib.Omega.{arith}
use Rattle.objects.proofs.Told.{leads, name-none, name-some}
use Rattle.objects.proofs.after_call.Goals.{then-spot-via-then-spot, then-spot-via-else-spot+then-spot-eq0}
use Rattle.objects.proofs.after_call.Goals as goal

pub returns-then-spot : goal.returns-then-spot
returns-then-spot c =
    elim c.then-spot.branch [
      | then-spot-via-then-spot w ↦ name-none refl (λ m n cells names x. let k = x.cells_count in absurd (omega (arith, k)))
      | then-spot-via-else-spot+then-spot-eq0 w ↦ name-none refl (λ m n cells names x. let k = x.names_count in absurd (omega (arith, k)))
    ]

pub returns-in_err-name : goal.returns-in_err-name
returns-in_err-name c = rw c.from_residual.ensures (name-none refl (λ m n cells names x. absurd ((leads x).there c.in_err-name.ensures.ends)))

pub returns-then-not-ok : goal.returns-then-not-ok
returns-then-not-ok c = name-none refl (λ m n cells names x. c.if-not-ok.true)

pub returns : goal.returns
returns c = name-some (omega arith) (omega arith) c.if-not-ok.false c.in_ok-name.ensures.ends c.in_ok-name.ensures.within refl refl (omega arith) c.passed.ensures
