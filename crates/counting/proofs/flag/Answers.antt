-- `counting::flag` meets its contract.
use mathlib.Core.Path.{◌≡◌, refl, sym, ap, ◌∙◌}
use Prim.Native.Nat.{ℕ, zero, suc}
use native.Mathlib.Omega.{arith}
use mathlib.Core.Bool.{Bool, not}
use lib.Dec.{eqb}
use borrow.Author.Tests.{eqb-true, eqb-false}
use Rattle.std.specs.Int.{from_bool}
use Rattle.base.specs.Bools.{split}
use Rattle.figures.specs.Figures as figures
use Rattle.counting.proofs.flag.Goals as goal

-- `counting::flag` meets its contract.
none : figures.flag 0 ≡ 0
unfolding figures.flag
none = refl

some-flag : (c : ℕ) → (c ≡ 0 → ⊥) → figures.flag c ≡ 1
unfolding figures.flag
some-flag zero h = absurd (h refl)
some-flag (suc c) h = refl

pub returns : goal.returns
returns c =
    let x = c.args.c in
    split (eqb x 0)
    (λ t. let e = c.from.ensures ∙ ap (λ (b : Bool). from_bool (not b)) t in (e ∙ sym (ap figures.flag (eqb-true x 0 t) ∙ none), omega (arith, e)))
    (λ t. let e = c.from.ensures ∙ ap (λ (b : Bool). from_bool (not b)) t in (e ∙ sym (some-flag x (eqb-false x 0 t)), omega (arith, e)))
