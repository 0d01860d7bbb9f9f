-- `counting::bump` meets its contract: adding 0 leaves the counts as they are.
use mathlib.Core.Bool.{Bool, true, false}
use mathlib.Core.List.{List}
use mathlib.Core.Path.{◌≡◌, ap, ◌∙◌}
use Prim.Native.Nat.{ℕ, suc, ◌+◌, ◌-◌}
use native.Mathlib.Omega.{arith}
use lib.ListN.{get_or, set}
use lib.Seq.{set-get_or}
use Rattle.std.specs.Prelude.{if◌then◌else◌}
use Rattle.figures.specs.Figures.{bump}
use Rattle.std.specs.Int.{from_bool}
use Rattle.base.specs.Bools.{split}
use Rattle.counting.proofs.bump.Goals as goal

-- `counting::bump` meets its contract: adding 0 leaves the counts as they are.
module _ (cs : List ℕ) (l : ℕ) where
  one_more : (w : Bool) (n : ℕ) → w ≡ true → n ≡ 1 → set cs (l - 1) (get_or cs (l - 1) 0 + n) ≡ (if w then bump cs l else cs)
  unfolding bump
  one_more w n p q =
      let e : get_or cs (l - 1) 0 + n ≡ suc (get_or cs (l - 1) 0) = omega arith in
      rw p (ap (λ (x : ℕ). set cs (l - 1) x) e)

  as-was : (w : Bool) (n : ℕ) → w ≡ false → n ≡ 0 → set cs (l - 1) (get_or cs (l - 1) 0 + n) ≡ (if w then bump cs l else cs)
  as-was w n p q =
      let e : get_or cs (l - 1) 0 + n ≡ get_or cs (l - 1) 0 = omega arith in
      rw p (ap (λ (x : ℕ). set cs (l - 1) x) e ∙ set-get_or cs (l - 1) 0)

pub returns : goal.returns
returns c =
    let a = c.args in
    split a.writes (λ t. one_more a.counts.now a.l a.writes _ t (c.from.ensures ∙ ap from_bool t)) (λ t. as-was a.counts.now a.l a.writes _ t (c.from.ensures ∙ ap from_bool t))
