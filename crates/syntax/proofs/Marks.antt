-- A marked text: where its mark stands, and the text without it.
use mathlib.Core.List.{List, [], ◌∷◌}
use Prim.Native.Nat.{ℕ, suc}
use lib.Dec.{eqb}
use Rattle.std.specs.Prelude.{if◌then◌else◌}

unfoldable pub mark_at : ℕ → List ℕ → ℕ
mark_at mark [] = 0
mark_at mark (b ∷ s) = let later = suc (mark_at mark s) in if eqb b mark then 0 else later

unfoldable pub unmarked : ℕ → List ℕ → List ℕ
unmarked mark [] = []
unmarked mark (b ∷ s) = let later = b ∷ unmarked mark s in if eqb b mark then s else later
