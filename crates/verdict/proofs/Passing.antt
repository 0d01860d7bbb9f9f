-- Laws of a rule's scan.
use Prim.Native.Nat.{ℕ}
use mathlib.Core.Path.{◌≡◌, ap, ◌∙◌}
use mathlib.Core.List.{List}
use lib.ListN.{drop, get_or}
use Rattle.finishing.specs.Test.{Known}
use Rattle.verdict.specs.Told.{ActsTold, RuleTold}
use Rattle.verdict.specs.declared.Ways.{Ways}

pub rule_told : (cells starts : List ℕ) (r m a : ℕ) (kn : Known) (vs : List ℕ) (w : Ways) → a ≡ get_or starts r 0 → drop m cells ≡ drop a (drop 0 cells) → ActsTold cells m kn vs w → RuleTold cells starts r kn vs w
rule_told cells starts r m a kn vs w e d s = record { within = s.within; told = λ q k l. s.told q k (rw (d ∙ ap (λ (j : ℕ). drop j cells) e) l) }
