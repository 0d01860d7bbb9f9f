-- `partnames::begins_line` meets its contract.
use mathlib.Core.Bool.{true, false}
use mathlib.Core.List.{List}
use mathlib.Core.Path.{◌≡◌, sym, ◌∙◌}
use Prim.Native.Nat.{ℕ}
use borrow.Author.Tests.{eqb-true, eq-eqb}
use lib.Dec.{eqb}
use Rattle.base.specs.Bools as bools
use Rattle.partnames.specs.Declaring.{BeginsLine}
use Rattle.partnames.proofs.Listing.{no-name-here, no-type-here, no-semicolon-here, line-here}
use Rattle.partnames.proofs.begins_line.Goals as goal

pub returns-then-name-ne-NAME : goal.returns-then-name-ne-NAME
returns-then-name-ne-NAME c = no-name-here c.look-name.ensures c.if-name-ne-NAME.true

pub returns-then-sign-ne-TWICE : goal.returns-then-sign-ne-TWICE
returns-then-sign-ne-TWICE c = no-type-here c.look-name.ensures c.if-name-ne-NAME.false c.look-sign.ensures c.if-sign-ne-TWICE.true

-- the last word decides
decides : {text : List ℕ} {at : ℕ} (k : ℕ) → (k ≡ 59 → BeginsLine text at true) → ((k ≡ 59 → ⊥) → BeginsLine text at false) → BeginsLine text at (eqb k 59)
decides k f g = bools.split (eqb k 59) (λ e. rw e (f (eqb-true k 59 e))) (λ e. rw e (g (λ d. bools.never (sym e ∙ eq-eqb k 59 d))))

pub returns : goal.returns
returns c =
    decides _
    (λ e. line-here c.look-name.ensures c.if-name-ne-NAME.false c.look-sign.ensures c.if-sign-ne-TWICE.false c.look-gives.ensures c.look-semicolon.ensures e)
    (λ e. no-semicolon-here c.look-name.ensures c.if-name-ne-NAME.false c.look-sign.ensures c.if-sign-ne-TWICE.false c.look-gives.ensures c.look-semicolon.ensures e)
