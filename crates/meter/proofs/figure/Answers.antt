use mathlib.Core.Path.{ap, ◌∙◌}
use Prim.Native.Nat.{ℕ}
use lib.ListN.{replicate}
use Rattle.meter.proofs.Store.{cleared-numbers}
use Rattle.meter.proofs.Figures.{cleared-kept, second-kept, found}
use Rattle.meter.proofs.Store.{called-all, called-none}
use native.Mathlib.Omega.{arith}
use borrow.Author.Rules.{rules}
use Rattle.meter.proofs.figure.Goals as goal

pub begin-requires : goal.begin-requires
begin-requires c = (cleared-kept c.requires.0 (called-none _ (λ e. omega arith)) (cleared-numbers _ (c.fill.ensures.after (λ y e. e) ∙ ap (λ (n : ℕ). replicate n 0) c.requires.1)), search rules)

pub begin-requires-2 : goal.begin-requires-2
begin-requires-2 c = (second-kept (called-none _ (λ e. omega arith)) (called-all _ (search rules)) (cleared-numbers _ (c.fill-2.ensures.after (λ y e. e) ∙ ap (λ (n : ℕ). replicate n 0) c.requires.2)) c.settle.ensures, search rules)

pub greatest-requires : goal.greatest-requires
greatest-requires c = omega (arith, c.rows-3-1.given, c.rows-2-1.given, c.rows-1.given, c.requires.2)

pub shape_of-called : goal.shape_of-called
shape_of-called c = omega (arith, c.called-3-1.given, c.called-2-1.given, c.called-1.given)

pub returns : goal.returns
returns c = found (called-none _ (λ e. omega arith)) (called-all _ (omega (arith, c.called-3-1.given, c.called-2-1.given, c.called-1.given, c.requires.1))) c.begin.ensures c.settle.ensures c.begin-2.ensures c.settle-2.ensures c.greatest.ensures
