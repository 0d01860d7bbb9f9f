use mathlib.Core.Path.{refl}
use native.Mathlib.Omega.{arith}
use Rattle.loader.proofs.Laws.{none-marked, some-worked, none-worked}
use Rattle.loader.proofs.Passing.{through-marks, piece-done, piece-new}
use Rattle.loader.proofs.mark_piece.Goals as goal

pub returns-then-not-is_block : goal.returns-then-not-is_block
returns-then-not-is_block c = through-marks _ _ c.requires.2 _ c.mark_labels.ensures

pub returns-then-passed-block-ne0 : goal.returns-then-passed-block-ne0
returns-then-passed-block-ne0 c = piece-done c.requires.0 c.requires.2 _ refl (c.is_block.ensures c.if-not-is_block.false) c.if-passed-block-ne0.true

pub returns-in_err-at : goal.returns-in_err-at
returns-in_err-at c = through-marks _ _ c.requires.2 _ (none-marked c.from_residual.ensures (none-worked c.in_err-at.was c.mark_labels-2.ensures))

pub returns : goal.returns
returns c = piece-new c.requires.0 c.requires.2 _ refl (c.is_block.ensures c.if-not-is_block.false) (some-worked c.in_ok-at.was c.mark_labels-2.ensures) (omega (arith, c.requires.1.last, c.requires.0.small, (c.is_block.ensures c.if-not-is_block.false).size))
