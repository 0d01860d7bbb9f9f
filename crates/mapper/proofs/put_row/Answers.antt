use mathlib.Core.Path.{refl}
use native.Mathlib.Omega.{arith}
use Rattle.machine.specs.Form.{words64}
use Rattle.mapping.specs.Mapping.{row_words}
use Rattle.mapper.proofs.Laws.{puts-number, puts-more}
use Rattle.mapper.proofs.put_row.Goals as goal

-- src/lib.rt:34:1
pub returns : goal.returns
unfolding row_words words64
returns c = puts-more (puts-number _ _ (omega arith) c.put_number.ensures) (puts-more (puts-number _ _ refl c.put_number-2.ensures) (puts-number _ _ refl c.put_number-3.ensures) (omega arith)) (omega arith)
