-- `collector::put_row` meets its contract.
use native.Mathlib.Omega.{arith}
use mathlib.Core.Path.{refl}
use Rattle.collector.proofs.Rows.{put-parts}
use Rattle.collector.proofs.put_row.Goals as goal

pub returns : goal.returns
returns c = put-parts _ _ _ (omega arith) (omega arith) refl refl c.put_two.ensures c.put_words.ensures
