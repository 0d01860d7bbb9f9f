-- `partrules::put_call` meets its contract.
use mathlib.Core.Path.{sym}
use Rattle.partwriter.proofs.Putting.{puts-same}
use Rattle.partrules.proofs.Calling.{called-one, called-none}
use Rattle.partrules.proofs.put_call.Goals as goal

pub put_name-requires : goal.put_name-requires
put_name-requires c = let n = c.next_word-name.ensures in let g = c.requires in (c.next_word-name.ensures.inside g.0, g.1)

pub returns-then-w-eq-AT : goal.returns-then-w-eq-AT
returns-then-w-eq-AT c = puts-same (called-one _ _ c.if-w-eq-AT.true c.next_word-name.ensures) c.put_name.ensures

pub returns-else-w-eq-AT : goal.returns-else-w-eq-AT
returns-else-w-eq-AT c = puts-same (sym (called-none _ _ _ _ c.if-w-eq-AT.false)) c.counted.ensures
