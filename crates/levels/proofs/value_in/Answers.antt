-- `levels::value_in` meets its contract.
use Rattle.levels.proofs.Putting.{value_is, value-low}
use Rattle.levels.proofs.value_in.Goals as goal

pub returns : goal.returns
returns c = record { same = λ kind. value_is _ _ _ c.unwrap_or.ensures c.find_value.ensures.same; low = value-low c.find_value.result c.unwrap_or.ensures c.find_value.ensures.low }
