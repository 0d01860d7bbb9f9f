-- `filter::put_two` meets its contract.
use mathlib.Core.Path.{refl}
use Rattle.filter.specs.Working.{map_tokens}
use Rattle.filter.proofs.Writes.{words-next}
use Rattle.filter.proofs.put_two.Goals as goal

pub returns : goal.returns
returns c = words-next (map_tokens c.args.map.now c.args.text.now) _ 1 1 c.args.k _ 2 c.put_token-2.ensures c.put_token.ensures refl refl
