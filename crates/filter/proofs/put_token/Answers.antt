-- `filter::put_token` meets its contract.
use Rattle.filter.proofs.Writes.{words-one}
use Rattle.filter.proofs.put_token.Goals as goal

pub returns : goal.returns
returns c = words-one c.args.map.now c.args.text.now c.args.out.now c.args.k c.from.result _ c.requires.1 c.from.ensures c.put_turned.ensures
