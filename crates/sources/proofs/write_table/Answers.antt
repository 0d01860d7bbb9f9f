use Rattle.sources.proofs.Held.{written}
use Rattle.sources.proofs.write_table.Goals as goal

pub returns : goal.returns
returns c = written _ _ _ c.requires c.emit-size.ensures c.number.ensures.0
