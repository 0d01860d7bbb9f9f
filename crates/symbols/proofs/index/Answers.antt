-- `symbols::index` meets its contract.
use Rattle.symbols.proofs.Indexing.{rows-after, held_kept}
use Rattle.symbols.proofs.index.Goals as goal

pub returns-then-n-le-FEW-clause-held : goal.returns-then-n-le-FEW-clause-held
returns-then-n-le-FEW-clause-held c = λ t. held_kept t c.args.n c.build.ensures.rows c.requires.1

pub returns-clause-held : goal.returns-clause-held
returns-clause-held c = λ t. held_kept t c.args.n (rows-after c.build.ensures.rows (rows-after c.best_key-key.ensures.rows c.build-2.ensures.rows)) c.requires.1
