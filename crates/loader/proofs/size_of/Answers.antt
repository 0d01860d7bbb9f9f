use native.Mathlib.Omega.{arith}
use Rattle.loader.proofs.Laws.{table-length}
use Rattle.loader.proofs.size_of.Goals as goal

pub returns : goal.returns
returns c = omega (arith, c.min.ensures, c.count_words.ensures, table-length c.args.table.now)
