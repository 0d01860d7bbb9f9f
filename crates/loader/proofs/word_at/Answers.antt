use mathlib.Core.Option.{some}
use mathlib.Core.Path.{◌∙◌, ap, sym}
use native.Mathlib.Omega.{arith}
use Rattle.loader.proofs.Laws.{table-fetch}
use Rattle.loader.proofs.word_at.Goals as goal

pub returns : goal.returns
returns c = (table-fetch c.args.table.now c.args.l c.requires.0 c.requires.1 ∙ ap some (sym (c.from.ensures ∙ c.word.ensures)), omega (arith, c.from.ensures, c.word.type_inv))
