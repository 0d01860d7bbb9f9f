-- `partrules::open_rule` meets its contract.
use native.Mathlib.Omega.{arith}
use Rattle.std.proofs.lemmas.Result.{err_from_is_err_and}
use Rattle.symbols.proofs.Numbered.{fault-some}
use mathlib.Core.Path.{refl}
use lib.ListN.{length-take}
use Rattle.partrules.proofs.Ruling.{rule-fails, rule-writes}
use Rattle.partrules.proofs.open_rule.Goals as goal

pub returns-in_err-d : goal.returns-in_err-d
returns-in_err-d c = let p = err_from_is_err_and c.from_residual.result c.from_residual.ensures.1 in rw (p.1, p.2) (rule-fails c.in_err-d.ensures (fault-some _))

pub put_rule-c-requires : goal.put_rule-c-requires
put_rule-c-requires c = (c.requires.0, c.requires.1, omega (arith, length-take c.min-size.result c.read_rule.new.cells, c.read_rule.auto.cells, c.requires.5), c.requires.6)

pub mark-requires : goal.mark-requires
mark-requires c = (c.requires.2, c.requires.4)

pub returns : goal.returns
returns c = rule-writes _ _ c.requires.3 c.in_ok-d.ensures refl c.min-size.ensures c.put_rule-c.ensures c.next_word-w.ensures c.mark.ensures refl refl
