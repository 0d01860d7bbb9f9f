-- `linkchecks::put_place` meets its contract.
use lib.ListN.{length-set}
use lib.Seq.{get_or-set_same, get_or-set_other}
use Rattle.linkchecks.proofs.put_place.Goals as goal

pub returns-then-i-names : goal.returns-then-i-names
returns-then-i-names c = let a = c.args in (length-set a.names.now a.i a.p, λ l. get_or-set_same a.names.now a.i a.p 0 l, λ k f. get_or-set_other a.names.now a.i k a.p 0 f)
