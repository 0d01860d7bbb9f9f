-- `resolver::select_with` meets its contract.
use Rattle.std.proofs.lemmas.Result.{err_from_is_err_and}
use mathlib.Core.Path.{refl}
use native.Mathlib.Omega.{arith}
use Rattle.symbols.proofs.Numbered.{fault-some}
use Rattle.resolver.proofs.Appending.{small-value}
use Rattle.resolver.proofs.Choosing.{with-balks, with-picks}
use Rattle.resolver.proofs.select_with.Goals as goal

pub returns-in_err-p : goal.returns-in_err-p
returns-in_err-p c = let p = err_from_is_err_and c.from_residual.result c.from_residual.ensures.1 in rw (p.1, p.2) (with-balks c.args.asked.row c.args.asked.class c.args.w c.in_err-p.ensures (fault-some _) (record { fault = refl; at = refl; len = refl }))

pub returns : goal.returns
returns c = with-picks c.args.asked.row c.args.asked.class c.args.w c.in_ok-p.ensures refl c.put_operation-c.ensures (record { fault = refl; at = refl; count = refl; class = refl; absent = refl })

pub put_operation-c-requires : goal.put_operation-c-requires
put_operation-c-requires c = (omega (arith, c.requires.2, c.requires.1.few), small-value _ c.in_ok-p.ensures.small)
